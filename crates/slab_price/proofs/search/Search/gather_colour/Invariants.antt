use Rattle.std.proofs.Common.{◌-◌, length}
use Rattle.pricing_laws.proofs.Gathering.{AreGatheredTo}
use Rattle.slab_price.specs.Searches.{search_of}
use Rattle.slab_price.proofs.search.Search.gather_colour.Given as goal

abbrev pub invariant-heads : goal.invariant-heads
invariant-heads l = AreGatheredTo (search_of l.self) l.colours l.fn.at l.head l.queue.heads.items

abbrev pub decreases-heads : goal.decreases-heads
decreases-heads l = length l.self.task.mill.now.orders - l.head
