use Rattle.std.proofs.Common.{take}
use Rattle.pricing_laws.specs.Searches.{AreGathered}
use Rattle.slab_price.specs.Searches.{search_of}
use Rattle.slab_price.proofs.search.Search.gather.Given as goal

abbrev pub invariant-loop-at : goal.invariant-loop-at
invariant-loop-at l = AreGathered (search_of l.self) l.colours (take l.at l.colours) l.queue.heads.items
