use Rattle.std.proofs.Common.{◌≡◌, ◌++◌, map}
use Rattle.std.specs.List.{filter, range_with_len}
use Rattle.slab_filling.specs.Slabs.{takes}
use Rattle.slab_lns.specs.declared.ways.Way.TheVariants.{On}
use Rattle.slab_lns.specs.Neighbourhoods.{slab_at}
use Rattle.slab_lns.proofs.ways.add_open.Given as goal

abbrev pub invariant-loop-k : goal.invariant-loop-k
invariant-loop-k l = l.ways.items ≡ l.initial.ways.items ++ map On (filter (λ k. takes l.mill l.order (slab_at l.slabs k)) (range_with_len 0 l.k))
