use Rattle.std.proofs.Common.{◌≡◌}
use Rattle.std.specs.List.{find}
use Rattle.slab_filling.specs.Slabs.{empty, takes}
use Rattle.slab_filling.specs.Placing.{free_kinds}
use Rattle.slab_start.proofs.Opening.{surplus_from}
use Rattle.slab_start.proofs.filling.surplus_to_open.Given as goal

abbrev pub invariant-loop-s : goal.invariant-loop-s
invariant-loop-s l = find (λ kind. takes l.mill l.order (empty kind)) (free_kinds l.mill l.slabs) ≡ surplus_from l.mill l.order l.slabs l.s
