use Rattle.std.proofs.Common.{◌≡◌, take}
use Rattle.slab_relax.specs.Masters.{used_of}
use Rattle.slab_relax.proofs.restricted.Restricted.used.Given as goal

abbrev pub invariant-loop-i : goal.invariant-loop-i
invariant-loop-i l = l.list.items ≡ used_of (take l.i l.self.ids.items) (take l.i l.multipliers)
