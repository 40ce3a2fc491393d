use Rattle.std.proofs.Common.{◌≡◌}
use Rattle.std.specs.List.{AllWithin}
use Rattle.slab_desk.proofs.calls.fails.Given as goal

abbrev pub invariant-loop-which : goal.invariant-loop-which
invariant-loop-which l = AllWithin (λ pair. ¬ (pair ≡ (l.act, l.number))) l.failing 0 l.which-index
