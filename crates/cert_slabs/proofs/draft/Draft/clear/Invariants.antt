use Rattle.std.proofs.Common.{◌≡◌, ◌<◌, ℕ, false, get_or, length}
use Rattle.cert_slabs.proofs.draft.Draft.clear.Given as goal

abbrev pub invariant-loop-placed : goal.invariant-loop-placed
invariant-loop-placed l = (k : ℕ) → k < l.placed-index → get_or l.placed-items k false ≡ false
