use Rattle.std.proofs.Common.{◌≡◌, ◌<◌, ℕ, false, get_or}
use Rattle.cert_slabs.proofs.draft.Draft.are_next.Given as goal

abbrev pub invariant-loop-order : goal.invariant-loop-order
invariant-loop-order l = (k : ℕ) → k < l.order-index → get_or l.self-inside.placed.items (get_or l.orders k 0) false ≡ false
