use Rattle.std.proofs.Common.{◌≡◌, ◌≤◌, vec_len}
use Rattle.slab_master.proofs.search.basis.Basis.prices.Given as goal

abbrev pub invariant-loop-i : goal.invariant-loop-i
invariant-loop-i l = record { count : vec_len l.prices ≡ l.i; grows : l.fn.wides ≤ l.wides }
