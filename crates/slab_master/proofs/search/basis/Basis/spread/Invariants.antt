use Rattle.std.proofs.Common.{◌≡◌, ◌≤◌, vec_len}
use Rattle.slab_master.proofs.search.basis.Basis.spread.Given as goal

abbrev pub invariant-loop-row : goal.invariant-loop-row
invariant-loop-row l = record { count : vec_len l.spread ≡ l.fn.count; grows : l.fn.wides ≤ l.wides }
