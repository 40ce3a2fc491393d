use Rattle.std.proofs.Common.{◌≡◌, ◌≤◌}
use Rattle.slab_master.specs.StallCounts.{RoseBy, RoseAtMost}
use Rattle.slab_master.proofs.turns.solve_over.Given as goal

abbrev pub invariant-loop-turn : goal.invariant-loop-turn
invariant-loop-turn l = record { grows : l.fn.wides ≤ l.wides; pivots : RoseBy l._turn l.fn.stalls.pivots l.stalls.pivots; most : RoseAtMost l._turn l.fn.stalls.pivots l.stalls.pivots; stalls : l.stalls.stalls ≡ l.fn.stalls.stalls }
