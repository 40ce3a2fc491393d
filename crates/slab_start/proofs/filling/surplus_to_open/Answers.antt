use Rattle.std.proofs.Common.{◌<◌, ◌≤◌, length, sym, ap, ◌∙◌, arith}
use Rattle.slab_start.proofs.Opening.{is_free, holds, surplus_first, surplus_here, surplus_open, surplus_full, found_none}
use Rattle.slab_start.proofs.filling.surplus_to_open.Goals as goal
use Rattle.slab_start.proofs.filling.surplus_to_open.Goals.{else-not-is_open-via-then-not-is_open+else-takes, else-not-is_open-via-else-not-is_open}

pub loop-s-init : goal.loop-s-init
loop-s-init c = surplus_first c.args.mill.now c.args.order c.args.slabs.now

pub loop-s-preserved : goal.loop-s-preserved
loop-s-preserved c =
    let inside : c.loop-s.s < length c.args.mill.now.yard = omega (arith, c.loop-s-test.true, ap length c.yard-count.ensures.value) in
    elim c.else-not-is_open.branch [
      | else-not-is_open-via-then-not-is_open+else-takes w ↦ c.loop-s.invariant ∙ surplus_full c.args.mill.now c.args.order c.args.slabs.now c.loop-s.s inside (sym w.if-takes.ensures)
      | else-not-is_open-via-else-not-is_open w ↦ c.loop-s.invariant ∙ surplus_open c.args.mill.now c.args.order c.args.slabs.now c.loop-s.s inside (sym w.if-not-is_open.ensures)
    ]

pub returns-then-takes : goal.returns-then-takes
returns-then-takes c =
    let inside : c.loop-s.s < length c.args.mill.now.yard = omega (arith, c.loop-s-test.true, ap length c.yard-count.ensures.value) in
    surplus_here c.args.mill.now c.args.order c.args.slabs.now c.loop-s.s inside (sym c.if-not-is_open.ensures) (sym c.if-takes.ensures) ∙ sym c.loop-s.invariant

pub returns : goal.returns
returns c =
    let past : length c.args.mill.now.yard ≤ c.loop-s.s = omega (arith, c.loop-s-test.false, ap length c.yard-count.ensures.value) in
    sym (c.loop-s.invariant ∙ found_none (is_free c.args.mill.now c.args.order c.args.slabs.now) (holds c.args.mill.now c.args.order c.args.slabs.now) (length c.args.mill.now.yard) c.loop-s.s past)
