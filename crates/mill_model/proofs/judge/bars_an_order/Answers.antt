use Rattle.std.proofs.Common.{sym, ◌∙◌}
use Rattle.mill_model.specs.declared.kind.Kind.TheVariants.{Old}
use Rattle.mill_model.specs.Columns.{is_barred}
use Rattle.mill_model.proofs.Bars.{any_found, any_none}
use Rattle.mill_model.proofs.judge.bars_an_order.Goals as goal
use Rattle.mill_model.proofs.judge.bars_an_order.Goals.{else-place-o-via-then-place-o+else-is_barred, else-place-o-via-else-place-o}

pub returns-then-is_barred : goal.returns-then-is_barred
returns-then-is_barred c = sym (any_found (λ o. is_barred c.args.mill.now o (Old c.args.slab)) c.args.k c.args.place.now c.loop-o.o c.loop-o-test.true c.if-place-o.true (sym c.is_barred.ensures ∙ c.if-is_barred.true))

pub loop-o-preserved : goal.loop-o-preserved
loop-o-preserved c = elim c.else-place-o.branch [
  | else-place-o-via-then-place-o+else-is_barred w ↦ any_none (λ o. is_barred c.args.mill.now o (Old c.args.slab)) c.args.k c.args.place.now c.loop-o.o c.loop-o-test.true (λ _. sym w.is_barred.ensures ∙ w.if-is_barred.false) c.loop-o.invariant
  | else-place-o-via-else-place-o w ↦ any_none (λ o. is_barred c.args.mill.now o (Old c.args.slab)) c.args.k c.args.place.now c.loop-o.o c.loop-o-test.true (λ e. absurd (w.if-place-o.false e)) c.loop-o.invariant
]
