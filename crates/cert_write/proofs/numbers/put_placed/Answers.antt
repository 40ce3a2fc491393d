use Rattle.std.proofs.Common.{◌∷◌, ℕ, List, sym, ap, ◌∙◌, append-nil, eq-eqb, add-one}
use Rattle.std.specs.Fmt.{decimal}
use Rattle.std.proofs.lemmas.Bool.{ne_eqb}
use Rattle.line_out.proofs.Putting.{puts_then}
use Rattle.line_out.proofs.Loops.{puts_same, puts_moved}
use Rattle.cert_write.proofs.Places.{numbers-taken, numbers-passed}
use Rattle.cert_write.proofs.numbers.put_placed.Goals as goal
use Rattle.cert_write.proofs.numbers.put_placed.Goals.{then-from-k, else-from-k}

pub loop-order-preserved : goal.loop-order-preserved
loop-order-preserved g c = elim c.if-from-k.branch [
  | then-from-k w ↦
      puts_moved g.E.End.seen _ _ _ _ _ _ w.out-is w.desk-is
      (puts_same _ _ _ _ (sym (numbers-taken c.args.k c.loop-order.order c.args.place.now c.loop-order-test.true (eq-eqb _ _ (sym c.from.ensures ∙ w.if-from-k.true))))
      (puts_then _ _ _ _ _ c.loop-order.invariant
      (puts_same _ _ _ _ (ap (λ (n : ℕ). 32 ∷ decimal n) (add-one c.loop-order.order) ∙ ap (λ (t : List ℕ). 32 ∷ t) (sym (append-nil _))) w.number.ensures)))
  | else-from-k w ↦
      puts_moved g.E.End.seen _ _ _ _ _ _ w.out-is w.desk-is
      (puts_same _ _ _ _ (sym (numbers-passed c.args.k c.loop-order.order c.args.place.now c.loop-order-test.true (ne_eqb _ _ (λ e. w.if-from-k.false (c.from.ensures ∙ e)))))
      c.loop-order.invariant)
]
