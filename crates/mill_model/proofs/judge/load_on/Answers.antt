use Rattle.std.proofs.Common.{arith, eqb, cond, ◌≡◌, ◌+◌, ◌∙◌, ap, sym, ℕ, take, get_or, List}
use Rattle.mill_model.specs.declared.order.Order.{Order}
use Rattle.std.proofs.lemmas.Bool.{eq-eqb, ne_eqb, cond-true, cond-false}
use Rattle.mill_model.specs.Columns.{load as load_of, order_at}
use Rattle.mill_model.specs.Plans.{places_of}
use Rattle.mill_model.proofs.Judging.{load-more}
use Rattle.mill_model.proofs.judge.load_on.Goals as goal
use Rattle.mill_model.proofs.judge.load_on.Goals.{then-place-o, else-place-o}

pub loop-o-preserved : goal.loop-o-preserved
loop-o-preserved c =
    let step : load_of c.args.mill.now (places_of c.args.k 0 (take (c.loop-o.o + 1) c.args.place.now)) ≡ load_of c.args.mill.now (places_of c.args.k 0 (take c.loop-o.o c.args.place.now)) + cond (eqb (get_or c.args.place.now c.loop-o.o 0) c.args.k) (order_at c.args.mill.now c.loop-o.o).weight 0
    = load-more c.args.mill.now c.args.k c.args.place.now c.loop-o.o c.loop-o-test.true in
    elim c.if-place-o.branch [
      | then-place-o w ↦
          let weight : (get_or c.orders-orders.result.now c.loop-o.o (record { weight = 0; colour = 0 })).weight ≡ (order_at c.args.mill.now c.loop-o.o).weight = ap (λ (os : List Order). (get_or os c.loop-o.o (record { weight = 0; colour = 0 })).weight) c.orders-orders.ensures.value in
          let yes : cond (eqb (get_or c.args.place.now c.loop-o.o 0) c.args.k) (order_at c.args.mill.now c.loop-o.o).weight 0 ≡ (order_at c.args.mill.now c.loop-o.o).weight = cond-true {A = ℕ} (eqb (get_or c.args.place.now c.loop-o.o 0) c.args.k) (order_at c.args.mill.now c.loop-o.o).weight 0 (eq-eqb (get_or c.args.place.now c.loop-o.o 0) c.args.k w.if-place-o.true) in
          record { so_far = omega (arith, w.sum-is, weight, yes, step, c.loop-o.invariant.so_far); bounded = omega (arith, w.sum-is, w.if-place-o.element_fits) }
      | else-place-o w ↦ record { so_far = w.sum-is ∙ c.loop-o.invariant.so_far ∙ sym (step ∙ omega (arith, cond-false {A = ℕ} (eqb (get_or c.args.place.now c.loop-o.o 0) c.args.k) (order_at c.args.mill.now c.loop-o.o).weight 0 (ne_eqb (get_or c.args.place.now c.loop-o.o 0) c.args.k w.if-place-o.false))); bounded = omega (arith, w.sum-is) }
    ]
