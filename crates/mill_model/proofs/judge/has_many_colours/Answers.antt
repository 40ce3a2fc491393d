use Rattle.std.proofs.Common.{◌≡◌, cond, List, ◌+◌, ◌++◌, ◌∷◌, [], get_or, ap, sym, ◌∙◌, arith}
use Rattle.std.proofs.lemmas.Bool.{lt-ltb}
use Rattle.mill_model.specs.declared.order.Order.{Order}
use Rattle.mill_model.specs.Columns.{has, order_at, colours_of}
use Rattle.mill_model.specs.Plans.{places_of}
use Rattle.mill_model.proofs.Colours.{AreColours-push, colours_to, colours_with, colours_without, one_more_colour}
use Rattle.mill_model.proofs.judge.has_many_colours.Goals as goal
use Rattle.mill_model.proofs.judge.has_many_colours.Goals.{else-place-o-via-then-place-o+else-not-add, else-place-o-via-else-place-o}

pub returns-then-not-add : goal.returns-then-not-add
returns-then-not-add c =
    let colour : (get_or c.orders-orders.result.now c.loop-o.o (record { weight = 0; colour = 0 })).colour ≡ (order_at c.args.mill.now c.loop-o.o).colour = ap (λ (os : List Order). (get_or os c.loop-o.o (record { weight = 0; colour = 0 })).colour) c.orders-orders.ensures.value in
    let full = c.if-not-add.ensures.full in
    sym (lt-ltb c.args.mill.now.colour_limit (colours_of c.args.mill.now (places_of c.args.k 0 c.args.place.now)) (one_more_colour c.args.mill.now c.args.k c.args.place.now c.loop-o.o c.loop-o.colours c.args.mill.now.colour_limit c.loop-o.invariant.are c.loop-o-test.true c.if-place-o.true (ap (has c.loop-o.colours) (sym colour) ∙ full.0) (omega (arith, full.1, c.colour_limit-limit.ensures.value))))

pub loop-o-preserved : goal.loop-o-preserved
loop-o-preserved c = elim c.else-place-o.branch [
  | else-place-o-via-then-place-o+else-not-add w ↦
      let colour : (get_or c.orders-orders.result.now c.loop-o.o (record { weight = 0; colour = 0 })).colour ≡ (order_at c.args.mill.now c.loop-o.o).colour = ap (λ (os : List Order). (get_or os c.loop-o.o (record { weight = 0; colour = 0 })).colour) c.orders-orders.ensures.value in
      let all : colours_to c.args.mill.now c.args.k c.args.place.now (c.loop-o.o + 1) ≡ colours_to c.args.mill.now c.args.k c.args.place.now c.loop-o.o ++ (order_at c.args.mill.now c.loop-o.o).colour ∷ [] = colours_with c.args.mill.now c.args.k c.args.place.now c.loop-o.o c.loop-o-test.true w.if-place-o.true in
      let added : w.add.new.self ≡ cond (has c.loop-o.colours (order_at c.args.mill.now c.loop-o.o).colour) c.loop-o.colours (c.loop-o.colours ++ (order_at c.args.mill.now c.loop-o.o).colour ∷ []) = rw (← colour) w.if-not-add.ensures.added in
      rw w.colours-is (record { few = w.add.ensures.few c.loop-o.invariant.few; are = rw all (rw added (AreColours-push c.loop-o.colours (colours_to c.args.mill.now c.args.k c.args.place.now c.loop-o.o) (order_at c.args.mill.now c.loop-o.o).colour c.loop-o.invariant.are)) })
  | else-place-o-via-else-place-o w ↦
      let all : colours_to c.args.mill.now c.args.k c.args.place.now (c.loop-o.o + 1) ≡ colours_to c.args.mill.now c.args.k c.args.place.now c.loop-o.o = colours_without c.args.mill.now c.args.k c.args.place.now c.loop-o.o c.loop-o-test.true w.if-place-o.false in
      rw w.colours-is (record { few = c.loop-o.invariant.few; are = rw all c.loop-o.invariant.are })
]
