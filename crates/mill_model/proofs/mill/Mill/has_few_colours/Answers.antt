use Rattle.std.proofs.Common.{◌≡◌, ℕ, ◌++◌, ◌+◌, ◌∷◌, [], cond, get_or, map, take, sym, ap, ◌∙◌, arith}
use Rattle.std.proofs.lemmas.Bool.{lt-leb}
use Rattle.std.proofs.lemmas.List.{map_more}
use Rattle.mill_model.specs.Columns.{has, order_at, colours_of}
use Rattle.mill_model.proofs.Colours.{AreColours-push, too_many_listed}
use Rattle.mill_model.proofs.mill.Mill.has_few_colours.Goals as goal

pub returns-then-not-add : goal.returns-then-not-add
returns-then-not-add c =
    let m = c.args.self.now in
    let full = c.if-not-add.ensures.full in
    sym (lt-leb (colours_of m c.args.orders.now) m.colour_limit
    (too_many_listed (λ (o : ℕ). (order_at m o).colour) c.args.orders.now c.loop-order.colours c.loop-order.order-index m.colour_limit c.loop-order-test.true c.loop-order.invariant.are
    (ap (has c.loop-order.colours) (sym c.colour_of.ensures) ∙ full.0)
    (omega (arith, full.1, c.colour_limit-limit.ensures.value))))

pub loop-order-preserved : goal.loop-order-preserved
loop-order-preserved c =
    let f : ℕ → ℕ = λ o. (order_at c.args.self.now o).colour in
    let before = map f (take c.loop-order.order-index c.args.orders.now) in
    let colour : ℕ = f (get_or c.args.orders.now c.loop-order.order-index 0) in
    let all : map f (take (c.loop-order.order-index + 1) c.args.orders.now) ≡ before ++ colour ∷ [] = map_more f c.args.orders.now c.loop-order.order-index 0 c.loop-order-test.true in
    let added : c.add.new.self ≡ cond (has c.loop-order.colours colour) c.loop-order.colours (c.loop-order.colours ++ colour ∷ []) =
    c.if-not-add.ensures.added ∙ ap (λ z. cond (has c.loop-order.colours z) c.loop-order.colours (c.loop-order.colours ++ z ∷ [])) c.colour_of.ensures in
    record {
      few = c.add.ensures.few c.loop-order.invariant.few;
      are = rw all (rw added (AreColours-push c.loop-order.colours before colour c.loop-order.invariant.are));
    }
