use Rattle.std.proofs.Common.{◌≡◌, ℕ, ◌+◌, ◌++◌, ◌∷◌, [], ◌<◌, cond, get_or, map, take, List, sym, ap, ◌∙◌, length, arith}
use Rattle.std.proofs.lemmas.Bool.{false≢true}
use Rattle.std.proofs.lemmas.List.{map_more}
use Rattle.mill_model.specs.declared.order.Order.{Order}
use Rattle.mill_model.specs.Columns.{has, order_at, colours_of}
use Rattle.mill_model.proofs.Colours.{AreColours-push}
use Rattle.cert_slabs.proofs.Rising.{rises_at}
use Rattle.cert_slabs.proofs.ColourCounts.{too_many}
use Rattle.cert_slabs.proofs.slab.has_few_colours.Goals as goal

pub bounds-all-from : goal.bounds-all-from
bounds-all-from c = omega (arith, (rises_at 0 (length c.args.mill.now.orders) c.args.orders.now c.loop-order.order-index c.requires c.loop-order-test.true).1, c.from.ensures, ap length c.orders-all.ensures.value)

pub returns-then-not-add : goal.returns-then-not-add
returns-then-not-add c =
    let m = c.args.mill.now in
    let none : Order = record { weight = 0; colour = 0 } in
    let colour : (get_or c.orders-all.result.now c.from.result none).colour ≡ (order_at m (get_or c.args.orders.now c.loop-order.order-index 0)).colour = ap (λ (os : List Order). (get_or os c.from.result none).colour) c.orders-all.ensures.value ∙ ap (λ o. (order_at m o).colour) c.from.ensures in
    let full = c.if-not-add.ensures.full in
    (λ f. absurd (false≢true f), λ few. absurd (omega (arith, few, too_many m c.args.orders.now c.loop-order.colours c.loop-order.order-index m.colour_limit c.loop-order-test.true c.loop-order.invariant.are (ap (has c.loop-order.colours) (sym colour) ∙ full.0) (omega (arith, full.1, c.colour_limit-limit.ensures.value)))))

pub loop-order-preserved : goal.loop-order-preserved
loop-order-preserved c =
    let m = c.args.mill.now in
    let none : Order = record { weight = 0; colour = 0 } in
    let f : ℕ → ℕ = λ o. (order_at m o).colour in
    let z : ℕ = (order_at m (get_or c.args.orders.now c.loop-order.order-index 0)).colour in
    let colour : (get_or c.orders-all.result.now c.from.result none).colour ≡ z = ap (λ (os : List Order). (get_or os c.from.result none).colour) c.orders-all.ensures.value ∙ ap (λ o. (order_at m o).colour) c.from.ensures in
    let all : map f (take (c.loop-order.order-index + 1) c.args.orders.now) ≡ map f (take c.loop-order.order-index c.args.orders.now) ++ z ∷ [] = map_more f c.args.orders.now c.loop-order.order-index 0 c.loop-order-test.true in
    let added : c.add.new.self ≡ cond (has c.loop-order.colours z) c.loop-order.colours (c.loop-order.colours ++ z ∷ []) =
    c.if-not-add.ensures.added ∙ ap (λ y. cond (has c.loop-order.colours y) c.loop-order.colours (c.loop-order.colours ++ y ∷ [])) colour in
    record {
      few = c.add.ensures.few c.loop-order.invariant.few;
      are = rw all (rw added (AreColours-push c.loop-order.colours (map f (take c.loop-order.order-index c.args.orders.now)) z c.loop-order.invariant.are));
    }
