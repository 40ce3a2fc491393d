use Rattle.std.proofs.Common.{◌≡◌, ℕ, suc, ◌+◌, ◌/◌, ◌%◌, List, [], ◌∷◌, ◌++◌, map, sym, ap, ap₂, ◌∙◌, arith}
use Rattle.std.specs.List.{range_with_len}
use Rattle.mill_model.specs.declared.order.Order.{Order}
use Rattle.number_draws.specs.Draws.{draw, next_draw, among}
use Rattle.slab_start.specs.Made.{made_order, first_weight}
use Rattle.slab_filling.proofs.Ranges.{map_range_more}
use Rattle.slab_start.proofs.made.made_orders.Goals as goal
use Rattle.slab_start.proofs.made.made_orders.Goals.{then-i-eq1, else-i-eq1}

draw_more : (seed i : ℕ) → i % 2 ≡ 1 → next_draw (draw seed (i / 2 + 1)) ≡ draw seed ((i + 1) / 2 + 1)
draw_more seed i odd = let e : (i + 1) / 2 + 1 ≡ suc (i / 2 + 1) = omega arith in sym (ap (draw seed) e)

draw_same : (seed i : ℕ) → (i % 2 ≡ 1 → ⊥) → draw seed (i / 2 + 1) ≡ draw seed ((i + 1) / 2 + 1)
draw_same seed i even = let e : i / 2 + 1 ≡ (i + 1) / 2 + 1 = omega arith in ap (draw seed) e

pub loop-i-preserved : goal.loop-i-preserved
loop-i-preserved c =
    let k : ℕ = c.loop-i.i / 2 + 1 in
    let drawn : c.loop-i.drawn ≡ among 43 (draw c.args.seed k) = c.loop-i.invariant.drawn ∙ ap (among 43) c.loop-i.invariant.number in
    let first : c.loop-i.drawn + 1 ≡ first_weight c.args.seed k = omega (arith, drawn) in
    let orders : c.push.new.self.items ≡ map (made_order c.args.count c.args.seed) (range_with_len 0 (c.loop-i.i + 1)) =
    c.in_ok-push.ensures.items
    ∙ ap₂ (λ (xs : List Order) (x : Order). xs ++ x ∷ []) c.loop-i.invariant.orders (c.made_order.ensures c.args.seed first)
    ∙ sym (map_range_more (made_order c.args.count c.args.seed) c.loop-i.i) in
    elim c.if-i-eq1.branch [
      | then-i-eq1 w ↦ rw (w.draws-is, w.drawn-is) (record {
        orders = orders;
        number = w.among-drawn-then-i-eq1.ensures.number ∙ ap next_draw c.loop-i.invariant.number ∙ draw_more c.args.seed c.loop-i.i w.if-i-eq1.true;
        drawn = w.among-drawn-then-i-eq1.ensures.drawn;
        within = w.among-drawn-then-i-eq1.ensures.within;
      })
      | else-i-eq1 w ↦ rw (w.draws-is, w.drawn-is) (record {
        orders = orders;
        number = c.loop-i.invariant.number ∙ draw_same c.args.seed c.loop-i.i w.if-i-eq1.false;
        drawn = c.loop-i.invariant.drawn;
        within = c.loop-i.invariant.within;
      })
    ]
