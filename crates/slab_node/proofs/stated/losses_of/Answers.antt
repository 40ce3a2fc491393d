use Rattle.std.proofs.Common.{rules, ◌≡◌, ◌≤◌, pos, to_z, of_z, ap, ◌∙◌, arith}
use Rattle.std.specs.Prelude.{◌-ℤ◌}
use Rattle.std.specs.Int.{w64}
use Rattle.std.proofs.lemmas.Int.{ints}
use Rattle.std.proofs.lemmas.Grind.{get_or_default_zero}
use Rattle.mill_model.specs.Columns.{Fits, IsInStock, load, size_of}
use Rattle.pricing_laws.specs.Groups.{head_of}
use Rattle.slab_node.specs.Grouped.{kind_at, group_of, group_column}
use Rattle.slab_node.specs.Stated.{group_loss}
use Rattle.slab_node.proofs.AtHeads.{at_more, at_other, at_loss, at_range}
use Rattle.slab_node.proofs.stated.losses_of.Goals as goal
use Rattle.slab_node.proofs.stated.losses_of.Goals.{then-head-order+in_ok-push, else-head-order+in_ok-push-2}

pub loop-order-preserved : goal.loop-order-preserved
loop-order-preserved c =
    elim c.if-head-order.branch [
      | then-head-order+in_ok-push w ↦
          let own : head_of c.args.heads.now c.loop-order.order ≡ c.loop-order.order = w.if-head-order.true in
          let weight : w.index.result.now ≡ load c.args.mill.now (group_of c.args.heads.now c.loop-order.order) =
          w.index.ensures ∙ get_or_default_zero c.in_ok-weights.weights.items c.loop-order.order w.index.result.now (omega (arith, c.loop-order-test.true, c.in_ok-weights.ensures.size)) ∙ c.in_ok-weights.ensures.weight c.loop-order.order c.loop-order-test.true in
          let size : w.size_of-size.result ≡ size_of c.args.mill.now (kind_at c.args.kinds.now c.loop-order.order) = search rules in
          let fits : Fits c.args.mill.now (group_column c.args.heads.now c.args.kinds.now c.loop-order.order) = c.requires.fits c.loop-order.order (omega (arith, c.loop-order-test.true, c.requires.heads)) own in
          let stock : IsInStock c.args.mill.now (kind_at c.args.kinds.now c.loop-order.order) = fits.kind in
          let small : w.size_of-size.result ≤ 10000 = search rules in
          let price : to_z w64 (of_z w64 (to_z w64 (of_z w64 w.from.result) -ℤ to_z w64 (of_z w64 w.from-then-head-order.result))) ≡ (pos w.size_of-size.result -ℤ pos w.index.result.now) =
          omega (arith, ints, w.from.ensures, w.from-then-head-order.ensures, small, weight, c.in_ok-weights.ensures.weight c.loop-order.order c.loop-order-test.true, c.in_ok-weights.ensures.light c.loop-order.order c.loop-order-test.true) in
          at_more c.args.heads.now (group_loss c.args.mill.now c.args.heads.now c.args.kinds.now) c.loop-order.order c.loop-order.pi.items _ c.if-head-order.pi.items (ap (λ v. v.items) w.pi-is ∙ w.in_ok-push.ensures.items)
          (at_loss c.args.mill.now c.args.heads.now c.args.kinds.now c.loop-order.order w.size_of-size.result w.index.result.now _ own size small weight fits price)
          c.loop-order.invariant
      | else-head-order+in_ok-push-2 w ↦
          at_more c.args.heads.now (group_loss c.args.mill.now c.args.heads.now c.args.kinds.now) c.loop-order.order c.loop-order.pi.items (pos 0) c.if-head-order.pi.items (ap (λ v. v.items) w.pi-is ∙ w.in_ok-push-2.ensures.items)
          (at_other c.args.heads.now (group_loss c.args.mill.now c.args.heads.now c.args.kinds.now) c.loop-order.order w.if-head-order.false) c.loop-order.invariant
    ]

pub returns-clause-range : goal.returns-clause-range
returns-clause-range c = at_range c.args.heads.now (group_loss c.args.mill.now c.args.heads.now c.args.kinds.now) c.loop-order.order c.loop-order.pi.items c.loop-order.invariant
