use Rattle.std.proofs.Common.{rules, ◌≡◌, ◌^◌, ◌<◌, ◌≤◌, pos, length, get_or, sym, ap, ◌∙◌, arith}
use Rattle.std.specs.Prelude.{unsigned_abs}
use Rattle.mill_model.specs.Columns.{has, lent_column}
use Rattle.slab_columns.specs.declared.column.ColId.{ColId}
use Rattle.slab_frac.specs.Fraction.{Fraction}
use Rattle.slab_relax.specs.PoolCovers.{column_at}
use Rattle.slab_node.proofs.SharesMore.{pair_more, pair_same, column_is, in_range, part_most}
use Rattle.slab_node.proofs.wholes.Wholes.pair_shares.Goals as goal
use Rattle.slab_node.proofs.wholes.Wholes.pair_shares.Goals.{then-contains, else-contains}

pub loop-p-preserved : goal.loop-p-preserved
loop-p-preserved c =
    let inside : c.loop-p.p < length c.args.self.now.times.now = omega (arith, c.loop-p-test.true, c.args.self.now.numbers.size) in
    let column : column_at c.args.self.now.pool.now.columns (get_or c.args.self.now.cover.now c.loop-p.p c.part-item.result).0 ≡ lent_column c.column-column.result =
    ap (λ (part : ColId × Fraction). column_at c.args.self.now.pool.now.columns part.0) (sym c.part-item.is) ∙ column_is c.args.self.now.pool.now.columns c.part-item.result.0 (lent_column c.column-column.result) c.column-column.ensures.value in
    let contains : c.contains.result ≡ has c.column-column.result.orders.now c.args.order = search rules in
    elim c.if-contains.branch [
      | then-contains w ↦
          let amount : w.from.result ≡ unsigned_abs (get_or c.args.self.now.times.now c.loop-p.p (pos 0)) = search rules in
          let most : w.from.result ≤ 2 ^ 62 = omega (arith, amount, in_range c.args.self.now.times.now c.loop-p.p c.args.self.now.numbers.range inside) in
          rw w.shares-is (record {
            size = omega (arith, w.add_at.auto.sums, c.loop-p.invariant.size);
            shares = pair_more c.args.self.now.pool.now.columns c.args.self.now.cover.now c.args.self.now.times.now c.args.order (length c.args.shares.now) c.loop-p.p w.from.result c.part-item.result (lent_column c.column-column.result) c.loop-p.shares w.add_at.new.sums c.loop-p-test.true inside column amount (sym contains ∙ w.if-contains.true)
                (λ j h. w.add_at.ensures j (omega (arith, c.loop-p.invariant.size))) c.loop-p.invariant.shares;
            small = λ j h. omega (arith, w.add_at.ensures j (omega (arith, c.loop-p.invariant.size)), c.loop-p.invariant.small j h, most, part_most (has c.column-column.result.orders.now j) w.from.result);
          })
      | else-contains w ↦ rw w.shares-is (record {
        size = c.loop-p.invariant.size;
        shares = pair_same c.args.self.now.pool.now.columns c.args.self.now.cover.now c.args.self.now.times.now c.args.order (length c.args.shares.now) c.loop-p.p c.part-item.result (lent_column c.column-column.result) c.loop-p.shares c.loop-p-test.true inside column (sym contains ∙ w.if-contains.false) c.loop-p.invariant.shares;
        small = λ j h. omega (arith, c.loop-p.invariant.small j h);
      })
    ]
