use Rattle.std.proofs.Common.{rules, ◌≡◌, ◌+◌, ◌^◌, ◌<◌, ◌≤◌, ◌&&◌, pos, Bool, length, get_or, true, false, sym, refl, ap, ◌∙◌, subst, arith, length-set}
use Rattle.std.specs.Prelude.{unsigned_abs}
use Rattle.mill_model.specs.declared.kind.Kind.{Kind}
use Rattle.mill_model.specs.Mill.{Mill}
use Rattle.mill_model.specs.Columns.{has, is_old, IsInStock, lent_column}
use Rattle.slab_columns.specs.declared.column.ColId.{ColId}
use Rattle.slab_frac.specs.Fraction.{Fraction}
use Rattle.slab_relax.specs.PoolCovers.{column_at}
use Rattle.slab_node.proofs.SharesMore.{put_more, put_same, put_most, column_is, in_range}
use Rattle.slab_node.proofs.wholes.Wholes.put_shares.Goals as goal
use Rattle.slab_node.proofs.wholes.Wholes.put_shares.Goals.{then-contains, else-contains}

no_slab : (b : Bool) → b && false ≡ false
no_slab true = refl
no_slab false = refl

pub loop-p-preserved-in-New : goal.loop-p-preserved-in-New
loop-p-preserved-in-New c =
    let inside : c.loop-p.p < length c.args.self.now.times.now = omega (arith, c.loop-p-test.true, c.args.self.now.numbers.size) in
    let column : column_at c.args.self.now.pool.now.columns (get_or c.args.self.now.cover.now c.loop-p.p c.part-item.result).0 ≡ lent_column c.column-column.result =
    ap (λ (part : ColId × Fraction). column_at c.args.self.now.pool.now.columns part.0) (sym c.part-item.is) ∙ column_is c.args.self.now.pool.now.columns c.part-item.result.0 (lent_column c.column-column.result) c.column-column.ensures.value in
    record {
      size = c.loop-p.invariant.size;
      shares = put_same c.args.self.now.pool.now.columns c.args.self.now.cover.now c.args.self.now.times.now c.args.order (length c.args.shares.now) c.loop-p.p c.part-item.result (lent_column c.column-column.result) c.loop-p.shares c.loop-p-test.true inside column
          (λ s. ap (λ (k : Kind). has c.column-column.result.orders.now c.args.order && is_old s k) c.in-New.is ∙ no_slab (has c.column-column.result.orders.now c.args.order)) c.loop-p.invariant.shares;
      small = λ j h. omega (arith, c.loop-p.invariant.small j h);
    }

pub loop-p-preserved : goal.loop-p-preserved
loop-p-preserved c =
    let inside : c.loop-p.p < length c.args.self.now.times.now = omega (arith, c.loop-p-test.true, c.args.self.now.numbers.size) in
    let column : column_at c.args.self.now.pool.now.columns (get_or c.args.self.now.cover.now c.loop-p.p c.part-item.result).0 ≡ lent_column c.column-column.result =
    ap (λ (part : ColId × Fraction). column_at c.args.self.now.pool.now.columns part.0) (sym c.part-item.is) ∙ column_is c.args.self.now.pool.now.columns c.part-item.result.0 (lent_column c.column-column.result) c.column-column.ensures.value in
    let contains : c.contains.result ≡ has c.column-column.result.orders.now c.args.order = search rules in
    let stock : c.in-Old.slab < length c.args.shares.now = omega (arith, c.requires, subst (IsInStock c.args.self.now.node.mill.now) c.in-Old.is (subst (λ (m : Mill). IsInStock m c.column-column.result.kind) c.args.self.now.belongs c.column-column.ensures.legal.fits.kind)) in
    elim c.if-contains.branch [
      | then-contains w ↦
          let amount : w.from.result ≡ unsigned_abs (get_or c.args.self.now.times.now c.loop-p.p (pos 0)) = search rules in
          let most : w.from.result ≤ 2 ^ 62 = omega (arith, amount, in_range c.args.self.now.times.now c.loop-p.p c.args.self.now.numbers.range inside) in
          rw w.shares-is (record {
            size = omega (arith, length-set c.loop-p.shares c.in-Old.slab (get_or c.loop-p.shares c.in-Old.slab 0 + w.from.result), c.loop-p.invariant.size);
            shares = put_more c.args.self.now.pool.now.columns c.args.self.now.cover.now c.args.self.now.times.now c.args.order (length c.args.shares.now) c.loop-p.p w.from.result (get_or c.loop-p.shares c.in-Old.slab 0 + w.from.result) c.in-Old.slab c.part-item.result (lent_column c.column-column.result) c.loop-p.shares _ c.loop-p-test.true inside column amount (sym contains ∙ w.if-contains.true) c.in-Old.is c.loop-p.invariant.size stock refl refl c.loop-p.invariant.shares;
            small = put_most c.loop-p.shares _ (length c.args.shares.now) c.loop-p.p c.in-Old.slab w.from.result (get_or c.loop-p.shares c.in-Old.slab 0 + w.from.result) (2 ^ 62) c.loop-p.invariant.size stock refl most refl c.loop-p.invariant.small;
          })
      | else-contains w ↦ rw w.shares-is (record {
        size = c.loop-p.invariant.size;
        shares = put_same c.args.self.now.pool.now.columns c.args.self.now.cover.now c.args.self.now.times.now c.args.order (length c.args.shares.now) c.loop-p.p c.part-item.result (lent_column c.column-column.result) c.loop-p.shares c.loop-p-test.true inside column
            (λ s. ap (λ (b : Bool). b && is_old s c.column-column.result.kind) (sym contains ∙ w.if-contains.false)) c.loop-p.invariant.shares;
        small = λ j h. omega (arith, c.loop-p.invariant.small j h);
      })
    ]
