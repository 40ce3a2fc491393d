use Rattle.std.proofs.Common.{rules, ◌≡◌, [], ◌∷◌, false, All, get_or, take, sym, ap, ◌∙◌, subst, refl}
use Rattle.std.proofs.lemmas.List.{take_all, take_more}
use Rattle.std.proofs.lemmas.List.Elements.{All-append, All-cons, All-nil}
use Rattle.mill_model.specs.Columns.{Column, has, lent_column}
use Rattle.slab_columns.specs.declared.column.ColId.{ColId}
use Rattle.slab_frac.specs.Fraction.{Fraction}
use Rattle.slab_relax.specs.PoolCovers.{column_at}
use Rattle.slab_node.proofs.SharesMore.{column_is}
use Rattle.slab_node.proofs.TimesOfCover.{taken_at, none_lacks}
use Rattle.slab_node.proofs.wholes.Wholes.group.Goals as goal

pub returns-then-contains : goal.returns-then-contains
returns-then-contains c =
    let column : column_at c.args.self.now.pool.now.columns (get_or c.args.self.now.cover.now c.loop-part.part-index c.part-item.result).0 ≡ lent_column c.column-column.result =
    ap (λ (part : ColId × Fraction). column_at c.args.self.now.pool.now.columns part.0) (sym c.part-item.is) ∙ column_is c.args.self.now.pool.now.columns c.part-item.result.0 (lent_column c.column-column.result) c.column-column.ensures.value in
    let contains : c.contains.result ≡ has c.column-column.result.orders.now c.args.order = search rules in
    taken_at c.args.self.now.pool.now.columns c.args.self.now.cover.now c.args.self.now.times.now c.loop-part.part-index c.part-item.result (lent_column c.column-column.result) c.args.order _ c.surplus.result c.loop-part-test.true c.args.self.now.numbers column (sym contains ∙ c.if-contains.true) refl c.surplus.ensures

pub loop-part-preserved : goal.loop-part-preserved
loop-part-preserved c =
    let column : column_at c.args.self.now.pool.now.columns (get_or c.args.self.now.cover.now c.loop-part.part-index c.part-item.result).0 ≡ lent_column c.column-column.result =
    ap (λ (part : ColId × Fraction). column_at c.args.self.now.pool.now.columns part.0) (sym c.part-item.is) ∙ column_is c.args.self.now.pool.now.columns c.part-item.result.0 (lent_column c.column-column.result) c.column-column.ensures.value in
    let contains : c.contains.result ≡ has c.column-column.result.orders.now c.args.order = search rules in
    let lacks : has (column_at c.args.self.now.pool.now.columns (get_or c.args.self.now.cover.now c.loop-part.part-index c.part-item.result).0).orders c.args.order ≡ false =
    ap (λ (x : Column). has x.orders c.args.order) column ∙ sym contains ∙ c.if-contains.false in
    subst (All (λ (part : ColId × Fraction). has (column_at c.args.self.now.pool.now.columns part.0).orders c.args.order ≡ false)) (sym (take_more c.args.self.now.cover.now c.loop-part.part-index c.part-item.result c.loop-part-test.true))
    (All-append (λ (part : ColId × Fraction). has (column_at c.args.self.now.pool.now.columns part.0).orders c.args.order ≡ false) (take c.loop-part.part-index c.args.self.now.cover.now) (get_or c.args.self.now.cover.now c.loop-part.part-index c.part-item.result ∷ []) c.loop-part.invariant
    (All-cons (λ (part : ColId × Fraction). has (column_at c.args.self.now.pool.now.columns part.0).orders c.args.order ≡ false) (get_or c.args.self.now.cover.now c.loop-part.part-index c.part-item.result) [] lacks (All-nil (λ (part : ColId × Fraction). has (column_at c.args.self.now.pool.now.columns part.0).orders c.args.order ≡ false))))

pub unreachable-requires : goal.unreachable-requires
unreachable-requires c =
    none_lacks c.args.self.now.node.mill.now c.args.self.now.pool.now.columns c.args.self.now.cover.now c.args.self.now.times.now c.args.self.now.whole c.args.order c.args.self.now.covers c.requires
    (subst (All (λ (part : ColId × Fraction). has (column_at c.args.self.now.pool.now.columns part.0).orders c.args.order ≡ false)) (take_all c.loop-part.part-index c.args.self.now.cover.now c.loop-part-test.false) c.loop-part.invariant)
