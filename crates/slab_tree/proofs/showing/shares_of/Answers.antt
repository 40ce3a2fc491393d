use Rattle.std.proofs.Common.{◌≡◌, ℕ, ◌+◌, ◌<◌, ℤ, pos, List, [], ◌∷◌, ◌++◌, get_or, ap, ap₂, sym, ◌∙◌, arith, take, length, length-take, ◌^◌, ◌≤◌, to_z, of_z, unsigned_abs}
use Rattle.std.specs.Int.{w64}
use Rattle.std.proofs.lemmas.Int.{ints}
use Rattle.std.proofs.lemmas.List.{take_more}
use Rattle.mill_model.specs.Columns.{Column}
use Rattle.mill_model.specs.Shares.{Share}
use Rattle.slab_columns.specs.declared.column.ColId.{ColId}
use Rattle.slab_frac.specs.Fraction.{Fraction}
use Rattle.slab_relax.specs.PoolCovers.{Parts, column_at}
use Rattle.slab_tree.specs.Showing.{share_of, shares_of}
use Rattle.slab_tree.proofs.ShownCovers.{shares_of-push}
use Rattle.slab_tree.proofs.showing.shares_of.Goals as goal

-- one column more
one_more : (columns : List Column) (parts : Parts) (times : List ℤ) (i : ℕ) (part : ColId × Fraction) (shares new : List Share) → i < length parts → length parts ≡ length times → part ≡ get_or parts i part
    → shares ≡ shares_of columns (take i parts) (take i times) → new ≡ shares ++ share_of (column_at columns part.0) (get_or times i (pos 0)) → new ≡ shares_of columns (take (i + 1) parts) (take (i + 1) times)
one_more columns parts times i part shares new lt same at inv add =
    let e : take (i + 1) parts ≡ take i parts ++ part ∷ [] = take_more parts i part lt ∙ ap (λ x. take i parts ++ x ∷ []) (sym at) in
    let f : take (i + 1) times ≡ take i times ++ get_or times i (pos 0) ∷ [] = take_more times i (pos 0) (omega arith) in
    let lens : length (take i parts) ≡ length (take i times) = omega (arith, length-take i parts, length-take i times) in
    add ∙ ap (λ ss. ss ++ share_of (column_at columns part.0) (get_or times i (pos 0))) inv ∙ sym (ap₂ (shares_of columns) e f ∙ shares_of-push columns (take i parts) (take i times) part (get_or times i (pos 0)) lens)

back : (z : ℤ) → unsigned_abs z ≤ 2 ^ 62 → to_z w64 (of_z w64 z) ≡ z
back z h = omega (arith, ints)

pub loop-index-preserved : goal.loop-index-preserved
loop-index-preserved c =
    let i = c.loop-index.index in
    let small : unsigned_abs (get_or c.args.times.now c.loop-index.index (pos 0)) ≤ 2 ^ 62 = c.requires.range c.loop-index.index (pos 0) (omega (arith, c.loop-index-test.true, c.requires.each)) in
    let same : to_z w64 (of_z w64 (get_or c.args.times.now c.loop-index.index (pos 0))) ≡ get_or c.args.times.now c.loop-index.index (pos 0) = back (get_or c.args.times.now c.loop-index.index (pos 0)) small in
    one_more c.args.pool.now.columns c.args.parts.now c.args.times.now i c.index-parts-index.result c.loop-index.shares.items c.add_share.new.shares.items c.loop-index-test.true c.requires.each c.index-parts-index.is c.loop-index.invariant
    (c.in_ok-add_share.ensures ∙ ap (λ (k : ℤ). c.loop-index.shares.items ++ share_of (column_at c.args.pool.now.columns c.index-parts-index.result.0) k) same)
