-- Weights of orders, over a cover.
use Rattle.std.proofs.Common.{◌≡◌, ℕ, zero, suc, ◌*◌, ◌<◌, ℤ, pos, ◌*ℤ◌, ◌≤ℤ◌, true, cond, List, [], ◌∷◌, length, sum_by, sym, ap, ◌∙◌, subst, arith}
use Rattle.std.specs.List.{AllByRecursion}
use Rattle.std.proofs.lemmas.Int.{ints, by_lt_z}
use Rattle.std.proofs.Math.IntN.{*ℤ_comm}
use Rattle.mill_model.specs.declared.limits.Limits.{Limits}
use Rattle.mill_model.specs.Mill.{Mill}
use Rattle.mill_model.specs.SignedSums.{total_by, total_below}
use Rattle.mill_model.specs.Columns.{Column, IsLegalColumn, has}
use Rattle.mill_model.specs.Decisions.{Decision, column_agrees}
use Rattle.mill_model.specs.Covers.{Part, IsCover}
use Rattle.mill_model.proofs.Duality.{column_total}
use Rattle.mill_model.proofs.Signed.{double_count, total_by-pos, total_below-ext, total_below-scale, mul_le_pos, mul_lt_pos}

pub cancel : (d : ℕ) (x y : ℤ) → 0 < d → (pos d *ℤ x) ≤ℤ (pos d *ℤ y) → x ≤ℤ y
cancel d x y h le = by_lt_z y x (λ less. absurd (omega (arith, ints, mul_lt_pos d y x h less, le))) (λ most. most)

-- ---- weights of orders, over a cover

module _ (m : Mill) (limits : Limits) (decisions : List Decision) (d : ℕ) (parts : List Part) (cover : IsCover m limits decisions d parts) (weight : ℕ → ℤ) (cost : Column → ℕ) where
  each_most : (ps : List Part) → AllByRecursion (λ (part : Part). IsLegalColumn m part.0 × (column_agrees decisions part.0 ≡ true)) ps → AllByRecursion (λ (part : Part). 0 < part.1 → total_by weight part.0.orders ≤ℤ pos (cost part.0)) ps
      → total_by (λ (part : Part). pos part.1 *ℤ total_below (length m.orders) (λ i. cond (has part.0.orders i) (weight i) (pos 0))) ps ≤ℤ total_by (λ (part : Part). pos (part.1 * cost part.0)) ps
  each_most [] h g = omega (arith, ints)
  each_most (p ∷ ps) h g =
      let orders : total_below (length m.orders) (λ i. cond (has p.0.orders i) (weight i) (pos 0)) ≡ total_by weight p.0.orders = column_total 0 (length m.orders) p.0.orders weight h.0.0.rises in
      let here : (pos p.1 *ℤ total_below (length m.orders) (λ i. cond (has p.0.orders i) (weight i) (pos 0))) ≤ℤ pos (p.1 * cost p.0) = subst (λ (z : ℤ). (pos p.1 *ℤ z) ≤ℤ pos (p.1 * cost p.0)) (sym orders) (cell p.1 (cost p.0) (total_by weight p.0.orders) g.0) in
      omega (arith, ints, here, each_most ps h.1 g.1)
    where
      cell : (x c : ℕ) (w : ℤ) → (0 < x → w ≤ℤ pos c) → (pos x *ℤ w) ≤ℤ pos (x * c)
      cell zero c w h = omega (arith, ints)
      cell (suc x) c w h = let product : (pos (suc x) *ℤ w) ≤ℤ (pos (suc x) *ℤ pos c) = mul_le_pos (suc x) w (pos c) (h (omega arith)) in omega (arith, ints, product)

  pub weigh_signed : AllByRecursion (λ (part : Part). 0 < part.1 → total_by weight part.0.orders ≤ℤ pos (cost part.0)) parts
      → (pos d *ℤ total_below (length m.orders) weight) ≤ℤ pos (sum_by (λ (part : Part). part.1 * cost part.0) parts)
  weigh_signed each =
      let counted : total_below (length m.orders) (λ i. weight i *ℤ pos (sum_by (λ (part : Part). cond (has part.0.orders i) part.1 0) parts)) ≡ total_by (λ (part : Part). pos part.1 *ℤ total_below (length m.orders) (λ i. cond (has part.0.orders i) (weight i) (pos 0))) parts =
      double_count (length m.orders) weight (λ i (part : Part). has part.0.orders i) (λ (part : Part). part.1) parts in
      let times : total_below (length m.orders) (λ i. weight i *ℤ pos (sum_by (λ (part : Part). cond (has part.0.orders i) part.1 0) parts)) ≡ pos d *ℤ total_below (length m.orders) weight =
      total_below-ext (length m.orders) (λ i. weight i *ℤ pos (sum_by (λ (part : Part). cond (has part.0.orders i) part.1 0) parts)) (λ i. pos d *ℤ weight i) (λ i h. ap (λ (z : ℕ). weight i *ℤ pos z) (cover.orders i h) ∙ *ℤ_comm (weight i) (pos d))
      ∙ total_below-scale (pos d) (length m.orders) weight in
      omega (arith, ints, counted, times, each_most parts cover.legal each, total_by-pos (λ (part : Part). part.1 * cost part.0) parts)
