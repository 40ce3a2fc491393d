-- Weak duality: a fractional cover and refuting prices don't both exist.
use Rattle.std.proofs.Common.{◌≡◌, ℕ, zero, suc, ◌+◌, ◌*◌, ◌<◌, ◌≤◌, ℤ, pos, ◌+ℤ◌, ◌*ℤ◌, ◌≤ℤ◌, ◌<ℤ◌, Bool, true, false, cond, eqb, List, [], ◌∷◌, length, sum_by, sym, refl, ap, ap₂, ◌∙◌, inl, inr, arith, Option, Some, None, IfNone, All, subst}
use Rattle.std.specs.List.{AllByRecursion}
use Rattle.std.proofs.lemmas.Int.{ints}
use Rattle.std.proofs.lemmas.Bool.{eqb-true, cond-true, cond-false, eq-eqb, ne_eqb, cases_eq}
use Rattle.std.proofs.Math.IntN.{*ℤ_comm, zero-*ℤ}
use Rattle.mill_model.specs.declared.kind.Kind.{Kind}
use Rattle.mill_model.specs.declared.kind.Kind.TheVariants.{New, Old}
use Rattle.mill_model.specs.declared.limits.Limits.{Limits}
use Rattle.mill_model.specs.Mill.{Mill}
use Rattle.mill_model.specs.Prices.{Prices, price_at, charge, Refutes}
use Rattle.mill_model.specs.SignedSums.{total_by, total_below}
use Rattle.mill_model.specs.Columns.{Column, has, is_old, Rises, IsLegalColumn, loss_of, IsInStock}
use Rattle.mill_model.specs.Plans.{is_new}
use Rattle.mill_model.specs.Decisions.{Decision, column_agrees}
use Rattle.mill_model.specs.Limits.{AtMost, number_of}
use Rattle.mill_model.specs.Covers.{Part, times, IsCover}
use Rattle.mill_model.proofs.Signed.{mul_add, mul_le, mul_le_pos, mul_lt_pos, mul_zero, mul_assoc_pos, double_count, total_by-le, total_by-same, total_by-add, total_by-scale, total_by-pos, total_below-ext, total_below-le, total_below-add, total_below-zero, total_below-scale, total_by_at}

-- ---- one column

-- one term of a sum
pub one_term_past : (n k : ℕ) (f : ℕ → ℤ) → n ≤ k → total_below n (λ i. cond (eqb k i) (f i) (pos 0)) ≡ pos 0
one_term_past zero k f h = refl
one_term_past (suc n) k f h =
    let e : eqb k n ≡ false = ne_eqb k n (λ q. omega arith) in
    omega (arith, ints, one_term_past n k f (omega arith), cond-false (eqb k n) (f n) (pos 0) e)

pub one_term : (n k : ℕ) (f : ℕ → ℤ) → k < n → total_below n (λ i. cond (eqb k i) (f i) (pos 0)) ≡ f k
one_term zero k f h = absurd (omega arith)
one_term (suc n) k f h = elim (cases_eq k n) [
  | inl e ↦ omega (arith, ints, one_term_past n k f (omega arith), cond-true (eqb k n) (f n) (pos 0) (eq-eqb k n e), ap f e)
  | inr ne ↦ omega (arith, ints, one_term n k f (omega arith), cond-false (eqb k n) (f n) (pos 0) (ne_eqb k n ne))
]

-- rising numbers from low on have none below it
pub not_has : (low high : ℕ) (xs : List ℕ) (i : ℕ) → Rises low high xs → i < low → has xs i ≡ false
not_has low high [] i r h = refl
not_has low high (x ∷ xs) i r h =
    let e : eqb x i ≡ false = ne_eqb x i (λ q. omega (arith, r.0)) in
    rw (e, not_has (x + 1) high xs i r.2 (omega (arith, r.0))) refl

-- the sum over a column is the sum over the orders that it has
pub column_total : (low n : ℕ) (xs : List ℕ) (f : ℕ → ℤ) → Rises low n xs → total_below n (λ i. cond (has xs i) (f i) (pos 0)) ≡ total_by f xs
column_total low n [] f r = total_below-zero n
column_total low n (x ∷ xs) f r =
    total_below-ext n (λ i. cond (has (x ∷ xs) i) (f i) (pos 0)) (λ i. cond (eqb x i) (f i) (pos 0) +ℤ cond (has xs i) (f i) (pos 0)) (λ i h. apart i (eqb x i) refl)
    ∙ omega (arith, ints, total_below-add n (λ i. cond (eqb x i) (f i) (pos 0)) (λ i. cond (has xs i) (f i) (pos 0)), one_term n x f r.1, column_total (x + 1) n xs f r.2)
  where
    apart : (i : ℕ) (b : Bool) → eqb x i ≡ b → cond (has (x ∷ xs) i) (f i) (pos 0) ≡ cond (eqb x i) (f i) (pos 0) +ℤ cond (has xs i) (f i) (pos 0)
    apart i true e = rw (e, not_has (x + 1) n xs i r.2 (omega (arith, eqb-true x i e))) (omega (arith, ints))
    apart i false e = rw e (omega (arith, ints))

-- ---- the parts of a cover

-- what a slab is charged: as a new slab, or as a slab of the yard
charge_parts : (p : Prices) (m : Mill) (k : Kind) → length p.sigma ≡ length m.yard → IsInStock m k
    → charge p k ≡ cond (is_new k) p.mu (pos 0) +ℤ total_below (length p.sigma) (λ s. cond (is_old s k) (price_at p.sigma s) (pos 0))
charge_parts p m (New size) e h = omega (arith, ints, total_below-zero (length p.sigma))
charge_parts p m (Old s) e h = omega (arith, ints, one_term (length p.sigma) s (price_at p.sigma) (omega arith))

-- x times what a column costs
part_cost : (x loss : ℕ) (lambda mu y : ℤ) (b : Bool) → pos x *ℤ (lambda *ℤ pos loss +ℤ (cond b mu (pos 0) +ℤ y)) ≡ (lambda *ℤ pos (x * loss) +ℤ mu *ℤ pos (cond b x 0)) +ℤ pos x *ℤ y
part_cost x loss lambda mu y true =
    omega (arith, ints, mul_add (pos x) (lambda *ℤ pos loss) (mu +ℤ y), mul_add (pos x) mu y, mul_assoc_pos x lambda (pos loss), *ℤ_comm (pos x) mu)
part_cost x loss lambda mu y false =
    omega (arith, ints, mul_add (pos x) (lambda *ℤ pos loss) (pos 0 +ℤ y), mul_add (pos x) (pos 0) y, mul_assoc_pos x lambda (pos loss), mul_zero (pos x), mul_zero mu)

-- a priced sum against a limit
limit_part : (price : ℤ) (used d : ℕ) (limit : Option ℤ) → pos 0 ≤ℤ price → IfNone limit (price ≡ pos 0) → AtMost (Some (pos used)) (times d limit) → (price *ℤ pos used) ≤ℤ (pos d *ℤ (price *ℤ number_of limit))
limit_part price used d None sign missing within = rw missing (omega (arith, ints, zero-*ℤ (pos used), zero-*ℤ (pos 0), mul_zero (pos d)))
limit_part price used d (Some a) sign missing within = omega (arith, ints, mul_le price (pos used) (pos d *ℤ a) sign within, mul_assoc_pos d price a)

-- prices of a mill's orders and slabs: none of a slab or of a limit is negative, and that of a missing limit is 0
pub record AreSlabPrices (m : Mill) (limits : Limits) (p : Prices) : Type 0 where
  pub pi_length : length p.pi ≡ length m.orders
  pub sigma_length : length p.sigma ≡ length m.yard
  pub lambda_sign : pos 0 ≤ℤ p.lambda
  pub mu_sign : pos 0 ≤ℤ p.mu
  pub sigma_sign : All (λ q. pos 0 ≤ℤ q) p.sigma
  pub lambda_missing : IfNone limits.loss (p.lambda ≡ pos 0)
  pub mu_missing : IfNone limits.count (p.mu ≡ pos 0)

-- a column is worth at most what it costs and so many times its loss more
abbrev pub IsPricedWith : Mill → Prices → ℕ → Column → Type 0
IsPricedWith m p extra c = total_by (price_at p.pi) c.orders ≤ℤ ((p.lambda +ℤ pos extra) *ℤ pos (loss_of m c) +ℤ charge p c.kind)

module _ (m : Mill) (limits : Limits) (decisions : List Decision) (p : Prices) (d : ℕ) (parts : List Part) (extra : ℕ) (refutes : AreSlabPrices m limits p) (priced_parts : AllByRecursion (λ (part : Part). IsPricedWith m p extra part.0) parts) (cover : IsCover m limits decisions d parts) where
  abbrev lambda : ℤ
  lambda = p.lambda +ℤ pos extra

  abbrev worth : Part → ℤ
  worth part = pos part.1 *ℤ total_by (price_at p.pi) part.0.orders

  abbrev cost : Part → ℤ
  cost part = pos part.1 *ℤ (lambda *ℤ pos (loss_of m part.0) +ℤ charge p part.0.kind)

  abbrev yard_cost : Part → ℤ
  yard_cost part = pos part.1 *ℤ total_below (length p.sigma) (λ s. cond (is_old s part.0.kind) (price_at p.sigma s) (pos 0))

  abbrev Legal : Part → Type 0
  Legal part = IsLegalColumn m part.0 × (column_agrees decisions part.0 ≡ true)

  -- all orders, d times, are the orders of the columns
  worth_is : pos d *ℤ total_by (λ q. q) p.pi ≡ total_by worth parts
  worth_is =
      ap (λ z. pos d *ℤ z) (total_by_at (λ q. q) (pos 0) p.pi)
      ∙ sym (total_below-scale (pos d) (length p.pi) (price_at p.pi))
      ∙ total_below-ext (length p.pi) (λ o. pos d *ℤ price_at p.pi o) (λ o. price_at p.pi o *ℤ pos (sum_by (λ (part : Part). cond (has part.0.orders o) part.1 0) parts)) (λ o h. *ℤ_comm (pos d) (price_at p.pi o) ∙ ap (λ z. price_at p.pi o *ℤ pos z) (sym (cover.orders o (omega (arith, refutes.pi_length)))))
      ∙ double_count (length p.pi) (price_at p.pi) (λ o (part : Part). has part.0.orders o) (λ (part : Part). part.1) parts
      ∙ total_by-same Legal _ worth (λ part h. ap (λ z. pos part.1 *ℤ z) (column_total 0 (length p.pi) part.0.orders (price_at p.pi) (rw refutes.pi_length h.0.rises))) parts cover.legal

  -- no column is worth more than it costs
  worth_most : total_by worth parts ≤ℤ total_by cost parts
  worth_most = total_by-le (λ (part : Part). IsPricedWith m p extra part.0) worth cost (λ part h. mul_le_pos part.1 (total_by (price_at p.pi) part.0.orders) (lambda *ℤ pos (loss_of m part.0) +ℤ charge p part.0.kind) h) parts priced_parts

  abbrev loss_total : ℕ
  loss_total = sum_by (λ (part : Part). part.1 * loss_of m part.0) parts

  abbrev new_total : ℕ
  new_total = sum_by (λ (part : Part). cond (is_new part.0.kind) part.1 0) parts

  -- what the columns cost, summed by loss, by new slabs and by the yard
  cost_is : total_by cost parts ≡ (lambda *ℤ pos loss_total +ℤ p.mu *ℤ pos new_total) +ℤ total_by yard_cost parts
  cost_is =
      total_by-same Legal cost (λ part. (lambda *ℤ pos (part.1 * loss_of m part.0) +ℤ p.mu *ℤ pos (cond (is_new part.0.kind) part.1 0)) +ℤ yard_cost part) (λ part h. cost_of part h) parts cover.legal
      ∙ total_by-add (λ (part : Part). lambda *ℤ pos (part.1 * loss_of m part.0) +ℤ p.mu *ℤ pos (cond (is_new part.0.kind) part.1 0)) yard_cost parts
      ∙ ap (λ z. z +ℤ total_by yard_cost parts) (total_by-add (λ (part : Part). lambda *ℤ pos (part.1 * loss_of m part.0)) (λ (part : Part). p.mu *ℤ pos (cond (is_new part.0.kind) part.1 0)) parts ∙ ap₂ (λ y z. y +ℤ z) (priced lambda (λ (part : Part). part.1 * loss_of m part.0)) (priced p.mu (λ (part : Part). cond (is_new part.0.kind) part.1 0)))
    where
      priced : (price : ℤ) (f : Part → ℕ) → total_by (λ part. price *ℤ pos (f part)) parts ≡ price *ℤ pos (sum_by f parts)
      priced price f = total_by-scale price (λ part. pos (f part)) parts ∙ ap (λ z. price *ℤ z) (total_by-pos f parts)

      cost_of : (part : Part) → Legal part → cost part ≡ (lambda *ℤ pos (part.1 * loss_of m part.0) +ℤ p.mu *ℤ pos (cond (is_new part.0.kind) part.1 0)) +ℤ yard_cost part
      cost_of part h =
          ap (λ z. pos part.1 *ℤ (lambda *ℤ pos (loss_of m part.0) +ℤ z)) (charge_parts p m part.0.kind refutes.sigma_length h.0.fits.kind)
          ∙ part_cost part.1 (loss_of m part.0) lambda p.mu (total_below (length p.sigma) (λ s. cond (is_old s part.0.kind) (price_at p.sigma s) (pos 0))) (is_new part.0.kind)

  -- the yard's slabs, each at most d times
  yard_most : total_by yard_cost parts ≤ℤ (pos d *ℤ total_by (λ q. q) p.sigma)
  yard_most =
      let swapped : total_below (length p.sigma) (λ s. price_at p.sigma s *ℤ pos (sum_by (λ (part : Part). cond (is_old s part.0.kind) part.1 0) parts)) ≡ total_by yard_cost parts = double_count (length p.sigma) (price_at p.sigma) (λ s (part : Part). is_old s part.0.kind) (λ (part : Part). part.1) parts in
      let bounded : total_below (length p.sigma) (λ s. price_at p.sigma s *ℤ pos (sum_by (λ (part : Part). cond (is_old s part.0.kind) part.1 0) parts)) ≤ℤ total_below (length p.sigma) (λ s. pos d *ℤ price_at p.sigma s) = total_below-le (length p.sigma) (λ s. price_at p.sigma s *ℤ pos (sum_by (λ (part : Part). cond (is_old s part.0.kind) part.1 0) parts)) (λ s. pos d *ℤ price_at p.sigma s) (λ s h. slab_most s h) in
      let whole : pos d *ℤ total_by (λ q. q) p.sigma ≡ total_below (length p.sigma) (λ s. pos d *ℤ price_at p.sigma s) = ap (λ z. pos d *ℤ z) (total_by_at (λ q. q) (pos 0) p.sigma) ∙ sym (total_below-scale (pos d) (length p.sigma) (price_at p.sigma)) in
      omega (arith, ints, swapped, bounded, whole)
    where
      slab_most : (s : ℕ) → s < length p.sigma → (price_at p.sigma s *ℤ pos (sum_by (λ (part : Part). cond (is_old s part.0.kind) part.1 0) parts)) ≤ℤ (pos d *ℤ price_at p.sigma s)
      slab_most s h = omega (arith, ints, mul_le (price_at p.sigma s) (pos (sum_by (λ (part : Part). cond (is_old s part.0.kind) part.1 0) parts)) (pos d) (refutes.sigma_sign s (pos 0) h) (omega (arith, ints, cover.yard s (omega (arith, refutes.sigma_length)))), *ℤ_comm (pos d) (price_at p.sigma s))

  -- the orders are worth at most what the limits and the yard cost, and so many times the loss more
  pub covers_pay : (pos d *ℤ total_by (λ q. q) p.pi) ≤ℤ (pos d *ℤ (p.lambda *ℤ number_of limits.loss +ℤ p.mu *ℤ number_of limits.count +ℤ total_by (λ q. q) p.sigma) +ℤ pos (extra * loss_total))
  covers_pay =
      let losses : (p.lambda *ℤ pos loss_total) ≤ℤ (pos d *ℤ (p.lambda *ℤ number_of limits.loss)) = limit_part p.lambda loss_total d limits.loss refutes.lambda_sign refutes.lambda_missing cover.loss in
      let counts : (p.mu *ℤ pos new_total) ≤ℤ (pos d *ℤ (p.mu *ℤ number_of limits.count)) = limit_part p.mu new_total d limits.count refutes.mu_sign refutes.mu_missing cover.count in
      let more : lambda *ℤ pos loss_total ≡ p.lambda *ℤ pos loss_total +ℤ pos (extra * loss_total) = omega (arith, ints, *ℤ_comm lambda (pos loss_total), mul_add (pos loss_total) p.lambda (pos extra), *ℤ_comm (pos loss_total) p.lambda) in
      omega (arith, ints, losses, counts, more, worth_is, worth_most, cost_is, yard_most, mul_add (pos d) (p.lambda *ℤ number_of limits.loss +ℤ p.mu *ℤ number_of limits.count) (total_by (λ q. q) p.sigma), mul_add (pos d) (p.lambda *ℤ number_of limits.loss) (p.mu *ℤ number_of limits.count))

pub no_cover_and_prices : (m : Mill) (limits : Limits) (decisions : List Decision) (p : Prices) (d : ℕ) (parts : List Part) → Refutes m limits decisions p → IsCover m limits decisions d parts → ⊥
no_cover_and_prices m limits decisions p d parts refutes cover =
    let paid = covers_pay m limits decisions p d parts 0 slab_prices (each parts cover.legal) cover in
    let strict : (pos d *ℤ (p.lambda *ℤ number_of limits.loss +ℤ p.mu *ℤ number_of limits.count +ℤ total_by (λ q. q) p.sigma)) <ℤ (pos d *ℤ total_by (λ q. q) p.pi) = mul_lt_pos d (p.lambda *ℤ number_of limits.loss +ℤ p.mu *ℤ number_of limits.count +ℤ total_by (λ q. q) p.sigma) (total_by (λ q. q) p.pi) cover.denominator refutes.worth in
    omega (arith, ints, paid, strict)
  where
    slab_prices : AreSlabPrices m limits p
    slab_prices = record { pi_length = refutes.pi_length; sigma_length = refutes.sigma_length; lambda_sign = refutes.lambda_sign; mu_sign = refutes.mu_sign; sigma_sign = refutes.sigma_sign; lambda_missing = refutes.lambda_missing; mu_missing = refutes.mu_missing }

    each : (ps : List Part) → AllByRecursion (λ (part : Part). IsLegalColumn m part.0 × (column_agrees decisions part.0 ≡ true)) ps → AllByRecursion (λ (part : Part). IsPricedWith m p 0 part.0) ps
    each [] h = tt
    each (part ∷ ps) h =
        let none : p.lambda +ℤ pos 0 ≡ p.lambda = omega (arith, ints) in
        (subst (λ (z : ℤ). total_by (price_at p.pi) part.0.orders ≤ℤ (z *ℤ pos (loss_of m part.0) +ℤ charge p part.0.kind)) (sym none) (refutes.columns part.0 h.0.0 h.0.1).priced, each ps h.1)
