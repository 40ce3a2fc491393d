-- Prices on groups refute where no column that agrees costs less than its group's price, and the groups are worth more than the limits allow.
use Rattle.std.proofs.Common.{◌≡◌, ℕ, ◌+◌, ◌<◌, ◌≤◌, ℤ, pos, ◌+ℤ◌, ◌*ℤ◌, ◌≤ℤ◌, ◌<ℤ◌, Bool, true, false, cond, eqb, List, [], ◌∷◌, length, get_or, replicate, All, refl, sym, ap, ◌∙◌, inl, inr, arith, Option, Some, None, IfNone}
use Rattle.std.proofs.lemmas.Int.{ints}
use Rattle.std.proofs.lemmas.Bool.{or_left, eq-eqb, ne_eqb, cases_eq}
use Rattle.mill_model.specs.declared.limits.Limits.{Limits}
use Rattle.mill_model.specs.Mill.{Mill}
use Rattle.mill_model.specs.Columns.{Column, IsLegalColumn, Rises, has, loss_of}
use Rattle.mill_model.specs.SignedSums.{total_by, total_below}
use Rattle.mill_model.specs.Prices.{IsPrice, price_at, charge, Refutes}
use Rattle.mill_model.specs.Limits.{number_of}
use Rattle.mill_model.specs.Decisions.{Decision, column_agrees}
use Rattle.pricing_laws.specs.Groups.{head_of}
use Rattle.mill_model.proofs.Signed.{total_by_at, total_below-ext}
use Rattle.mill_model.proofs.Duality.{column_total, one_term}
use Rattle.pricing_laws.proofs.Groups.{members_rise}
use Rattle.mill_model.proofs.PlainPrices.{zeros_are_prices, length-zeros, zeros_sign, zero_total}
use Rattle.slab_node.specs.Grouped.{IsOfGroup, group_of}
use Rattle.slab_node.specs.Stated.{at_heads, AreAtHeads}
use Rattle.slab_node.proofs.PlanOfGroups.{has_group}

-- numbers alike below a bound sum alike over rising numbers
total_rising : (f g : ℕ → ℤ) (low n : ℕ) (xs : List ℕ) → Rises low n xs → ((x : ℕ) → x < n → f x ≡ g x) → total_by f xs ≡ total_by g xs
total_rising f g low n [] r e = refl
total_rising f g low n (x ∷ xs) r e = omega (arith, ints, e x r.1, total_rising f g (x + 1) n xs r.2 e)

-- the orders of a group are worth the group's price
pub group_worth : (heads : List ℕ) (value : ℕ → ℤ) (orders : List ℕ) (head : ℕ) → orders ≡ group_of heads head → head < length heads → head_of heads head ≡ head → total_by (at_heads heads value) orders ≡ value head
group_worth heads value orders head e h own =
    ap (total_by (at_heads heads value)) e
    ∙ sym (column_total 0 (length heads) (group_of heads head) (at_heads heads value) (members_rise heads (head ∷ [])))
    ∙ total_below-ext (length heads) (λ i. cond (has (group_of heads head) i) (at_heads heads value i) (pos 0)) (λ i. cond (eqb head i) (value i) (pos 0)) (λ i l. ap (λ (b : Bool). cond b (at_heads heads value i) (pos 0)) (has_group heads head i l) ∙ cell i)
    ∙ one_term (length heads) head value h
  where
    neither : (b : Bool) → cond b (pos 0) (pos 0) ≡ pos 0
    neither true = refl
    neither false = refl

    cell : (i : ℕ) → cond (eqb head (head_of heads i)) (at_heads heads value i) (pos 0) ≡ cond (eqb head i) (value i) (pos 0)
    cell i = elim (cases_eq head i) [
      | inl q ↦
          let mine : head_of heads i ≡ i = ap (head_of heads) (sym q) ∙ own ∙ q in
          rw (eq-eqb head (head_of heads i) (q ∙ sym mine), eq-eqb (head_of heads i) i mine, eq-eqb head i q) refl
      | inr ne ↦ elim (cases_eq (head_of heads i) i) [
        | inl mine ↦ rw (ne_eqb head (head_of heads i) (λ q. ne (q ∙ mine)), ne_eqb head i ne) refl
        | inr other ↦ rw (ne_eqb (head_of heads i) i other, ne_eqb head i ne) (neither (eqb head (head_of heads i)))
      ]
    ]

-- some order of a column
some_order : (low n : ℕ) (xs : List ℕ) → 0 < length xs → Rises low n xs → (o : ℕ) × (o < n) × (has xs o ≡ true)
some_order low n [] h r = absurd (omega arith)
some_order low n (x ∷ xs) h r = (x, r.1, or_left (eqb x x) (has xs x) (eq-eqb x x refl))

pub missing : (b : Option ℤ) → IfNone b (pos 0 ≡ pos 0)
missing None = refl
missing (Some b) = tt

module _ (m : Mill) (limits : Limits) (decisions : List Decision) (heads : List ℕ) (slabs : List (Option ℕ)) (heads_size : length heads ≡ length m.orders) (of_group : (c : Column) → IsLegalColumn m c → column_agrees decisions c ≡ true → (o : ℕ) → o < length m.orders → has c.orders o ≡ true → IsOfGroup heads slabs c (head_of heads o))
    (before : (o : ℕ) → o < length heads → head_of heads o ≤ o) (fixed : (o : ℕ) → o < length heads → head_of heads (head_of heads o) ≡ head_of heads o) (value : ℕ → ℤ) (pi : List ℤ) (at : AreAtHeads heads value pi) (range : All IsPrice pi) where
  worth_is : total_by (λ q. q) pi ≡ total_below (length heads) (at_heads heads value)
  worth_is = total_by_at (λ q. q) (pos 0) pi ∙ ap (λ (n : ℕ). total_below n (λ i. get_or pi i (pos 0))) at.size ∙ total_below-ext (length heads) (λ i. get_or pi i (pos 0)) (at_heads heads value) at.each

  column_worth : (c : Column) → IsLegalColumn m c → column_agrees decisions c ≡ true → (o : ℕ) → o < length m.orders → has c.orders o ≡ true → total_by (price_at pi) c.orders ≡ value (head_of heads o)
  column_worth c legal allowed o h e =
      total_rising (price_at pi) (at_heads heads value) 0 (length m.orders) c.orders legal.rises (λ i l. at.each i (omega (arith, heads_size)))
      ∙ group_worth heads value c.orders (head_of heads o) (of_group c legal allowed o h e).orders (omega (arith, before o (omega (arith, heads_size)), heads_size)) (fixed o (omega (arith, heads_size)))

  pub group_prices_refute : (lambda mu : ℤ) → IsPrice lambda → IsPrice mu → pos 0 ≤ℤ lambda → pos 0 ≤ℤ mu → IfNone limits.loss (lambda ≡ pos 0) → IfNone limits.count (mu ≡ pos 0)
      → ((c : Column) → IsLegalColumn m c → column_agrees decisions c ≡ true → (o : ℕ) → o < length m.orders → has c.orders o ≡ true → value (head_of heads o) ≤ℤ (lambda *ℤ pos (loss_of m c) +ℤ charge (record { lambda = lambda; mu = mu; pi = pi; sigma = replicate (length m.yard) (pos 0) }) c.kind))
      → (lambda *ℤ number_of limits.loss +ℤ mu *ℤ number_of limits.count) <ℤ total_below (length heads) (at_heads heads value)
      → Refutes m limits decisions (record { lambda = lambda; mu = mu; pi = pi; sigma = replicate (length m.yard) (pos 0) })
  group_prices_refute lambda mu lambda_price mu_price lambda_sign mu_sign lambda_missing mu_missing cheap worth = record {
    range = record { lambda = lambda_price; mu = mu_price; pi = range; sigma = zeros_are_prices (length m.yard) };
    pi_length = omega (arith, at.size, heads_size);
    sigma_length = length-zeros (length m.yard);
    lambda_sign = lambda_sign;
    mu_sign = mu_sign;
    sigma_sign = zeros_sign (length m.yard);
    lambda_missing = lambda_missing;
    mu_missing = mu_missing;
    columns = λ c legal allowed. record { priced = priced c legal allowed (some_order 0 (length m.orders) c.orders legal.fits.some legal.rises) };
    worth = omega (arith, ints, worth, worth_is, zero_total (length m.yard));
  }
    where
      priced : (c : Column) → IsLegalColumn m c → column_agrees decisions c ≡ true → (o : ℕ) × (o < length m.orders) × (has c.orders o ≡ true) → total_by (price_at pi) c.orders ≤ℤ (lambda *ℤ pos (loss_of m c) +ℤ charge (record { lambda = lambda; mu = mu; pi = pi; sigma = replicate (length m.yard) (pos 0) }) c.kind)
      priced c legal allowed (o, l, h) = omega (arith, ints, column_worth c legal allowed o l h, cheap c legal allowed o l h)
