-- Prices on the groups of settled decisions: each group has its price at its least order.
use Rattle.std.proofs.Common.{◌≡◌, ℕ, zero, suc, ◌<◌, ℤ, pos, ◌+ℤ◌, ◌*ℤ◌, ◌≤ℤ◌, ◌<ℤ◌, Bool, true, false, cond, not, ◌||◌, eqb, List, [], ◌∷◌, map, replicate, length, get_or, refl, sym, ap, ap₂, ◌∙◌, inl, inr, arith, IfNone, All}
use Rattle.std.specs.List.{range_with_len}
use Rattle.std.proofs.lemmas.Int.{ints}
use Rattle.std.proofs.lemmas.List.FromFn.{length-map-range_with_len, get_or-map-range_with_len}
use Rattle.std.proofs.lemmas.Bool.{cases_Bool, cases_eq, cond-true, cond-false, eq-eqb, or_left, or_right}
use Rattle.mill_model.specs.declared.limits.Limits.{Limits}
use Rattle.mill_model.specs.declared.ask.Ask.{Ask}
use Rattle.mill_model.specs.Mill.{Mill}
use Rattle.mill_model.specs.Plans.{Plan}
use Rattle.mill_model.specs.Prices.{IsPrice, Prices, price_at, charge, Refutes}
use Rattle.mill_model.specs.SignedSums.{total_by, total_below}
use Rattle.mill_model.specs.Columns.{Column, has, Rises, IsLegalColumn, loss_of}
use Rattle.mill_model.specs.Decisions.{Decision, IsAsk, AreAsks, answer_of, PlanAgrees, column_agrees}
use Rattle.mill_model.specs.Limits.{number_of}
use Rattle.mill_model.specs.Assignments.{Group, same_group, Assignment, answer, Agrees, AreSettled}
use Rattle.mill_model.proofs.Signed.{total_by_at, total_below-ext}
use Rattle.mill_model.proofs.Duality.{column_total}
use Rattle.mill_model.proofs.SameGroups.{same_group-true, same_group_from}
use Rattle.mill_model.proofs.Agreement.{settled_orders}
use Rattle.mill_model.proofs.PlainPrices.{zeros_are_prices, length-zeros, zeros_sign, zero_total}

-- whether a number below n passes
abbrev pub any_below : (ℕ → Bool) → ℕ → Bool
any_below test zero = false
any_below test (suc n) = any_below test n || test n

-- whether an order is the least of its group
abbrev pub leads : Assignment → ℕ → Bool
leads a o = not (any_below (λ j. same_group (a j) (a o)) o)

-- the price of a group at its least order
abbrev pub leader_price : Assignment → (Group → ℤ) → ℕ → ℤ
leader_price a value o = cond (leads a o) (value (a o)) (pos 0)

any_below-ext : (p q : ℕ → Bool) (n : ℕ) → ((i : ℕ) → p i ≡ q i) → any_below p n ≡ any_below q n
any_below-ext p q zero e = refl
any_below-ext p q (suc n) e = ap₂ (λ s t. s || t) (any_below-ext p q n e) (e n)

-- the orders of one group are worth the group's price, as soon as there is one
pub group_total : (a : Assignment) (value : Group → ℤ) (g : Group) (n : ℕ) → total_below n (λ i. cond (same_group (a i) g) (leader_price a value i) (pos 0)) ≡ cond (any_below (λ i. same_group (a i) g) n) (value g) (pos 0)
group_total a value g zero = refl
group_total a value g (suc n) = elim (cases_Bool (same_group (a n) g)) [
  | inl e ↦ omega (arith, ints, group_total a value g n, cond-true (same_group (a n) g) (leader_price a value n) (pos 0) e, at_member (same_group-true (a n) g e), found (any_below (λ i. same_group (a i) g) n) (same_group (a n) g) e)
  | inr e ↦ omega (arith, ints, group_total a value g n, cond-false (same_group (a n) g) (leader_price a value n) (pos 0) e, kept (any_below (λ i. same_group (a i) g) n) (same_group (a n) g) e)
]
  where
    at_member : a n ≡ g → leader_price a value n ≡ cond (any_below (λ i. same_group (a i) g) n) (pos 0) (value g)
    at_member q = ap₂ (λ b z. cond (not b) z (pos 0)) (any_below-ext (λ j. same_group (a j) (a n)) (λ j. same_group (a j) g) n (λ j. ap (same_group (a j)) q)) (ap value q) ∙ turned (any_below (λ i. same_group (a i) g) n) (value g)
      where
        turned : (b : Bool) (z : ℤ) → cond (not b) z (pos 0) ≡ cond b (pos 0) z
        turned true z = refl
        turned false z = refl

    found : (b t : Bool) → t ≡ true → cond b (value g) (pos 0) +ℤ cond b (pos 0) (value g) ≡ cond (b || t) (value g) (pos 0)
    found true t e = omega (arith, ints)
    found false t e = rw e (omega (arith, ints))

    kept : (b t : Bool) → t ≡ false → cond b (value g) (pos 0) ≡ cond (b || t) (value g) (pos 0)
    kept true t e = refl
    kept false t e = rw e refl

pub any_below_at : (test : ℕ → Bool) (n o : ℕ) → o < n → test o ≡ true → any_below test n ≡ true
any_below_at test zero o h e = absurd (omega arith)
any_below_at test (suc n) o h e = elim (cases_eq o n) [
  | inl q ↦ or_right (any_below test n) (test n) (ap test (sym q) ∙ e)
  | inr q ↦ or_left (any_below test n) (test n) (any_below_at test n o (omega arith) e)
]

-- some order of a column
some_order : (low n : ℕ) (xs : List ℕ) → 0 < length xs → Rises low n xs → (o : ℕ) × (o < n) × (has xs o ≡ true)
some_order low n [] h r = absurd (omega arith)
some_order low n (x ∷ xs) h r = (x, r.1, or_left (eqb x x) (has xs x) (eq-eqb x x refl))

module _ (m : Mill) (limits : Limits) (decisions : List Decision) (a : Assignment) (value : Group → ℤ) (lambda mu : ℤ) where
  abbrev pub group_prices : Prices
  group_prices = record { lambda = lambda; mu = mu; pi = map (leader_price a value) (range_with_len 0 (length m.orders)); sigma = replicate (length m.yard) (pos 0) }

  pi_at : (i : ℕ) → i < length m.orders → price_at group_prices.pi i ≡ leader_price a value i
  pi_at i h = get_or-map-range_with_len (leader_price a value) 0 (length m.orders) i i (pos 0) h (omega arith)

  -- a column that agrees is worth the price of its group
  column_worth : Agrees decisions a → AreSettled m decisions → (c : Column) → IsLegalColumn m c → column_agrees decisions c ≡ true → (o : ℕ) → o < length m.orders → has c.orders o ≡ true → total_by (price_at group_prices.pi) c.orders ≡ value (a o)
  column_worth agree settled c legal column o l h =
      sym (column_total 0 (length m.orders) c.orders (price_at group_prices.pi) legal.rises)
      ∙ total_below-ext (length m.orders) (λ i. cond (has c.orders i) (price_at group_prices.pi i) (pos 0)) (λ i. cond (same_group (a i) (a o)) (leader_price a value i) (pos 0)) (λ i b. ap₂ (λ t z. cond t z (pos 0)) (settled_orders m decisions a c agree settled column o i l b h) (pi_at i b))
      ∙ group_total a value (a o) (length m.orders)
      ∙ cond-true (any_below (λ i. same_group (a i) (a o)) (length m.orders)) (value (a o)) (pos 0) (any_below_at (λ i. same_group (a i) (a o)) (length m.orders) o l (same_group_from (a o) (a o) refl))

  -- where no column costs less than the price of its group, and the groups are worth more than the limits allow, the prices refute
  pub group_prices_refute : Agrees decisions a → AreSettled m decisions → IsPrice lambda → IsPrice mu → ((g : Group) → IsPrice (value g)) → pos 0 ≤ℤ lambda → pos 0 ≤ℤ mu → IfNone limits.loss (lambda ≡ pos 0) → IfNone limits.count (mu ≡ pos 0)
      → ((c : Column) → IsLegalColumn m c → column_agrees decisions c ≡ true → (o : ℕ) → o < length m.orders → has c.orders o ≡ true → value (a o) ≤ℤ (lambda *ℤ pos (loss_of m c) +ℤ charge group_prices c.kind))
      → (lambda *ℤ number_of limits.loss +ℤ mu *ℤ number_of limits.count) <ℤ total_below (length m.orders) (leader_price a value)
      → Refutes m limits decisions group_prices
  group_prices_refute agree settled lambda_price mu_price value_price lambda_sign mu_sign lambda_missing mu_missing cheap worth = record {
    range = record { lambda = lambda_price; mu = mu_price; pi = pi_prices (range_with_len 0 (length m.orders)); sigma = zeros_are_prices (length m.yard) };
    pi_length = length-map-range_with_len (leader_price a value) 0 (length m.orders);
    sigma_length = length-zeros (length m.yard);
    lambda_sign = lambda_sign;
    mu_sign = mu_sign;
    sigma_sign = zeros_sign (length m.yard);
    lambda_missing = lambda_missing;
    mu_missing = mu_missing;
    columns = λ c legal column. record { priced = priced c legal column (some_order 0 (length m.orders) c.orders legal.fits.some legal.rises) };
    worth = omega (arith, ints, worth, whole, zero_total (length m.yard));
  }
    where
      leader_is_price : (b : Bool) (g : Group) → IsPrice (cond b (value g) (pos 0))
      leader_is_price true g = value_price g
      leader_is_price false g = (omega (arith, ints), omega (arith, ints))

      pi_prices : (os : List ℕ) → All IsPrice (map (leader_price a value) os)
      pi_prices [] k d h = absurd (omega arith)
      pi_prices (o ∷ os) zero d h = leader_is_price (leads a o) (a o)
      pi_prices (o ∷ os) (suc k) d h = pi_prices os k d (omega arith)

      whole : total_by (λ q. q) group_prices.pi ≡ total_below (length m.orders) (leader_price a value)
      whole =
          total_by_at (λ q. q) (pos 0) group_prices.pi
          ∙ ap (λ n. total_below n (λ i. get_or group_prices.pi i (pos 0))) (length-map-range_with_len (leader_price a value) 0 (length m.orders))
          ∙ total_below-ext (length m.orders) (λ i. get_or group_prices.pi i (pos 0)) (leader_price a value) (λ i b. pi_at i b)

      priced : (c : Column) → IsLegalColumn m c → column_agrees decisions c ≡ true → (o : ℕ) × (o < length m.orders) × (has c.orders o ≡ true) → total_by (price_at group_prices.pi) c.orders ≤ℤ (lambda *ℤ pos (loss_of m c) +ℤ charge group_prices c.kind)
      priced c legal column (o, l, h) = omega (arith, ints, column_worth agree settled c legal column o l h, cheap c legal column o l h)

-- a plan that answers as an agreeing assignment does agrees
pub plan_agrees_like : (m : Mill) (p : Plan) (a : Assignment) (decisions : List Decision) → AreAsks m decisions → ((ask : Ask) → IsAsk m ask → answer_of p ask ≡ answer a ask) → Agrees decisions a → PlanAgrees decisions p
plan_agrees_like m p a [] asks like agree = tt
plan_agrees_like m p a (d ∷ decisions) asks like agree = (like d.0 asks.0 ∙ agree.0, plan_agrees_like m p a decisions asks.1 like agree.1)
