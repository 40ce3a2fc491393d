-- Scaled prices of a master refute, where no column exceeds them.
use Rattle.std.proofs.Common.{◌≡◌, ℕ, ◌+◌, ◌^◌, ◌<◌, ◌≤◌, ℤ, pos, negsuc, ◌≤ℤ◌, ◌<ℤ◌, List, length, get_or, take, drop, refl, subst, arith, Option, Some, None, IfNone}
use Rattle.std.specs.Prelude.{◌-ℤ◌, unsigned_abs}
use Rattle.std.proofs.lemmas.Int.{ints}
use Rattle.std.proofs.lemmas.List.{length-map, length-take, length-drop}
use Rattle.std.proofs.lemmas.List.Elements.{All-take, All-drop, All-map, All-weaker, All-from_get_or}
use Rattle.mill_model.specs.declared.limits.Limits.{Limits}
use Rattle.mill_model.specs.Mill.{Mill}
use Rattle.mill_model.specs.Decisions.{Decision}
use Rattle.mill_model.specs.Prices.{IsPrice, ArePrices, Refutes}
use Rattle.mill_model.proofs.Duality.{AreSlabPrices}
use Rattle.slab_frac.specs.Scaled.{AreInRange}
use Rattle.slab_master.specs.declared.given.Sense.TheVariants.{AtMost}
use Rattle.slab_master.specs.Given.{Row}
use Rattle.slab_master.specs.Sums.{number_at, right_product}
use Rattle.slab_master.specs.Prices.{AtMostZero}
use Rattle.slab_price.specs.Excess.{IsGreatest}
use Rattle.pricing_laws.proofs.Excesses.{priced_from_excess}
use Rattle.slab_relax.specs.Rows.{loss_row, count_row, rows_of}
use Rattle.slab_relax.specs.Duals.{turned, price_of, prices_of}
use Rattle.slab_relax.proofs.Products.{slab_price}
use Rattle.slab_relax.proofs.Rights.{right_is_worth, row_of_slab, row_of_loss, row_of_count, length_rows}

-- a number in range, and its turn, are prices
pub price_in_range : (k : ℤ) → unsigned_abs k ≤ 2 ^ 62 → IsPrice k
price_in_range (pos n) h = (omega (arith, ints), omega (arith, ints))
price_in_range (negsuc n) h = (omega (arith, ints), omega (arith, ints))

turned_in_range : (k : ℤ) → unsigned_abs k ≤ 2 ^ 62 → IsPrice (turned k)
turned_in_range (pos n) h = (omega (arith, ints), omega (arith, ints))
turned_in_range (negsuc n) h = (omega (arith, ints), omega (arith, ints))

zero_in_range : IsPrice (pos 0)
zero_in_range = (omega (arith, ints), omega (arith, ints))

limit_in_range : (limit : Option ℤ) (k : ℤ) → unsigned_abs k ≤ 2 ^ 62 → IsPrice (price_of limit k)
limit_in_range None k h = zero_in_range
limit_in_range (Some a) k h = turned_in_range k h

pub prices_in_range : (m : Mill) (limits : Limits) (ys : List ℤ) → length ys ≡ length m.orders + length m.yard + 2 → AreInRange ys → ArePrices (prices_of m limits ys)
prices_in_range m limits ys size range = record {
  lambda = limit_in_range limits.loss (number_at ys (loss_row m)) (range (loss_row m) (pos 0) (omega arith));
  mu = limit_in_range limits.count (number_at ys (count_row m)) (range (count_row m) (pos 0) (omega arith));
  pi = All-weaker (λ (k : ℤ). unsigned_abs k ≤ 2 ^ 62) IsPrice price_in_range (take (length m.orders) ys) (All-take (λ (k : ℤ). unsigned_abs k ≤ 2 ^ 62) (length m.orders) ys range);
  sigma = All-map IsPrice turned (take (length m.yard) (drop (length m.orders) ys))
      (All-weaker (λ (k : ℤ). unsigned_abs k ≤ 2 ^ 62) (λ (k : ℤ). IsPrice (turned k)) turned_in_range (take (length m.yard) (drop (length m.orders) ys))
      (All-take (λ (k : ℤ). unsigned_abs k ≤ 2 ^ 62) (length m.yard) (drop (length m.orders) ys) (All-drop (λ (k : ℤ). unsigned_abs k ≤ 2 ^ 62) (length m.orders) ys range)));
}

-- at most 0 on the AtMost rows
abbrev pub HaveSigns : Mill → Limits → List ℤ → Type 0
HaveSigns m limits ys = (i : ℕ) (row : Row) → i < length (rows_of m limits) → AtMostZero (get_or (rows_of m limits) i row) (number_at ys i)

price_sign : (limit : Option ℤ) (y : ℤ) → y ≤ℤ pos 0 → pos 0 ≤ℤ price_of limit y
price_sign None y h = omega (arith, ints)
price_sign (Some a) y h = omega (arith, ints)

price_missing : (limit : Option ℤ) (y : ℤ) → IfNone limit (price_of limit y ≡ pos 0)
price_missing None y = refl
price_missing (Some a) y = tt

loss_sign : (m : Mill) (limits : Limits) (ys : List ℤ) → HaveSigns m limits ys → number_at ys (loss_row m) ≤ℤ pos 0
loss_sign m limits ys signs =
    let d : Row = (AtMost, pos 0) in
    subst (λ (r : Row). AtMostZero r (number_at ys (loss_row m))) (row_of_loss m limits d) (signs (loss_row m) d (omega (arith, length_rows m limits)))

count_sign : (m : Mill) (limits : Limits) (ys : List ℤ) → HaveSigns m limits ys → number_at ys (count_row m) ≤ℤ pos 0
count_sign m limits ys signs =
    let d : Row = (AtMost, pos 0) in
    subst (λ (r : Row). AtMostZero r (number_at ys (count_row m))) (row_of_count m limits d) (signs (count_row m) d (omega (arith, length_rows m limits)))

slab_sign : (m : Mill) (limits : Limits) (ys : List ℤ) → HaveSigns m limits ys → (s : ℕ) → s < length m.yard → number_at ys (length m.orders + s) ≤ℤ pos 0
slab_sign m limits ys signs s h =
    let d : Row = (AtMost, pos 0) in
    subst (λ (r : Row). AtMostZero r (number_at ys (length m.orders + s))) (row_of_slab m limits s d h) (signs (length m.orders + s) d (omega (arith, length_rows m limits)))

sigma_length : (m : Mill) (limits : Limits) (ys : List ℤ) → length ys ≡ length m.orders + length m.yard + 2 → length (prices_of m limits ys).sigma ≡ length m.yard
sigma_length m limits ys size = omega (arith, length-map (take (length m.yard) (drop (length m.orders) ys)) turned, length-take (length m.yard) (drop (length m.orders) ys), length-drop (length m.orders) ys)

pub lambda_sign : (m : Mill) (limits : Limits) (ys : List ℤ) → HaveSigns m limits ys → pos 0 ≤ℤ (prices_of m limits ys).lambda
lambda_sign m limits ys signs = price_sign limits.loss (number_at ys (loss_row m)) (loss_sign m limits ys signs)

-- numbers that are at most 0 on the AtMost rows are prices of orders and slabs
pub slab_prices_of : (m : Mill) (limits : Limits) (ys : List ℤ) → length ys ≡ length m.orders + length m.yard + 2 → HaveSigns m limits ys → AreSlabPrices m limits (prices_of m limits ys)
slab_prices_of m limits ys size signs = record {
  pi_length = omega (arith, length-take (length m.orders) ys);
  sigma_length = sigma_length m limits ys size;
  lambda_sign = lambda_sign m limits ys signs;
  mu_sign = price_sign limits.count (number_at ys (count_row m)) (count_sign m limits ys signs);
  sigma_sign = All-from_get_or (λ q. pos 0 ≤ℤ q) (prices_of m limits ys).sigma (pos 0)
      (λ s h. omega (arith, ints, slab_price m limits ys s (omega (arith, sigma_length m limits ys size)), slab_sign m limits ys signs s (omega (arith, sigma_length m limits ys size))));
  lambda_missing = price_missing limits.loss (number_at ys (loss_row m));
  mu_missing = price_missing limits.count (number_at ys (count_row m));
}

-- prices that a master gave, brought to whole numbers, refute where no legal column that agrees exceeds them
pub refutes_of : (m : Mill) (limits : Limits) (decisions : List Decision) (ys : List ℤ) → length ys ≡ length m.orders + length m.yard + 2 → AreInRange ys → HaveSigns m limits ys → pos 0 <ℤ right_product ys (rows_of m limits)
    → IsGreatest m decisions (prices_of m limits ys) (pos 0) → Refutes m limits decisions (prices_of m limits ys)
refutes_of m limits decisions ys size range signs above greatest =
    let prices = slab_prices_of m limits ys size signs in
    record {
      range = prices_in_range m limits ys size range;
      pi_length = prices.pi_length;
      sigma_length = prices.sigma_length;
      lambda_sign = prices.lambda_sign;
      mu_sign = prices.mu_sign;
      sigma_sign = prices.sigma_sign;
      lambda_missing = prices.lambda_missing;
      mu_missing = prices.mu_missing;
      columns = λ c legal agree. priced_from_excess m (prices_of m limits ys) c (greatest c legal agree);
      worth = turn _ _ (subst (λ z. pos 0 <ℤ z) (right_is_worth m limits ys) above);
    }
  where
    turn : (pi cost : ℤ) → pos 0 <ℤ (pi -ℤ cost) → cost <ℤ pi
    turn pi cost h = omega (arith, ints)
