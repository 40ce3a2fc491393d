-- Plain prices refute the limits that are plainly refuted.
use Rattle.std.proofs.Common.{◌≡◌, ℕ, zero, suc, max, ◌<◌, ◌≤◌, ℤ, pos, ◌+ℤ◌, ◌*ℤ◌, ◌≤ℤ◌, ◌<ℤ◌, List, [], ◌∷◌, length, map, replicate, get_or, slice_index, slice_index_or, sum, sum_by, fold, All, refl, ap, ◌∙◌, arith, Option, Some, None, IfNone}
use Rattle.std.proofs.lemmas.Int.{ints}
use Rattle.std.proofs.lemmas.List.{length-map}
use Rattle.std.proofs.lemmas.List.Sums.{sum_by-cons}
use Rattle.std.proofs.Math.IntN.{*ℤ_comm, zero-*ℤ}
use Rattle.mill_model.specs.declared.order.Order.{Order}
use Rattle.mill_model.specs.declared.kind.Kind.{Kind}
use Rattle.mill_model.specs.declared.kind.Kind.TheVariants.{New, Old}
use Rattle.mill_model.specs.declared.limits.Limits.{Limits}
use Rattle.mill_model.specs.Mill.{Mill, IsBetween, IsInLimits}
use Rattle.mill_model.specs.SignedSums.{total_by}
use Rattle.mill_model.specs.Columns.{Column, IsLegalColumn, IsInStock, loss_of, load, order_at, size_of}
use Rattle.mill_model.specs.Decisions.{Decision}
use Rattle.mill_model.specs.Limits.{number_of}
use Rattle.mill_model.specs.Prices.{IsPrice, price_at, charge, Refutes}
use Rattle.mill_model.specs.Plain.{total_weight, greatest_size, loss_prices, count_prices, weight_prices}
use Rattle.mill_model.proofs.Signed.{total_by-ext, total_by-pos}

pub zero_price : (n i : ℕ) → price_at (replicate n (pos 0)) i ≡ pos 0
zero_price zero i = refl
zero_price (suc n) zero = refl
zero_price (suc n) (suc i) = zero_price n i

pub zero_total : (n : ℕ) → total_by (λ q. q) (replicate n (pos 0)) ≡ pos 0
zero_total zero = refl
zero_total (suc n) = omega (arith, ints, zero_total n)

zero_worth : (n : ℕ) (os : List ℕ) → total_by (price_at (replicate n (pos 0))) os ≡ pos 0
zero_worth n [] = refl
zero_worth n (o ∷ os) = omega (arith, ints, zero_price n o, zero_worth n os)

pub zeros_sign : (n : ℕ) → All (λ q. pos 0 ≤ℤ q) (replicate n (pos 0))
zeros_sign zero k d h = absurd (omega arith)
zeros_sign (suc n) zero d h = omega (arith, ints)
zeros_sign (suc n) (suc k) d h = zeros_sign n k d (omega arith)

zero_is_price : IsPrice (pos 0)
zero_is_price = (omega (arith, ints), omega (arith, ints))

one_is_price : IsPrice (pos 1)
one_is_price = (omega (arith, ints), omega (arith, ints))

pub zeros_are_prices : (n : ℕ) → All IsPrice (replicate n (pos 0))
zeros_are_prices zero k d h = absurd (omega arith)
zeros_are_prices (suc n) zero d h = zero_is_price
zeros_are_prices (suc n) (suc k) d h = zeros_are_prices n k d (omega arith)

pub length-zeros : (n : ℕ) → length (replicate n (pos 0)) ≡ n
length-zeros zero = refl
length-zeros (suc n) = ap suc (length-zeros n)

pub loss_refutes : (m : Mill) (limits : Limits) (decisions : List Decision) (a : ℤ) → limits.loss ≡ Some a → a <ℤ pos 0 → Refutes m limits decisions (loss_prices m)
loss_refutes m limits decisions a e h = record {
  range = record { lambda = one_is_price; mu = zero_is_price; pi = zeros_are_prices (length m.orders); sigma = zeros_are_prices (length m.yard) };
  pi_length = length-zeros (length m.orders);
  sigma_length = length-zeros (length m.yard);
  lambda_sign = omega (arith, ints);
  mu_sign = omega (arith, ints);
  sigma_sign = zeros_sign (length m.yard);
  lambda_missing = rw e tt;
  mu_missing = missing limits.count;
  columns = λ c legal agree. record { priced = priced c };
  worth = rw e (omega (arith, ints, zero_total (length m.orders), zero_total (length m.yard), zero-*ℤ (number_of limits.count), h));
}
  where
    missing : (b : Option ℤ) → IfNone b (pos 0 ≡ pos 0)
    missing None = refl
    missing (Some b) = tt

    charge_zero : (k : Kind) → charge (loss_prices m) k ≡ pos 0
    charge_zero (New u) = refl
    charge_zero (Old s) = zero_price (length m.yard) s

    priced : (c : Column) → total_by (price_at (replicate (length m.orders) (pos 0))) c.orders ≤ℤ (pos 1 *ℤ pos (loss_of m c) +ℤ charge (loss_prices m) c.kind)
    priced c = omega (arith, ints, zero_worth (length m.orders) c.orders, charge_zero c.kind)

pub count_refutes : (m : Mill) (limits : Limits) (decisions : List Decision) (b : ℤ) → limits.count ≡ Some b → b <ℤ pos 0 → Refutes m limits decisions (count_prices m)
count_refutes m limits decisions b e h = record {
  range = record { lambda = zero_is_price; mu = one_is_price; pi = zeros_are_prices (length m.orders); sigma = zeros_are_prices (length m.yard) };
  pi_length = length-zeros (length m.orders);
  sigma_length = length-zeros (length m.yard);
  lambda_sign = omega (arith, ints);
  mu_sign = omega (arith, ints);
  sigma_sign = zeros_sign (length m.yard);
  lambda_missing = missing limits.loss;
  mu_missing = rw e tt;
  columns = λ c legal agree. record { priced = priced c };
  worth = rw e (omega (arith, ints, zero_total (length m.orders), zero_total (length m.yard), zero-*ℤ (number_of limits.loss), h));
}
  where
    missing : (a : Option ℤ) → IfNone a (pos 0 ≡ pos 0)
    missing None = refl
    missing (Some a) = tt

    charge_least : (k : Kind) → pos 0 ≤ℤ charge (count_prices m) k
    charge_least (New u) = omega (arith, ints)
    charge_least (Old s) = omega (arith, ints, zero_price (length m.yard) s)

    priced : (c : Column) → total_by (price_at (replicate (length m.orders) (pos 0))) c.orders ≤ℤ (pos 0 *ℤ pos (loss_of m c) +ℤ charge (count_prices m) c.kind)
    priced c = omega (arith, ints, zero_worth (length m.orders) c.orders, charge_least c.kind, zero-*ℤ (pos (loss_of m c)))

-- ---- by weight

weight_price : (orders : List Order) (o : ℕ) → price_at (map (λ (x : Order). pos x.weight) orders) o ≡ pos (slice_index_or orders o (record { weight = 0; colour = 0 })).weight
weight_price [] o = refl
weight_price (x ∷ orders) zero = refl
weight_price (x ∷ orders) (suc o) = weight_price orders o

size_price : (yard : List ℕ) (s : ℕ) → price_at (map pos yard) s ≡ pos (slice_index yard s)
size_price [] s = refl
size_price (x ∷ yard) zero = refl
size_price (x ∷ yard) (suc s) = size_price yard s

total_map : {X : Type 0} (f : X → ℕ) (xs : List X) → total_by (λ q. q) (map (λ x. pos (f x)) xs) ≡ pos (sum_by f xs)
total_map f [] = refl
total_map f (x ∷ xs) = omega (arith, ints, total_map f xs, sum_by-cons f x xs)

fold-max_least : (a : ℕ) (xs : List ℕ) → a ≤ fold max a xs
fold-max_least a [] = omega arith
fold-max_least a (x ∷ xs) = omega (arith, fold-max_least (max a x) xs)

fold-max_bounds : (a : ℕ) (xs : List ℕ) (k : ℕ) (d : ℕ) → k < length xs → get_or xs k d ≤ fold max a xs
fold-max_bounds a [] k d h = absurd (omega arith)
fold-max_bounds a (x ∷ xs) zero d h = omega (arith, fold-max_least (max a x) xs)
fold-max_bounds a (x ∷ xs) (suc k) d h = fold-max_bounds (max a x) xs k d (omega arith)

small_is_price : (n : ℕ) → n ≤ 10000 → IsPrice (pos n)
small_is_price n h = (omega (arith, ints), omega (arith, ints))

fold-max_most : (high a : ℕ) (xs : List ℕ) → a ≤ high → All (IsBetween 1 high) xs → fold max a xs ≤ high
fold-max_most high a [] h all = h
fold-max_most high a (x ∷ xs) h all = fold-max_most high (max a x) xs (omega (arith, all 0 x (omega arith))) (λ k d l. all (suc k) d (omega arith))

small_are_prices : {X : Type 0} (f : X → ℕ) (xs : List X) → All (λ x. IsBetween 1 10000 (f x)) xs → All IsPrice (map (λ x. pos (f x)) xs)
small_are_prices f [] all k d h = absurd (omega arith)
small_are_prices f (x ∷ xs) all zero d h = small_is_price (f x) (all 0 x (omega arith)).1
small_are_prices f (x ∷ xs) all (suc k) d h = small_are_prices f xs (λ j e l. all (suc j) e (omega arith)) k d (omega arith)

pub weight_refutes : (m : Mill) (limits : Limits) (decisions : List Decision) (b : ℤ) → IsInLimits m → limits.count ≡ Some b → (b *ℤ pos (greatest_size m) +ℤ pos (sum m.yard)) <ℤ pos (total_weight m) → Refutes m limits decisions (weight_prices m)
weight_refutes m limits decisions b limited e h = record {
  range = record {
    lambda = zero_is_price;
    mu = small_is_price (greatest_size m) (fold-max_most 10000 0 m.sizes (omega arith) limited.sizes);
    pi = small_are_prices (λ (o : Order). o.weight) m.orders limited.weights;
    sigma = small_are_prices (λ x. x) m.yard limited.yard.sizes;
  };
  pi_length = length-map m.orders (λ (o : Order). pos o.weight);
  sigma_length = length-map m.yard pos;
  lambda_sign = omega (arith, ints);
  mu_sign = omega (arith, ints);
  sigma_sign = sigma_sign m.yard;
  lambda_missing = missing limits.loss;
  mu_missing = rw e tt;
  columns = λ c legal agree. record { priced = priced c legal };
  worth = rw e (omega (arith, ints, total_map (λ (o : Order). o.weight) m.orders, total_map (λ x. x) m.yard, zero-*ℤ (number_of limits.loss), *ℤ_comm b (pos (greatest_size m)), h));
}
  where
    missing : (a : Option ℤ) → IfNone a (pos 0 ≡ pos 0)
    missing None = refl
    missing (Some a) = tt

    sigma_sign : (yard : List ℕ) → All (λ q. pos 0 ≤ℤ q) (map pos yard)
    sigma_sign [] k d l = absurd (omega arith)
    sigma_sign (x ∷ yard) zero d l = omega (arith, ints)
    sigma_sign (x ∷ yard) (suc k) d l = sigma_sign yard k d (omega arith)

    charge_size : (k : Kind) → IsInStock m k → pos (size_of m k) ≤ℤ charge (weight_prices m) k
    charge_size (New u) (k, l, q) = omega (arith, ints, fold-max_bounds 0 m.sizes k u l, q)
    charge_size (Old s) l = omega (arith, ints, size_price m.yard s)

    priced : (c : Column) → IsLegalColumn m c → total_by (price_at (map (λ (o : Order). pos o.weight) m.orders)) c.orders ≤ℤ (pos 0 *ℤ pos (loss_of m c) +ℤ charge (weight_prices m) c.kind)
    priced c legal =
        let load_is : total_by (price_at (map (λ (o : Order). pos o.weight) m.orders)) c.orders ≡ pos (load m c.orders) = total_by-ext (price_at (map (λ (o : Order). pos o.weight) m.orders)) (λ o. pos (order_at m o).weight) c.orders (weight_price m.orders) ∙ total_by-pos (λ o. (order_at m o).weight) c.orders in
        omega (arith, ints, load_is, legal.fits.weight, charge_size c.kind legal.fits.kind, zero-*ℤ (pos (loss_of m c)))
