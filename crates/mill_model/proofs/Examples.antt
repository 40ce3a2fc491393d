-- Worked examples of the definitions.
use Rattle.std.proofs.Common.{◌≡◌, ℕ, All, zero, suc, cond, count_by, slice_index, ◌+◌, ◌<◌, ◌≤◌, pos, true, false, List, [], ◌∷◌, length, refl, sym, arith, None}
use Rattle.std.proofs.lemmas.Int.{ints}
use Rattle.mill_model.specs.declared.kind.Kind.TheVariants.{New, Old}
use Rattle.mill_model.specs.declared.ask.Ask.TheVariants.{Pair, Put}
use Rattle.mill_model.specs.Mill.{Mill}
use Rattle.mill_model.specs.Plans.{Plan, slab, IsLegal, sums_of}
use Rattle.mill_model.specs.Prices.{IsPrice, Prices, Refutes}
use Rattle.mill_model.specs.Columns.{Column, Fits, is_old, IsLegalColumn, Rises, load, size_of, order_at, IsInStock}
use Rattle.mill_model.specs.declared.kind.Kind.{Kind}
use Rattle.std.proofs.lemmas.List.Sums.{sum_by-cons}
use Rattle.mill_model.specs.Decisions.{column_agrees}

-- sizes 4 and 10, two orders of weight 4 and one colour, a surplus slab of 9
mill : Mill
mill = record { sizes = 4 ∷ 10 ∷ []; colours = 1; colour_limit = 2; orders = record { weight = 4; colour = 1 } ∷ record { weight = 4; colour = 1 } ∷ []; yard = 9 ∷ []; bars = [] }

together : Plan
together = record { kinds = New 10 ∷ []; place = 0 ∷ 0 ∷ [] }

in_yard : Plan
in_yard = record { kinds = Old 0 ∷ []; place = 0 ∷ 0 ∷ [] }

together_costs : sums_of mill together ≡ record { loss = 2; count = 1 }
unfolding mill together
together_costs = refl

in_yard_costs : sums_of mill in_yard ≡ record { loss = 1; count = 0 }
unfolding mill in_yard
in_yard_costs = refl

together_slab : slab together 0 ≡ record { kind = New 10; orders = 0 ∷ 1 ∷ [] }
unfolding together
together_slab = refl

in_yard_legal : IsLegal mill in_yard
unfolding mill in_yard
in_yard_legal = record {
  places = refl;
  within = within;
  fits = fits;
  once = once;
}
  where
    within : (o : ℕ) → o < length (in_yard.place) → slice_index in_yard.place o < length in_yard.kinds
    within zero h = omega arith
    within (suc zero) h = omega arith
    within (suc (suc o)) h = absurd (omega arith)

    fits : (k : ℕ) → k < length in_yard.kinds → Fits mill (slab in_yard k)
    fits zero h = record { kind = omega arith; some = omega arith; weight = omega arith; colours = omega arith; bars = refl }
    fits (suc k) h = absurd (omega arith)

    once : (s : ℕ) → count_by (is_old s) in_yard.kinds ≤ 1
    once s = elim (is_old s (Old 0)) as (λ b. 0 + cond b 1 0 ≤ 1) [ true ↦ omega arith | false ↦ omega arith ]

-- one size 4, one order of weight 5
small : Mill
small = record { sizes = 4 ∷ []; colours = 1; colour_limit = 2; orders = record { weight = 5; colour = 1 } ∷ []; yard = []; bars = [] }

small_prices : Prices
small_prices = record { lambda = pos 0; mu = pos 0; pi = pos 1 ∷ []; sigma = [] }

-- decisions on a column of two orders
apart_column : column_agrees ((Pair 0 1, false) ∷ []) (record { kind = New 10; orders = 0 ∷ 1 ∷ [] }) ≡ false
apart_column = refl

joined_column : column_agrees ((Pair 0 1, true) ∷ []) (record { kind = New 10; orders = 0 ∷ 2 ∷ [] }) ≡ false
joined_column = refl

put_column : column_agrees ((Put 0 0, true) ∷ []) (record { kind = Old 0; orders = 0 ∷ 1 ∷ [] }) ≡ true
put_column = refl

small_refuted : Refutes small (record { loss = None; count = None }) [] small_prices
unfolding small small_prices
small_refuted = record {
  range = record { lambda = (omega (arith, ints), omega (arith, ints)); mu = (omega (arith, ints), omega (arith, ints)); pi = one_price; sigma = λ k d h. absurd (omega arith) };
  pi_length = refl;
  sigma_length = refl;
  lambda_sign = omega (arith, ints);
  mu_sign = omega (arith, ints);
  sigma_sign = λ k d h. absurd (omega arith);
  lambda_missing = refl;
  mu_missing = refl;
  columns = λ c legal agree. absurd (none c legal);
  worth = omega (arith, ints);
}
  where
    one_price : All IsPrice (pos 1 ∷ [])
    one_price zero d h = (omega (arith, ints), omega (arith, ints))
    one_price (suc k) d h = absurd (omega arith)

    none : (c : Column) → IsLegalColumn small c → ⊥
    none c legal = by_orders c.orders legal.rises (size_is c.kind legal.fits.kind) legal.fits.some legal.fits.weight
      where
        size_is : (k : Kind) → IsInStock small k → size_of small k ≡ 4
        size_is (New u) (zero, h, e) = sym e
        size_is (New u) (suc k, h, e) = absurd (omega arith)
        size_is (Old s) h = absurd (omega arith)

        by_orders : (os : List ℕ) → Rises 0 1 os → size_of small c.kind ≡ 4 → 0 < length os → load small os ≤ size_of small c.kind → ⊥
        by_orders [] r e l h = omega arith
        by_orders (zero ∷ os) r e l h = omega (arith, e, h, load_least os)
          where
            load_least : (xs : List ℕ) → 5 ≤ load small (0 ∷ xs)
            load_least xs = rw (sum_by-cons (λ o. (order_at small o).weight) 0 xs) (omega arith)
        by_orders (suc o ∷ os) r e l h = omega (arith, r.1)
