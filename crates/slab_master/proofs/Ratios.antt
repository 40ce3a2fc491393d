-- What multipliers or prices show over one denominator, they show over each.
use Rattle.std.proofs.Common.{◌≡◌, ℕ, zero, suc, ◌+◌, ◌*◌, ◌/◌, ◌%◌, ◌<◌, arith, ap, sym, subst, ◌∙◌, List, [], ◌∷◌, length, slice_index_or}
use Rattle.std.specs.Prelude.{ℤ, pos, negsuc, ◌+ℤ◌, ◌*ℤ◌, ◌≤ℤ◌, ◌<ℤ◌, All}
use Rattle.std.proofs.lemmas.Int.{ints, by_lt_z}
use Rattle.slab_frac.specs.Fraction.{Fraction}
use Rattle.slab_frac.specs.Scaled.{IsScaled, IsCommonForm}
use Rattle.slab_frac.proofs.Ring.{mul_swap_int, dist_right_int, mul_cancel_pos}
use Rattle.slab_master.specs.declared.given.Sense.{Sense}
use Rattle.slab_master.specs.declared.given.Sense.TheVariants.{Equal, AtMost}
use Rattle.slab_master.specs.Given.{Column, Row}
use Rattle.slab_master.specs.Sums.{number_at, product_of, right_product, coefficient, row_sum, cost_sum}
use Rattle.slab_master.specs.Prices.{AtMostZeroSense, ArePricesAt}
use Rattle.slab_master.specs.Spread.{MeetsSense, IsSpreadAt}
use Rattle.slab_master.specs.Denominators.{StandsOver}
use Rattle.slab_master.specs.Least.{AreDualPricesAt, AreWorthTheCost}

-- the two numbers stand to each other as d to e
abbrev pub IsRatio : ℕ → ℕ → ℤ → ℤ → Type 0
IsRatio d e k j = j *ℤ pos d ≡ k *ℤ pos e

pub ratio_term : (d e : ℕ) (k j a : ℤ) → IsRatio d e k j → IsRatio d e (k *ℤ a) (j *ℤ a)
ratio_term d e k j a h = mul_swap_int j a (pos d) ∙ ap (λ (z : ℤ). z *ℤ a) h ∙ sym (mul_swap_int k a (pos e))

pub ratio_sum : (d e : ℕ) (k j m n : ℤ) → IsRatio d e k j → IsRatio d e m n → IsRatio d e (k +ℤ m) (j +ℤ n)
ratio_sum d e k j m n h g = dist_right_int j n (pos d) ∙ ap (λ (z : ℤ). z +ℤ (n *ℤ pos d)) h ∙ ap (λ (z : ℤ). (k *ℤ pos e) +ℤ z) g ∙ sym (dist_right_int k m (pos e))

pub ratio_zero : (d e : ℕ) → IsRatio d e (pos 0) (pos 0)
ratio_zero d e = ap pos (omega arith)

ratio_one : (d e : ℕ) (num k j : ℤ) (den : ℕ) → 0 < den → k *ℤ pos den ≡ num *ℤ pos d → j *ℤ pos den ≡ num *ℤ pos e → IsRatio d e k j
ratio_one d e num k j den p h g =
    mul_cancel_pos _ _ den p (mul_swap_int j (pos d) (pos den) ∙ ap (λ (z : ℤ). z *ℤ pos d) g ∙ mul_swap_int num (pos e) (pos d) ∙ ap (λ (z : ℤ). z *ℤ pos e) (sym h) ∙ mul_swap_int k (pos den) (pos e))

-- two lists over the same fractions stand to each other place by place
pub ratio_at : (d e : ℕ) (ys : List Fraction) (ks js : List ℤ) → IsScaled d ys ks → IsScaled e ys js → (i : ℕ) → IsRatio d e (number_at ks i) (number_at js i)
ratio_at d e [] [] [] h g i = ratio_zero d e
ratio_at d e [] [] (j ∷ js) h g i = absurd g
ratio_at d e [] (k ∷ ks) js h g i = absurd h
ratio_at d e (y ∷ ys) [] js h g i = absurd h
ratio_at d e (y ∷ ys) (k ∷ ks) [] h g i = absurd g
ratio_at d e (y ∷ ys) (k ∷ ks) (j ∷ js) h g zero = ratio_one d e y.num k j y.den h.0.0 h.0.1 g.0.1
ratio_at d e (y ∷ ys) (k ∷ ks) (j ∷ js) h g (suc i) = ratio_at d e ys ks js h.1 g.1 i

pub product_ratio : (d e : ℕ) (ks js : List ℤ) → ((i : ℕ) → IsRatio d e (number_at ks i) (number_at js i)) → (es : Column) → IsRatio d e (product_of ks es) (product_of js es)
product_ratio d e ks js h [] = ratio_zero d e
product_ratio d e ks js h (x ∷ es) =
    ratio_sum d e _ _ _ _ (ratio_term d e (number_at ks x.0) (number_at js x.0) x.1 (h x.0)) (product_ratio d e ks js h es)

pub right_ratio : (d e : ℕ) (ys : List Fraction) (ks js : List ℤ) → IsScaled d ys ks → IsScaled e ys js → (rows : List Row) → IsRatio d e (right_product ks rows) (right_product js rows)
right_ratio d e [] [] [] h g rows = ratio_zero d e
right_ratio d e [] [] (j ∷ js) h g rows = absurd g
right_ratio d e [] (k ∷ ks) js h g rows = absurd h
right_ratio d e (y ∷ ys) [] js h g rows = absurd h
right_ratio d e (y ∷ ys) (k ∷ ks) [] h g rows = absurd g
right_ratio d e (y ∷ ys) (k ∷ ks) (j ∷ js) h g [] = ratio_zero d e
right_ratio d e (y ∷ ys) (k ∷ ks) (j ∷ js) h g (r ∷ rows) =
    ratio_sum d e _ _ _ _ (ratio_term d e k j r.1 (ratio_at d e (y ∷ ys) (k ∷ ks) (j ∷ js) h g zero)) (right_ratio d e ys ks js h.1 g.1 rows)

row_ratio : (d e : ℕ) (xs : List Fraction) (ks js : List ℤ) → IsScaled d xs ks → IsScaled e xs js → (columns : List Column) (i : ℕ) → IsRatio d e (row_sum ks columns i) (row_sum js columns i)
row_ratio d e [] [] [] h g columns i = ratio_zero d e
row_ratio d e [] [] (j ∷ js) h g columns i = absurd g
row_ratio d e [] (k ∷ ks) js h g columns i = absurd h
row_ratio d e (x ∷ xs) [] js h g columns i = absurd h
row_ratio d e (x ∷ xs) (k ∷ ks) [] h g columns i = absurd g
row_ratio d e (x ∷ xs) (k ∷ ks) (j ∷ js) h g [] i = ratio_zero d e
row_ratio d e (x ∷ xs) (k ∷ ks) (j ∷ js) h g (c ∷ columns) i =
    ratio_sum d e _ _ _ _ (ratio_term d e k j (coefficient c i) (ratio_at d e (x ∷ xs) (k ∷ ks) (j ∷ js) h g zero)) (row_ratio d e xs ks js h.1 g.1 columns i)

-- a factor keeps the order, and one above 0 can be taken off
pub le_mul : (a b : ℤ) (n : ℕ) → a ≤ℤ b → (a *ℤ pos n) ≤ℤ (b *ℤ pos n)
le_mul a b zero h = omega (arith, ints)
le_mul a b (suc n) h =
    let before : (a *ℤ pos n) ≤ℤ (b *ℤ pos n) = le_mul a b n h in
    omega (arith, ints, before, h)

lt_mul : (a b : ℤ) (n : ℕ) → 0 < n → a <ℤ b → (a *ℤ pos n) <ℤ (b *ℤ pos n)
lt_mul a b n p h =
    let next : ((a +ℤ pos 1) *ℤ pos n) ≤ℤ (b *ℤ pos n) = le_mul (a +ℤ pos 1) b n (omega (arith, ints, h)) in
    let spread : (a +ℤ pos 1) *ℤ pos n ≡ (a *ℤ pos n) +ℤ (pos 1 *ℤ pos n) = dist_right_int a (pos 1) (pos n) in
    let one : pos 1 *ℤ pos n ≡ pos n = ap pos (omega arith) in
    omega (arith, ints, next, spread, one)

pub le_cancel : (a b : ℤ) (n : ℕ) → 0 < n → (a *ℤ pos n) ≤ℤ (b *ℤ pos n) → a ≤ℤ b
le_cancel a b n p h =
    by_lt_z b a (λ less. let more : (b *ℤ pos n) <ℤ (a *ℤ pos n) = lt_mul b a n p less in absurd (omega (arith, ints, more, h))) (λ le. le)

-- a bound over d is the bound over e
pub ratio_le : (d e : ℕ) (k j r : ℤ) → 0 < d → IsRatio d e k j → k ≤ℤ (r *ℤ pos d) → j ≤ℤ (r *ℤ pos e)
ratio_le d e k j r p h le =
    le_cancel j (r *ℤ pos e) d p
    (subst (λ (z : ℤ). z ≤ℤ ((r *ℤ pos e) *ℤ pos d)) (sym h)
    (subst (λ (z : ℤ). (k *ℤ pos e) ≤ℤ z) (mul_swap_int r (pos d) (pos e)) (le_mul k (r *ℤ pos d) e le)))

ratio_eq : (d e : ℕ) (k j r : ℤ) → 0 < d → IsRatio d e k j → k ≡ r *ℤ pos d → j ≡ r *ℤ pos e
ratio_eq d e k j r p h is =
    mul_cancel_pos j (r *ℤ pos e) d p (h ∙ ap (λ (z : ℤ). z *ℤ pos e) is ∙ mul_swap_int r (pos d) (pos e))

nothing : (n : ℕ) → pos 0 *ℤ pos n ≡ pos 0
nothing n = ap pos (omega arith)

pub ratio_at_most_zero : (d e : ℕ) (k j : ℤ) → 0 < d → IsRatio d e k j → k ≤ℤ pos 0 → j ≤ℤ pos 0
ratio_at_most_zero d e k j p h le =
    subst (λ (z : ℤ). j ≤ℤ z) (nothing e) (ratio_le d e k j (pos 0) p h (subst (λ (z : ℤ). k ≤ℤ z) (sym (nothing d)) le))

ratio_above_zero : (d e : ℕ) (k j : ℤ) → 0 < e → IsRatio d e k j → pos 0 <ℤ k → pos 0 <ℤ j
ratio_above_zero d e (negsuc n) j p h s = absurd (omega (arith, ints, s))
ratio_above_zero d e (pos zero) j p h s = absurd (omega (arith, ints, s))
ratio_above_zero d e (pos (suc n)) (pos (suc m)) p h s = omega (arith, ints)
ratio_above_zero d e (pos (suc n)) (pos zero) p h s = absurd (omega (arith, ints, h))
ratio_above_zero d e (pos (suc n)) (negsuc m) p h s = absurd (omega (arith, ints, h))

ratio_not_negative : (d e : ℕ) (k j : ℤ) → 0 < d → IsRatio d e k j → pos 0 ≤ℤ k → pos 0 ≤ℤ j
ratio_not_negative d e k j p h le =
    le_cancel (pos 0) j d p
    (subst (λ (z : ℤ). (pos 0 *ℤ pos d) ≤ℤ z) (sym h)
    (subst (λ (z : ℤ). z ≤ℤ (k *ℤ pos e)) (nothing e ∙ sym (nothing d)) (le_mul (pos 0) k e le)))

pub sign_ratio : (d e : ℕ) (s : Sense) (k j : ℤ) → 0 < d → IsRatio d e k j → AtMostZeroSense s k → AtMostZeroSense s j
sign_ratio d e Equal k j p h a = tt
sign_ratio d e AtMost k j p h a = ratio_at_most_zero d e k j p h a

-- the prices show the same over every denominator
pub prices_at_every : (rows : List Row) (columns : List Column) (ys : List Fraction) (d : ℕ) (ks : List ℤ) → 0 < d → IsScaled d ys ks → ArePricesAt rows columns ks → (e : ℕ) (js : List ℤ) → 0 < e → IsScaled e ys js → ArePricesAt rows columns js
prices_at_every rows columns ys d ks p scaled h e js q g =
    let at : (i : ℕ) → IsRatio d e (number_at ks i) (number_at js i) = ratio_at d e ys ks js scaled g in
    record {
      signs = λ i row inside. sign_ratio d e (slice_index_or rows i row).0 _ _ p (at i) (h.signs i row inside);
      products = λ k c inside. ratio_at_most_zero d e _ _ p (product_ratio d e ks js at (slice_index_or columns k c)) (h.products k c inside);
      above = ratio_above_zero d e _ _ q (right_ratio d e ys ks js scaled g rows) h.above;
    }

not_negative_at : (d e : ℕ) (xs : List Fraction) (ks js : List ℤ) → 0 < d → IsScaled d xs ks → IsScaled e xs js → All (λ k. pos 0 ≤ℤ k) ks → (i : ℕ) (z : ℤ) → i < length js → pos 0 ≤ℤ slice_index_or js i z
not_negative_at d e [] [] [] p h g all i z inside = absurd (omega (arith, inside))
not_negative_at d e [] [] (j ∷ js) p h g all i z inside = absurd g
not_negative_at d e [] (k ∷ ks) js p h g all i z inside = absurd h
not_negative_at d e (x ∷ xs) [] js p h g all i z inside = absurd h
not_negative_at d e (x ∷ xs) (k ∷ ks) [] p h g all i z inside = absurd g
not_negative_at d e (x ∷ xs) (k ∷ ks) (j ∷ js) p h g all zero z inside =
    ratio_not_negative d e k j p (ratio_one d e x.num k j x.den h.0.0 h.0.1 g.0.1) (all 0 k (omega arith))
not_negative_at d e (x ∷ xs) (k ∷ ks) (j ∷ js) p h g all (suc i) z inside =
    not_negative_at d e xs ks js p h.1 g.1 (λ n y below. all (suc n) y (omega (arith, below))) i z (omega (arith, inside))

meets_ratio : (d e : ℕ) (s : Sense) (k j r : ℤ) → 0 < d → IsRatio d e k j → MeetsSense s k (r *ℤ pos d) → MeetsSense s j (r *ℤ pos e)
meets_ratio d e Equal k j r p h m = ratio_eq d e k j r p h m
meets_ratio d e AtMost k j r p h m = ratio_le d e k j r p h m

-- the multipliers show the same over every denominator
pub spread_at_every : (rows : List Row) (columns : List Column) (xs : List Fraction) (d : ℕ) (ks : List ℤ) → 0 < d → IsScaled d xs ks → IsSpreadAt rows columns d ks → (e : ℕ) (js : List ℤ) → 0 < e → IsScaled e xs js → IsSpreadAt rows columns e js
spread_at_every rows columns xs d ks p scaled h e js q g =
    record {
      not_negative = not_negative_at d e xs ks js p scaled g h.not_negative;
      met = λ i row inside. meets_ratio d e (slice_index_or rows i row).0 _ _ (slice_index_or rows i row).1 p (row_ratio d e xs ks js scaled g columns i) (h.met i row inside);
    }

-- the dual prices show the same over every denominator
pub duals_at_every : (rows : List Row) (columns : List Column) (costs : List ℤ) (ys : List Fraction) (d : ℕ) (ks : List ℤ) → 0 < d → IsScaled d ys ks → AreDualPricesAt rows columns costs d ks → (e : ℕ) (js : List ℤ) → 0 < e → IsScaled e ys js → AreDualPricesAt rows columns costs e js
duals_at_every rows columns costs ys d ks p scaled h e js q g =
    let at : (i : ℕ) → IsRatio d e (number_at ks i) (number_at js i) = ratio_at d e ys ks js scaled g in
    record {
      signs = λ i row inside. sign_ratio d e (slice_index_or rows i row).0 _ _ p (at i) (h.signs i row inside);
      products = λ j column inside. ratio_le d e _ _ (number_at costs j) p (product_ratio d e ks js at (slice_index_or columns j column)) (h.products j column inside);
    }

cost_ratio : (d e : ℕ) (xs : List Fraction) (ks js : List ℤ) → IsScaled d xs ks → IsScaled e xs js → (costs : List ℤ) → IsRatio d e (cost_sum ks costs) (cost_sum js costs)
cost_ratio d e [] [] [] h g costs = ratio_zero d e
cost_ratio d e [] [] (j ∷ js) h g costs = absurd g
cost_ratio d e [] (k ∷ ks) js h g costs = absurd h
cost_ratio d e (x ∷ xs) [] js h g costs = absurd h
cost_ratio d e (x ∷ xs) (k ∷ ks) [] h g costs = absurd g
cost_ratio d e (x ∷ xs) (k ∷ ks) (j ∷ js) h g [] = ratio_zero d e
cost_ratio d e (x ∷ xs) (k ∷ ks) (j ∷ js) h g (c ∷ costs) =
    ratio_sum d e _ _ _ _ (ratio_term d e k j c (ratio_at d e (x ∷ xs) (k ∷ ks) (j ∷ js) h g zero)) (cost_ratio d e xs ks js h.1 g.1 costs)

-- one number over d and e is one number over d2 and e2
same_worth : (d e d2 e2 : ℕ) (cost worth cost2 worth2 : ℤ) → 0 < d → 0 < e → worth *ℤ pos d ≡ cost *ℤ pos e → IsRatio d d2 cost cost2 → IsRatio e e2 worth worth2 → worth2 *ℤ pos d2 ≡ cost2 *ℤ pos e2
same_worth d e d2 e2 cost worth cost2 worth2 p q same first second =
    mul_cancel_pos (worth2 *ℤ pos d2) (cost2 *ℤ pos e2) d p
    (mul_cancel_pos ((worth2 *ℤ pos d2) *ℤ pos d) ((cost2 *ℤ pos e2) *ℤ pos d) e q
    (ap (λ (z : ℤ). z *ℤ pos e) (mul_swap_int worth2 (pos d2) (pos d))
    ∙ mul_swap_int (worth2 *ℤ pos d) (pos d2) (pos e)
    ∙ ap (λ (z : ℤ). z *ℤ pos d2) (mul_swap_int worth2 (pos d) (pos e) ∙ ap (λ (z : ℤ). z *ℤ pos d) second)
    ∙ ap (λ (z : ℤ). z *ℤ pos d2) (mul_swap_int worth (pos e2) (pos d) ∙ ap (λ (z : ℤ). z *ℤ pos e2) same)
    ∙ mul_swap_int (cost *ℤ pos e) (pos e2) (pos d2)
    ∙ ap (λ (z : ℤ). z *ℤ pos e2) (mul_swap_int cost (pos e) (pos d2) ∙ ap (λ (z : ℤ). z *ℤ pos e) (sym first))
    ∙ mul_swap_int (cost2 *ℤ pos d) (pos e) (pos e2)
    ∙ ap (λ (z : ℤ). z *ℤ pos e) (mul_swap_int cost2 (pos d) (pos e2))))

pub worth_at_every : (rows : List Row) (costs : List ℤ) (xs ys : List Fraction) (d e : ℕ) (ks js : List ℤ) → 0 < d → 0 < e → IsScaled d xs ks → IsScaled e ys js → right_product js rows *ℤ pos d ≡ cost_sum ks costs *ℤ pos e → AreWorthTheCost rows costs xs ys
worth_at_every rows costs xs ys d e ks js p q over_d over_e same d2 e2 ks2 js2 p2 q2 over_d2 over_e2 =
    same_worth d e d2 e2 _ _ _ _ p q same (cost_ratio d d2 xs ks ks2 over_d over_d2 costs) (right_ratio e e2 ys js js2 over_e over_e2 rows)

-- one number, from its whole part and what is left
same_quotient : (l d r o : ℕ) → l / d ≡ r / o → l % d * o ≡ r % o * d → l * o ≡ r * d
same_quotient l d r o whole left =
    apart l d r o (l / d) (r / o) (l % d) (r % o) (omega arith) (omega arith) whole left
  where
    apart : (l d r o p q s t : ℕ) → l ≡ d * p + s → r ≡ o * q + t → p ≡ q → s * o ≡ t * d → l * o ≡ r * d
    apart l d r o p q s t e f same left = rw (e, f, same) (parts d o q s t left)
      where
        parts : (d o q s t : ℕ) → s * o ≡ t * d → (d * q + s) * o ≡ (o * q + t) * d
        parts d o q s t left = omega (arith, left)

pub one_number : (l r b o : ℕ) (left right den other : ℤ) → left ≡ pos l → right ≡ pos r → den ≡ pos b → other ≡ pos o → l / b ≡ r / o → l % b * o ≡ r % o * b → left *ℤ other ≡ right *ℤ den
one_number l r b o left right den other e f g h whole rest = rw (e, f, g, h) (ap pos (same_quotient l b r o whole rest))

-- what a list is brought to stands over its denominator
pub stands_over : (xs : List Fraction) (z e : ℤ) (ks : List ℤ) → IsCommonForm xs z ks → z ≡ e → StandsOver e xs ks
stands_over xs z e ks form is =
    subst (λ (y : ℤ). StandsOver y xs ks) is (record { denominator = (form.least.positive, form.positive); scaled = form.scaled })
