-- Multipliers that meet every row cost no less than dual prices are worth.
use Rattle.std.proofs.Common.{◌≡◌, ℕ, zero, suc, ◌<◌, arith, refl, ap, sym, subst, ◌∙◌, List, [], ◌∷◌, length, slice_index_or}
use Rattle.std.specs.Prelude.{ℤ, pos, negsuc, ◌+ℤ◌, ◌*ℤ◌, ◌≤ℤ◌, All, if◌then◌else◌, nat_eq, unsigned_abs}
use Rattle.std.proofs.lemmas.Int.{ints}
use Rattle.std.proofs.lemmas.Bool.Decides.{nat_tests}
use Rattle.slab_frac.specs.Fraction.{Fraction}
use Rattle.slab_frac.specs.Scaled.{IsScaled}
use Rattle.slab_frac.proofs.Ring.{mul_swap_int, mul_comm_int, mul_assoc_int, dist_left_int, dist_right_int}
use Rattle.slab_master.specs.declared.given.Sense.{Sense}
use Rattle.slab_master.specs.declared.given.Sense.TheVariants.{Equal, AtMost}
use Rattle.slab_master.specs.Given.{Column, Row}
use Rattle.slab_master.specs.Sums.{number_at, product_of, right_product, coefficient, row_sum, cost_sum}
use Rattle.slab_master.specs.Prices.{AtMostZero, AtMostZeroSense}
use Rattle.slab_master.specs.Spread.{Meets, MeetsSense, IsSpreadAt}
use Rattle.slab_master.specs.Least.{AreDualPricesAt, AreDualPrices, AreWorthTheCost, CostLeast}
use Rattle.slab_master.proofs.Ratios.{le_mul, le_cancel}

-- the numbers, each times what f says of its place
abbrev weighted : List ℤ → (ℕ → ℤ) → ℤ
weighted [] f = pos 0
weighted (y ∷ ys) f = (y *ℤ f 0) +ℤ weighted ys (λ i. f (suc i))

nothing_left : (z : ℤ) → z *ℤ pos 0 ≡ pos 0
nothing_left z = mul_comm_int z (pos 0) ∙ (omega (arith, ints))

weighted_same : (ys : List ℤ) (f g : ℕ → ℤ) → ((i : ℕ) → f i ≡ g i) → weighted ys f ≡ weighted ys g
weighted_same [] f g h = refl
weighted_same (y ∷ ys) f g h =
    ap (λ (z : ℤ). (y *ℤ z) +ℤ weighted ys (λ i. f (suc i))) (h 0)
    ∙ ap (λ (z : ℤ). (y *ℤ g 0) +ℤ z) (weighted_same ys (λ i. f (suc i)) (λ i. g (suc i)) (λ i. h (suc i)))

weighted_nothing : (ys : List ℤ) → weighted ys (λ i. pos 0) ≡ pos 0
weighted_nothing [] = refl
weighted_nothing (y ∷ ys) =
    let rest : weighted ys (λ i. pos 0) ≡ pos 0 = weighted_nothing ys in
    let here : y *ℤ pos 0 ≡ pos 0 = nothing_left y in
    omega (arith, ints, rest, here)

weighted_sum : (ys : List ℤ) (f g : ℕ → ℤ) → weighted ys (λ i. f i +ℤ g i) ≡ weighted ys f +ℤ weighted ys g
weighted_sum [] f g = refl
weighted_sum (y ∷ ys) f g =
    let here : y *ℤ (f 0 +ℤ g 0) ≡ (y *ℤ f 0) +ℤ (y *ℤ g 0) = dist_left_int (f 0) (g 0) y in
    let rest : weighted ys (λ i. f (suc i) +ℤ g (suc i)) ≡ weighted ys (λ i. f (suc i)) +ℤ weighted ys (λ i. g (suc i)) = weighted_sum ys (λ i. f (suc i)) (λ i. g (suc i)) in
    omega (arith, ints, here, rest)

weighted_times : (ys : List ℤ) (k : ℤ) (f : ℕ → ℤ) → weighted ys (λ i. k *ℤ f i) ≡ k *ℤ weighted ys f
weighted_times [] k f = sym (nothing_left k)
weighted_times (y ∷ ys) k f =
    let here : y *ℤ (k *ℤ f 0) ≡ k *ℤ (y *ℤ f 0) = sym (mul_assoc_int y k (f 0)) ∙ ap (λ (z : ℤ). z *ℤ f 0) (mul_comm_int y k) ∙ mul_assoc_int k y (f 0) in
    let rest : weighted ys (λ i. k *ℤ f (suc i)) ≡ k *ℤ weighted ys (λ i. f (suc i)) = weighted_times ys k (λ i. f (suc i)) in
    let all : k *ℤ ((y *ℤ f 0) +ℤ weighted ys (λ i. f (suc i))) ≡ (k *ℤ (y *ℤ f 0)) +ℤ (k *ℤ weighted ys (λ i. f (suc i))) = dist_left_int (y *ℤ f 0) (weighted ys (λ i. f (suc i))) k in
    omega (arith, ints, here, rest, all)

elsewhere : (i : ℕ) (a : ℤ) → (if nat_eq 0 (suc i) then a else pos 0) ≡ pos 0
elsewhere i a = grind (arith, nat_tests)

not_here : (r : ℕ) (a : ℤ) → (if nat_eq (suc r) 0 then a else pos 0) ≡ pos 0
not_here r a = grind (arith, nat_tests)

one_less : (r i : ℕ) (a : ℤ) → (if nat_eq (suc r) (suc i) then a else pos 0) ≡ (if nat_eq r i then a else pos 0)
one_less r i a = grind (arith, nat_tests)

-- a number in one place alone
weighted_one : (ys : List ℤ) (r : ℕ) (a : ℤ) → weighted ys (λ i. if nat_eq r i then a else pos 0) ≡ number_at ys r *ℤ a
weighted_one [] r a = omega (arith, ints)
weighted_one (y ∷ ys) zero a =
    let none : weighted ys (λ i. if nat_eq 0 (suc i) then a else pos 0) ≡ pos 0 = weighted_same ys (λ i. if nat_eq 0 (suc i) then a else pos 0) (λ i. pos 0) (λ i. elsewhere i a) ∙ weighted_nothing ys in
    omega (arith, ints, none)
weighted_one (y ∷ ys) (suc r) a =
    let rest : weighted ys (λ i. if nat_eq (suc r) (suc i) then a else pos 0) ≡ number_at ys r *ℤ a = weighted_same ys (λ i. if nat_eq (suc r) (suc i) then a else pos 0) (λ i. if nat_eq r i then a else pos 0) (λ i. one_less r i a) ∙ weighted_one ys r a in
    let here : y *ℤ (if nat_eq (suc r) 0 then a else pos 0) ≡ pos 0 = ap (λ (z : ℤ). y *ℤ z) (not_here r a) ∙ nothing_left y in
    omega (arith, ints, rest, here)

-- the numbers times a column's numbers in the rows are its product
weighted_column : (ys : List ℤ) (column : Column) → weighted ys (coefficient column) ≡ product_of ys column
weighted_column ys [] = weighted_nothing ys
weighted_column ys (e ∷ es) =
    weighted_sum ys (λ i. if nat_eq e.0 i then e.1 else pos 0) (coefficient es)
    ∙ ap (λ (z : ℤ). z +ℤ weighted ys (coefficient es)) (weighted_one ys e.0 e.1)
    ∙ ap (λ (z : ℤ). (number_at ys e.0 *ℤ e.1) +ℤ z) (weighted_column ys es)

-- the columns' products, each times its multiplier
abbrev worth_of : List ℤ → List ℤ → List Column → ℤ
worth_of ys [] columns = pos 0
worth_of ys (k ∷ ks) [] = pos 0
worth_of ys (k ∷ ks) (c ∷ columns) = (k *ℤ product_of ys c) +ℤ worth_of ys ks columns

-- the same sum, by rows and by columns
by_columns : (ys ks : List ℤ) (columns : List Column) → weighted ys (row_sum ks columns) ≡ worth_of ys ks columns
by_columns ys [] columns = weighted_nothing ys
by_columns ys (k ∷ ks) [] = weighted_nothing ys
by_columns ys (k ∷ ks) (c ∷ columns) =
    weighted_sum ys (λ i. k *ℤ coefficient c i) (row_sum ks columns)
    ∙ ap (λ (z : ℤ). z +ℤ weighted ys (row_sum ks columns)) (weighted_times ys k (coefficient c) ∙ ap (λ (z : ℤ). k *ℤ z) (weighted_column ys c))
    ∙ ap (λ (z : ℤ). (k *ℤ product_of ys c) +ℤ z) (by_columns ys ks columns)

-- a factor that isn't negative keeps the order, one that isn't positive turns it
le_times : (k a b : ℤ) → pos 0 ≤ℤ k → a ≤ℤ b → (k *ℤ a) ≤ℤ (k *ℤ b)
le_times (negsuc n) a b p h = absurd (omega (arith, ints, p))
le_times (pos n) a b p h =
    let turned : (a *ℤ pos n) ≤ℤ (b *ℤ pos n) = le_mul a b n h in
    let first : pos n *ℤ a ≡ a *ℤ pos n = mul_comm_int (pos n) a in
    let second : pos n *ℤ b ≡ b *ℤ pos n = mul_comm_int (pos n) b in
    omega (arith, ints, turned, first, second)

ge_times : (y a b : ℤ) → y ≤ℤ pos 0 → a ≤ℤ b → (y *ℤ b) ≤ℤ (y *ℤ a)
ge_times y a b p h =
    let n : ℕ = unsigned_abs y in
    let none : y +ℤ pos n ≡ pos 0 = omega (arith, ints, p) in
    let more : (a *ℤ pos n) ≤ℤ (b *ℤ pos n) = le_mul a b n h in
    let first : (y *ℤ a) +ℤ (pos n *ℤ a) ≡ pos 0 = sym (dist_right_int y (pos n) a) ∙ ap (λ (z : ℤ). z *ℤ a) none ∙ (omega (arith, ints)) in
    let second : (y *ℤ b) +ℤ (pos n *ℤ b) ≡ pos 0 = sym (dist_right_int y (pos n) b) ∙ ap (λ (z : ℤ). z *ℤ b) none ∙ (omega (arith, ints)) in
    let turned : pos n *ℤ a ≡ a *ℤ pos n = mul_comm_int (pos n) a in
    let turned_too : pos n *ℤ b ≡ b *ℤ pos n = mul_comm_int (pos n) b in
    omega (arith, ints, more, first, second, turned, turned_too)

-- what the columns are worth is at most what the multipliers cost
worth_le_cost : (ys ks : List ℤ) (columns : List Column) (costs : List ℤ) (e : ℕ) → All (λ k. pos 0 ≤ℤ k) ks → length costs ≡ length columns → ((j : ℕ) (c : Column) → j < length columns → product_of ys (slice_index_or columns j c) ≤ℤ (number_at costs j *ℤ pos e)) → worth_of ys ks columns ≤ℤ (cost_sum ks costs *ℤ pos e)
worth_le_cost ys [] columns costs e none same h = omega (arith, ints)
worth_le_cost ys (k ∷ ks) [] [] e none same h = omega (arith, ints)
worth_le_cost ys (k ∷ ks) [] (x ∷ costs) e none same h = absurd (omega (arith, same))
worth_le_cost ys (k ∷ ks) (c ∷ columns) [] e none same h = absurd (omega (arith, same))
worth_le_cost ys (k ∷ ks) (c ∷ columns) (x ∷ costs) e none same h =
    let here : (k *ℤ product_of ys c) ≤ℤ (k *ℤ (x *ℤ pos e)) = le_times k (product_of ys c) (x *ℤ pos e) (none 0 k (omega arith)) (h 0 c (omega arith)) in
    let rest : worth_of ys ks columns ≤ℤ (cost_sum ks costs *ℤ pos e) =
    worth_le_cost ys ks columns costs e (λ i z below. none (suc i) z (omega (arith, below))) (omega (arith, same)) (λ j d below. h (suc j) d (omega (arith, below))) in
    let spread : ((k *ℤ x) +ℤ cost_sum ks costs) *ℤ pos e ≡ ((k *ℤ x) *ℤ pos e) +ℤ (cost_sum ks costs *ℤ pos e) = dist_right_int (k *ℤ x) (cost_sum ks costs) (pos e) in
    let turned : (k *ℤ x) *ℤ pos e ≡ k *ℤ (x *ℤ pos e) = mul_assoc_int k x (pos e) in
    omega (arith, ints, here, rest, spread, turned)

-- what the rows' sums are worth is at least what the right sides are worth
worth_ge_right : (ys : List ℤ) (rows : List Row) (f : ℕ → ℤ) (d : ℕ) → length ys ≡ length rows → ((i : ℕ) (row : Row) → i < length rows → Meets d (slice_index_or rows i row) (f i)) → ((i : ℕ) (row : Row) → i < length rows → AtMostZero (slice_index_or rows i row) (number_at ys i)) → (right_product ys rows *ℤ pos d) ≤ℤ weighted ys f
worth_ge_right [] rows f d same met signs = omega (arith, ints)
worth_ge_right (y ∷ ys) [] f d same met signs = absurd (omega (arith, same))
worth_ge_right (y ∷ ys) (r ∷ rows) f d same met signs =
    let here : (y *ℤ (r.1 *ℤ pos d)) ≤ℤ (y *ℤ f 0) = one_row r.0 y (f 0) (r.1 *ℤ pos d) (met 0 r (omega arith)) (signs 0 r (omega arith)) in
    let rest : (right_product ys rows *ℤ pos d) ≤ℤ weighted ys (λ i. f (suc i)) =
    worth_ge_right ys rows (λ i. f (suc i)) d (omega (arith, same)) (λ i row below. met (suc i) row (omega (arith, below))) (λ i row below. signs (suc i) row (omega (arith, below))) in
    let spread : ((y *ℤ r.1) +ℤ right_product ys rows) *ℤ pos d ≡ ((y *ℤ r.1) *ℤ pos d) +ℤ (right_product ys rows *ℤ pos d) = dist_right_int (y *ℤ r.1) (right_product ys rows) (pos d) in
    let turned : (y *ℤ r.1) *ℤ pos d ≡ y *ℤ (r.1 *ℤ pos d) = mul_assoc_int y r.1 (pos d) in
    omega (arith, ints, here, rest, spread, turned)
  where
    one_row : (s : Sense) (y total right : ℤ) → MeetsSense s total right → AtMostZeroSense s y → (y *ℤ right) ≤ℤ (y *ℤ total)
    one_row Equal y total right m z = subst (λ (t : ℤ). (y *ℤ right) ≤ℤ (y *ℤ t)) (sym m) (omega (arith, ints))
    one_row AtMost y total right m z = ge_times y total right z m

-- no multipliers over e that meet every row cost less than the prices over f are worth
weak_duality : (rows : List Row) (columns : List Column) (costs : List ℤ) (e f : ℕ) (js ys : List ℤ) → length ys ≡ length rows → length costs ≡ length columns → IsSpreadAt rows columns e js → AreDualPricesAt rows columns costs f ys → (right_product ys rows *ℤ pos e) ≤ℤ (cost_sum js costs *ℤ pos f)
weak_duality rows columns costs e f js ys count priced spread duals =
    let right : (right_product ys rows *ℤ pos e) ≤ℤ weighted ys (row_sum js columns) = worth_ge_right ys rows (row_sum js columns) e count spread.met duals.signs in
    let left : worth_of ys js columns ≤ℤ (cost_sum js costs *ℤ pos f) = worth_le_cost ys js columns costs f spread.not_negative priced duals.products in
    let same : weighted ys (row_sum js columns) ≡ worth_of ys js columns = by_columns ys js columns in
    omega (arith, ints, right, left, same)

scaled_length : (d : ℕ) (ys : List Fraction) (ks : List ℤ) → IsScaled d ys ks → length ks ≡ length ys
scaled_length d [] [] h = refl
scaled_length d [] (k ∷ ks) h = absurd h
scaled_length d (y ∷ ys) [] h = absurd h
scaled_length d (y ∷ ys) (k ∷ ks) h = let rest : length ks ≡ length ys = scaled_length d ys ks h.1 in omega (arith, rest)

-- so multipliers that cost what dual prices are worth cost least
pub least_by_duals : (rows : List Row) (columns : List Column) (costs : List ℤ) (xs ys : List Fraction) → length costs ≡ length columns → AreDualPrices rows columns costs ys → AreWorthTheCost rows costs xs ys → CostLeast rows columns costs xs
least_by_duals rows columns costs xs ys priced duals worth d e ks js p q scaled spread =
    let f : ℕ = duals.denominator in
    let count : length duals.numbers ≡ length rows = scaled_length f ys duals.numbers duals.scaled ∙ duals.count in
    let weak : (right_product duals.numbers rows *ℤ pos e) ≤ℤ (cost_sum js costs *ℤ pos f) =
    weak_duality rows columns costs e f js duals.numbers count priced spread (duals.every f duals.numbers duals.positive duals.scaled) in
    let same : right_product duals.numbers rows *ℤ pos d ≡ cost_sum ks costs *ℤ pos f = worth d f ks duals.numbers p duals.positive scaled duals.scaled in
    let more : ((right_product duals.numbers rows *ℤ pos e) *ℤ pos d) ≤ℤ ((cost_sum js costs *ℤ pos f) *ℤ pos d) = le_mul _ _ d weak in
    le_cancel (cost_sum ks costs *ℤ pos e) (cost_sum js costs *ℤ pos d) f duals.positive
    (subst (λ (z : ℤ). z ≤ℤ ((cost_sum js costs *ℤ pos d) *ℤ pos f)) (mul_swap_int (right_product duals.numbers rows) (pos e) (pos d) ∙ ap (λ (z : ℤ). z *ℤ pos e) same ∙ mul_swap_int (cost_sum ks costs) (pos f) (pos e))
    (subst (λ (z : ℤ). ((right_product duals.numbers rows *ℤ pos e) *ℤ pos d) ≤ℤ z) (mul_swap_int (cost_sum js costs) (pos f) (pos d)) more))
