-- The product of a master's numbers with the right sides is what the prices say of the worth, and the senses say their signs.
use Rattle.std.proofs.Common.{◌≡◌, ℕ, zero, suc, ◌+◌, ◌<◌, ℤ, pos, ◌+ℤ◌, ◌*ℤ◌, List, [], ◌∷◌, ◌++◌, length, map, get_or, take, drop, replicate, refl, ap, ◌∙◌, arith, Option, Some, None}
use Rattle.std.specs.Prelude.{◌-ℤ◌}
use Rattle.std.proofs.lemmas.Int.{ints}
use Rattle.std.proofs.lemmas.List.{get_or-drop}
use Rattle.std.proofs.Math.IntN.{*ℤ_comm, zero-*ℤ}
use Rattle.mill_model.specs.declared.limits.Limits.{Limits}
use Rattle.mill_model.specs.Mill.{Mill}
use Rattle.mill_model.specs.SignedSums.{total_by}
use Rattle.mill_model.specs.Limits.{number_of}
use Rattle.mill_model.proofs.Signed.{mul_zero}
use Rattle.slab_master.specs.declared.given.Sense.{Sense}
use Rattle.slab_master.specs.declared.given.Sense.TheVariants.{Equal, AtMost}
use Rattle.slab_master.specs.Given.{Row}
use Rattle.slab_master.specs.Sums.{number_at, right_product}
use Rattle.slab_relax.specs.Rows.{loss_row, count_row, rows_of}
use Rattle.slab_relax.specs.Duals.{turned, price_of, prices_of}
use Rattle.slab_relax.proofs.Products.{turned_times}

one_times : (z : ℤ) → z *ℤ pos 1 ≡ z
one_times z = *ℤ_comm z (pos 1) ∙ omega (arith, ints)

right_ones : (n : ℕ) (sense : Sense) (ys : List ℤ) (rest : List Row) → right_product ys (replicate n (sense, pos 1) ++ rest) ≡ total_by (λ q. q) (take n ys) +ℤ right_product (drop n ys) rest
right_ones zero sense ys rest = omega (arith, ints)
right_ones (suc n) sense [] rest = refl
right_ones (suc n) sense (y ∷ ys) rest = omega (arith, ints, right_ones n sense ys rest, one_times y)

right_none : (ys : List ℤ) → right_product ys [] ≡ pos 0
right_none [] = refl
right_none (y ∷ ys) = refl

right_two : (ys : List ℤ) (a b : ℤ) → right_product ys ((AtMost, a) ∷ (AtMost, b) ∷ []) ≡ number_at ys 0 *ℤ a +ℤ number_at ys 1 *ℤ b
right_two [] a b = omega (arith, ints, zero-*ℤ a, zero-*ℤ b)
right_two (y ∷ []) a b = omega (arith, ints, zero-*ℤ b)
right_two (y ∷ z ∷ ys) a b = omega (arith, ints, right_none ys)

turned_total : (ys : List ℤ) → total_by (λ q. q) (map turned ys) ≡ turned (total_by (λ q. q) ys)
turned_total [] = refl
turned_total (y ∷ ys) = omega (arith, ints, turned_total ys)

limit_term : (y : ℤ) (limit : Option ℤ) → y *ℤ number_of limit ≡ turned (price_of limit y *ℤ number_of limit)
limit_term y None = omega (arith, ints, mul_zero y, mul_zero (pos 0))
limit_term y (Some a) = omega (arith, ints, turned_times y a)

-- what the right sides come to
pub right_is_worth : (m : Mill) (limits : Limits) (ys : List ℤ)
    → right_product ys (rows_of m limits) ≡ (total_by (λ q. q) (prices_of m limits ys).pi -ℤ ((prices_of m limits ys).lambda *ℤ number_of limits.loss +ℤ (prices_of m limits ys).mu *ℤ number_of limits.count +ℤ total_by (λ q. q) (prices_of m limits ys).sigma))
right_is_worth m limits ys =
    let pi : ℤ = total_by (λ q. q) (prices_of m limits ys).pi in
    let rest : ℤ = right_product (drop (length m.orders) ys) (replicate (length m.yard) (AtMost, pos 1) ++ ((AtMost, number_of limits.loss) ∷ (AtMost, number_of limits.count) ∷ [])) in
    let yard : ℤ = total_by (λ q. q) (take (length m.yard) (drop (length m.orders) ys)) in
    let two : ℤ = right_product (drop (length m.yard) (drop (length m.orders) ys)) ((AtMost, number_of limits.loss) ∷ (AtMost, number_of limits.count) ∷ []) in
    let sigma : ℤ = total_by (λ q. q) (prices_of m limits ys).sigma in
    let lambda : ℤ = (prices_of m limits ys).lambda *ℤ number_of limits.loss in
    let mu : ℤ = (prices_of m limits ys).mu *ℤ number_of limits.count in
    let first : ℤ = number_at (drop (length m.yard) (drop (length m.orders) ys)) 0 *ℤ number_of limits.loss in
    let second : ℤ = number_at (drop (length m.yard) (drop (length m.orders) ys)) 1 *ℤ number_of limits.count in
    let first_index : length m.orders + (length m.yard + 0) ≡ loss_row m = omega arith in
    let second_index : length m.orders + (length m.yard + 1) ≡ count_row m = omega arith in
    let first_at : number_at (drop (length m.yard) (drop (length m.orders) ys)) 0 ≡ number_at ys (loss_row m) = get_or-drop (length m.yard) (drop (length m.orders) ys) 0 (pos 0) ∙ get_or-drop (length m.orders) ys (length m.yard + 0) (pos 0) ∙ ap (number_at ys) first_index in
    let second_at : number_at (drop (length m.yard) (drop (length m.orders) ys)) 1 ≡ number_at ys (count_row m) = get_or-drop (length m.yard) (drop (length m.orders) ys) 1 (pos 0) ∙ get_or-drop (length m.orders) ys (length m.yard + 1) (pos 0) ∙ ap (number_at ys) second_index in
    let loss_part : number_at (drop (length m.yard) (drop (length m.orders) ys)) 0 *ℤ number_of limits.loss ≡ turned ((prices_of m limits ys).lambda *ℤ number_of limits.loss) = ap (λ (z : ℤ). z *ℤ number_of limits.loss) first_at ∙ limit_term (number_at ys (loss_row m)) limits.loss in
    let count_part : number_at (drop (length m.yard) (drop (length m.orders) ys)) 1 *ℤ number_of limits.count ≡ turned ((prices_of m limits ys).mu *ℤ number_of limits.count) = ap (λ (z : ℤ). z *ℤ number_of limits.count) second_at ∙ limit_term (number_at ys (count_row m)) limits.count in
    join (right_product ys (rows_of m limits)) pi rest yard two sigma first second lambda mu (right_ones (length m.orders) Equal ys (replicate (length m.yard) (AtMost, pos 1) ++ ((AtMost, number_of limits.loss) ∷ (AtMost, number_of limits.count) ∷ [])))
    (right_ones (length m.yard) AtMost (drop (length m.orders) ys) ((AtMost, number_of limits.loss) ∷ (AtMost, number_of limits.count) ∷ []))
    (right_two (drop (length m.yard) (drop (length m.orders) ys)) (number_of limits.loss) (number_of limits.count))
    (turned_total (take (length m.yard) (drop (length m.orders) ys)))
    loss_part count_part
  where
    join : (whole pi rest yard two sigma a b lambda mu : ℤ) → whole ≡ pi +ℤ rest → rest ≡ yard +ℤ two → two ≡ a +ℤ b → sigma ≡ turned yard → a ≡ turned lambda → b ≡ turned mu → whole ≡ (pi -ℤ (lambda +ℤ mu +ℤ sigma))
    join whole pi rest yard two sigma a b lambda mu e f g h i j = omega (arith, ints)

-- ---- the rows

past_ones : {X : Type 0} (n i : ℕ) (x d : X) (rest : List X) → get_or (replicate n x ++ rest) (n + i) d ≡ get_or rest i d
past_ones zero i x d rest = let e : 0 + i ≡ i = omega arith in ap (λ (j : ℕ). get_or rest j d) e
past_ones (suc n) i x d rest = let e : suc n + i ≡ suc (n + i) = omega arith in ap (λ (j : ℕ). get_or (replicate (suc n) x ++ rest) j d) e ∙ past_ones n i x d rest

among_ones : {X : Type 0} (n i : ℕ) (x d : X) (rest : List X) → i < n → get_or (replicate n x ++ rest) i d ≡ x
among_ones zero i x d rest h = absurd (omega arith)
among_ones (suc n) zero x d rest h = refl
among_ones (suc n) (suc i) x d rest h = among_ones n i x d rest (omega arith)

pub row_of_order : (m : Mill) (limits : Limits) (o : ℕ) (d : Row) → o < length m.orders → get_or (rows_of m limits) o d ≡ (Equal, pos 1)
row_of_order m limits o d h = among_ones (length m.orders) o (Equal, pos 1) d _ h

pub row_of_slab : (m : Mill) (limits : Limits) (s : ℕ) (d : Row) → s < length m.yard → get_or (rows_of m limits) (length m.orders + s) d ≡ (AtMost, pos 1)
row_of_slab m limits s d h = past_ones (length m.orders) s (Equal, pos 1) d _ ∙ among_ones (length m.yard) s (AtMost, pos 1) d _ h

past_both : (m : Mill) (limits : Limits) (i : ℕ) (d : Row) → get_or (rows_of m limits) (length m.orders + (length m.yard + i)) d ≡ get_or ((AtMost, number_of limits.loss) ∷ (AtMost, number_of limits.count) ∷ []) i d
past_both m limits i d = past_ones (length m.orders) (length m.yard + i) (Equal, pos 1) d _ ∙ past_ones (length m.yard) i (AtMost, pos 1) d _

pub row_of_loss : (m : Mill) (limits : Limits) (d : Row) → get_or (rows_of m limits) (loss_row m) d ≡ (AtMost, number_of limits.loss)
row_of_loss m limits d = let e : loss_row m ≡ length m.orders + (length m.yard + 0) = omega arith in ap (λ (j : ℕ). get_or (rows_of m limits) j d) e ∙ past_both m limits 0 d

pub row_of_count : (m : Mill) (limits : Limits) (d : Row) → get_or (rows_of m limits) (count_row m) d ≡ (AtMost, number_of limits.count)
row_of_count m limits d = let e : count_row m ≡ length m.orders + (length m.yard + 1) = omega arith in ap (λ (j : ℕ). get_or (rows_of m limits) j d) e ∙ past_both m limits 1 d

length_ones : {X : Type 0} (n : ℕ) (x : X) (rest : List X) → length (replicate n x ++ rest) ≡ n + length rest
length_ones zero x rest = omega arith
length_ones (suc n) x rest = omega (arith, length_ones n x rest)

pub length_rows : (m : Mill) (limits : Limits) → length (rows_of m limits) ≡ length m.orders + length m.yard + 2
length_rows m limits =
    let last : List Row = (AtMost, number_of limits.loss) ∷ (AtMost, number_of limits.count) ∷ [] in
    let one : Row = (AtMost, pos 1) in
    let order : Row = (Equal, pos 1) in
    let inner : length (replicate (length m.yard) one ++ last) ≡ length m.yard + length last = length_ones (length m.yard) one last in
    let outer : length (replicate (length m.orders) order ++ (replicate (length m.yard) one ++ last)) ≡ length m.orders + length (replicate (length m.yard) one ++ last) = length_ones (length m.orders) order (replicate (length m.yard) one ++ last) in
    omega (arith, inner, outer)
