-- Laws of signed numbers and their sums.
use Rattle.std.proofs.Common.{◌≡◌, ℕ, zero, suc, ◌+◌, ◌<◌, ℤ, pos, negsuc, ◌+ℤ◌, ◌*ℤ◌, ◌≤ℤ◌, ◌<ℤ◌, Bool, true, false, cond, List, [], ◌∷◌, ◌++◌, length, get_or, take, sum_by, sym, refl, ap, ◌∙◌, arith}
use Rattle.std.specs.List.{AllByRecursion}
use Rattle.std.proofs.lemmas.Int.{ints}
use Rattle.std.proofs.lemmas.List.{take_more}
use Rattle.std.proofs.lemmas.List.Sums.{sum_by-cons}
use Rattle.std.proofs.Math.IntN.{suc_ℤ-*ℤ, pred_ℤ-*ℤ, *ℤ_comm, zero-*ℤ}
use Rattle.mill_model.specs.SignedSums.{total_by, total_below}

mul_add_pos : (n : ℕ) (b c : ℤ) → pos n *ℤ (b +ℤ c) ≡ pos n *ℤ b +ℤ pos n *ℤ c
mul_add_pos zero b c = rw (zero-*ℤ (b +ℤ c), zero-*ℤ b, zero-*ℤ c) refl
mul_add_pos (suc n) b c = omega (arith, ints, mul_add_pos n b c, suc_ℤ-*ℤ (pos n) (b +ℤ c), suc_ℤ-*ℤ (pos n) b, suc_ℤ-*ℤ (pos n) c)

mul_add_neg : (n : ℕ) (b c : ℤ) → negsuc n *ℤ (b +ℤ c) ≡ negsuc n *ℤ b +ℤ negsuc n *ℤ c
mul_add_neg zero b c = omega (arith, ints, pred_ℤ-*ℤ (pos 0) (b +ℤ c), pred_ℤ-*ℤ (pos 0) b, pred_ℤ-*ℤ (pos 0) c)
mul_add_neg (suc n) b c = omega (arith, ints, mul_add_neg n b c, pred_ℤ-*ℤ (negsuc n) (b +ℤ c), pred_ℤ-*ℤ (negsuc n) b, pred_ℤ-*ℤ (negsuc n) c)

pub mul_add : (a b c : ℤ) → a *ℤ (b +ℤ c) ≡ a *ℤ b +ℤ a *ℤ c
mul_add (pos n) b c = mul_add_pos n b c
mul_add (negsuc n) b c = mul_add_neg n b c

pub mul_le_pos : (n : ℕ) (b c : ℤ) → b ≤ℤ c → (pos n *ℤ b) ≤ℤ (pos n *ℤ c)
mul_le_pos zero b c q = omega (arith, ints)
mul_le_pos (suc n) b c q = omega (arith, ints, mul_le_pos n b c q, suc_ℤ-*ℤ (pos n) b, suc_ℤ-*ℤ (pos n) c)

pub mul_le : (a b c : ℤ) → pos 0 ≤ℤ a → b ≤ℤ c → (a *ℤ b) ≤ℤ (a *ℤ c)
mul_le (pos n) b c p q = mul_le_pos n b c q
mul_le (negsuc n) b c p q = absurd (omega (arith, ints))

pub mul_zero : (a : ℤ) → a *ℤ pos 0 ≡ pos 0
mul_zero a = *ℤ_comm a (pos 0) ∙ zero-*ℤ a

-- x parts of a sum, for a natural x
pub mul_assoc_pos : (n : ℕ) (b c : ℤ) → pos n *ℤ (b *ℤ c) ≡ b *ℤ (pos n *ℤ c)
mul_assoc_pos zero b c = zero-*ℤ (b *ℤ c) ∙ sym (ap (λ z. b *ℤ z) (zero-*ℤ c) ∙ mul_zero b)
mul_assoc_pos (suc n) b c = omega (arith, ints, mul_assoc_pos n b c, suc_ℤ-*ℤ (pos n) (b *ℤ c), suc_ℤ-*ℤ (pos n) c, mul_add b (pos n *ℤ c) c, ap (λ z. b *ℤ z) (suc_ℤ-*ℤ (pos n) c))

-- ---- sums over a list

pub total_by-add : {X : Type 0} (f g : X → ℤ) (xs : List X) → total_by (λ x. f x +ℤ g x) xs ≡ total_by f xs +ℤ total_by g xs
total_by-add f g [] = refl
total_by-add f g (x ∷ xs) = omega (arith, ints, total_by-add f g xs)

pub total_by-scale : {X : Type 0} (a : ℤ) (f : X → ℤ) (xs : List X) → total_by (λ x. a *ℤ f x) xs ≡ a *ℤ total_by f xs
total_by-scale a f [] = sym (mul_zero a)
total_by-scale a f (x ∷ xs) = omega (arith, ints, total_by-scale a f xs, mul_add a (f x) (total_by f xs))

pub total_by-ext : {X : Type 0} (f g : X → ℤ) (xs : List X) → ((x : X) → f x ≡ g x) → total_by f xs ≡ total_by g xs
total_by-ext f g [] e = refl
total_by-ext f g (x ∷ xs) e = omega (arith, ints, total_by-ext f g xs e, e x)

-- a sum of naturals
pub total_by-pos : {X : Type 0} (f : X → ℕ) (xs : List X) → total_by (λ x. pos (f x)) xs ≡ pos (sum_by f xs)
total_by-pos f [] = refl
total_by-pos f (x ∷ xs) = omega (arith, ints, total_by-pos f xs, sum_by-cons f x xs)

-- ---- sums over the numbers below n

pub total_below-ext : (n : ℕ) (f g : ℕ → ℤ) → ((i : ℕ) → i < n → f i ≡ g i) → total_below n f ≡ total_below n g
total_below-ext zero f g e = refl
total_below-ext (suc n) f g e = omega (arith, ints, total_below-ext n f g (λ i h. e i (omega arith)), e n (omega arith))

pub total_below-le : (n : ℕ) (f g : ℕ → ℤ) → ((i : ℕ) → i < n → f i ≤ℤ g i) → total_below n f ≤ℤ total_below n g
total_below-le zero f g e = omega (arith, ints)
total_below-le (suc n) f g e = omega (arith, ints, total_below-le n f g (λ i h. e i (omega arith)), e n (omega arith))

pub total_below-add : (n : ℕ) (f g : ℕ → ℤ) → total_below n (λ i. f i +ℤ g i) ≡ total_below n f +ℤ total_below n g
total_below-add zero f g = refl
total_below-add (suc n) f g = omega (arith, ints, total_below-add n f g)

pub total_below-zero : (n : ℕ) → total_below n (λ _. pos 0) ≡ pos 0
total_below-zero zero = refl
total_below-zero (suc n) = omega (arith, ints, total_below-zero n)

pub total_below-scale : (a : ℤ) (n : ℕ) (f : ℕ → ℤ) → total_below n (λ i. a *ℤ f i) ≡ a *ℤ total_below n f
total_below-scale a zero f = sym (mul_zero a)
total_below-scale a (suc n) f = omega (arith, ints, total_below-scale a n f, mul_add a (total_below n f) (f n))

-- a first term apart
pub total_below-first : (n : ℕ) (f : ℕ → ℤ) → total_below (suc n) f ≡ f 0 +ℤ total_below n (λ i. f (suc i))
total_below-first zero f = omega (arith, ints)
total_below-first (suc n) f = omega (arith, ints, total_below-first n f)

-- the sum of a list, by its indices
pub total_by_at : {X : Type 0} (f : X → ℤ) (d : X) (xs : List X) → total_by f xs ≡ total_below (length xs) (λ i. f (get_or xs i d))
total_by_at f d [] = refl
total_by_at f d (x ∷ xs) = omega (arith, ints, total_by_at f d xs, total_below-first (length xs) (λ i. f (get_or (x ∷ xs) i d)))

-- double counting: sum the rows first, or the columns
pub total_swap : {X : Type 0} (n : ℕ) (f : ℕ → X → ℤ) (xs : List X) → total_below n (λ i. total_by (f i) xs) ≡ total_by (λ x. total_below n (λ i. f i x)) xs
total_swap n f [] = total_below-zero n
total_swap n f (x ∷ xs) = omega (arith, ints, total_swap n f xs, total_below-add n (λ i. f i x) (λ i. total_by (f i) xs))

pub mul_lt_pos : (n : ℕ) (b c : ℤ) → 0 < n → b <ℤ c → (pos n *ℤ b) <ℤ (pos n *ℤ c)
mul_lt_pos zero b c p q = absurd (omega arith)
mul_lt_pos (suc n) b c p q = omega (arith, ints, mul_le_pos n b c (omega (arith, ints)), suc_ℤ-*ℤ (pos n) b, suc_ℤ-*ℤ (pos n) c)

-- a weight for each number below n, and for each item the numbers that it passes and how often it counts: sum by number, or by item
pub double_count : {X : Type 0} (n : ℕ) (weight : ℕ → ℤ) (test : ℕ → X → Bool) (times : X → ℕ) (xs : List X)
    → total_below n (λ i. weight i *ℤ pos (sum_by (λ x. cond (test i x) (times x) 0) xs)) ≡ total_by (λ x. pos (times x) *ℤ total_below n (λ i. cond (test i x) (weight i) (pos 0))) xs
double_count n weight test times xs =
    total_below-ext n (λ i. weight i *ℤ pos (sum_by (λ x. cond (test i x) (times x) 0) xs)) (λ i. total_by (λ x. pos (times x) *ℤ cond (test i x) (weight i) (pos 0)) xs) (λ i h. row i)
    ∙ total_swap n (λ i x. pos (times x) *ℤ cond (test i x) (weight i) (pos 0)) xs
    ∙ total_by-ext (λ x. total_below n (λ i. pos (times x) *ℤ cond (test i x) (weight i) (pos 0))) (λ x. pos (times x) *ℤ total_below n (λ i. cond (test i x) (weight i) (pos 0))) xs (λ x. total_below-scale (pos (times x)) n (λ i. cond (test i x) (weight i) (pos 0)))
  where
    cell : (b : Bool) (w : ℤ) (t : ℕ) → w *ℤ pos (cond b t 0) ≡ pos t *ℤ cond b w (pos 0)
    cell true w t = *ℤ_comm w (pos t)
    cell false w t = mul_zero w ∙ sym (mul_zero (pos t))

    row : (i : ℕ) → weight i *ℤ pos (sum_by (λ x. cond (test i x) (times x) 0) xs) ≡ total_by (λ x. pos (times x) *ℤ cond (test i x) (weight i) (pos 0)) xs
    row i =
        ap (λ z. weight i *ℤ z) (sym (total_by-pos (λ x. cond (test i x) (times x) 0) xs))
        ∙ sym (total_by-scale (weight i) (λ x. pos (cond (test i x) (times x) 0)) xs)
        ∙ total_by-ext (λ x. weight i *ℤ pos (cond (test i x) (times x) 0)) (λ x. pos (times x) *ℤ cond (test i x) (weight i) (pos 0)) xs (λ x. cell (test i x) (weight i) (times x))

-- a bound on each term, where a fact holds of each item
pub total_by-le : {X : Type 0} (P : X → Type 0) (f g : X → ℤ) → ((x : X) → P x → f x ≤ℤ g x) → (xs : List X) → AllByRecursion P xs → total_by f xs ≤ℤ total_by g xs
total_by-le P f g le [] h = omega (arith, ints)
total_by-le P f g le (x ∷ xs) h = omega (arith, ints, total_by-le P f g le xs h.1, le x h.0)

pub total_by-same : {X : Type 0} (P : X → Type 0) (f g : X → ℤ) → ((x : X) → P x → f x ≡ g x) → (xs : List X) → AllByRecursion P xs → total_by f xs ≡ total_by g xs
total_by-same P f g e [] h = refl
total_by-same P f g e (x ∷ xs) h = omega (arith, ints, total_by-same P f g e xs h.1, e x h.0)

pub total_by-ones : {X : Type 0} (xs : List X) → total_by (λ _. pos 1) xs ≡ pos (length xs)
total_by-ones [] = refl
total_by-ones (x ∷ xs) = omega (arith, ints, total_by-ones xs)

pub total_below-ones : (n : ℕ) → total_below n (λ _. pos 1) ≡ pos n
total_below-ones zero = refl
total_below-ones (suc n) = omega (arith, ints, total_below-ones n)

-- a loop's step
pub total_by-append : {X : Type 0} (f : X → ℤ) (xs ys : List X) → total_by f (xs ++ ys) ≡ total_by f xs +ℤ total_by f ys
total_by-append f [] ys = omega (arith, ints)
total_by-append f (x ∷ xs) ys = omega (arith, ints, total_by-append f xs ys)

pub total_by-more : {X : Type 0} (f : X → ℤ) (xs : List X) (i : ℕ) (d : X) → i < length xs → total_by f (take (i + 1) xs) ≡ total_by f (take i xs) +ℤ f (get_or xs i d)
total_by-more f xs i d h = ap (total_by f) (take_more xs i d h) ∙ total_by-append f (take i xs) (get_or xs i d ∷ []) ∙ omega (arith, ints)
