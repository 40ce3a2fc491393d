-- Laws of products and sums of signed numbers.
use Rattle.std.proofs.Common.{◌≡◌, ℕ, ◌+◌, ◌*◌, ◌<◌, arith, refl, ap, sym, ◌∙◌}
use Rattle.std.specs.Prelude.{ℤ, pos, ◌+ℤ◌, ◌-ℤ◌, ◌*ℤ◌}
use Rattle.std.proofs.lemmas.Int.{ints}
use native.Mathlib.Nat.{eq_of_mul-eq-mul_right}
use borrow.Author.Differences.{up, down, product_is, sum_is_lem, same_in}

pub up-mul : (a b : ℤ) → up (a *ℤ b) ≡ up a * up b + down a * down b
up-mul a b = (product_is a b).0

pub down-mul : (a b : ℤ) → down (a *ℤ b) ≡ up a * down b + down a * up b
down-mul a b = (product_is a b).1

pub mul_comm_int : (a b : ℤ) → a *ℤ b ≡ b *ℤ a
mul_comm_int a b = omega (arith, ints)

pub mul_assoc_int : (a b c : ℤ) → (a *ℤ b) *ℤ c ≡ a *ℤ (b *ℤ c)
mul_assoc_int a b c = same_in _ _ (simp (up-mul, down-mul) (omega arith))

pub mul_swap_int : (a b c : ℤ) → (a *ℤ b) *ℤ c ≡ (a *ℤ c) *ℤ b
mul_swap_int a b c = same_in _ _ (simp (up-mul, down-mul) (omega arith))

pub dist_right_int : (a b c : ℤ) → (a +ℤ b) *ℤ c ≡ (a *ℤ c) +ℤ (b *ℤ c)
dist_right_int a b c =
    let u : up c * (up (a +ℤ b) + down a + down b) ≡ up c * (down (a +ℤ b) + up a + up b) = ap (λ x. up c * x) (sum_is_lem a b) in
    let d : down c * (up (a +ℤ b) + down a + down b) ≡ down c * (down (a +ℤ b) + up a + up b) = ap (λ x. down c * x) (sum_is_lem a b) in
    omega (arith, ints, u, d)

pub dist_left_int : (a b c : ℤ) → c *ℤ (a +ℤ b) ≡ (c *ℤ a) +ℤ (c *ℤ b)
dist_left_int a b c = grind (arith, mul_comm_int c (a +ℤ b), mul_comm_int c a, mul_comm_int c b, dist_right_int a b c)

pub dist_sub_right_int : (a b c : ℤ) → (a -ℤ b) *ℤ c ≡ (a *ℤ c) -ℤ (b *ℤ c)
dist_sub_right_int a b c =
    let back : (a -ℤ b) +ℤ b ≡ a = omega (arith, ints) in
    let spread : ((a -ℤ b) +ℤ b) *ℤ c ≡ ((a -ℤ b) *ℤ c) +ℤ (b *ℤ c) = dist_right_int (a -ℤ b) b c in
    let whole : ((a -ℤ b) *ℤ c) +ℤ (b *ℤ c) ≡ a *ℤ c = sym spread ∙ ap (λ (z : ℤ). z *ℤ c) back in
    omega (arith, ints, whole)

-- a factor that is equal on both sides, above 0
pub mul_cancel_pos : (a b : ℤ) (n : ℕ) → 0 < n → a *ℤ pos n ≡ b *ℤ pos n → a ≡ b
mul_cancel_pos a b n p e =
    same_in a b
    (eq_of_mul-eq-mul_right n p (up a + down b) (up b + down a)
    (spread n a b ∙ both (a *ℤ pos n) (b *ℤ pos n) e ∙ sym (spread n b a)))
  where
    spread : (n : ℕ) (a b : ℤ) → (up a + down b) * n ≡ up (a *ℤ pos n) + down (b *ℤ pos n)
    spread n a b = rw (up-mul a (pos n), down-mul b (pos n)) (omega arith)

    both : (x y : ℤ) → x ≡ y → up x + down y ≡ up y + down x
    both x y e = rw e refl
