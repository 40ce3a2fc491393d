-- A number as a word spells it: `0`, or an optional `-` and digits of which the first isn't `0`.
use Rattle.std.specs.Prelude.{ℕ, ◌+◌, ◌*◌, ◌-◌, ◌^◌, ◌≤◌, ℤ, pos, Bool, false, ◌&&◌, ◌||◌, ◌==◌, nat_lt, nat_le, List, [], ◌∷◌, if◌then◌else◌, fold, codes, unsigned_abs}
use Rattle.std.specs.Str.{bytes_eq}
use Rattle.std.specs.List.{list_all}
use Rattle.std.specs.Char.{is_ascii_digit}
use Rattle.std.proofs.Math.IntN.{neg_ℤ}

-- what stands after a `-`, or all
abbrev pub without_sign : List ℕ → List ℕ
without_sign [] = []
without_sign (b ∷ bs) = if b == 45 then bs else b ∷ bs

-- digits of which the first isn't `0`
abbrev pub is_positive : List ℕ → Bool
is_positive [] = false
is_positive (d ∷ ds) = nat_lt 48 d && list_all is_ascii_digit (d ∷ ds)

-- the word is a number, however long
abbrev pub is_number : List ℕ → Bool
is_number word = bytes_eq word (codes "0") || is_positive (without_sign word)

-- a number with one more digit at its end
abbrev pub with_digit : ℕ → ℕ → ℕ
with_digit n d = n * 10 + (d - 48)

-- the number that digits write
abbrev pub digits_value : List ℕ → ℕ
digits_value digits = fold with_digit 0 digits

-- the number that a word spells
abbrev pub number_value : List ℕ → ℤ
number_value [] = pos 0
number_value (b ∷ bs) = if b == 45 then neg_ℤ (pos (digits_value bs)) else pos (digits_value (b ∷ bs))

-- the number that the word spells is at most 2 to the 62nd in absolute value
abbrev pub is_within : List ℕ → Bool
is_within word = nat_le (digits_value (without_sign word)) (2 ^ 62)

-- the number is at most 2 to the 62nd in absolute value
abbrev pub IsWithin : ℤ → Type 0
IsWithin n = unsigned_abs n ≤ 2 ^ 62
