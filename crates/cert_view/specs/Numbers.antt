-- Numbers in a text, each after one space.
use Rattle.std.specs.Prelude.{◌≡◌, ℕ, Bool, true, ◌&&◌, ◌==◌, ℤ, List, [], ◌∷◌, length, drop, map}
use Rattle.std.specs.List.{list_all, slice_split, position_or_len, before_first}
use Rattle.cert_view.specs.Number.{is_number, is_within, number_value}

abbrev pub is_space : ℕ → Bool
is_space b = b == 32

-- the word that a text begins with: what stands before the first space
abbrev pub first_word : List ℕ → List ℕ
first_word text = before_first is_space text

-- the words of a text but the first: each stands after one space
abbrev pub words_after : List ℕ → List (List ℕ)
words_after text = drop 1 (slice_split is_space text)

-- the numbers that the words after the first spell
abbrev pub numbers_of : List ℕ → List ℤ
numbers_of text = map number_value (words_after text)

-- what stands from the first space on
abbrev pub after_word : List ℕ → List ℕ
after_word text = drop (position_or_len is_space text) text

-- nothing, or a space and what follows it
abbrev pub IsSpaced : List ℕ → Type 0
IsSpaced [] = Unit {0}
IsSpaced (b ∷ bytes) = b ≡ 32

-- the word spells a number in the range
abbrev pub is_spelled : List ℕ → Bool
is_spelled word = is_number word && is_within word

-- nothing but numbers in the range, each after one space
pub record AreSpelled (bytes : List ℕ) : Type 0 where
  pub spaced : IsSpaced bytes
  pub numbers : list_all is_spelled (words_after bytes) ≡ true

-- the same, and how many they are
pub record AreCounted (bytes : List ℕ) (count : ℕ) : Type 0 where
  pub spelled : AreSpelled bytes
  pub counted : count ≡ length (words_after bytes)
