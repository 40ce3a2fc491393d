-- White space, words and numbers of a text.
use Rattle.std.specs.Prelude.{ℕ, Bool, true, false, ◌==◌, ◌&&◌, ◌||◌, nat_le, List, [], ◌∷◌, filter}
use Rattle.std.specs.List.{slice_split, list_all}
use Rattle.std.specs.Char.{is_ascii_digit}

-- tabs, line breaks of every kind, and blanks
abbrev pub is_space : ℕ → Bool
is_space b = (nat_le 9 b && nat_le b 13) || (b == 32)

abbrev pub is_filled : List ℕ → Bool
is_filled [] = false
is_filled (b ∷ bytes) = true

-- the longest runs of other bytes, in order: the filled parts between white space
abbrev pub words : List ℕ → List (List ℕ)
words bytes = filter is_filled (slice_split is_space bytes)

-- digits alone; leading zeros may stand
abbrev pub is_number : List ℕ → Bool
is_number word = list_all is_ascii_digit word
