-- What the readers of one word and of many words answer.
use Rattle.std.specs.Prelude.{ℕ, ◌+◌, ◌==◌, Bool, List, [], ◌∷◌, Option, Some, None, if◌then◌else◌, length}
use Rattle.std.specs.List.{list_all, prefix_len}
use Rattle.std.specs.Char.{is_ascii_digit}
use Rattle.cert_view.specs.declared.number.Number.{Number}
use Rattle.cert_view.specs.declared.number.Number.TheVariants.{Within, Beyond}
use Rattle.cert_view.specs.Number.{is_number, is_within, number_value}

-- how many bytes at the front are an optional `-` and digits
abbrev pub front_len : List ℕ → ℕ
front_len [] = 0
front_len (b ∷ bytes) = if b == 45 then 1 + prefix_len is_ascii_digit bytes else prefix_len is_ascii_digit (b ∷ bytes)

-- the number of a word that spells one
abbrev pub number_of : List ℕ → Number
number_of word = if is_within word then Within (number_value word) else Beyond

-- the number that a word spells, if it spells one
unfoldable pub read_number : List ℕ → Option Number
read_number word = if is_number word then Some (number_of word) else None

-- how many numbers the words are, and whether all are in the range; nothing where one is no number
abbrev pub count_of : List (List ℕ) → Option (ℕ × Bool)
count_of words = if list_all is_number words then Some (length words, list_all is_within words) else None
