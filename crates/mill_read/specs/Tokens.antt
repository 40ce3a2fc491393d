-- What the words of a file stand for.
use Rattle.std.specs.Prelude.{◌≡◌, ℕ, true, List, map}
use Rattle.std.specs.List.{AllZip}
use Rattle.std.specs.Str.Parse.{digits_value}
use Rattle.mill_read.specs.Words.{words, is_number}

pub data Token : Type 0 where
  Numeral : ℕ → Token
  Keyword : List ℕ → Token

-- a number is spelled by digits alone, maybe with leading zeros, and a keyword as it is
abbrev pub Spells : List ℕ → Token → Type 0
Spells word (Numeral n) = (is_number word ≡ true) × (digits_value 10 word ≡ n)
Spells word (Keyword bytes) = word ≡ bytes

abbrev pub numerals : List ℕ → List Token
numerals numbers = map (λ n. Numeral n) numbers

-- the words of a text spell these tokens, each word one, and no word is left
abbrev pub AreWordsOf : List ℕ → List Token → Type 0
AreWordsOf bytes tokens = AllZip Spells (words bytes) tokens
