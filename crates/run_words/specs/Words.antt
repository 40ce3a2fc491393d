-- The words of a command line: which of them name a mill, how one is read, and which is the first that can't stand.
use Rattle.std.specs.Prelude.{ℕ, Bool, false, ◌==◌, ◌&&◌, not, nat_le, List, [], ◌∷◌, if◌then◌else◌, Option, Some, None, Result, Ok, Err}
use Rattle.std.specs.Borrow.{Bor}
use Rattle.std.specs.Option.{option_map, option_and_then}
use Rattle.std.specs.Str.{bytes_eq}
use Rattle.std.specs.Str.Parse.{digits_value}
use Rattle.std.specs.Fmt.{decimal}

-- ---- the mill that is asked about

-- where a mill comes from: an order file, a yard file where one is named, and a colour limit
pub record MillWords : Type 0 where
  pub orders : List ℕ
  pub yard : Option (List ℕ)
  pub colours : ℕ

-- where the words name none
abbrev pub default_colours : ℕ
default_colours = 2

-- ---- one word

-- a value, or the number of the first word that can't stand, or of the one that is missing
abbrev pub Parsed : Type 0 → Type 0
Parsed A = Result A ℕ

infixl 10 ◌>>=◌
abbrev pub ◌>>=◌ : {A B : Type 0} → Parsed A → (A → Parsed B) → Parsed B
(Ok x) >>= f = f x
(Err number) >>= f = Err number

-- a file word isn't empty, and doesn't begin with `-`
abbrev pub is_file_word : List ℕ → Bool
is_file_word [] = false
is_file_word (first ∷ bytes) = not (first == 45)

abbrev pub file_named : List ℕ → Option (List ℕ)
file_named word = if is_file_word word then Some word else None

-- the number within these bounds whose decimal text the word is, if it is one's
abbrev pub number_named : ℕ → ℕ → List ℕ → Option ℕ
number_named least most word =
    if bytes_eq word (decimal (digits_value 10 word)) && (nat_le least (digits_value 10 word) && nat_le (digits_value 10 word) most)
    then Some (digits_value 10 word) else None

-- ---- words in their places

-- what is read, or the number of its word
abbrev pub or_at : {A : Type 0} → ℕ → Option A → Parsed A
or_at number None = Err number
or_at number (Some value) = Ok value

-- the word that stands first has this number and is read so; and the words after it
abbrev pub word_at : {A : Type 0} → (List ℕ → Option A) → ℕ → List (List ℕ) → Parsed (A × List (List ℕ))
word_at reading number [] = Err number
word_at reading number (word ∷ words) = or_at number (reading word) >>= λ value. Ok (value, words)

-- a word that may be missing has this number and is read so
abbrev pub given_at : {A : Type 0} → (List ℕ → Option A) → ℕ → Option (List ℕ) → Parsed A
given_at reading number word = or_at number (option_and_then reading word)

-- two words more for each option that is given
abbrev pub words_for : {A : Type 0} → Option A → ℕ
words_for None = 0
words_for (Some value) = 2

-- ---- names that code holds

-- the bytes of a name that may be missing
abbrev pub name_bytes : Option (Bor (List ℕ)) → Option (List ℕ)
name_bytes name = option_map (λ name. name.now) name

abbrev pub named_mill : Bor (List ℕ) → Option (Bor (List ℕ)) → ℕ → MillWords
named_mill orders yard colours = record { orders = orders.now; yard = name_bytes yard; colours = colours }
