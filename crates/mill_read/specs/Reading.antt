-- Reading words in order: the value that they give, or the first word that can not stand.
use Rattle.std.specs.Prelude.{◌≡◌, ℕ, zero, suc, ◌+◌, ◌&&◌, nat_le, List, [], ◌∷◌, if◌then◌else◌, Result, Ok, Err, MatchResult}
use Rattle.std.specs.Str.Parse.{digits_value}
use Rattle.mill_read.specs.WordsLeft.{WordsLeft}
use Rattle.mill_read.specs.Words.{is_number, words}
use Rattle.mill_read.specs.declared.fault.TextFault.{TextFault}
use Rattle.mill_read.specs.declared.fault.Why.{Why}
use Rattle.mill_read.specs.declared.fault.Why.TheVariants.{Missing, NotNumber, Extra}

-- a value and the words after it, or the first fault
abbrev pub Read : Type 0 → Type 0
Read A = Result (A × WordsLeft) TextFault

infixl 10 ◌>>=◌
abbrev pub ◌>>=◌ : {A B : Type 0} → Result A TextFault → (A → Result B TextFault) → Result B TextFault
(Ok x) >>= f = f x
(Err e) >>= f = Err e

abbrev pub fault : {A : Type 0} → ℕ → Why → Result A TextFault
fault word why = Err (record { word = word; why = why })

-- all words of a text
abbrev pub text : List ℕ → WordsLeft
text bytes = record { number = 1; words = words bytes }

-- the first word, read by item, which is told its number
abbrev pub first_by : {A : Type 0} → (ℕ → List ℕ → Result A TextFault) → ℕ → List (List ℕ) → Read A
first_by item place [] = fault place Missing
first_by item place (word ∷ words) = item place word >>= λ x. Ok (x, record { number = place + 1; words = words })

-- a word as a number in a range; outside means this why
abbrev pub number_in : Why → ℕ → ℕ → ℕ → List ℕ → Result ℕ TextFault
number_in outside low high place word =
    if is_number word
    then (if nat_le low (digits_value 10 word) && nat_le (digits_value 10 word) high then Ok (digits_value 10 word) else fault place outside)
    else fault place NotNumber

unfoldable pub number_at : Why → ℕ → ℕ → WordsLeft → Read ℕ
number_at outside low high left = first_by (number_in outside low high) left.number left.words

-- this many items, one after another
unfoldable pub list_at : {A : Type 0} → (WordsLeft → Read A) → ℕ → WordsLeft → Read (List A)
list_at item zero left = Ok ([], left)
list_at item (suc count) left = do
  first ← item left
  others ← list_at item count first.1
  Ok (first.0 ∷ others.0, others.1)

-- an item, or this at the end of the text
abbrev pub unless_end : {A : Type 0} → A → (WordsLeft → Read A) → ℕ → List (List ℕ) → Read A
unless_end x item place [] = Ok (x, record { number = place; words = [] })
unless_end x item place (word ∷ words) = item (record { number = place; words = word ∷ words })

-- no word is left
abbrev pub no_more : {A : Type 0} → A → ℕ → List (List ℕ) → Result A TextFault
no_more x place [] = Ok x
no_more x place (word ∷ words) = fault place Extra

-- what a reader answered, and left, is what reading gives
abbrev pub GivesAt : {A : Type 0} → Result A TextFault → WordsLeft → Read A → Type 0
GivesAt result left read = MatchResult result (λ value. read ≡ Ok (value, left)) (λ e. read ≡ Err e)
