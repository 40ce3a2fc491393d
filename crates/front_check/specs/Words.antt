-- The words of the command line, and the first that can't stand. How one word is read stands in `run_words`.
use Rattle.std.specs.Prelude.{ℕ, ◌+◌, ◌&&◌, is_none, List, [], ◌∷◌, if◌then◌else◌, Option, Some, None, Ok, Err, codes}
use Rattle.std.specs.Option.{unwrap_or}
use Rattle.std.specs.Str.{bytes_eq}
use Rattle.mill_model.specs.Mill.{most_colour_limit}
use Rattle.run_words.specs.Words.{MillWords, default_colours, Parsed, ◌>>=◌, file_named, number_named, word_at, given_at}

-- ---- what is asked of the program

-- a mill, and the file of its certificate
pub record CheckWords : Type 0 where
  pub mill : MillWords
  pub cert : List ℕ

-- ---- options, in any order, each at most once

pub record Options : Type 0 where
  pub yard : Option (List ℕ)
  pub colours : Option ℕ

abbrev pub no_options : Options
no_options = record { yard = None; colours = None }

-- the options with one more: the word that names it, which has this number, and the word after that, where there is one
abbrev pub with_option : ℕ → Options → List ℕ → Option (List ℕ) → Parsed Options
with_option number options name value =
    if bytes_eq name (codes "--yard") && is_none options.yard
    then (given_at file_named (number + 1) value >>= λ file. Ok (record options { yard = Some file }))
    else (if bytes_eq name (codes "--colours") && is_none options.colours
    then (given_at (number_named 1 most_colour_limit) (number + 1) value >>= λ colours. Ok (record options { colours = Some colours }))
    else Err number)

-- all words that are left, of which the first has this number, are options
abbrev pub options_from : ℕ → Options → List (List ℕ) → Parsed Options
options_from number options [] = Ok options
options_from number options (name ∷ []) = with_option number options name None
options_from number options (name ∷ value ∷ words) =
    with_option number options name (Some value) >>= λ more. options_from (number + 2) more words

-- ---- the command

abbrev pub mill_words : List ℕ → Options → MillWords
mill_words orders options = record { orders = orders; yard = options.yard; colours = unwrap_or options.colours default_colours }

abbrev pub check_of : List (List ℕ) → Parsed CheckWords
check_of words = do
  orders ← word_at file_named 2 words
  cert ← word_at file_named 3 orders.1
  options ← options_from 4 no_options cert.1
  Ok (record { mill = mill_words orders.0 options; cert = cert.0 })

-- what the words after the program's name ask for
abbrev pub check_words : List (List ℕ) → Parsed CheckWords
check_words [] = Err 1
check_words (command ∷ words) = if bytes_eq command (codes "check") then check_of words else Err 1
