-- The words of the command line, and the first that can't stand. How one word is read stands in `run_words`.
use Rattle.std.specs.Prelude.{ℕ, ◌+◌, ◌-◌, ◌^◌, Bool, true, false, ◌&&◌, is_none, List, [], ◌∷◌, if◌then◌else◌, Option, Some, None, Ok, Err, codes}
use Rattle.std.specs.Option.{unwrap_or}
use Rattle.std.specs.Str.{bytes_eq}
use Rattle.mill_model.specs.Mill.{most_orders, most_colour_limit}
use Rattle.run_words.specs.Words.{MillWords, default_colours, Parsed, ◌>>=◌, file_named, number_named, word_at, given_at}

-- ---- what is asked of the program

-- the file of the certificate, the most nodes of one question's tree, and the rounds after a first-fit plan with their seed
pub record SearchWords : Type 0 where
  pub cert : List ℕ
  pub nodes : ℕ
  pub rounds : ℕ
  pub seed : ℕ

pub data Command : Type 0 where
  -- a mill, and how it is searched
  Solves : MillWords → SearchWords → Command
  -- a mill, the file of the cut from which the search goes on, and how it is searched
  Resumes : MillWords → List ℕ → SearchWords → Command
  -- a mill and a plan file
  Judges : MillWords → List ℕ → Command
  -- so many orders, and the number that makes them
  Makes : ℕ → ℕ → Command

-- where the words name none
abbrev pub default_nodes : ℕ
default_nodes = 1000000

abbrev pub default_rounds : ℕ
default_rounds = 0

abbrev pub default_seed : ℕ
default_seed = 0

-- the most that the words may name
abbrev pub most_limit : ℕ
most_limit = 1000000000000000

abbrev pub most_rounds : ℕ
most_rounds = 10000

abbrev pub most_seed : ℕ
most_seed = 2 ^ 32 - 1

-- ---- the end of the words

-- the value, where no word is left
abbrev pub end_at : {A : Type 0} → ℕ → A → List (List ℕ) → Parsed A
end_at number value [] = Ok value
end_at number value (word ∷ words) = Err number

-- ---- options, in any order, each at most once

pub record Options : Type 0 where
  pub yard : Option (List ℕ)
  pub nodes : Option ℕ
  pub colours : Option ℕ
  pub rounds : Option ℕ
  pub seed : Option ℕ

abbrev pub no_options : Options
no_options = record { yard = None; nodes = None; colours = None; rounds = None; seed = None }

-- The options with one more that only a search has: the word that names it, which has this number, and the word after that,
-- where there is one.
abbrev pub with_search_option : ℕ → Options → List ℕ → Option (List ℕ) → Parsed Options
with_search_option number options name value =
    if bytes_eq name (codes "--nodes") && is_none options.nodes
    then (given_at (number_named 1 most_limit) (number + 1) value >>= λ nodes. Ok (record options { nodes = Some nodes }))
    else (if bytes_eq name (codes "--rounds") && is_none options.rounds
    then (given_at (number_named 0 most_rounds) (number + 1) value >>= λ rounds. Ok (record options { rounds = Some rounds }))
    else (if bytes_eq name (codes "--seed") && is_none options.seed
    then (given_at (number_named 0 most_seed) (number + 1) value >>= λ seed. Ok (record options { seed = Some seed }))
    else Err number))

-- the options with one more, of a search or not
abbrev pub with_option : Bool → ℕ → Options → List ℕ → Option (List ℕ) → Parsed Options
with_option searches number options name value =
    if bytes_eq name (codes "--yard") && is_none options.yard
    then (given_at file_named (number + 1) value >>= λ file. Ok (record options { yard = Some file }))
    else (if bytes_eq name (codes "--colours") && is_none options.colours
    then (given_at (number_named 1 most_colour_limit) (number + 1) value >>= λ colours. Ok (record options { colours = Some colours }))
    else (if searches then with_search_option number options name value else Err number))

-- all words that are left, of which the first has this number, are options
abbrev pub options_from : Bool → ℕ → Options → List (List ℕ) → Parsed Options
options_from searches number options [] = Ok options
options_from searches number options (name ∷ []) = with_option searches number options name None
options_from searches number options (name ∷ value ∷ words) =
    with_option searches number options name (Some value) >>= λ more. options_from searches (number + 2) more words

-- ---- the commands

abbrev pub mill_words : List ℕ → Options → MillWords
mill_words orders options = record { orders = orders; yard = options.yard; colours = unwrap_or options.colours default_colours }

abbrev pub search_words : List ℕ → Options → SearchWords
search_words cert options = record {
  cert = cert;
  nodes = unwrap_or options.nodes default_nodes;
  rounds = unwrap_or options.rounds default_rounds;
  seed = unwrap_or options.seed default_seed;
}

abbrev pub solve_of : List (List ℕ) → Parsed Command
solve_of words = do
  orders ← word_at file_named 2 words
  cert ← word_at file_named 3 orders.1
  options ← options_from true 4 no_options cert.1
  Ok (Solves (mill_words orders.0 options) (search_words cert.0 options))

abbrev pub resume_of : List (List ℕ) → Parsed Command
resume_of words = do
  orders ← word_at file_named 2 words
  cut ← word_at file_named 3 orders.1
  cert ← word_at file_named 4 cut.1
  options ← options_from true 5 no_options cert.1
  Ok (Resumes (mill_words orders.0 options) cut.0 (search_words cert.0 options))

abbrev pub judge_of : List (List ℕ) → Parsed Command
judge_of words = do
  orders ← word_at file_named 2 words
  plan ← word_at file_named 3 orders.1
  options ← options_from false 4 no_options plan.1
  Ok (Judges (mill_words orders.0 options) plan.0)

abbrev pub make_of : List (List ℕ) → Parsed Command
make_of words = do
  orders ← word_at (number_named 0 most_orders) 2 words
  seed ← word_at (number_named 0 most_seed) 3 orders.1
  end_at 4 (Makes orders.0 seed.0) seed.1

-- what the words after the program's name ask for
abbrev pub job_of : List (List ℕ) → Parsed Command
job_of [] = Err 1
job_of (command ∷ words) =
    if bytes_eq command (codes "solve") then solve_of words
    else (if bytes_eq command (codes "resume") then resume_of words
    else (if bytes_eq command (codes "judge") then judge_of words
    else (if bytes_eq command (codes "make") then make_of words else Err 1)))
