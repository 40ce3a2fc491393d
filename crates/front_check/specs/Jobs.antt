-- What the reader of the words answers.
use Rattle.std.specs.Prelude.{◌≡◌, ℕ, ◌+◌, List, Option, IfSome, Result, Ok, Err}
use Rattle.std.specs.Borrow.{Bor}
use Rattle.mill_model.specs.Mill.{IsBetween, most_colour_limit}
use Rattle.run_words.specs.Words.{Parsed, name_bytes, named_mill, words_for}
use Rattle.front_check.specs.Words.{CheckWords, Options}
use Rattle.front_check.specs.declared.words.CheckJob.{CheckJob}
use Rattle.front_check.specs.declared.words.CheckJob.TheVariants.{Check}
use Rattle.front_check.specs.declared.words.Options.{Options as ReadOptions}
use Rattle.front_check.specs.declared.words.CheckUsage.{CheckUsage}

abbrev pub named_check : Bor (List ℕ) → Bor (List ℕ) → Option (Bor (List ℕ)) → ℕ → CheckWords
named_check orders cert yard colours = record { mill = named_mill orders yard colours; cert = cert.now }

abbrev pub words_of : CheckJob → CheckWords
words_of (Check orders cert yard colours) = named_check orders cert yard colours

abbrev pub IsInRange : CheckJob → Type 0
IsInRange (Check orders cert yard colours) = IsBetween 1 most_colour_limit colours

-- ---- options

abbrev pub options_of : ReadOptions → Options
options_of options = record { yard = name_bytes options.yard; colours = options.colours }

abbrev pub AreInRange : ReadOptions → Type 0
AreInRange options = IfSome options.colours (IsBetween 1 most_colour_limit)

-- the number of the word after the options
abbrev pub word_after : Options → ℕ
word_after options = 4 + words_for options.yard + words_for options.colours

-- ---- answers

-- the value, seen by view, is the one that was parsed, or the word is the one that can't stand
abbrev pub IsParsed : {X A : Type 0} → (X → A) → Result X CheckUsage → Parsed A → Type 0
IsParsed view (Ok x) parsed = parsed ≡ Ok (view x)
IsParsed view (Err usage) parsed = parsed ≡ Err usage.word
