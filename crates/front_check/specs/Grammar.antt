-- What the words of a check may be, apart from how they are read, and the first that can't stand.
use Rattle.std.specs.Prelude.{ℕ, is_none, List, [], ◌∷◌, Some, codes}
use Rattle.mill_model.specs.Mill.{most_colour_limit}
use Rattle.run_words.specs.Words.{file_named, number_named}
use Rattle.run_words.specs.Grammar.{IsFileWord, IsNumberWord, OptionRule, FileThen, OptionsFor, CommandRule, IsSomeCommand, ReadsCommands, TellsFirstWrong}
use Rattle.front_check.specs.Words.{CheckWords, Options, no_options, mill_words, check_of, check_words}

-- ---- options

abbrev pub yard_rule : OptionRule Options
yard_rule = record {
  Value = List ℕ;
  name = codes "--yard";
  is_free = λ options. is_none options.yard;
  reading = file_named;
  Says = IsFileWord;
  put = λ file options. record options { yard = Some file };
}

abbrev pub colours_rule : OptionRule Options
colours_rule = record {
  Value = ℕ;
  name = codes "--colours";
  is_free = λ options. is_none options.colours;
  reading = number_named 1 most_colour_limit;
  Says = IsNumberWord 1 most_colour_limit;
  put = λ colours options. record options { colours = Some colours };
}

abbrev pub check_options : List (OptionRule Options)
check_options = yard_rule ∷ colours_rule ∷ []

-- ---- the command

-- the order file, the file of the certificate, and options
abbrev pub AsksCheck : List (List ℕ) → CheckWords → Type 0
AsksCheck = FileThen (λ orders. FileThen (λ cert.
    OptionsFor check_options no_options (λ options. record { mill = mill_words orders options; cert = cert })))

abbrev pub check_rule : CommandRule CheckWords
check_rule = record { name = codes "check"; reading = check_of; Asks = AsksCheck }

abbrev pub IsCheck : List (List ℕ) → CheckWords → Type 0
IsCheck = IsSomeCommand (check_rule ∷ [])

abbrev pub ChecksAreRead : Type 0
ChecksAreRead = ReadsCommands IsCheck check_words

abbrev pub FirstWrongOfCheckIsTold : Type 0
FirstWrongOfCheckIsTold = TellsFirstWrong IsCheck check_words
