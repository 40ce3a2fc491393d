-- What the words of each command may be, apart from how they are read, and which is the first that can't stand.
use Rattle.std.specs.Prelude.{ℕ, is_none, List, [], ◌∷◌, Some, codes}
use Rattle.mill_model.specs.Mill.{most_orders, most_colour_limit}
use Rattle.run_words.specs.Words.{file_named, number_named}
use Rattle.run_words.specs.Grammar.{IsFileWord, IsNumberWord, OptionRule, FileThen, NumberThen, OptionsFor, EndsWith, CommandRule, IsSomeCommand, ReadsCommands, TellsFirstWrong}
use Rattle.slab_front.specs.Words.{Command, Solves, Resumes, Judges, Makes, Options, no_options, most_limit, most_rounds, most_seed, mill_words, search_words, solve_of, resume_of, judge_of, make_of, job_of}

-- ---- options

abbrev pub yard_rule : OptionRule Options
yard_rule = record {
  Value = List ℕ;
  name = codes "--yard";
  is_free = λ options. is_none options.yard;
  reading = file_named;
  Says = IsFileWord;
  put = λ file options. record options { yard = Some file };
}

abbrev pub colours_rule : OptionRule Options
colours_rule = record {
  Value = ℕ;
  name = codes "--colours";
  is_free = λ options. is_none options.colours;
  reading = number_named 1 most_colour_limit;
  Says = IsNumberWord 1 most_colour_limit;
  put = λ colours options. record options { colours = Some colours };
}

abbrev pub nodes_rule : OptionRule Options
nodes_rule = record {
  Value = ℕ;
  name = codes "--nodes";
  is_free = λ options. is_none options.nodes;
  reading = number_named 1 most_limit;
  Says = IsNumberWord 1 most_limit;
  put = λ nodes options. record options { nodes = Some nodes };
}

abbrev pub rounds_rule : OptionRule Options
rounds_rule = record {
  Value = ℕ;
  name = codes "--rounds";
  is_free = λ options. is_none options.rounds;
  reading = number_named 0 most_rounds;
  Says = IsNumberWord 0 most_rounds;
  put = λ rounds options. record options { rounds = Some rounds };
}

abbrev pub seed_rule : OptionRule Options
seed_rule = record {
  Value = ℕ;
  name = codes "--seed";
  is_free = λ options. is_none options.seed;
  reading = number_named 0 most_seed;
  Says = IsNumberWord 0 most_seed;
  put = λ seed options. record options { seed = Some seed };
}

abbrev pub mill_options : List (OptionRule Options)
mill_options = yard_rule ∷ colours_rule ∷ []

abbrev pub search_options : List (OptionRule Options)
search_options = yard_rule ∷ colours_rule ∷ nodes_rule ∷ rounds_rule ∷ seed_rule ∷ []

-- ---- commands

-- the order file, the file of the certificate, and options
abbrev pub AsksSolve : List (List ℕ) → Command → Type 0
AsksSolve = FileThen (λ orders. FileThen (λ cert. OptionsFor search_options no_options (λ options. Solves (mill_words orders options) (search_words cert options))))

-- the order file, the file of the cut, the file of the certificate, and options
abbrev pub AsksResume : List (List ℕ) → Command → Type 0
AsksResume = FileThen (λ orders. FileThen (λ cut. FileThen (λ cert.
    OptionsFor search_options no_options (λ options. Resumes (mill_words orders options) cut (search_words cert options)))))

-- the order file, the plan file, and options
abbrev pub AsksJudge : List (List ℕ) → Command → Type 0
AsksJudge = FileThen (λ orders. FileThen (λ plan. OptionsFor mill_options no_options (λ options. Judges (mill_words orders options) plan)))

-- the number of orders, and the seed
abbrev pub AsksMake : List (List ℕ) → Command → Type 0
AsksMake = NumberThen 0 most_orders (λ orders. NumberThen 0 most_seed (λ seed. EndsWith (Makes orders seed)))

abbrev pub solve_rule : CommandRule Command
solve_rule = record { name = codes "solve"; reading = solve_of; Asks = AsksSolve }

abbrev pub resume_rule : CommandRule Command
resume_rule = record { name = codes "resume"; reading = resume_of; Asks = AsksResume }

abbrev pub judge_rule : CommandRule Command
judge_rule = record { name = codes "judge"; reading = judge_of; Asks = AsksJudge }

abbrev pub make_rule : CommandRule Command
make_rule = record { name = codes "make"; reading = make_of; Asks = AsksMake }

abbrev pub IsCommand : List (List ℕ) → Command → Type 0
IsCommand = IsSomeCommand (solve_rule ∷ resume_rule ∷ judge_rule ∷ make_rule ∷ [])

abbrev pub CommandsAreRead : Type 0
CommandsAreRead = ReadsCommands IsCommand job_of

abbrev pub FirstWrongIsTold : Type 0
FirstWrongIsTold = TellsFirstWrong IsCommand job_of
