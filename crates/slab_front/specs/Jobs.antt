-- What the reader of the words answers.
use Rattle.std.specs.Prelude.{◌≡◌, ℕ, ◌+◌, ◌≤◌, Bool, true, false, IfSome, Result, Ok, Err}
use Rattle.mill_model.specs.Mill.{IsBetween, most_orders, most_colour_limit}
use Rattle.run_words.specs.Words.{MillWords, Parsed, name_bytes, named_mill, words_for}
use Rattle.slab_front.specs.Words.{Command, Options, SearchWords, most_limit, most_rounds, most_seed}
use Rattle.slab_front.specs.Words.Command.{Solves, Resumes, Judges, Makes}
use Rattle.slab_front.specs.declared.words.Job.{Job}
use Rattle.slab_front.specs.declared.names.MillNames.{MillNames}
use Rattle.slab_front.specs.declared.names.SearchNames.{SearchNames}
use Rattle.slab_front.specs.declared.words.Job.TheVariants.{Solve, Resume, Judge, Make}
use Rattle.slab_front.specs.declared.words.Optioned.{Optioned}
use Rattle.slab_front.specs.declared.words.Optioned.TheVariants.{Solving, Resuming, Judging}
use Rattle.slab_front.specs.declared.words.Options.{Options as ReadOptions}
use Rattle.slab_front.specs.declared.words.UsageAt.{UsageAt}

-- the words of a mill that code holds
abbrev pub mill_named : MillNames → MillWords
mill_named names = named_mill names.orders names.yard names.colours

-- and those of its search
abbrev pub search_named : SearchNames → SearchWords
search_named names = record { cert = names.cert.now; nodes = names.nodes; rounds = names.rounds; seed = names.seed }

abbrev pub command_of : Job → Command
command_of (Solve orders cert yard nodes colours rounds seed) =
    Solves (named_mill orders yard colours) (record { cert = cert.now; nodes = nodes; rounds = rounds; seed = seed })
command_of (Resume orders cut cert yard nodes colours rounds seed) =
    Resumes (named_mill orders yard colours) cut.now (record { cert = cert.now; nodes = nodes; rounds = rounds; seed = seed })
command_of (Judge orders plan yard colours) = Judges (named_mill orders yard colours) plan.now
command_of (Make orders seed) = Makes orders seed

-- ---- the ranges of the numbers

-- of a search, its colours and its options
pub record AreSearchRanges (colours nodes rounds seed : ℕ) : Type 0 where
  pub colours_within : IsBetween 1 most_colour_limit colours
  pub nodes_within : IsBetween 1 most_limit nodes
  pub rounds_within : rounds ≤ most_rounds
  pub seed_within : seed ≤ most_seed

abbrev pub IsInRanges : Job → Type 0
IsInRanges (Solve orders cert yard nodes colours rounds seed) = AreSearchRanges colours nodes rounds seed
IsInRanges (Resume orders cut cert yard nodes colours rounds seed) = AreSearchRanges colours nodes rounds seed
IsInRanges (Judge orders plan yard colours) = IsBetween 1 most_colour_limit colours
IsInRanges (Make orders seed) = orders ≤ most_orders

-- ---- options

abbrev pub options_of : ReadOptions → Options
options_of options = record {
  yard = name_bytes options.yard;
  nodes = options.nodes;
  colours = options.colours;
  rounds = options.rounds;
  seed = options.seed;
}

pub record AreInRanges (options : ReadOptions) : Type 0 where
  pub nodes : IfSome options.nodes (IsBetween 1 most_limit)
  pub colours : IfSome options.colours (IsBetween 1 most_colour_limit)
  pub rounds : IfSome options.rounds (λ rounds. rounds ≤ most_rounds)
  pub seed : IfSome options.seed (λ seed. seed ≤ most_seed)

-- whether a command has the options of a search
abbrev pub searches_for : Optioned → Bool
searches_for Solving = true
searches_for Resuming = true
searches_for Judging = false

-- the number of the first word after the file words of a command
abbrev pub options_at : Optioned → ℕ
options_at Solving = 4
options_at Resuming = 5
options_at Judging = 4

-- how many words the options of the rounds take
abbrev pub round_words : Options → ℕ
round_words options = words_for options.rounds + words_for options.seed

-- the number of the word after the options, of which the first has this number
abbrev pub word_after : ℕ → Options → ℕ
word_after first options =
    first + words_for options.yard + words_for options.nodes + words_for options.colours + round_words options

-- ---- answers

-- the value, seen by view, is the one that was parsed, or the word is the one that can't stand
abbrev pub IsParsed : {X A : Type 0} → (X → A) → Result X UsageAt → Parsed A → Type 0
IsParsed view (Ok x) parsed = parsed ≡ Ok (view x)
IsParsed view (Err usage) parsed = parsed ≡ Err usage.word
