-- The words of the commands: what is read is in the grammar, and a refusal is one of the first word that can't stand.
use Rattle.std.proofs.Common.{◌≡◌, ℕ, ◌+◌, Bool, true, false, List, [], ◌∷◌, Some, Ok, Err, decimal, refl, sym, ap, ◌∙◌, arith}
use Rattle.mill_model.specs.Mill.{most_orders, most_colour_limit}
use Rattle.run_words.specs.Words.{Parsed, ◌>>=◌, file_named, number_named}
use Rattle.run_words.specs.Grammar.{OptionRule, options_by, FileThen, NumberThen, OptionsFor, EndsWith, CommandRule, command_by, ReadsCommands}
use Rattle.run_words.proofs.Commands.{Fine, then_word, fine_same, fine_last}
use Rattle.run_words.proofs.OptionRules.{Stands, AllStand, then_options, fine_options}
use Rattle.run_words.proofs.WordRules.{file_says, file_reads, some_file, some_file_is, number_says, number_reads, some_number_is}
use Rattle.run_words.proofs.CommandRules.{AllAsk, AllFine, commands_read, commands_tell}
use Rattle.run_words.proofs.Forms.{word_same, reads_same, file_reads_so, fine_file, number_reads_so, fine_number, options_read_so, end_reads_so}
use Rattle.slab_front.specs.Words.{Command, Solves, Resumes, Judges, Makes, Options, no_options, most_limit, most_rounds, most_seed, with_option, options_from, mill_words, search_words, end_at, resume_of, make_of, job_of}
use Rattle.slab_front.specs.Grammar.{yard_rule, colours_rule, nodes_rule, rounds_rule, seed_rule, mill_options, search_options, AsksResume, AsksMake, solve_rule, resume_rule, judge_rule, make_rule, IsCommand, CommandsAreRead, FirstWrongIsTold}

-- ---- options by their rules

yard_stands : Stands yard_rule
yard_stands = record { says = file_says; reads = file_reads; some = some_file; value = some_file; some_says = some_file_is }

colours_stand : Stands colours_rule
colours_stand = record {
  says = number_says 1 most_colour_limit;
  reads = λ word n is. number_reads 1 most_colour_limit word n (omega arith) is;
  some = decimal 1;
  value = 1;
  some_says = some_number_is 1 most_colour_limit (omega arith);
}

nodes_stand : Stands nodes_rule
nodes_stand = record {
  says = number_says 1 most_limit;
  reads = λ word n is. number_reads 1 most_limit word n (omega arith) is;
  some = decimal 1;
  value = 1;
  some_says = some_number_is 1 most_limit (omega arith);
}

rounds_stand : Stands rounds_rule
rounds_stand = record {
  says = number_says 0 most_rounds;
  reads = λ word n is. number_reads 0 most_rounds word n (omega arith) is;
  some = decimal 0;
  value = 0;
  some_says = some_number_is 0 most_rounds (omega arith);
}

seed_stands : Stands seed_rule
seed_stands = record {
  says = number_says 0 most_seed;
  reads = λ word n is. number_reads 0 most_seed word n (omega arith) is;
  some = decimal 0;
  value = 0;
  some_says = some_number_is 0 most_seed (omega arith);
}

mill_stands : AllStand mill_options
mill_stands = (yard_stands, (refl, tt), (colours_stand, tt, tt))

search_stands : AllStand search_options
search_stands = (
  yard_stands,
  (refl, (refl, (refl, (refl, tt)))),
  (colours_stand, (refl, (refl, (refl, tt))), (nodes_stand, (refl, (refl, tt)), (rounds_stand, (refl, tt), (seed_stands, tt, tt)))),
)

abbrev rules_of : Bool → List (OptionRule Options)
rules_of true = search_options
rules_of false = mill_options

same_step : (searches : Bool) (words : List (List ℕ)) (number : ℕ) (r : Parsed Options) → ((more : Options) → options_from searches (number + 2) more words ≡ options_by (rules_of searches) (number + 2) more words)
    → (r >>= λ more. options_from searches (number + 2) more words) ≡ (r >>= λ more. options_by (rules_of searches) (number + 2) more words)
same_step searches words number (Ok more) same = same more
same_step searches words number (Err n) same = refl

same_options : (words : List (List ℕ)) (searches : Bool) (number : ℕ) (before : Options) → options_from searches number before words ≡ options_by (rules_of searches) number before words
same_options [] searches number before = refl
same_options (name ∷ []) true number before = refl
same_options (name ∷ []) false number before = refl
same_options (name ∷ value ∷ words) true number before = same_step true words number (with_option true number before name (Some value)) (λ more. same_options words true (number + 2) more)
same_options (name ∷ value ∷ words) false number before = same_step false words number (with_option false number before name (Some value)) (λ more. same_options words false (number + 2) more)

-- options as the code reads them, and by rules
abbrev last_words : Bool → ℕ → (Options → Command) → List (List ℕ) → Parsed Command
last_words searches n make words = options_from searches n no_options words >>= λ options. Ok (make options)

abbrev last_by_rules : Bool → ℕ → (Options → Command) → List (List ℕ) → Parsed Command
last_by_rules searches n make = then_options (rules_of searches) n no_options make

same_last : (searches : Bool) (n : ℕ) (make : Options → Command) (words : List (List ℕ)) → last_words searches n make words ≡ last_by_rules searches n make words
same_last searches n make words = ap (λ (r : Parsed Options). r >>= λ options. Ok (make options)) (same_options words searches n no_options)

-- ---- two files and options

abbrev Two : Type 0
Two = List ℕ → List ℕ → Options → Command

abbrev two_by_code : Bool → Two → List (List ℕ) → Parsed Command
two_by_code searches make = then_word file_named 2 (λ a. then_word file_named 3 (λ b. last_words searches 4 (make a b)))

abbrev two_files : Bool → Two → List (List ℕ) → Parsed Command
two_files searches make = then_word file_named 2 (λ a. then_word file_named 3 (λ b. last_by_rules searches 4 (make a b)))

same_two : (searches : Bool) (make : Two) (words : List (List ℕ)) → two_by_code searches make words ≡ two_files searches make words
same_two searches make words =
    word_same file_named 2 (λ a. then_word file_named 3 (λ b. last_words searches 4 (make a b))) (λ a. then_word file_named 3 (λ b. last_by_rules searches 4 (make a b)))
    (λ a rest. word_same file_named 3 (λ b. last_words searches 4 (make a b)) (λ b. last_by_rules searches 4 (make a b)) (λ b left. same_last searches 4 (make a b) left) rest) words

reads_two : (searches : Bool) (make : Two) → AllStand (rules_of searches) → ReadsCommands (FileThen (λ a. FileThen (λ b. OptionsFor (rules_of searches) no_options (make a b)))) (two_by_code searches make)
reads_two searches make stand =
    reads_same (FileThen (λ a. FileThen (λ b. OptionsFor (rules_of searches) no_options (make a b)))) (two_files searches make) (two_by_code searches make) (same_two searches make)
    (file_reads_so 2 (λ a. then_word file_named 3 (λ b. last_by_rules searches 4 (make a b))) (λ a. FileThen (λ b. OptionsFor (rules_of searches) no_options (make a b)))
    (λ a. file_reads_so 3 (λ b. last_by_rules searches 4 (make a b)) (λ b. OptionsFor (rules_of searches) no_options (make a b))
    (λ b. options_read_so (rules_of searches) 4 no_options (make a b) stand)))

fine_two : (read : List (List ℕ) → Parsed Command) (searches : Bool) (make : Two) → AllStand (rules_of searches) → (command : List ℕ) → Fine read (command ∷ []) (two_by_code searches make)
fine_two read searches make stand command =
    fine_same read (command ∷ []) (two_files searches make) (two_by_code searches make) (same_two searches make)
    (fine_file read (command ∷ []) 2 (λ a. then_word file_named 3 (λ b. last_by_rules searches 4 (make a b))) (omega arith)
    (λ a. fine_file read (command ∷ a ∷ []) 3 (λ b. last_by_rules searches 4 (make a b)) (omega arith)
    (λ b. fine_options read (rules_of searches) (command ∷ a ∷ b ∷ []) 4 no_options (make a b) stand (omega arith))))

-- ---- three files and options

abbrev resumed : List ℕ → List ℕ → List ℕ → Options → Command
resumed orders cut cert options = Resumes (mill_words orders options) cut (search_words cert options)

abbrev after_orders : List ℕ → List (List ℕ) → Parsed Command
after_orders a = then_word file_named 3 (λ b. then_word file_named 4 (λ c. last_by_rules true 5 (resumed a b c)))

abbrev after_cut : List ℕ → List ℕ → List (List ℕ) → Parsed Command
after_cut a b = then_word file_named 4 (λ c. last_by_rules true 5 (resumed a b c))

same_cut : (a b : List ℕ) (words : List (List ℕ)) → then_word file_named 4 (λ c. last_words true 5 (resumed a b c)) words ≡ after_cut a b words
same_cut a b words = word_same file_named 4 (λ c. last_words true 5 (resumed a b c)) (λ c. last_by_rules true 5 (resumed a b c)) (λ c left. same_last true 5 (resumed a b c) left) words

same_orders : (a : List ℕ) (words : List (List ℕ)) → then_word file_named 3 (λ b. then_word file_named 4 (λ c. last_words true 5 (resumed a b c))) words ≡ after_orders a words
same_orders a words = word_same file_named 3 (λ b. then_word file_named 4 (λ c. last_words true 5 (resumed a b c))) (after_cut a) (λ b rest. same_cut a b rest) words

same_resume : (words : List (List ℕ)) → resume_of words ≡ then_word file_named 2 after_orders words
same_resume words = word_same file_named 2 (λ a. then_word file_named 3 (λ b. then_word file_named 4 (λ c. last_words true 5 (resumed a b c)))) after_orders (λ a rest. same_orders a rest) words

reads_resume : ReadsCommands AsksResume resume_of
reads_resume =
    reads_same AsksResume (then_word file_named 2 after_orders) resume_of same_resume
    (file_reads_so 2 after_orders (λ a. FileThen (λ b. FileThen (λ c. OptionsFor search_options no_options (resumed a b c))))
    (λ a. file_reads_so 3 (after_cut a) (λ b. FileThen (λ c. OptionsFor search_options no_options (resumed a b c)))
    (λ b. file_reads_so 4 (λ c. last_by_rules true 5 (resumed a b c)) (λ c. OptionsFor search_options no_options (resumed a b c))
    (λ c. options_read_so search_options 5 no_options (resumed a b c) search_stands))))

fine_resume : (read : List (List ℕ) → Parsed Command) (command : List ℕ) → Fine read (command ∷ []) resume_of
fine_resume read command =
    fine_same read (command ∷ []) (then_word file_named 2 after_orders) resume_of same_resume
    (fine_file read (command ∷ []) 2 after_orders (omega arith)
    (λ a. fine_file read (command ∷ a ∷ []) 3 (after_cut a) (omega arith)
    (λ b. fine_file read (command ∷ a ∷ b ∷ []) 4 (λ c. last_by_rules true 5 (resumed a b c)) (omega arith)
    (λ c. fine_options read search_options (command ∷ a ∷ b ∷ c ∷ []) 5 no_options (resumed a b c) search_stands (omega arith)))))

-- ---- numbers

abbrev after_count : ℕ → List (List ℕ) → Parsed Command
after_count orders = then_word (number_named 0 most_seed) 3 (λ seed. end_at 4 (Makes orders seed))

reads_make : ReadsCommands AsksMake make_of
reads_make =
    number_reads_so 0 most_orders 2 after_count (λ orders. NumberThen 0 most_seed (λ seed. EndsWith (Makes orders seed))) (omega arith)
    (λ orders. number_reads_so 0 most_seed 3 (λ seed. end_at 4 (Makes orders seed)) (λ seed. EndsWith (Makes orders seed)) (omega arith)
    (λ seed. end_reads_so (end_at 4 (Makes orders seed)) 4 (Makes orders seed) refl (λ word after. refl)))

fine_make : (read : List (List ℕ) → Parsed Command) (command : List ℕ) → Fine read (command ∷ []) make_of
fine_make read command =
    fine_number read (command ∷ []) 0 most_orders 2 after_count (omega arith) (omega arith) (omega arith)
    (λ word orders. fine_number read (command ∷ word ∷ []) 0 most_seed 3 (λ seed. end_at 4 (Makes orders seed)) (omega arith) (omega arith) (omega arith)
    (λ other seed. fine_last read (command ∷ word ∷ other ∷ []) (end_at 4 (Makes orders seed)) 4 (Makes orders seed) (omega arith) refl (λ w after. refl)))

-- ---- the commands

abbrev others : List (CommandRule Command)
others = resume_rule ∷ judge_rule ∷ make_rule ∷ []

abbrev solved : Two
solved orders cert options = Solves (mill_words orders options) (search_words cert options)

abbrev judged : Two
judged orders plan options = Judges (mill_words orders options) plan

all_ask : AllAsk (solve_rule ∷ others)
all_ask = (
  reads_two true solved search_stands,
  (refl, (refl, (refl, tt))),
  (reads_resume, (refl, (refl, tt)), (reads_two false judged mill_stands, (refl, tt), (reads_make, tt, tt))),
)

abbrev read : List (List ℕ) → Parsed Command
read = command_by (solve_rule ∷ others)

all_fine : AllFine (command_by (solve_rule ∷ others)) (solve_rule ∷ others)
all_fine = (fine_two read true solved search_stands, (fine_resume read, (fine_two read false judged mill_stands, (fine_make read, tt))))

same_words : (words : List (List ℕ)) → job_of words ≡ command_by (solve_rule ∷ others) words
same_words [] = refl
same_words (command ∷ words) = refl

pub commands_are_read : CommandsAreRead
commands_are_read = reads_same IsCommand (command_by (solve_rule ∷ others)) job_of same_words (commands_read (solve_rule ∷ others) all_ask)

pub first_wrong_is_told : FirstWrongIsTold
first_wrong_is_told words number =
    let law = commands_tell solve_rule others all_ask all_fine words number in
    ((λ h. law.0 (sym (same_words words) ∙ h)), (λ is. same_words words ∙ law.1 is))
