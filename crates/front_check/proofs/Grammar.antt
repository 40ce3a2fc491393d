-- The words of a check: what is read is in the grammar, and a refusal is one of the first word that can't stand.
use Rattle.std.proofs.Common.{◌≡◌, ℕ, ◌+◌, List, [], ◌∷◌, Some, Ok, Err, decimal, refl, sym, ap, ◌∙◌, arith}
use Rattle.mill_model.specs.Mill.{most_colour_limit}
use Rattle.run_words.specs.Words.{Parsed, ◌>>=◌, file_named}
use Rattle.run_words.specs.Grammar.{options_by, FileThen, OptionsFor, command_by, ReadsCommands}
use Rattle.run_words.proofs.Commands.{Fine, then_word, fine_same}
use Rattle.run_words.proofs.OptionRules.{Stands, AllStand, then_options, fine_options}
use Rattle.run_words.proofs.WordRules.{file_says, file_reads, some_file, some_file_is, number_says, number_reads, some_number_is}
use Rattle.run_words.proofs.CommandRules.{AllAsk, commands_read, commands_tell}
use Rattle.run_words.proofs.Forms.{word_same, reads_same, file_reads_so, fine_file, options_read_so}
use Rattle.front_check.specs.Words.{CheckWords, Options, no_options, with_option, options_from, mill_words, check_of, check_words}
use Rattle.front_check.specs.Grammar.{yard_rule, colours_rule, check_options, AsksCheck, IsCheck, check_rule, ChecksAreRead, FirstWrongOfCheckIsTold}

-- ---- options by their rules

yard_stands : Stands yard_rule
yard_stands = record { says = file_says; reads = file_reads; some = some_file; value = some_file; some_says = some_file_is }

colours_stand : Stands colours_rule
colours_stand = record {
  says = number_says 1 most_colour_limit;
  reads = λ word n is. number_reads 1 most_colour_limit word n (omega arith) is;
  some = decimal 1;
  value = 1;
  some_says = some_number_is 1 most_colour_limit (omega arith);
}

options_stand : AllStand check_options
options_stand = (yard_stands, (refl, tt), (colours_stand, tt, tt))

same_step : (words : List (List ℕ)) (number : ℕ) (r : Parsed Options) → ((more : Options) → options_from (number + 2) more words ≡ options_by check_options (number + 2) more words)
    → (r >>= λ more. options_from (number + 2) more words) ≡ (r >>= λ more. options_by check_options (number + 2) more words)
same_step words number (Ok more) same = same more
same_step words number (Err n) same = refl

same_options : (words : List (List ℕ)) (number : ℕ) (before : Options) → options_from number before words ≡ options_by check_options number before words
same_options [] number before = refl
same_options (name ∷ []) number before = refl
same_options (name ∷ value ∷ words) number before = same_step words number (with_option number before name (Some value)) (λ more. same_options words (number + 2) more)

-- ---- the words after the name

abbrev job_of : List ℕ → List ℕ → Options → CheckWords
job_of orders cert options = record { mill = mill_words orders options; cert = cert }

abbrev after_cert : List ℕ → List ℕ → List (List ℕ) → Parsed CheckWords
after_cert orders cert = then_options check_options 4 no_options (job_of orders cert)

abbrev after_orders : List ℕ → List (List ℕ) → Parsed CheckWords
after_orders orders = then_word file_named 3 (after_cert orders)

-- as the code has it
abbrev last_words : List ℕ → List ℕ → List (List ℕ) → Parsed CheckWords
last_words orders cert words = options_from 4 no_options words >>= λ options. Ok (job_of orders cert options)

same_last : (orders cert : List ℕ) (words : List (List ℕ)) → last_words orders cert words ≡ after_cert orders cert words
same_last orders cert words = ap (λ (r : Parsed Options). r >>= λ options. Ok (job_of orders cert options)) (same_options words 4 no_options)

same_check : (words : List (List ℕ)) → check_of words ≡ then_word file_named 2 after_orders words
same_check words =
    word_same file_named 2 (λ orders. then_word file_named 3 (last_words orders)) after_orders
    (λ orders rest. word_same file_named 3 (last_words orders) (after_cert orders) (same_last orders) rest) words

reads : ReadsCommands AsksCheck check_of
reads =
    reads_same AsksCheck (then_word file_named 2 after_orders) check_of same_check
    (file_reads_so 2 after_orders (λ orders. FileThen (λ cert. OptionsFor check_options no_options (job_of orders cert)))
    (λ orders. file_reads_so 3 (after_cert orders) (λ cert. OptionsFor check_options no_options (job_of orders cert))
    (λ cert. options_read_so check_options 4 no_options (job_of orders cert) options_stand)))

all_ask : AllAsk (check_rule ∷ [])
all_ask = (reads, tt, tt)

same_words : (words : List (List ℕ)) → check_words words ≡ command_by (check_rule ∷ []) words
same_words [] = refl
same_words (command ∷ words) = refl

pub checks_are_read : ChecksAreRead
checks_are_read = reads_same IsCheck (command_by (check_rule ∷ [])) check_words same_words (commands_read (check_rule ∷ []) all_ask)

-- ---- refusals

abbrev read : List (List ℕ) → Parsed CheckWords
read = command_by (check_rule ∷ [])

fine_check : (command : List ℕ) → Fine read (command ∷ []) check_of
fine_check command =
    fine_same read (command ∷ []) (then_word file_named 2 after_orders) check_of same_check
    (fine_file read (command ∷ []) 2 after_orders (omega arith)
    (λ orders. fine_file read (command ∷ orders ∷ []) 3 (after_cert orders) (omega arith)
    (λ cert. fine_options read check_options (command ∷ orders ∷ cert ∷ []) 4 no_options (job_of orders cert) options_stand (omega arith))))

pub first_wrong_of_check_is_told : FirstWrongOfCheckIsTold
first_wrong_of_check_is_told words number =
    let law = commands_tell check_rule [] all_ask (fine_check, tt) words number in
    ((λ h. law.0 (sym (same_words words) ∙ h)), (λ is. same_words words ∙ law.1 is))
