-- Words in their places: what is read is what the grammar says, and a refusal is one of the first word that can't stand.
use Rattle.std.proofs.Common.{◌≡◌, ℕ, ◌+◌, ◌^◌, ◌<◌, ◌≤◌, List, [], ◌∷◌, ◌++◌, length, Option, Some, None, Result, Ok, Err, decimal, refl, sym, ap, ◌∙◌, subst, arith}
use Rattle.std.specs.Prelude.{◌↔◌}
use Rattle.run_words.specs.Words.{Parsed, ◌>>=◌, word_at, file_named, number_named}
use Rattle.run_words.specs.Grammar.{OptionRule, options_by, ReadsCommands, FileThen, NumberThen, OptionsFor, EndsWith}
use Rattle.run_words.proofs.Commands.{Fine, then_word, word_good, fine_word, fine_last}
use Rattle.run_words.proofs.OptionRules.{AllStand, options_read, options_reads, then_options}
use Rattle.run_words.proofs.WordRules.{file_says, file_reads, some_file, some_file_is, number_says, number_reads, some_number_is}
use Rattle.run_words.proofs.CommandRules.{same_job, word_back, options_back}

-- ---- readings that give the same

then_same : {A J : Type 0} (k h : A → List (List ℕ) → Parsed J) (r : Parsed (A × List (List ℕ))) → ((a : A) (rest : List (List ℕ)) → k a rest ≡ h a rest) → (r >>= λ x. k x.0 x.1) ≡ (r >>= λ x. h x.0 x.1)
then_same k h (Ok x) same = same x.0 x.1
then_same k h (Err n) same = refl

-- a word that is read alike, and what comes after it
pub word_same : {A J : Type 0} (reading : List ℕ → Option A) (n : ℕ) (k h : A → List (List ℕ) → Parsed J) → ((a : A) (rest : List (List ℕ)) → k a rest ≡ h a rest) → (words : List (List ℕ)) → then_word reading n k words ≡ then_word reading n h words
word_same reading n k h same words = then_same k h (word_at reading n words) same

pub reads_same : {J : Type 0} (Asks : List (List ℕ) → J → Type 0) (f g : List (List ℕ) → Parsed J) → ((words : List (List ℕ)) → g words ≡ f words) → ReadsCommands Asks f → ReadsCommands Asks g
reads_same Asks f g same reads words job = ((λ h. (reads words job).0 (sym (same words) ∙ h)), (λ a. same words ∙ (reads words job).1 a))

-- ---- a file word

pub file_reads_so : {J : Type 0} (n : ℕ) (k : List ℕ → List (List ℕ) → Parsed J) (Then : List ℕ → List (List ℕ) → J → Type 0) → ((file : List ℕ) → ReadsCommands (Then file) (k file))
    → ReadsCommands (FileThen Then) (then_word file_named n k)
file_reads_so {J} n k Then reads words job = (to, from)
  where
    to : then_word file_named n k words ≡ Ok job → FileThen Then words job
    to h =
        let a = word_back file_named n k words job h in
        let is = file_says a.word a.value a.is_read in
        (a.word, a.rest, a.words_are, is.0, subst (λ (file : List ℕ). Then file a.rest job) (sym is.1) ((reads a.value a.rest job).0 a.then_job))

    from : FileThen Then words job → then_word file_named n k words ≡ Ok job
    from a =
        ap (then_word file_named n k) a.2
        ∙ word_good file_named n k a.0 a.0 a.1 (file_reads a.0 a.0 (a.3, refl))
        ∙ (reads a.0 a.1 job).1 a.4

pub fine_file : {J : Type 0} (read : List (List ℕ) → Parsed J) (front : List (List ℕ)) (n : ℕ) (k : List ℕ → List (List ℕ) → Parsed J) → n ≡ length front + 1 → ((file : List ℕ) → Fine read (front ++ file ∷ []) (k file))
    → Fine read front (then_word file_named n k)
fine_file read front n k place fine =
    fine_word read front file_named n k some_file some_file place (file_reads some_file some_file some_file_is)
    (λ word file is. subst (λ (w : List ℕ). Fine read (front ++ w ∷ []) (k file)) (sym (file_says word file is).1) (fine file))

-- ---- a number

pub number_reads_so : {J : Type 0} (least most n : ℕ) (k : ℕ → List (List ℕ) → Parsed J) (Then : ℕ → List (List ℕ) → J → Type 0) → most < 2 ^ 64 → ((m : ℕ) → ReadsCommands (Then m) (k m))
    → ReadsCommands (NumberThen least most Then) (then_word (number_named least most) n k)
number_reads_so {J} least most n k Then fits reads words job = (to, from)
  where
    to : then_word (number_named least most) n k words ≡ Ok job → NumberThen least most Then words job
    to h =
        let a = word_back (number_named least most) n k words job h in
        let is = number_says least most a.word a.value a.is_read in
        (a.value, a.rest, a.words_are ∙ ap (λ (w : List ℕ). w ∷ a.rest) is.2, is.0, is.1, (reads a.value a.rest job).0 a.then_job)

    from : NumberThen least most Then words job → then_word (number_named least most) n k words ≡ Ok job
    from a =
        ap (then_word (number_named least most) n k) a.2
        ∙ word_good (number_named least most) n k (decimal a.0) a.0 a.1 (number_reads least most (decimal a.0) a.0 fits (a.3, a.4, refl))
        ∙ (reads a.0 a.1 job).1 a.5

pub fine_number : {J : Type 0} (read : List (List ℕ) → Parsed J) (front : List (List ℕ)) (least most n : ℕ) (k : ℕ → List (List ℕ) → Parsed J) → most < 2 ^ 64 → least ≤ most → n ≡ length front + 1
    → ((word : List ℕ) (m : ℕ) → Fine read (front ++ word ∷ []) (k m)) → Fine read front (then_word (number_named least most) n k)
fine_number read front least most n k fits some place fine =
    fine_word read front (number_named least most) n k (decimal least) least place (number_reads least most (decimal least) least fits (some_number_is least most some)) (λ word m is. fine word m)

-- ---- options

pub options_read_so : {O J : Type 0} (rules : List (OptionRule O)) (n : ℕ) (none : O) (make : O → J) → AllStand rules → ReadsCommands (OptionsFor rules none make) (then_options rules n none make)
options_read_so {O} {J} rules n none make stand words job = (to, from)
  where
    to : then_options rules n none make words ≡ Ok job → OptionsFor rules none make words job
    to h =
        let o = options_back rules n none make words job h in
        (o.0, options_read rules words n none o.0 stand o.1, sym o.2)

    from : OptionsFor rules none make words job → then_options rules n none make words ≡ Ok job
    from a =
        ap (λ (r : Parsed O). r >>= λ o. Ok (make o)) (options_reads rules words n none a.0 stand a.1)
        ∙ ap (λ (j : J). Ok j) (sym a.2)

-- ---- no word more

pub end_reads_so : {J : Type 0} (f : List (List ℕ) → Parsed J) (n : ℕ) (made : J) → f [] ≡ Ok made → ((word : List ℕ) (after : List (List ℕ)) → f (word ∷ after) ≡ Err n) → ReadsCommands (EndsWith made) f
end_reads_so {J} f n made last more [] job = (
  (λ h. (refl, same_job {J = J} job made (sym h ∙ last))),
  (λ a. last ∙ ap (λ (j : J). Ok j) (sym a.1)),
)
end_reads_so {J} f n made last more (word ∷ words) job = (
  (λ h. absurd (no_job job n (sym h ∙ more word words))),
  (λ a. absurd (not_empty word words a.0)),
)
  where
    no_job : (job : J) (n : ℕ) → (let r : Parsed J = Ok job in r ≡ Err n) → ⊥
    no_job job n h = cc h

    not_empty : (w : List ℕ) (a : List (List ℕ)) → w ∷ a ≡ [] → ⊥
    not_empty w a h = cc h
