-- Commands by their names: what is read is what the rules ask, and words are refused for the first that can't stand.
use Rattle.std.proofs.Common.{◌≡◌, ◌⊎◌, inl, inr, ℕ, ◌+◌, Bool, true, false, List, [], ◌∷◌, ◌++◌, length, if◌then◌else◌, Option, Some, None, Result, Ok, Err, refl, sym, ap, ◌∙◌, subst, arith}
use Rattle.std.specs.Prelude.{◌↔◌}
use Rattle.std.specs.Str.{bytes_eq}
use Rattle.std.proofs.lemmas.Slice.Eq.{bytes_eq-Decides}
use Rattle.run_words.specs.Words.{Parsed, ◌>>=◌, or_at, word_at}
use Rattle.run_words.specs.Grammar.{OptionRule, options_by, CommandRule, job_by, command_by, IsSomeCommand, ReadsCommands, TellsFirstWrong}
use Rattle.run_words.proofs.Commands.{same_number, job_not_number, Done, Refused, Resumes, Told, Fine, missing, good_word, bad_word, then_word, beside, tells_first_wrong}
use Rattle.run_words.proofs.OptionRules.{then_options}

-- ---- what a reading that gives a job shows

pub same_job : {J : Type 0} (x y : J) → (let r : Parsed J = Ok x in r ≡ Ok y) → x ≡ y
same_job x y h = cc h

pub record WordRead {A J : Type 0} (reading : List ℕ → Option A) (k : A → List (List ℕ) → Parsed J) (words : List (List ℕ)) (job : J) : Type 0 where
  pub word : List ℕ
  pub rest : List (List ℕ)
  pub value : A
  pub words_are : words ≡ word ∷ rest
  pub is_read : reading word ≡ Some value
  pub then_job : k value rest ≡ Ok job

word_by : {A J : Type 0} (reading : List ℕ → Option A) (n : ℕ) (k : A → List (List ℕ) → Parsed J) (word : List ℕ) (rest : List (List ℕ)) (job : J) (y : Option A) → reading word ≡ y
    → (beside rest (or_at n y) >>= λ x. k x.0 x.1) ≡ Ok job → WordRead reading k (word ∷ rest) job
word_by {A} {J} reading n k word rest job None e h = absurd (job_not_number {J = J} job n (sym h))
word_by reading n k word rest job (Some a) e h = record { word = word; rest = rest; value = a; words_are = refl; is_read = e; then_job = h }

pub word_back : {A J : Type 0} (reading : List ℕ → Option A) (n : ℕ) (k : A → List (List ℕ) → Parsed J) (words : List (List ℕ)) (job : J) → then_word reading n k words ≡ Ok job → WordRead reading k words job
word_back {A} {J} reading n k [] job h = absurd (job_not_number {J = J} job n (sym h))
word_back reading n k (word ∷ rest) job h = word_by reading n k word rest job (reading word) refl h

options_from_job : {O J : Type 0} (make : O → J) (job : J) (r : Parsed O) → (r >>= λ o. Ok (make o)) ≡ Ok job → (o : O) × (r ≡ Ok o) × (make o ≡ job)
options_from_job {O} {J} make job (Ok o) h = (o, refl, same_job {J = J} (make o) job h)
options_from_job {O} {J} make job (Err n) h = absurd (job_not_number {J = J} job n (sym h))

pub options_back : {O J : Type 0} (rules : List (OptionRule O)) (n : ℕ) (before : O) (make : O → J) (words : List (List ℕ)) (job : J) → then_options rules n before make words ≡ Ok job
    → (o : O) × (options_by rules n before words ≡ Ok o) × (make o ≡ job)
options_back rules n before make words job h = options_from_job make job (options_by rules n before words) h

-- ---- what is asked of rules

-- no rule of these has this name
abbrev pub OtherCommands : {J : Type 0} → List ℕ → List (CommandRule J) → Type 0
OtherCommands name [] = Unit {0}
OtherCommands name (rule ∷ rules) = (bytes_eq rule.name name ≡ false) × OtherCommands name rules

-- each command reads what it asks, and has a name of its own
abbrev pub AllAsk : {J : Type 0} → List (CommandRule J) → Type 0
AllAsk [] = Unit {0}
AllAsk (rule ∷ rules) = ReadsCommands rule.Asks rule.reading × OtherCommands rule.name rules × AllAsk rules

-- each command's words are refused for the first that can't stand
abbrev pub AllFine : {J : Type 0} → (List (List ℕ) → Parsed J) → List (CommandRule J) → Type 0
AllFine read [] = Unit {0}
AllFine read (rule ∷ rules) = ((command : List ℕ) → Fine read (command ∷ []) rule.reading) × AllFine read rules

-- ---- the jobs

chosen : {J : Type 0} (rule : CommandRule J) (rules : List (CommandRule J)) (command : List ℕ) (words : List (List ℕ)) (b : Bool) → bytes_eq command rule.name ≡ b → job_by (rule ∷ rules) command words ≡ (if b then rule.reading words else job_by rules command words)
chosen rule rules command words b e = ap (λ (t : Bool). if t then rule.reading words else job_by rules command words) e

asked_by : {J : Type 0} (rule : CommandRule J) (rules : List (CommandRule J)) (command : List ℕ) (words : List (List ℕ)) (job : J) (b : Bool) → bytes_eq command rule.name ≡ b → ReadsCommands rule.Asks rule.reading
    → (job_by rules command words ≡ Ok job → IsSomeCommand rules (command ∷ words) job) → job_by (rule ∷ rules) command words ≡ Ok job → IsSomeCommand (rule ∷ rules) (command ∷ words) job
asked_by rule rules command words job true e asks later h =
    inl (words, ap (λ (w : List ℕ). w ∷ words) ((bytes_eq-Decides command rule.name).0 e), (asks words job).0 (sym (chosen rule rules command words true e) ∙ h))
asked_by rule rules command words job false e asks later h = inr (later (sym (chosen rule rules command words false e) ∙ h))

asked : {J : Type 0} (rules : List (CommandRule J)) (command : List ℕ) (words : List (List ℕ)) (job : J) → AllAsk rules → job_by rules command words ≡ Ok job → IsSomeCommand rules (command ∷ words) job
asked {J} [] command words job all h = absurd (job_not_number {J = J} job 1 (sym h))
asked (rule ∷ rules) command words job all h = asked_by rule rules command words job (bytes_eq command rule.name) refl all.0 (asked rules command words job all.2) h

command_is : (w v : List ℕ) (a b : List (List ℕ)) → w ∷ a ≡ v ∷ b → w ≡ v
command_is w v a b h = cc h

rest_is : (w v : List ℕ) (a b : List (List ℕ)) → w ∷ a ≡ v ∷ b → a ≡ b
rest_is w v a b h = cc h

-- a command that one of these rules has isn't of another name
other_command : {J : Type 0} (name : List ℕ) (rules : List (CommandRule J)) (command : List ℕ) (words : List (List ℕ)) (job : J) → OtherCommands name rules → IsSomeCommand rules (command ∷ words) job → bytes_eq command name ≡ false
other_command name [] command words job others is = absurd is
other_command name (rule ∷ rules) command words job others (inl is) = ap (λ (w : List ℕ). bytes_eq w name) (command_is command rule.name words is.0 is.1) ∙ others.0
other_command name (rule ∷ rules) command words job others (inr is) = other_command name rules command words job others.1 is

asks_so : {J : Type 0} (rules : List (CommandRule J)) (command : List ℕ) (words : List (List ℕ)) (job : J) → AllAsk rules → IsSomeCommand rules (command ∷ words) job → job_by rules command words ≡ Ok job
asks_so [] command words job all is = absurd is
asks_so (rule ∷ rules) command words job all (inl is) =
    chosen rule rules command words true ((bytes_eq-Decides command rule.name).1 (command_is command rule.name words is.0 is.1))
    ∙ ap rule.reading (rest_is command rule.name words is.0 is.1)
    ∙ (all.0 is.0 job).1 is.2
asks_so (rule ∷ rules) command words job all (inr is) =
    chosen rule rules command words false (other_command rule.name rules command words job all.1 is)
    ∙ asks_so rules command words job all.2 is

none_empty : {J : Type 0} (rules : List (CommandRule J)) (job : J) → IsSomeCommand rules [] job → ⊥
none_empty [] job is = is
none_empty (rule ∷ rules) job (inl is) = not_empty rule.name is.0 is.1
  where
    not_empty : (w : List ℕ) (a : List (List ℕ)) → [] ≡ w ∷ a → ⊥
    not_empty w a h = cc h
none_empty (rule ∷ rules) job (inr is) = none_empty rules job is

pub commands_read : {J : Type 0} (rules : List (CommandRule J)) → AllAsk rules → ReadsCommands (IsSomeCommand rules) (command_by rules)
commands_read {J} rules all [] job = ((λ h. absurd (job_not_number {J = J} job 1 (sym h))), (λ is. absurd (none_empty rules job is)))
commands_read rules all (command ∷ words) job = ((λ h. asked rules command words job all h), (λ is. asks_so rules command words job all is))

-- ---- refusals

-- the name is no command's, or one's whose words are refused for the first that can't stand
data NamesCommand {J : Type 0} (read : List (List ℕ) → Parsed J) (rules : List (CommandRule J)) (command : List ℕ) : Type 1 where
  NoCommand : ((words : List (List ℕ)) → job_by rules command words ≡ Err 1) → NamesCommand read rules command
  OneCommand : (g : List (List ℕ) → Parsed J) → ((words : List (List ℕ)) → job_by rules command words ≡ g words) → Fine read (command ∷ []) g → NamesCommand read rules command

names_later : {J : Type 0} (read : List (List ℕ) → Parsed J) (rule : CommandRule J) (rules : List (CommandRule J)) (command : List ℕ) → bytes_eq command rule.name ≡ false → NamesCommand read rules command → NamesCommand read (rule ∷ rules) command
names_later read rule rules command e (NoCommand none) = NoCommand (λ words. chosen rule rules command words false e ∙ none words)
names_later read rule rules command e (OneCommand g is fine) = OneCommand g (λ words. chosen rule rules command words false e ∙ is words) fine

names_by : {J : Type 0} (read : List (List ℕ) → Parsed J) (rule : CommandRule J) (rules : List (CommandRule J)) (command : List ℕ) (b : Bool) → bytes_eq command rule.name ≡ b → Fine read (command ∷ []) rule.reading
    → NamesCommand read rules command → NamesCommand read (rule ∷ rules) command
names_by read rule rules command true e fine later = OneCommand rule.reading (λ words. chosen rule rules command words true e) fine
names_by read rule rules command false e fine later = names_later read rule rules command e later

names : {J : Type 0} (read : List (List ℕ) → Parsed J) (rules : List (CommandRule J)) (command : List ℕ) → AllFine read rules → NamesCommand read rules command
names read [] command all = NoCommand (λ words. refl)
names read (rule ∷ rules) command all = names_by read rule rules command (bytes_eq command rule.name) refl (all.0 command) (names read rules command all.1)

refused_by : {J : Type 0} (rules : List (CommandRule J)) (command : List ℕ) (words : List (List ℕ)) (number : ℕ) → Done (command_by rules) → NamesCommand (command_by rules) rules command
    → command_by rules (command ∷ words) ≡ Err number → Refused (command_by rules) (command ∷ words) number
refused_by rules command words number done (NoCommand none) h = bad_word (command_by rules) [] (command_by rules) 1 number command words refl done (λ rest. refl) (λ after. none after) h
refused_by rules command words number done (OneCommand g is fine) h = good_word (command_by rules) [] (command_by rules) g number command words (λ after. is after) fine.told (λ rest. refl) h

refuses : {J : Type 0} (rules : List (CommandRule J)) → Done (command_by rules) → AllFine (command_by rules) rules → (words : List (List ℕ)) (number : ℕ) → command_by rules words ≡ Err number → Refused (command_by rules) words number
refuses {J} rules done all [] number h = missing (command_by rules) [] 1 number refl (same_number {J = J} 1 number h) done
refuses rules done all (command ∷ words) number h = refused_by rules command words number done (names (command_by rules) rules command all) h

-- the first command can be given
some_command : {J : Type 0} (rule : CommandRule J) (rules : List (CommandRule J)) → AllFine (command_by (rule ∷ rules)) (rule ∷ rules) → Done (command_by (rule ∷ rules))
some_command rule rules all =
    let d = (all.0 rule.name).done in
    (rule.name ∷ d.0, d.1, chosen rule rules rule.name d.0 true ((bytes_eq-Decides rule.name rule.name).1 refl) ∙ d.2)

pub commands_tell : {J : Type 0} (rule : CommandRule J) (rules : List (CommandRule J)) → AllAsk (rule ∷ rules) → AllFine (command_by (rule ∷ rules)) (rule ∷ rules) → TellsFirstWrong (IsSomeCommand (rule ∷ rules)) (command_by (rule ∷ rules))
commands_tell rule rules asks all =
    tells_first_wrong (IsSomeCommand (rule ∷ rules)) (command_by (rule ∷ rules)) (commands_read (rule ∷ rules) asks) (refuses (rule ∷ rules) (some_command rule rules all) all)
