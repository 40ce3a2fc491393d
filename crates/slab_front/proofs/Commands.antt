-- What the parts of a command say of the whole of it.
use Rattle.std.proofs.Common.{◌≡◌, ◌⊎◌, inl, inr, ℕ, Bool, true, false, nat_lt, List, length, Option, Some, None, Result, Ok, Err, IfOk, refl, ap, MatchResult}
use Rattle.std.specs.Bool.{MatchBool}
use Rattle.std.specs.Borrow.{Bor}
use Rattle.std.specs.Prelude.{MatchOption}
use Rattle.std.specs.FinMap.{get}
use Rattle.std.specs.String.{string_bytes}
use Rattle.slab_desk.specs.Desk.{Told, Files}
use Rattle.mill_model.specs.Mill.{Mill, with_yard}
use Rattle.mill_read.specs.declared.fault.TextFault.{TextFault}
use Rattle.mill_read.specs.OrderFile.{order_file}
use Rattle.mill_read.specs.YardFile.{yard_file}
use Rattle.run_words.specs.Words.{MillWords, named_mill}
use Rattle.run_words.specs.Files.{most_bytes, with_colours}
use Rattle.run_words.proofs.Telling.{told_each}
use Rattle.slab_front.specs.declared.texts.Source.{Source}
use Rattle.slab_front.specs.declared.texts.Source.TheVariants.{Orders, Yard as YardSource}
use Rattle.slab_front.specs.declared.ending.Answer.{Answer}
use Rattle.slab_front.specs.declared.ending.Stop.{Stop}
use Rattle.slab_front.specs.declared.ending.Stop.TheVariants.{Refused, Fault, Memory}
use Rattle.slab_front.specs.declared.names.MillNames.{MillNames}
use Rattle.slab_front.specs.declared.names.SearchNames.{SearchNames}
use Rattle.slab_front.specs.declared.words.Job.{Job}
use Rattle.slab_front.specs.declared.words.Job.TheVariants.{Solve, Resume, Judge}
use Rattle.slab_front.specs.Jobs.{command_of, mill_named, search_named}
use Rattle.slab_front.specs.Words.{Command, SearchWords}
use Rattle.slab_front.specs.Words.Command.{Solves, Resumes, Judges}
use Rattle.slab_front.specs.Texts.{long_text, fault_text}
use Rattle.slab_front.specs.Outcomes.{Outcome, Owing, saying}
use Rattle.slab_front.specs.Owed.{Exactly, Nothing, OwesOfFile, OwesOfYard, OwesOfMill, IsSearchStatus}
use Rattle.slab_front.specs.Endings.{HasOnlyRead, IsStop, MayAnswer, status_for}

-- ---- which command it is

solves : (command : Command) (words others : MillWords) (searching other : SearchWords) → command ≡ Solves others other → words ≡ others → searching ≡ other → Solves words searching ≡ command
solves command words others searching other e f h = cc

resumes : (command : Command) (words others : MillWords) (cut : List ℕ) (searching other : SearchWords) → command ≡ Resumes others cut other → words ≡ others → searching ≡ other
    → Resumes words cut searching ≡ command
resumes command words others cut searching other e f h = cc

judges : (command : Command) (words others : MillWords) (plan : List ℕ) → command ≡ Judges others plan → words ≡ others → Judges words plan ≡ command
judges command words others plan e f = cc

pub solve_is : {orders cert : Bor (List ℕ)} {yard : Option (Bor (List ℕ))} {nodes colours rounds seed : ℕ} (job : Job) (names : MillNames) (how : SearchNames)
    → job ≡ Solve orders cert yard nodes colours rounds seed → mill_named names ≡ named_mill orders yard colours
    → search_named how ≡ record { cert = cert.now; nodes = nodes; rounds = rounds; seed = seed } → Solves (mill_named names) (search_named how) ≡ command_of job
solve_is {orders = orders} {cert = cert} {yard = yard} {nodes = nodes} {colours = colours} {rounds = rounds} {seed = seed} job names how is e f =
    solves (command_of job) (mill_named names) (named_mill orders yard colours) (search_named how) (record { cert = cert.now; nodes = nodes; rounds = rounds; seed = seed }) (ap command_of is) e f

pub resume_is : {orders cut cert : Bor (List ℕ)} {yard : Option (Bor (List ℕ))} {nodes colours rounds seed : ℕ} (job : Job) (names : MillNames) (how : SearchNames)
    → job ≡ Resume orders cut cert yard nodes colours rounds seed → mill_named names ≡ named_mill orders yard colours
    → search_named how ≡ record { cert = cert.now; nodes = nodes; rounds = rounds; seed = seed } → Resumes (mill_named names) cut.now (search_named how) ≡ command_of job
resume_is {orders = orders} {cut = cut} {cert = cert} {yard = yard} {nodes = nodes} {colours = colours} {rounds = rounds} {seed = seed} job names how is e f =
    resumes (command_of job) (mill_named names) (named_mill orders yard colours) cut.now (search_named how) (record { cert = cert.now; nodes = nodes; rounds = rounds; seed = seed }) (ap command_of is) e f

pub judge_is : {orders plan : Bor (List ℕ)} {yard : Option (Bor (List ℕ))} {colours : ℕ} (job : Job) (names : MillNames)
    → job ≡ Judge orders plan yard colours → mill_named names ≡ named_mill orders yard colours → Judges (mill_named names) plan.now ≡ command_of job
judge_is {orders = orders} {plan = plan} {yard = yard} {colours = colours} job names is e =
    judges (command_of job) (mill_named names) (named_mill orders yard colours) plan.now (ap command_of is) e

-- ---- the refusals of its files

more_of_file : {A : Type 0} (source : Source) (reading : List ℕ → Result A TextFault) (owes others : A → Owing) (files : Files) (name : List ℕ) (status : ℕ) (o : Outcome)
    → ((value : A) → owes value status o → others value status o) → OwesOfFile source reading owes files name status o → OwesOfFile source reading others files name status o
more_of_file {A = A} source reading owes others files name status o more owed = named (get files name) owed
  where
    read : (r : Result A TextFault) → MatchResult r (λ v. owes v status o) (λ fault. Exactly 2 (fault_text source fault) status o)
        → MatchResult r (λ v. others v status o) (λ fault. Exactly 2 (fault_text source fault) status o)
    read (Ok value) owed = more value owed
    read (Err fault) owed = owed

    measured : (b : Bool) (r : Result A TextFault)
        → MatchBool b (Exactly 2 (long_text source) status o) (MatchResult r (λ v. owes v status o) (λ fault. Exactly 2 (fault_text source fault) status o))
        → MatchBool b (Exactly 2 (long_text source) status o) (MatchResult r (λ v. others v status o) (λ fault. Exactly 2 (fault_text source fault) status o))
    measured true r owed = owed
    measured false r owed = read r owed

    named : (x : Option (List ℕ))
        → MatchOption x ⊥ (λ bytes. MatchBool (nat_lt most_bytes (length bytes)) (Exactly 2 (long_text source) status o)
        (MatchResult (reading bytes) (λ v. owes v status o) (λ fault. Exactly 2 (fault_text source fault) status o)))
        → MatchOption x ⊥ (λ bytes. MatchBool (nat_lt most_bytes (length bytes)) (Exactly 2 (long_text source) status o)
        (MatchResult (reading bytes) (λ v. others v status o) (λ fault. Exactly 2 (fault_text source fault) status o)))
    named None owed = owed
    named (Some bytes) owed = measured (nat_lt most_bytes (length bytes)) (reading bytes) owed

more_of_yard : (owes others : Mill → Owing) (files : Files) (yard : Option (List ℕ)) (m : Mill) (status : ℕ) (o : Outcome)
    → ((x : Mill) → owes x status o → others x status o) → OwesOfYard owes files yard m status o → OwesOfYard others files yard m status o
more_of_yard owes others files None m status o more owed = more m owed
more_of_yard owes others files (Some name) m status o more owed =
    more_of_file YardSource (yard_file (length m.orders)) (λ y. owes (with_yard m y)) (λ y. others (with_yard m y)) files name status o (λ y. more (with_yard m y)) owed

-- a refusal of the files of a mill is one whatever is owed of the mill
pub refusal_of_mill : (others : Mill → Owing) (files : Files) (words : MillWords) (status : ℕ) (o : Outcome) → OwesOfMill Nothing files words status o → OwesOfMill others files words status o
refusal_of_mill others files words status o owed =
    more_of_file Orders order_file (OwesOfYard Nothing files words.yard) (OwesOfYard (λ m. others (with_colours words.colours m)) files words.yard) files words.orders status o
    (λ m. more_of_yard Nothing (λ x. others (with_colours words.colours x)) files words.yard m status o (λ x h. absurd h)) owed

pub stop_of_mill : (others : Files → Mill → Owing) (words : MillWords) (told : Option Told) (before now : ℕ) (stop : Stop)
    → IsStop (λ files. OwesOfMill Nothing files words) told before now stop → IsStop (λ files. OwesOfMill (others files) files words) told before now stop
stop_of_mill others words told before now (Refused text) is =
    told_each (λ files. OwesOfMill Nothing files words 2 (saying (string_bytes text))) (λ files. OwesOfMill (others files) files words 2 (saying (string_bytes text))) told
    (λ files owed. refusal_of_mill (others files) files words 2 (saying (string_bytes text)) owed) is
stop_of_mill others words told before now Fault is = is
stop_of_mill others words told before now Memory is = is

-- what read the files of a mill alone read for the whole command
pub read_for_mill : (others : Files → Mill → Owing) (words : MillWords) (old new : Option Told) (before now : ℕ) (result : Result Answer Stop)
    → HasOnlyRead (IsStop (λ files. OwesOfMill Nothing files words)) old new before now result
    → HasOnlyRead (IsStop (λ files. OwesOfMill (others files) files words)) old new before now result
read_for_mill others words old new before now (Ok answer) reads = record { stop = tt; left = reads.left; later = reads.later; kept = reads.kept }
read_for_mill others words old new before now (Err stop) reads =
    record { stop = stop_of_mill others words old before now stop reads.stop; left = reads.left; later = reads.later; kept = reads.kept }

-- ---- statuses

pub solve_ends : (words : MillWords) (searching : SearchWords) (result : Result Answer Stop) → IfOk result (λ answer. IsSearchStatus (status_for answer)) → MayAnswer (Ok (Solves words searching)) result
solve_ends words searching (Ok answer) is = inr is
solve_ends words searching (Err (Refused text)) is = inl refl
solve_ends words searching (Err Fault) is = tt
solve_ends words searching (Err Memory) is = tt

pub resume_ends : (words : MillWords) (cut : List ℕ) (searching : SearchWords) (result : Result Answer Stop) → IfOk result (λ answer. (status_for answer ≡ 7) ⊎ IsSearchStatus (status_for answer))
    → MayAnswer (Ok (Resumes words cut searching)) result
resume_ends words cut searching (Ok answer) is = inr is
resume_ends words cut searching (Err (Refused text)) is = inl refl
resume_ends words cut searching (Err Fault) is = tt
resume_ends words cut searching (Err Memory) is = tt
