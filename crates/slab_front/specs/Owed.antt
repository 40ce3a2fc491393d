-- What a run owes: a status, a text and maybe a file, by its words and the files.
use Rattle.std.specs.Prelude.{◌≡◌, ◌⊎◌, ℕ, nat_lt, List, [], length, Option, Some, None, Result, Ok, Err, MatchOption, MatchResult}
use Rattle.std.specs.Bool.{MatchBool}
use Rattle.std.specs.FinMap.{get}
use Rattle.slab_desk.specs.Desk.{Told, Files}
use Rattle.mill_model.specs.declared.illegal.Illegal.{Illegal}
use Rattle.mill_model.specs.Mill.{Mill, with_yard}
use Rattle.mill_model.specs.Plans.{Plan, IsLegal, sums_of}
use Rattle.mill_model.specs.Judging.{first_broken}
use Rattle.mill_model.specs.Fronts.{Point}
use Rattle.mill_read.specs.declared.fault.TextFault.{TextFault}
use Rattle.mill_read.specs.OrderFile.{order_file}
use Rattle.mill_read.specs.YardFile.{yard_file}
use Rattle.mill_read.specs.PlanFile.{plan_file}
use Rattle.slab_relax.specs.declared.tally.Tally.{Tally}
use Rattle.slab_start.specs.FirstFit.{first_fit}
use Rattle.slab_start.specs.Made.{made_mill}
use Rattle.slab_sweep.specs.Openings.{Telling}
use Rattle.slab_lns.specs.Rounds.{told_after_rounds}
use Rattle.cert_rules.specs.declared.why.Why.{Why}
use Rattle.cert_rules.specs.States.Wanted.{Cuts}
use Rattle.cert_rules.specs.Reading.{IsFirstBad}
use Rattle.cert_text.specs.Certificates.{Certificate, ShowsCut}
use Rattle.cert_text.specs.Texts.{Spells, certificate_text}
use Rattle.mill_report.specs.Reports.{report_text, summary_text}
use Rattle.run_words.specs.Words.{MillWords, Parsed}
use Rattle.run_words.specs.Texts.{usage_text, bad_line_text}
use Rattle.run_words.specs.Files.{most_bytes, with_colours}
use Rattle.slab_front.specs.declared.texts.Source.{Source}
use Rattle.slab_front.specs.declared.texts.Source.TheVariants.{Orders, Yard as YardSource, Plan as PlanSource}
use Rattle.slab_front.specs.Words.{Command, SearchWords, job_of, default_nodes}
use Rattle.slab_front.specs.Words.Command.{Solves, Resumes, Judges, Makes}
use Rattle.slab_front.specs.Texts.{fault_text, long_text, legal_text, SaysBroken}
use Rattle.slab_front.specs.Searched.{Searched, IsSearched, FindsFront, certificate_of, word_of}
use Rattle.slab_front.specs.Outcomes.{Outcome, Owing, saying}

-- this status with this text, and no other
abbrev pub Exactly : ℕ → List ℕ → Owing
Exactly code text status outcome = (status ≡ code) × (outcome ≡ saying text)

abbrev pub Nothing : {A : Type 0} → A → Owing
Nothing value status outcome = ⊥

-- the first refusal of a file, or what is owed of its value; a file that isn't there is the outside's fault, and nothing is
-- owed of it
abbrev pub OwesOfFile : {A : Type 0} → Source → (List ℕ → Result A TextFault) → (A → Owing) → Files → List ℕ → Owing
OwesOfFile source reading owes files name status outcome =
    MatchOption (get files name) ⊥ (λ bytes.
    MatchBool (nat_lt most_bytes (length bytes))
    (Exactly 2 (long_text source) status outcome)
    (MatchResult (reading bytes) (λ value. owes value status outcome) (λ fault. Exactly 2 (fault_text source fault) status outcome)))

-- the yard of this file, where one is named
abbrev pub OwesOfYard : (Mill → Owing) → Files → Option (List ℕ) → Mill → Owing
OwesOfYard owes files None m = owes m
OwesOfYard owes files (Some name) m = OwesOfFile YardSource (yard_file (length m.orders)) (λ yard. owes (with_yard m yard)) files name

-- the order file, and then the yard file
abbrev pub OwesOfMill : (Mill → Owing) → Files → MillWords → Owing
OwesOfMill owes files words =
    OwesOfFile Orders order_file (OwesOfYard (λ m. owes (with_colours words.colours m)) files words.yard) files words.orders

-- ---- searches

-- the certificate is stored under this name, and the report said
abbrev pub stored_as : List ℕ → Mill → Searched → Outcome
stored_as name m s = record {
  said = report_text s.points s.opened s.bare (word_of s);
  stored = Some (name, certificate_text (certificate_of s));
}

-- only the summary is said
abbrev pub summed_up : Mill → Searched → Outcome
summed_up m s = saying (summary_text m s.points s.opened s.bare (word_of s))

-- what the starter of a search tells: the first-fit plan after the rounds that the words name
abbrev pub told_of : SearchWords → Telling
told_of words = told_after_rounds words.rounds words.seed (Some first_fit)

-- what a search that goes on from these points found, stored and said
abbrev pub OwesSearch : SearchWords → List Point → Tally → Tally → Mill → Owing
OwesSearch words before was is m status outcome =
    (s : Searched) × IsSearched (told_of words) m before words.nodes was is status s × (outcome ≡ stored_as words.cert m s)

-- the front of a made mill, which is always found
abbrev pub OwesMade : ℕ → ℕ → Tally → Tally → Owing
OwesMade orders seed was is status outcome =
    (status ≡ 0)
    × ((s : Searched) × FindsFront (Some first_fit) (made_mill orders seed) [] default_nodes was is s × (outcome ≡ summed_up (made_mill orders seed) s))

-- ---- cuts

-- the bytes spell a good cut with these points, from anybody
pub record SpellsCut (m : Mill) (bytes : List ℕ) (points : List Point) : Type 0 where
  pub certificate : Certificate
  pub spelled : Spells bytes certificate
  pub shows : ShowsCut m certificate
  pub points_are : certificate.points ≡ points

-- this is the first bad line, where only a cut is wanted, and the rule that it breaks
pub record SpellsNoCut (m : Mill) (bytes : List ℕ) (status : ℕ) (outcome : Outcome) : Type 0 where
  pub number : ℕ
  pub rule : Why
  pub first : IsFirstBad m Cuts bytes number rule
  pub owed : Exactly 7 (bad_line_text number rule) status outcome

-- what is owed of the points of a good cut, or its first bad line
abbrev pub OwesOfPoints : (List Point → Owing) → Mill → List ℕ → Owing
OwesOfPoints owes m bytes status outcome =
    ((points : List Point) × SpellsCut m bytes points × owes points status outcome) ⊎ SpellsNoCut m bytes status outcome

abbrev pub OwesOfCut : (List Point → Owing) → Files → List ℕ → Mill → Owing
OwesOfCut owes files name m status outcome = MatchOption (get files name) ⊥ (λ bytes. OwesOfPoints owes m bytes status outcome)

-- a search that goes on from the points of a cut
abbrev pub OwesResumed : Files → List ℕ → SearchWords → Tally → Tally → Mill → Owing
OwesResumed files cut words was is m = OwesOfCut (λ points. OwesSearch words points was is m) files cut m

-- ---- plans

-- the sums, where the plan is legal, and else the first rule that it breaks
abbrev pub OwesVerdict : Mill → Plan → Owing
OwesVerdict m plan status outcome =
    ((status ≡ 0) × IsLegal m plan × (outcome ≡ saying (legal_text (sums_of m plan))))
    ⊎ ((status ≡ 8) × (IsLegal m plan → ⊥) × ((rule : Illegal) × (text : List ℕ) × (first_broken m plan ≡ Some rule) × SaysBroken rule text × (outcome ≡ saying text)))

abbrev pub OwesOfPlan : Files → List ℕ → Mill → Owing
OwesOfPlan files name m = OwesOfFile PlanSource (plan_file (length m.orders)) (OwesVerdict m) files name

-- ---- runs

-- the counters of what a turn can fail by stand at was before the run, and at is after it
abbrev pub OwesOfCommand : Command → Tally → Tally → Files → Owing
OwesOfCommand (Solves words searching) was is files = OwesOfMill (OwesSearch searching [] was is) files words
OwesOfCommand (Resumes words cut searching) was is files = OwesOfMill (OwesResumed files cut searching was is) files words
OwesOfCommand (Judges words plan) was is files = OwesOfMill (OwesOfPlan files plan) files words
OwesOfCommand (Makes orders seed) was is files = OwesMade orders seed was is

-- what the words ask for, or the first that can't stand
abbrev pub OwesOfWords : Parsed Command → Tally → Tally → Files → Owing
OwesOfWords parsed was is files status outcome =
    MatchResult parsed (λ command. OwesOfCommand command was is files status outcome) (λ number. Exactly 1 (usage_text number) status outcome)

-- the words, the order file, the yard file, the plan file or the cut, the search: the first refusal ends a run
abbrev pub Owes : List (List ℕ) → Tally → Tally → Files → Owing
Owes words = OwesOfWords (job_of words)

-- ---- whatever the desk tells

abbrev pub IsSearchStatus : ℕ → Type 0
IsSearchStatus status = (status ≡ 0) ⊎ ((status ≡ 3) ⊎ (status ≡ 4))

-- the statuses that these words may end with, beside those of a fault and of want of memory
abbrev pub MayEnd : Parsed Command → ℕ → Type 0
MayEnd (Err number) status = status ≡ 1
MayEnd (Ok (Solves words searching)) status = (status ≡ 2) ⊎ IsSearchStatus status
MayEnd (Ok (Resumes words cut searching)) status = (status ≡ 2) ⊎ ((status ≡ 7) ⊎ IsSearchStatus status)
MayEnd (Ok (Judges words plan)) status = (status ≡ 0) ⊎ ((status ≡ 2) ⊎ (status ≡ 8))
MayEnd (Ok (Makes orders seed)) status = status ≡ 0

-- words that can't stand, and those that make a mill, open no file
abbrev pub LeavesUnread : Parsed Command → Told → Told → Type 0
LeavesUnread (Err number) old new = new.left ≡ old.left
LeavesUnread (Ok (Solves words searching)) old new = Unit {0}
LeavesUnread (Ok (Resumes words cut searching)) old new = Unit {0}
LeavesUnread (Ok (Judges words plan)) old new = Unit {0}
LeavesUnread (Ok (Makes orders seed)) old new = new.left ≡ old.left
