-- What a check owes: a status and a text, by its words and the files.
use Rattle.std.specs.Prelude.{◌≡◌, ◌⊎◌, ℕ, ◌≤◌, nat_lt, List, [], ◌++◌, length, Option, Some, None, Result, Ok, Err, MatchOption, MatchResult}
use Rattle.std.specs.Bool.{MatchBool}
use Rattle.std.specs.FinMap.{get}
use Rattle.slab_desk.specs.Desk.{Files}
use Rattle.mill_model.specs.declared.sums.Sums.{Sums}
use Rattle.mill_model.specs.Mill.{Mill, with_yard}
use Rattle.mill_model.specs.Plans.{Plan, IsLegal}
use Rattle.mill_model.specs.Fronts.{IsFront, sums_list}
use Rattle.mill_read.specs.declared.fault.TextFault.{TextFault}
use Rattle.mill_read.specs.OrderFile.{order_file}
use Rattle.mill_read.specs.YardFile.{yard_file}
use Rattle.cert_text.specs.Certificates.{Certificate, ShowsFront, ShowsNoPlan, ShowsCut}
use Rattle.cert_text.specs.Texts.{Spells}
use Rattle.cert_rules.specs.declared.why.Why.{Why as LineRule}
use Rattle.cert_rules.specs.States.Wanted.{All}
use Rattle.cert_rules.specs.Reading.{IsFirstBad}
use Rattle.cert_rules.specs.Verdicts.{LeadToTheFront}
use Rattle.cert_check.specs.Readings.{HasBadLine}
use Rattle.run_words.specs.Words.{MillWords, Parsed}
use Rattle.run_words.specs.Texts.{usage_text, bad_line_text}
use Rattle.run_words.specs.Files.{most_bytes, with_colours}
use Rattle.front_check.specs.declared.texts.Source.{Source}
use Rattle.front_check.specs.declared.texts.Source.TheVariants.{Orders, Yard as YardSource}
use Rattle.front_check.specs.Words.{CheckWords, check_words}
use Rattle.front_check.specs.Texts.{fault_text, long_text, proved_text, cut_text, no_plan_text}
use Rattle.front_check.specs.Outcomes.{Owing}

-- ---- files

-- this status with this text, and no other
abbrev pub Exactly : ℕ → List ℕ → Owing
Exactly code owed status text = (status ≡ code) × (text ≡ owed)

abbrev pub Nothing : {A : Type 0} → A → Owing
Nothing value status text = ⊥

-- the first refusal of a file, or what is owed of its value; a file that isn't there is the outside's fault, and nothing is
-- owed of it
abbrev pub OwesOfFile : {A : Type 0} → Source → (List ℕ → Result A TextFault) → (A → Owing) → Files → List ℕ → Owing
OwesOfFile source reading owes files name status text =
    MatchOption (get files name) ⊥ (λ bytes.
    MatchBool (nat_lt most_bytes (length bytes))
    (Exactly 2 (long_text source) status text)
    (MatchResult (reading bytes) (λ value. owes value status text) (λ fault. Exactly 2 (fault_text source fault) status text)))

-- the yard of this file, where one is named
abbrev pub OwesOfYard : (Mill → Owing) → Files → Option (List ℕ) → Mill → Owing
OwesOfYard owes files None m = owes m
OwesOfYard owes files (Some name) m = OwesOfFile YardSource (yard_file (length m.orders)) (λ yard. owes (with_yard m yard)) files name

-- the order file, and then the yard file
abbrev pub OwesOfMill : (Mill → Owing) → Files → MillWords → Owing
OwesOfMill owes files words =
    OwesOfFile Orders order_file (OwesOfYard (λ m. owes (with_colours words.colours m)) files words.yard) files words.orders

-- ---- certificates

-- the bytes spell a good whole certificate with these points, which are the Pareto front
pub record ProveFront (m : Mill) (bytes : List ℕ) (points : List Sums) : Type 0 where
  pub certificate : Certificate
  pub spelled : Spells bytes certificate
  pub shows : ShowsFront m certificate
  pub points_are : sums_list certificate.points ≡ points
  pub front : IsFront m points

-- the bytes spell a good cut with these points, which lead to the front
pub record ShowBeginning (m : Mill) (bytes : List ℕ) (points : List Sums) : Type 0 where
  pub certificate : Certificate
  pub spelled : Spells bytes certificate
  pub shows : ShowsCut m certificate
  pub points_are : sums_list certificate.points ≡ points
  pub beginning : LeadToTheFront m None points

-- the bytes spell a good whole certificate without a point, and no plan is legal
pub record ProveNoPlan (m : Mill) (bytes : List ℕ) : Type 0 where
  pub certificate : Certificate
  pub spelled : Spells bytes certificate
  pub shows : ShowsNoPlan m certificate
  pub none : (plan : Plan) → IsLegal m plan → ⊥

-- what these bytes show of the mill; or their first bad line, and the rule that it breaks
abbrev pub OwesVerdict : Mill → List ℕ → Owing
OwesVerdict m bytes status text =
    ((points : List Sums) × ProveFront m bytes points × Exactly 0 (proved_text points) status text)
    ⊎ (((points : List Sums) × ShowBeginning m bytes points × Exactly 3 (cut_text points) status text)
    ⊎ ((ProveNoPlan m bytes × Exactly 4 no_plan_text status text)
    ⊎ ((number : ℕ) × (rule : LineRule) × IsFirstBad m All bytes number rule × Exactly 7 (bad_line_text number rule) status text)))

-- a certificate may have any length
abbrev pub OwesOfCert : Files → List ℕ → Mill → Owing
OwesOfCert files name m status text = MatchOption (get files name) ⊥ (λ bytes. OwesVerdict m bytes status text)

-- ---- runs

abbrev pub OwesOfCheck : CheckWords → Files → Owing
OwesOfCheck words files = OwesOfMill (OwesOfCert files words.cert) files words.mill

-- what the words ask for, or the first that can't stand
abbrev pub OwesOfWords : Parsed CheckWords → Files → Owing
OwesOfWords parsed files status text =
    MatchResult parsed (λ words. OwesOfCheck words files status text) (λ number. Exactly 1 (usage_text number) status text)

-- the words, the order file, the yard file, the certificate: the first refusal ends a run
abbrev pub Owes : List (List ℕ) → Files → Owing
Owes words = OwesOfWords (check_words words)

-- ---- whatever the desk tells

-- the statuses of verdicts
abbrev pub IsVerdictStatus : ℕ → Type 0
IsVerdictStatus status = (status ≡ 0) ⊎ ((status ≡ 3) ⊎ ((status ≡ 4) ⊎ (status ≡ 7)))

-- the statuses that these words may end with, beside those of a fault and of want of memory
abbrev pub MayEnd : Parsed CheckWords → ℕ → Type 0
MayEnd (Err number) status = status ≡ 1
MayEnd (Ok words) status = (status ≡ 2) ⊎ IsVerdictStatus status

-- ---- what is read of a certificate

-- so many bytes of a certificate are read at once, at most
abbrev pub most_piece : ℕ
most_piece = 8192

-- Reading stopped at the first bad line, or at the end: what was read of these bytes has none but in its last piece, and has one
-- there where something is left.
abbrev pub StopsSoon : Mill → List ℕ → List ℕ → Type 0
StopsSoon m bytes left =
    (earlier piece : List ℕ) × (bytes ≡ earlier ++ (piece ++ left)) × (length piece ≤ most_piece)
    × (HasBadLine All m earlier → ⊥) × ((left ≡ []) ⊎ HasBadLine All m (earlier ++ piece))
