-- What the parts of a run answer.
use Rattle.std.specs.Prelude.{◌≡◌, ◌≢◌, ◌⊎◌, ℕ, ◌≤◌, Bool, true, false, List, [], ⊤, Option, Some, Result, Ok, Err, IfErr}
use Rattle.std.specs.String.{string_bytes}
use Rattle.std.specs.FinMap.{get}
use Rattle.slab_counter.specs.Counter.{Rose}
use Rattle.slab_desk.specs.Desk.{Told, Files, Steps, WhereTold, HasLongFile, ChangesLeft}
use Rattle.mill_model.specs.Mill.{Mill}
use Rattle.mill_read.specs.declared.fault.TextFault.{TextFault}
use Rattle.mill_read.specs.declared.fault.TextError.{TextError}
use Rattle.mill_read.specs.declared.fault.TextError.TheVariants.{Text as TextOf}
use Rattle.mill_model.specs.Fronts.{IsGoodHead}
use Rattle.cert_rules.specs.States.Wanted.{Cuts}
use Rattle.cert_rules.specs.Reading.{IsFirstBad}
use Rattle.cert_keep.specs.declared.kept.CutRead.{CutRead}
use Rattle.cert_keep.specs.declared.kept.CutRead.TheVariants as cuts
use Rattle.cert_check.specs.Whys.{why_of}
use Rattle.run_words.specs.Words.{Parsed}
use Rattle.run_words.specs.Files.{most_bytes}
use Rattle.slab_front.specs.declared.ending.Answer.{Answer}
use Rattle.slab_front.specs.declared.ending.Answer.TheVariants.{Text, Stored, SummedUp}
use Rattle.slab_front.specs.declared.ending.Ending.{Ending}
use Rattle.slab_front.specs.declared.ending.Stop.{Stop}
use Rattle.slab_front.specs.declared.ending.Stop.TheVariants.{Refused, Fault, Memory}
use Rattle.slab_front.specs.Words.{Command}
use Rattle.slab_front.specs.declared.texts.Source.{Source}
use Rattle.slab_front.specs.Texts.{long_text, fault_text}
use Rattle.slab_front.specs.Searched.{status_of}
use Rattle.slab_front.specs.Outcomes.{Outcome, Owing, Gives, SaysOnly, Begins, saying}
use Rattle.slab_front.specs.Owed.{MayEnd, SpellsCut, stored_as, summed_up}

-- ---- stops

-- a refusal's text is owed with status 2, and a fault has its cause
abbrev pub IsStop : (Files → Owing) → Option Told → ℕ → ℕ → Stop → Type 0
IsStop owes told before now (Refused text) = WhereTold told (λ t. owes t.files 2 (saying (string_bytes text)))
IsStop owes told before now Fault = Rose before now
IsStop owes told before now Memory = ⊤

-- the answer is that the outside failed
abbrev pub is_fault : {A : Type 0} → Result A Stop → Bool
is_fault (Ok value) = false
is_fault (Err (Refused text)) = false
is_fault (Err Fault) = true
is_fault (Err Memory) = false

-- what a part of a run that reads files did: it stopped only for such a reason, changed nothing but what is left to read, and
-- the count of faults changed only where the answer is a fault
pub record HasOnlyRead {A : Type 0} (IsReason : Option Told → ℕ → ℕ → Stop → Type 0) (old new : Option Told) (before now : ℕ) (result : Result A Stop) : Type 0 where
  pub stop : IfErr result (IsReason old before now)
  pub left : Steps old new ChangesLeft
  pub later : before ≤ now
  pub kept : is_fault result ≡ false → now ≡ before

-- the desk's last call failed where the answer is a fault, and not where only a text is left to say
abbrev pub IsStoppedBy : Result Answer Stop → Bool → Type 0
IsStoppedBy (Ok (Text ending)) failed = failed ≡ false
IsStoppedBy (Ok (Stored name m s)) failed = Unit {0}
IsStoppedBy (Ok (SummedUp m s)) failed = Unit {0}
IsStoppedBy (Err (Refused text)) failed = failed ≡ false
IsStoppedBy (Err Fault) failed = failed ≡ true
IsStoppedBy (Err Memory) failed = Unit {0}

-- ---- answers

-- a text is owed with its status
abbrev pub IsEnding : (Files → Owing) → Option Told → Ending → Type 0
IsEnding owes told ending = WhereTold told (λ t. owes t.files ending.status (saying (string_bytes ending.text)))

abbrev pub status_for : Answer → ℕ
status_for (Text ending) = ending.status
status_for (Stored name m s) = status_of s
status_for (SummedUp m s) = status_of s

abbrev pub outcome_for : Answer → Outcome
outcome_for (Text ending) = saying (string_bytes ending.text)
outcome_for (Stored name m s) = stored_as name.now m s
outcome_for (SummedUp m s) = summed_up m s

-- what an answer leads to is owed
abbrev pub IsAnswer : (Files → Owing) → Option Told → Answer → Type 0
IsAnswer owes told answer = WhereTold told (λ t. owes t.files (status_for answer) (outcome_for answer))

-- the status that the answer leads to is one that these words may end with
abbrev pub MayAnswer : Parsed Command → Result Answer Stop → Type 0
MayAnswer parsed (Ok answer) = MayEnd parsed (status_for answer)
MayAnswer parsed (Err (Refused text)) = MayEnd parsed 2
MayAnswer parsed (Err Fault) = ⊤
MayAnswer parsed (Err Memory) = ⊤

-- ---- ends

-- The outcome was given, and the answer is its status, or the outcome was begun at most, where the outside failed.
pub record Finishes (code : ℕ) (outcome : Outcome) (old new : Option Told) (result : ℕ) : Type 0 where
  pub status : (result ≡ code) ⊎ (result ≡ 5)
  pub given : result ≢ 5 → Steps old new (Gives outcome)
  pub short : result ≡ 5 → Steps old new (λ x y. SaysOnly [] x y ⊎ Begins outcome x y)
  -- another part of a file isn't left to read
  pub unread : Steps old new (λ x y. y.left ≡ x.left)

-- ---- cuts

-- a file of this name has bytes of which this was read
abbrev pub OnCutFile : (List ℕ → Type 0) → List ℕ → Files → Type 0
OnCutFile P name files = (bytes : List ℕ) × (get files name ≡ Some bytes) × P bytes

-- the points of a good cut, or its first bad line
abbrev pub IsReadCut : Mill → CutRead → List ℕ → Type 0
IsReadCut m (cuts.Head points) bytes = SpellsCut m bytes points
IsReadCut m (cuts.No line broken) bytes = IsFirstBad m Cuts bytes line (why_of broken)

-- the points that were read are a good head
abbrev pub HasGoodHead : Mill → CutRead → Type 0
HasGoodHead m (cuts.Head points) = IsGoodHead m points
HasGoodHead m (cuts.No line broken) = Unit {0}

-- ---- files

-- the file is too long
abbrev pub IsTooLong : Source → List ℕ → Option Told → ℕ → ℕ → Stop → Type 0
IsTooLong source name told before now (Refused text) = (string_bytes text ≡ long_text source) × WhereTold told (HasLongFile name most_bytes)
IsTooLong source name told before now Fault = Rose before now
IsTooLong source name told before now Memory = ⊤

-- what reading a text answered
abbrev pub IsRefusal : Source → TextError → Stop → Type 0
IsRefusal source error (Refused text) = (fault : TextFault) × (error ≡ TextOf fault) × (string_bytes text ≡ fault_text source fault)
IsRefusal source error Fault = ⊥
IsRefusal source error Memory = ⊤
