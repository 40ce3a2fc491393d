-- What the parts of a run answer.
use Rattle.std.specs.Prelude.{◌≡◌, ◌≢◌, ◌⊎◌, ℕ, ◌≤◌, Bool, true, false, List, ⊤, Option, Some, Result, Ok, Err, IfErr}
use Rattle.std.specs.String.{string_bytes}
use Rattle.std.specs.FinMap.{get}
use Rattle.slab_counter.specs.Counter.{Rose}
use Rattle.slab_desk.specs.Desk.{Told, Files, Steps, WhereTold, HasFile, HasLongFile, ChangesLeft, Says, WithPrefix}
use Rattle.mill_model.specs.Mill.{Mill}
use Rattle.mill_read.specs.declared.fault.TextFault.{TextFault}
use Rattle.mill_read.specs.declared.fault.TextError.{TextError}
use Rattle.mill_read.specs.declared.fault.TextError.TheVariants.{Text as TextOf}
use Rattle.cert_rules.specs.Verdicts.{Verdict, IsVerdict}
use Rattle.run_words.specs.Words.{Parsed}
use Rattle.run_words.specs.Files.{most_bytes, HasMill}
use Rattle.front_check.specs.declared.ending.Ending.{Ending}
use Rattle.front_check.specs.declared.ending.Stop.{Stop}
use Rattle.front_check.specs.declared.ending.Stop.TheVariants.{Refused, Fault, Memory}
use Rattle.front_check.specs.Words.{CheckWords}
use Rattle.front_check.specs.declared.texts.Source.{Source}
use Rattle.front_check.specs.Texts.{long_text, fault_text}
use Rattle.front_check.specs.Outcomes.{Owing}
use Rattle.front_check.specs.Owed.{IsVerdictStatus, StopsSoon}

-- ---- files

-- the file is there, and this is the verdict on its bytes
abbrev pub HasVerdict : Mill → List ℕ → Verdict → Files → Type 0
HasVerdict m name verdict files = (bytes : List ℕ) × (get files name ≡ Some bytes) × IsVerdict m bytes verdict

-- the file is there, and its reading stopped at the first bad line or at the end
abbrev pub ReadsToBad : Mill → List ℕ → Told → Told → Type 0
ReadsToBad m name old new = (bytes : List ℕ) × HasFile name bytes old × StopsSoon m bytes new.left

-- words that can't stand open no file; else, after a verdict, the reading of the certificate stopped at the first bad line or at the end
abbrev pub LeavesRest : Parsed CheckWords → ℕ → Told → Told → Type 0
LeavesRest (Err number) status old new = new.left ≡ old.left
LeavesRest (Ok words) status old new = IsVerdictStatus status → (m : Mill) × HasMill words.mill m old.files × ReadsToBad m words.cert old new

-- ---- stops

-- a refusal's text is owed with status 2, and a fault has its cause
abbrev pub IsStop : (Files → Owing) → Option Told → ℕ → ℕ → Stop → Type 0
IsStop owes told before now (Refused text) = WhereTold told (λ t. owes t.files 2 (string_bytes text))
IsStop owes told before now Fault = Rose before now
IsStop owes told before now Memory = ⊤

-- the answer is that the outside failed
abbrev pub is_fault : {A : Type 0} → Result A Stop → Bool
is_fault (Ok value) = false
is_fault (Err (Refused text)) = false
is_fault (Err Fault) = true
is_fault (Err Memory) = false

-- what a part of a run that reads files did: it stopped only for such a reason, changed nothing but what is left to read, and
-- the count of faults changed only where the answer is a fault
pub record HasOnlyRead {A : Type 0} (IsReason : Option Told → ℕ → ℕ → Stop → Type 0) (old new : Option Told) (before now : ℕ) (result : Result A Stop) : Type 0 where
  pub stop : IfErr result (IsReason old before now)
  pub left : Steps old new ChangesLeft
  pub later : before ≤ now
  pub kept : is_fault result ≡ false → now ≡ before

-- ---- answers

-- a text is owed with its status
abbrev pub IsEnding : (Files → Owing) → Option Told → Ending → Type 0
IsEnding owes told ending = WhereTold told (λ t. owes t.files ending.status (string_bytes ending.text))

-- The text was said, and the answer is its status, or a prefix of it was said, where the outside failed.
pub record Finishes (code : ℕ) (text : List ℕ) (old new : Option Told) (result : ℕ) : Type 0 where
  pub status : (result ≡ code) ⊎ (result ≡ 5)
  pub given : result ≢ 5 → Steps old new (Says text)
  pub short : result ≡ 5 → Steps old new (WithPrefix Says text)

-- the file is too long
abbrev pub IsTooLong : Source → List ℕ → Option Told → ℕ → ℕ → Stop → Type 0
IsTooLong source name told before now (Refused text) = (string_bytes text ≡ long_text source) × WhereTold told (HasLongFile name most_bytes)
IsTooLong source name told before now Fault = Rose before now
IsTooLong source name told before now Memory = ⊤

-- what reading a text answered
abbrev pub IsRefusal : Source → TextError → Stop → Type 0
IsRefusal source error (Refused text) = (fault : TextFault) × (error ≡ TextOf fault) × (string_bytes text ≡ fault_text source fault)
IsRefusal source error Fault = ⊥
IsRefusal source error Memory = ⊤
