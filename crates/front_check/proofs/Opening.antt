-- Which files a check asked its desk to open, from its parts.
use Rattle.std.proofs.Common.{◌≡◌, ◌⊎◌, inl, inr, ℕ, List, Option, Result, Ok, Err, refl, sym, subst, arith}
use Rattle.slab_desk.specs.Desk.{Told}
use Rattle.slab_desk.specs.Names.{Names}
use Rattle.run_words.specs.Words.{Parsed}
use Rattle.run_words.specs.Opens.{HasOpened}
use Rattle.run_words.proofs.Opening.{opened_none, opened_so}
use Rattle.front_check.specs.declared.ending.Ending.{Ending}
use Rattle.front_check.specs.declared.ending.Stop.{Stop}
use Rattle.front_check.specs.Words.{CheckWords}
use Rattle.front_check.specs.Owed.{IsVerdictStatus}
use Rattle.front_check.specs.Opens.{OpensInOrder, IsOpenedFor}

-- the words can't stand
pub opens_nothing : (number : ℕ) (told : Option Told) (status : ℕ) (old new : Names) → new ≡ old → HasOpened (OpensInOrder (Err number) told status) old new
opens_nothing number told status old new is = opened_none {P = OpensInOrder (Err number) told status} old new is refl

-- an answer came
pub opens_all : (words : CheckWords) (told : Option Told) (ending : Ending) (status : ℕ) (old mid new : Names) → HasOpened (IsOpenedFor words told (Ok ending)) old mid → new ≡ mid
    → HasOpened (OpensInOrder (Ok words) told status) old new
opens_all words told ending status old mid new before is =
    opened_so {P = IsOpenedFor words told (Ok ending)} {Q = OpensInOrder (Ok words) told status} old mid new before is (λ opened h. record { order = h.order; all = λ verdict. h.all })

-- no answer came
pub opens_some : (words : CheckWords) (told : Option Told) (result : Result Ending Stop) (status : ℕ) (old mid new : Names) → HasOpened (IsOpenedFor words told result) old mid → new ≡ mid
    → (IsVerdictStatus status → ⊥) → HasOpened (OpensInOrder (Ok words) told status) old new
opens_some words told result status old mid new before is none =
    opened_so {P = IsOpenedFor words told result} {Q = OpensInOrder (Ok words) told status} old mid new before is (λ opened h. record { order = h.order; all = λ verdict. absurd (none verdict) })

pub never_verdict : (code status : ℕ) → (status ≡ code) ⊎ (status ≡ 5) → (code ≡ 2) ⊎ (code ≡ 6) → IsVerdictStatus status → ⊥
never_verdict code status is of verdict = omega (arith, is, of, verdict)

-- what a job asks for is what its words ask for
pub opens_parsed : (parsed other : Parsed CheckWords) (told : Option Told) (status : ℕ) (old new : Names) → parsed ≡ other → HasOpened (OpensInOrder other told status) old new
    → HasOpened (OpensInOrder parsed told status) old new
opens_parsed parsed other told status old new e opens = subst (λ (p : Parsed CheckWords). HasOpened (OpensInOrder p told status) old new) (sym e) opens
