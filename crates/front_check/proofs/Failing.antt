-- A reading that the outside stopped.
use Rattle.std.proofs.Common.{◌≡◌, ◌≢◌, ℕ, ◌≤◌, Bool, true, false, List, Option, Some, None, Result, Ok, Err, refl, sym, ap, ◌∙◌, subst, arith}
use Rattle.std.specs.Result.{IsErr, IsErrAnd}
use Rattle.slab_counter.specs.Counter.{Rose}
use Rattle.slab_desk.specs.Desk.{Told, Files, Steps, Stays}
use Rattle.cert_check.specs.Readings.{Reading}
use Rattle.front_check.specs.declared.ending.Stop.{Stop}
use Rattle.front_check.specs.declared.ending.Stop.TheVariants.{Refused, Fault, Memory}
use Rattle.front_check.specs.Owed.{Nothing}
use Rattle.front_check.specs.Endings.{HasOnlyRead, IsStop, is_fault}
use Rattle.front_check.proofs.Pieces.{HasFed, fed_and_failed}

abbrev pub IsFault : {A : Type 0} → Result A Stop → Type 0
IsFault result = IsErr result × IsErrAnd result (λ (stop : Stop). stop ≡ Fault)

result_is : {A : Type 0} (result : Result A Stop) → IsFault result → result ≡ Err Fault
result_is (Ok value) e = cc e.0
result_is (Err stop) e = ap (λ (s : Stop). Err s) e.1

pub fault_is : {A : Type 0} (result : Result A Stop) → IsFault result → is_fault result ≡ true
fault_is result e = ap is_fault (result_is result e)

-- the outside failed while a certificate was read
pub read_failed : {A : Type 0} (checker : Reading) (name : List ℕ) (result : Result A Stop) (old now new : Option Told) (before here after : ℕ)
    → HasFed checker name old now → here ≡ before → here ≤ after → Rose here after → Steps now new Stays → IsFault result
    → HasOnlyRead (IsStop Nothing) old new before after result
read_failed checker name result old now new before here after fed same later rose stays e =
    subst (λ (r : Result _ Stop). HasOnlyRead (IsStop Nothing) old new before after r) (sym (result_is result e))
    (record {
      stop = subst (λ (n : ℕ). Rose n after) same rose;
      left = fed_and_failed checker name old now new fed stays;
      later = subst (λ (n : ℕ). n ≤ after) same later;
      kept = λ f. cc f;
    })
