-- A reading of a cut that stopped early.
use Rattle.std.proofs.Common.{◌≡◌, ℕ, ◌≤◌, true, List, Option, Result, Ok, Err, sym, ap, ◌∙◌, subst, arith}
use Rattle.std.specs.Result.{IsErr, IsErrAnd}
use Rattle.slab_counter.specs.Counter.{Rose}
use Rattle.slab_desk.specs.Desk.{Told, Steps, Stays, Reads}
use Rattle.cert_keep.specs.Cuts.{CutReading}
use Rattle.slab_front.specs.declared.ending.Stop.{Stop}
use Rattle.slab_front.specs.declared.ending.Stop.TheVariants.{Fault, Memory}
use Rattle.slab_front.specs.Owed.{Nothing}
use Rattle.slab_front.specs.Endings.{HasOnlyRead, IsStop, is_fault}
use Rattle.slab_front.proofs.Pieces.{HasFed, fed_and_failed, fed_and_read}

abbrev pub StopsBy : {A : Type 0} → Stop → Result A Stop → Type 0
StopsBy why result = IsErr result × IsErrAnd result (λ (stop : Stop). stop ≡ why)

result_is : {A : Type 0} (why : Stop) (result : Result A Stop) → StopsBy why result → result ≡ Err why
result_is why (Ok value) e = cc e.0
result_is why (Err stop) e = ap (λ (s : Stop). Err s) e.1

pub fault_is : {A : Type 0} (result : Result A Stop) → StopsBy Fault result → is_fault result ≡ true
fault_is result e = ap is_fault (result_is Fault result e)

-- the outside failed
pub read_failed : {A : Type 0} (reader : CutReading) (name : List ℕ) (result : Result A Stop) (old now new : Option Told) (before here after : ℕ)
    → HasFed reader name old now → here ≡ before → here ≤ after → Rose here after → Steps now new Stays → StopsBy Fault result
    → HasOnlyRead (IsStop Nothing) old new before after result
read_failed reader name result old now new before here after fed same later rose stays e =
    subst (λ (r : Result _ Stop). HasOnlyRead (IsStop Nothing) old new before after r) (sym (result_is Fault result e))
    (record {
      stop = subst (λ (n : ℕ). Rose n after) same rose;
      left = fed_and_failed reader name old now new fed stays;
      later = subst (λ (n : ℕ). n ≤ after) same later;
      kept = λ f. cc f;
    })

-- memory ran out where a piece was fed
pub memory_ran_out : {A : Type 0} (reader : CutReading) (name buffer : List ℕ) (k : ℕ) (result : Result A Stop) (old now new : Option Told) (before here after : ℕ)
    → HasFed reader name old now → here ≡ before → after ≡ here → Steps now new (Reads k buffer) → StopsBy Memory result
    → HasOnlyRead (IsStop Nothing) old new before after result
memory_ran_out reader name buffer k result old now new before here after fed same kept reads e =
    subst (λ (r : Result _ Stop). HasOnlyRead (IsStop Nothing) old new before after r) (sym (result_is Memory result e))
    (record {
      stop = tt;
      left = fed_and_read reader name buffer k old now new fed reads;
      later = omega (arith, same, kept);
      kept = λ f. kept ∙ same;
    })
