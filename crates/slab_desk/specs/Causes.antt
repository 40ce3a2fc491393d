-- The answer that only a fault explains, and what the count of faults and the last answer are after a call.
use Rattle.std.specs.Prelude.{◌≡◌, ℕ, ◌≤◌, Bool, true, false, List, [], ◌∷◌, Result, Ok, Err, OnOk, OnErr}
use Rattle.slab_counter.specs.Counter.{Rose}
use Rattle.slab_desk.specs.declared.whole.ReadFail.{ReadFail}
use Rattle.slab_desk.specs.declared.whole.ReadFail.TheVariants.{Fault, Long, Memory}

-- the count of faults never falls. An error comes only where it rose, or stands at its last value, and any other answer
-- leaves it as it was
pub record HasCause {T E : Type 0} (before now : ℕ) (result : Result T E) : Type 0 where
  pub later : before ≤ now
  pub failed : OnErr result (Rose before now)
  pub kept : OnOk result (now ≡ before)

-- whether the last call failed, after whole bytes went out: of no bytes no call was made
abbrev pub is_stopped_after : {T E : Type 0} → Bool → List ℕ → Result T E → Bool
is_stopped_after before bytes (Err e) = true
is_stopped_after before [] (Ok value) = before
is_stopped_after before (byte ∷ bytes) (Ok value) = false

-- a file wasn't read, since a call of the desk failed
abbrev pub is_fault : {T : Type 0} → Result T ReadFail → Bool
is_fault (Ok value) = false
is_fault (Err Fault) = true
is_fault (Err Long) = false
is_fault (Err Memory) = false
