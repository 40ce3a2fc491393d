-- What is seen of a desk, and what a call does that sends bytes to one of its ends.
use Rattle.std.specs.Prelude.{◌≡◌, ℕ, Bool, List, Option, Result, OnOk, OnErr}
use Rattle.slab_desk.specs.Causes.{HasCause, is_stopped_after}
use Rattle.slab_desk.specs.Names.{Names}
use Rattle.slab_desk.specs.Desk.{Told, Steps, WithPrefix}

-- what a desk tells, how often it failed, whether its last call failed, and the names that it was given
pub record Seen : Type 0 where
  pub told : Option Told
  pub faults : ℕ
  pub stopped : Bool
  pub named : Names

-- all of these bytes went out, or a prefix of them where the outside failed
pub record IsSent {T E : Type 0} (sends : List ℕ → Told → Told → Type 0) (bytes : List ℕ) (old new : Seen) (result : Result T E) : Type 0 where
  pub all : OnOk result (Steps old.told new.told (sends bytes))
  pub prefix : OnErr result (Steps old.told new.told (WithPrefix sends bytes))
  pub cause : HasCause old.faults new.faults result
  pub stopped : new.stopped ≡ is_stopped_after old.stopped bytes result
  pub named : new.named ≡ old.named
