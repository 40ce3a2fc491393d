-- What was put so far: what went out of it, and what waits.
use Rattle.std.specs.Prelude.{◌≡◌, ◌≤◌, ℕ, Bool, true, false, List, ◌++◌, ⊤, Ok, Result}
use Rattle.slab_counter.specs.Counter.{Rose}
use Rattle.slab_desk.specs.declared.desk.Failed.{Failed}
use Rattle.slab_desk.specs.Causes.{is_stopped_after}
use Rattle.slab_desk.specs.Desk.{Told, Steps, WithPrefix}
use Rattle.line_out.specs.Seen.{Seen, IsSent}

-- a buffer: the bytes that wait, and whether the outside has failed since it was new
pub record Waiting : Type 0 where
  pub bytes : List ℕ
  pub failed : Bool

-- the bytes that wait after a front of the text went out
pub record IsUnderWay (sends : List ℕ → Told → Told → Type 0) (text waiting : List ℕ) (start now : Seen) : Type 0 where
  pub front : List ℕ
  pub whole : text ≡ front ++ waiting
  pub steps : Steps start.told now.told (sends front)
  pub faults : now.faults ≡ start.faults
  pub stopped : now.stopped ≡ is_stopped_after {E = Failed} start.stopped front (Ok (tt {0}))
  pub named : now.named ≡ start.named

-- a prefix of the text went out before the outside failed
pub record IsBroken (sends : List ℕ → Told → Told → Type 0) (text : List ℕ) (start now : Seen) : Type 0 where
  pub prefix : Steps start.told now.told (WithPrefix sends text)
  pub later : start.faults ≤ now.faults
  pub cause : Rose start.faults now.faults
  pub stopped : now.stopped ≡ true
  pub named : now.named ≡ start.named

-- this text was put since the start
pub record HasPut (sends : List ℕ → Told → Told → Type 0) (text : List ℕ) (start : Seen) (buffer : Waiting) (now : Seen) : Type 0 where
  pub going : buffer.failed ≡ false → IsUnderWay sends text buffer.bytes start now
  pub broken : buffer.failed ≡ true → IsBroken sends text start now

-- this text was put after whatever was put before
pub record Puts (sends : List ℕ → Told → Told → Type 0) (text : List ℕ) (old : Waiting × Seen) (new : Waiting × Seen) : Type 0 where
  pub after : (before : List ℕ) (start : Seen) → HasPut sends before start old.0 old.1 → HasPut sends (before ++ text) start new.0 new.1

-- the bytes that waited have gone out, so that all that was put is sent
pub record Ends {T E : Type 0} (sends : List ℕ → Told → Told → Type 0) (buffer : Waiting) (old new : Seen) (result : Result T E) : Type 0 where
  pub sent : (text : List ℕ) (start : Seen) → HasPut sends text start buffer old → IsSent sends text start new result
