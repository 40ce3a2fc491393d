-- A desk in memory, as contracts see it: before a call, after one that was answered, and after one that failed.
use Rattle.std.specs.Prelude.{◌≡◌, ℕ, ◌-◌, ◌<◌, ◌≤◌, ◌⊎◌, ◌||◌, ◌++◌, min, Bool, true, false, List, [], Some, None, is_none, length, take, drop, Contains, IsTrue}
use Rattle.std.specs.FinMap.{get, insert}
use Rattle.slab_counter.specs.Counter.{next_count}
use Rattle.slab_desk.specs.Calls.{count_of, with_call}
use Rattle.slab_desk.specs.Desk.{Told, HasFile}
use Rattle.slab_desk.specs.Names.{Names, with_opened, with_created}
use Rattle.slab_desk.specs.declared.calls.Act.{Act}
use Rattle.slab_desk.specs.declared.calls.Act.TheVariants.{OpenFile, Read, Create, Write, Say}
use Rattle.slab_desk.specs.declared.calls.Calls.{Calls}

pub record DeskState : Type 0 where
  pub told : Told
  -- at most so many bytes are moved at once
  pub piece : ℕ
  -- the k-th call of a kind fails, counted from 1
  pub failing : List (Act × ℕ)
  -- so many bytes have room in each file, in the new file's name and in what is said
  pub room : ℕ
  -- the one new file has been created
  pub made : Bool
  pub calls : Calls
  pub faults : ℕ
  -- the last call failed
  pub stopped : Bool
  pub named : Names

-- the next call of this kind is in the table of those that fail
abbrev pub IsToFail : Act → DeskState → Type 0
IsToFail act desk = Contains desk.failing (act, next_count (count_of act desk.calls))

-- the desk that was given this name
abbrev pub asked_to_open : List ℕ → DeskState → DeskState
asked_to_open name desk = record desk { named = with_opened name desk.named }

abbrev pub asked_to_create : List ℕ → DeskState → DeskState
asked_to_create name desk = record desk { named = with_created name desk.named }

-- the desk after a call that failed
abbrev pub after_fault : Act → DeskState → DeskState
after_fault act desk = record desk { calls = with_call act desk.calls; faults = next_count desk.faults; stopped = true }

-- the desk after a call that was answered, and left it telling this
abbrev pub after_answer : Act → Told → DeskState → DeskState
after_answer act told desk = record desk { told = told; calls = with_call act desk.calls; stopped = false }

pub record AfterOpen (name : List ℕ) (old new : DeskState) : Type 0 where
  pub bytes : List ℕ
  pub file : HasFile name bytes old.told
  pub state : new ≡ after_answer OpenFile (record old.told { left = bytes }) old

-- so many bytes are moved by one call: all of these, as far as a piece and the room go
abbrev pub moved : DeskState → ℕ → ℕ → ℕ
moved desk room wanted = min desk.piece (min wanted room)

abbrev pub after_read : ℕ → DeskState → DeskState
after_read k desk = after_answer Read (record desk.told { left = drop k desk.told.left }) desk

-- there is no file of this name, and it is too long, or the one new file was created before
abbrev pub CannotMake : List ℕ → DeskState → Type 0
CannotMake name desk = (get desk.told.files name ≡ None) × ((desk.room < length name) ⊎ IsTrue desk.made)

abbrev pub after_create : List ℕ → DeskState → DeskState
after_create name desk =
    let told : Told = record desk.told { files = insert desk.told.files name []; target = Some name } in
    record (after_answer Create told desk) { made = desk.made || is_none (get desk.told.files name) }

-- these bytes, which are not none, find no room in a content
abbrev pub IsFullFor : List ℕ → List ℕ → DeskState → Type 0
IsFullFor bytes content desk = (0 < length bytes) × (desk.room ≤ length content)

-- the target's content
pub record HasTarget (name content : List ℕ) (desk : DeskState) : Type 0 where
  pub target : desk.told.target ≡ Some name
  pub file : HasFile name content desk.told

abbrev pub TargetIsFullFor : List ℕ → DeskState → Type 0
TargetIsFullFor bytes desk = (name content : List ℕ) × HasTarget name content desk × IsFullFor bytes content desk

pub record AfterWrite (bytes : List ℕ) (k : ℕ) (old new : DeskState) : Type 0 where
  pub name : List ℕ
  pub content : List ℕ
  pub had : HasTarget name content old
  pub count : k ≡ moved old (old.room - length content) (length bytes)
  pub state : new ≡ after_answer Write (record old.told { files = insert old.told.files name (content ++ take k bytes) }) old

abbrev pub after_say : List ℕ → DeskState → DeskState
after_say bytes desk = after_answer Say (record desk.told { said = desk.told.said ++ bytes }) desk

-- a desk that tells nothing else
pub record FaultState : Type 0 where
  pub faults : ℕ
  pub stopped : Bool
  pub named : Names
