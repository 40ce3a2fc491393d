-- How a run ends where the outside fails.
use Rattle.std.specs.Prelude.{◌≡◌, ◌≢◌, ◌↔◌, ℕ, ◌≤◌, Bool, IsTrue}
use Rattle.slab_counter.specs.Counter.{Rose}

-- a run ends with 5 exactly where the desk's last call failed, and the count of faults explains it
pub record EndsByFaults (before now : ℕ) (failed : Bool) (status : ℕ) : Type 0 where
  pub fault : status ≡ 5 → Rose before now
  pub later : before ≤ now
  pub kept : status ≢ 5 → now ≡ before
  pub stopped : (status ≡ 5) ↔ IsTrue failed
