-- Groups that decisions keep apart.
use Rattle.std.specs.Prelude.{◌≡◌, ℕ, ◌+◌, ◌*◌, ◌<◌, Bool, true, false, List, length, slice_index_or}
use Rattle.mill_model.specs.Columns.{Column}
use Rattle.mill_model.specs.Decisions.{Decision, agrees, column_agrees}
use Rattle.pricing_laws.specs.Groups.{AreApart, AreHeads}

-- the mark of two orders
abbrev pub mark_at : ℕ → List Bool → ℕ → ℕ → Bool
mark_at orders apart a b = slice_index_or apart (a * orders + b) false

-- no column that agrees with the decisions has two orders that are marked
pub record AreMarkedApart (decisions : List Decision) (orders : ℕ) (apart : List Bool) : Type 0 where
  pub size : length apart ≡ orders * orders
  pub never : (a b : ℕ) → a < orders → b < orders → mark_at orders apart a b ≡ true → AreApart decisions a b

-- marks that are right for decisions which imply one are right after it too
abbrev pub StayMarked : List ℕ → Decision → List Bool → List Bool → Type 0
StayMarked heads d old new =
    (decisions : List Decision) → AreHeads decisions heads → ((c : Column) → column_agrees decisions c ≡ true → agrees c d ≡ true) → AreMarkedApart decisions (length heads) old → AreMarkedApart decisions (length heads) new
