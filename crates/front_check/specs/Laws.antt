-- That a check owes one answer.
use Rattle.std.specs.Prelude.{◌≡◌, ℕ, List}
use Rattle.slab_desk.specs.Desk.{Files}
use Rattle.front_check.specs.Owed.{Owes}

-- the words and the files leave one status, with one text
abbrev pub OneAnswer : Type 0
OneAnswer = (words : List (List ℕ)) (files : Files) (status other : ℕ) (text said : List ℕ) →
    Owes words files status text → Owes words files other said → (status ≡ other) × (text ≡ said)
