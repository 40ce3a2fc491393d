-- Upper limits of loss and count.
use Rattle.std.specs.Prelude.{ℤ, pos, ◌≤ℤ◌, Option, Some, None}
use Rattle.mill_model.specs.declared.sums.Sums.{Sums}
use Rattle.mill_model.specs.declared.limits.Limits.{Limits}

-- a limit is at most another; a missing limit is above each number
abbrev pub AtMost : Option ℤ → Option ℤ → Type 0
AtMost a None = Unit {0}
AtMost None (Some b) = ⊥
AtMost (Some a) (Some b) = a ≤ℤ b

-- the loss and the count are at most the limits, where these stand
pub record IsWithin (x : Sums) (limits : Limits) : Type 0 where
  pub loss : AtMost (Some (pos x.loss)) limits.loss
  pub count : AtMost (Some (pos x.count)) limits.count

-- every number that stands in the second limits stands in the first and isn't greater there
pub record AreSmaller (a b : Limits) : Type 0 where
  pub loss : AtMost a.loss b.loss
  pub count : AtMost a.count b.count

-- a limit's number, and 0 for one that is missing
abbrev pub number_of : Option ℤ → ℤ
number_of None = pos 0
number_of (Some a) = a
