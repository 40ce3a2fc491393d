-- Covers as a certificate shows them: one denominator, and columns with whole multipliers.
use Rattle.std.specs.Prelude.{ℕ, ◌^◌, ℤ, pos, ◌≤ℤ◌, unsigned_abs, List, map}
use Rattle.std.specs.List.{AllByRecursion}
use Rattle.mill_model.specs.declared.kind.Kind.{Kind}
use Rattle.mill_model.specs.declared.limits.Limits.{Limits}
use Rattle.mill_model.specs.Mill.{Mill}
use Rattle.mill_model.specs.Decisions.{Decision}
use Rattle.mill_model.specs.Covers.{Part, IsCover}

-- a column with its multiplier
pub record Share : Type 0 where
  pub times : ℤ
  pub kind : Kind
  pub orders : List ℕ

pub record Shown : Type 0 where
  -- the denominator of all multipliers
  pub d : ℤ
  pub shares : List Share

-- a share as a part of a cover
abbrev pub part_of : Share → Part
part_of share = (record { kind = share.kind; orders = share.orders }, unsigned_abs share.times)

-- the greatest denominator and multiplier
abbrev pub most_multiplier : ℕ
most_multiplier = 2 ^ 62

abbrev pub IsMultiplier : ℤ → Type 0
IsMultiplier q = (pos 1 ≤ℤ q) × (q ≤ℤ pos most_multiplier)

-- the shares are a cover within the limits, over this denominator, and no number of it is out of range
pub record IsShown (m : Mill) (limits : Limits) (decisions : List Decision) (shown : Shown) : Type 0 where
  pub denominator : IsMultiplier shown.d
  pub multipliers : AllByRecursion (λ (share : Share). IsMultiplier share.times) shown.shares
  pub covers : IsCover m limits decisions (unsigned_abs shown.d) (map part_of shown.shares)
