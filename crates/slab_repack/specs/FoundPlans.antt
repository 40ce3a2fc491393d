-- Plans that a search may answer.
use Rattle.std.specs.Prelude.{◌≡◌, ℕ, suc, ◌<◌, ◌≤◌, List, eqb, length, slice_index}
use Rattle.std.specs.List.{position_or_len}
use Rattle.mill_model.specs.declared.limits.Limits.{Limits}
use Rattle.mill_model.specs.Mill.{Mill}
use Rattle.mill_model.specs.Limits.{IsWithin}
use Rattle.mill_model.specs.Plans.{Plan, IsLegal, IsInOrder, sums_of}

-- legal, in order, and within the limits
pub record IsFoundPlan (m : Mill) (limits : Limits) (p : Plan) : Type 0 where
  pub legal : IsLegal m p
  pub order : IsInOrder p
  pub within : IsWithin (sums_of m p) limits

-- the numbers below another have first places that rise
abbrev pub AreNumberedBelow : List ℕ → ℕ → Type 0
AreNumberedBelow place slabs = (k : ℕ) → suc k < slabs → position_or_len (λ x. eqb x k) place < position_or_len (λ x. eqb x (suc k)) place

-- each slab has a place, and each place is one of the slabs
pub record AreUsed (place : List ℕ) (slabs : ℕ) : Type 0 where
  pub some : (k : ℕ) → k < slabs → position_or_len (λ x. eqb x k) place < length place
  pub others : (o : ℕ) → o < length place → slice_index place o < slabs

-- of the places so far: the numbers below `next` have places that rise, and no other has one
pub record AreNumberedSoFar (xs : List ℕ) (next : ℕ) : Type 0 where
  pub rise : AreNumberedBelow xs next
  pub there : (k : ℕ) → k < next → position_or_len (λ x. eqb x k) xs < length xs
  pub others : (k : ℕ) → next ≤ k → position_or_len (λ x. eqb x k) xs ≡ length xs
