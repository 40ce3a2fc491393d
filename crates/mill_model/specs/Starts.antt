-- What a starter may answer.
use Rattle.std.specs.Prelude.{◌≡◌, ℤ, pos, Option, Some, None}
use Rattle.mill_model.specs.Mill.{Mill}
use Rattle.mill_model.specs.Plans.{Plan, IsLegal, IsInOrder, sums_of}
use Rattle.mill_model.specs.Limits.{AtMost}

-- a legal plan in order, with no more new slabs than the limit, where that stands
pub record IsStart (m : Mill) (limit : Option ℤ) (p : Plan) : Type 0 where
  pub legal : IsLegal m p
  pub order : IsInOrder p
  pub count : AtMost (Some (pos (sums_of m p).count)) limit

-- where answers are told, the answer is the one told
abbrev pub IsAsTold : Option (Mill → Option ℤ → Option Plan) → Mill → Option ℤ → Option Plan → Type 0
IsAsTold None m count answer = Unit {0}
IsAsTold (Some answers) m count answer = answer ≡ answers m count
