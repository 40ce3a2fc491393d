-- Fractional covers: columns with multipliers, over one denominator.
use Rattle.std.specs.Prelude.{◌≡◌, ℕ, ℤ, pos, ◌*◌, ◌*ℤ◌, ◌<◌, ◌≤◌, cond, true, List, length, Option, Some, None}
use Rattle.std.specs.List.{sum_by, AllByRecursion}
use Rattle.mill_model.specs.declared.limits.Limits.{Limits}
use Rattle.mill_model.specs.Mill.{Mill}
use Rattle.mill_model.specs.Columns.{Column, IsLegalColumn, has, is_old, loss_of}
use Rattle.mill_model.specs.Plans.{is_new}
use Rattle.mill_model.specs.Limits.{AtMost}
use Rattle.mill_model.specs.Decisions.{Decision, column_agrees}

abbrev pub Part : Type 0
Part = Column × ℕ

-- d times a limit
abbrev pub times : ℕ → Option ℤ → Option ℤ
times d None = None
times d (Some a) = Some (pos d *ℤ a)

-- The multipliers, divided by d, cover each order once, use each surplus slab at most once, and stay within the limits.
pub record IsCover (m : Mill) (limits : Limits) (decisions : List Decision) (d : ℕ) (parts : List Part) : Type 0 where
  pub denominator : 0 < d
  pub legal : AllByRecursion (λ (part : Part). IsLegalColumn m part.0 × (column_agrees decisions part.0 ≡ true)) parts
  pub orders : (o : ℕ) → o < length m.orders → sum_by (λ (part : Part). cond (has part.0.orders o) part.1 0) parts ≡ d
  pub yard : (s : ℕ) → s < length m.yard → sum_by (λ (part : Part). cond (is_old s part.0.kind) part.1 0) parts ≤ d
  pub loss : AtMost (Some (pos (sum_by (λ (part : Part). part.1 * loss_of m part.0) parts))) (times d limits.loss)
  pub count : AtMost (Some (pos (sum_by (λ (part : Part). cond (is_new part.0.kind) part.1 0) parts))) (times d limits.count)
