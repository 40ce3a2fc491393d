-- What a search for a column that exceeds answers.
use Rattle.std.specs.Prelude.{ℕ, pos, List, Option, IfNone, IfSome}
use Rattle.mill_model.specs.declared.kind.Kind.{Kind}
use Rattle.mill_model.specs.Columns.{Column}
use Rattle.pricing_laws.specs.Problems.{Problem, ExceedAtMost}
use Rattle.price_check.specs.Exceeding.{IsExceeding}
use Rattle.price_check.specs.Leaves.{problem_of}
use Rattle.price_check.specs.declared.leaf.Leaf.{Leaf}

-- a slab on which these orders exceed, or none, and then no column that is so exceeds
pub record IsAnswer (q : Problem) (orders : List ℕ) (found : Option Kind) (IsSo : Column → Type 0) : Type 0 where
  pub none : IfNone found (ExceedAtMost q (pos 0) IsSo)
  pub some : IfSome found (λ kind. IsExceeding q.mill q.decisions q.prices (record { kind = kind; orders = orders }))

abbrev pub IsAnswerIn : Leaf → List ℕ → Option Kind → (Column → Type 0) → Type 0
IsAnswerIn l orders found IsSo = IsAnswer (problem_of l) orders found IsSo
