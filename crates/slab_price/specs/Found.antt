-- A column with its excess.
use Rattle.std.specs.Prelude.{ℕ, ℤ, List}
use Rattle.mill_model.specs.declared.kind.Kind.{Kind}

pub record Found : Type 0 where
  pub kind : Kind
  pub orders : List ℕ
  pub excess : ℤ
