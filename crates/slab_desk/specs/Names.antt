-- The names with which a desk was asked to open and to create files.
use Rattle.std.specs.Prelude.{ℕ, List, [], ◌∷◌, ◌++◌}

-- in order, whatever was answered
pub record Names : Type 0 where
  -- of each call of `open_file`
  pub opened : List (List ℕ)
  -- of each call of `create_file`
  pub created : List (List ℕ)

abbrev pub no_names : Names
no_names = record { opened = []; created = [] }

-- and one more that was to be opened
abbrev pub with_opened : List ℕ → Names → Names
with_opened name names = record names { opened = names.opened ++ name ∷ [] }

-- and one more that was to be created
abbrev pub with_created : List ℕ → Names → Names
with_created name names = record names { created = names.created ++ name ∷ [] }
