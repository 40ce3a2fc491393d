-- A path down a tree: its decisions, the latest first.
use Rattle.std.specs.Prelude.{true, false, List, [], ◌∷◌, Option, Some, None}
use Rattle.mill_model.specs.Decisions.{Decision}

-- the latest answer yes turned to no, without what came after it, if there is one
abbrev pub next_branch : List Decision → Option (List Decision)
next_branch [] = None
next_branch ((ask, true) ∷ path) = Some ((ask, false) ∷ path)
next_branch ((ask, false) ∷ path) = next_branch path
