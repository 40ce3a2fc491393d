-- Where the next point goes.
use Rattle.std.specs.Prelude.{eqb, if◌then◌else◌, List, [], ◌∷◌}
use Rattle.mill_model.specs.Fronts.{Point}

-- A point of the last one's loss takes its place, with the last one's tree; another one comes after it.
abbrev pub placed : List Point → Point → List Point
placed [] point = point ∷ []
placed (last ∷ []) point = if eqb last.sums.loss point.sums.loss then record point { steps = last.steps } ∷ [] else last ∷ point ∷ []
placed (first ∷ next ∷ points) point = first ∷ placed (next ∷ points) point
