-- The marks that are left on the way through a tree's steps.
use Rattle.std.specs.Prelude.{List, drop}
use Rattle.mill_model.specs.declared.mark.Mark.{Mark}
use Rattle.mill_model.specs.declared.steps.Step.{Step}
use Rattle.mill_model.specs.declared.steps.Step.TheVariants.{Pair, Put, Leaf}

-- a question takes one
abbrev pub left_after : Step → List Mark → List Mark
left_after (Pair i j) left = drop 1 left
left_after (Put o s) left = drop 1 left
left_after (Leaf p) left = left
