-- Version 2 has every mark.
use Rattle.std.proofs.Common.{List, [], ◌∷◌}
use Rattle.std.specs.List.{AllByRecursion}
use Rattle.mill_model.specs.declared.version.Version.TheVariants.{Two}
use Rattle.mill_model.specs.Marks.{MarkedSteps}
use Rattle.cert_text.specs.Certificates.{AreMarksOf}

pub marks_of_two : (trees : List MarkedSteps) → AllByRecursion (λ (s : MarkedSteps). AreMarksOf Two s.marks) trees
marks_of_two [] = tt
marks_of_two (s ∷ trees) = (tt, marks_of_two trees)
