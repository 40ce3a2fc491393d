-- The certificate that parts make.
use Rattle.std.specs.Prelude.{List, []}
use Rattle.std.specs.List.{AllByRecursion}
use Rattle.mill_model.specs.declared.version.Version.{Version}
use Rattle.mill_model.specs.Fronts.{Point}
use Rattle.mill_model.specs.Marks.{MarkedSteps}
use Rattle.cert_text.specs.Certificates.{Ending, Certificate, AreMarksOf, finished_trees}
use Rattle.cert_text.specs.Certificates.Ending.{Whole as WholeEnding, Cut as CutEnding}
use Rattle.cert_write.specs.declared.stored.Stored.{Stored}
use Rattle.cert_write.specs.declared.stored.Stored.TheVariants.{Whole, NoPlan, Cut}

abbrev pub points_of : Stored → List Point
points_of (Whole front) = front.now.points
points_of (NoPlan last) = []
points_of (Cut head open_tree) = head.now

abbrev pub ending_of : Stored → Ending
ending_of (Whole front) = WholeEnding front.now.last
ending_of (NoPlan last) = WholeEnding last.now
ending_of (Cut head open_tree) = CutEnding open_tree.now

abbrev pub certificate_of : Version → Stored → Certificate
certificate_of version what = record { version = version; points = points_of what; ending = ending_of what }

-- each mark of a finished tree is one of the certificate's version
abbrev pub HasMarksOfItsVersion : Certificate → Type 0
HasMarksOfItsVersion c = AllByRecursion (λ (s : MarkedSteps). AreMarksOf c.version s.marks) (finished_trees c)
