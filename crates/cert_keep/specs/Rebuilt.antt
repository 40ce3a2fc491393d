-- What the lines of a certificate build.
use Rattle.std.specs.Prelude.{◌≡◌, length, List, Option, Some, None}
use Rattle.mill_model.specs.declared.ask.Ask.{Ask}
use Rattle.mill_model.specs.declared.mark.Mark.TheVariants as marks
use Rattle.mill_model.specs.Mill.{Mill, IsInLimits}
use Rattle.cert_text.specs.Certificates.{Ending, Certificate, IsGood}
use Rattle.cert_text.specs.Certificates.Ending.{Whole, Cut}
use Rattle.cert_text.specs.Lines.{certificate_lines}
use Rattle.cert_keep.specs.Building.{Growing, Built, seedling, nothing_built, build_all}

abbrev pub rest_tree : Ending → Growing
rest_tree (Whole last) = record { steps = last.steps; marks = last.marks; next = marks.Plain }
rest_tree (Cut outline) = seedling

abbrev pub outline_of : Ending → Option (List (Option Ask))
outline_of (Whole last) = None
outline_of (Cut outline) = Some outline

-- a certificate, as it is built
abbrev pub built_of : Certificate → Built
built_of c = record { version = c.version; points = c.points; current = None; tree = rest_tree c.ending; outline = outline_of c.ending }

-- the lines of a good certificate build it back
abbrev pub LinesBuildBack : Type 0
LinesBuildBack = (m : Mill) (c : Certificate) → IsInLimits m → IsGood m c → build_all (length m.orders) nothing_built (certificate_lines c) ≡ built_of c
