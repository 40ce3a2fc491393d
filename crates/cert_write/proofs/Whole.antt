-- A whole certificate in three parts.
use Rattle.std.proofs.Common.{◌≡◌, ℕ, Bool, Result, List, [], ◌∷◌, ◌++◌, sym, ap, ◌∙◌, append_assoc, append-nil}
use Rattle.std.specs.Prelude.{codes}
use Rattle.std.specs.List.{flat_map}
use Rattle.std.specs.Result.{is_err}
use Rattle.slab_desk.specs.Causes.{is_stopped_after}
use Rattle.mill_model.specs.declared.version.Version.{Version}
use Rattle.mill_model.specs.declared.version.Version.TheVariants.{One, Two}
use Rattle.mill_model.specs.Fronts.{Point}
use Rattle.cert_view.specs.Text.{line_text}
use Rattle.cert_text.specs.Certificates.{Ending, Certificate}
use Rattle.cert_text.specs.Lines.{header_line, point_lines, ending_lines}
use Rattle.cert_text.specs.Texts.{lines_text, certificate_text}
use Rattle.line_out.proofs.Loops.{stopped_after_some}
use Rattle.cert_write.proofs.Lines.{lines_by_element}

abbrev pub header_text : Version → List ℕ
header_text version = lines_text (header_line version ∷ [])

abbrev pub points_text : Version → List Point → List ℕ
points_text version points = lines_text (flat_map (point_lines version) points)

abbrev pub ending_text : Version → Ending → List ℕ
ending_text version ending = lines_text (ending_lines version ending)

pub certificate_parts : (version : Version) (points : List Point) (ending : Ending)
    → (header_text version ++ points_text version points) ++ ending_text version ending ≡ certificate_text (record { version = version; points = points; ending = ending })
certificate_parts version points ending =
    let first : List ℕ = line_text (header_line version) ++ (10 ∷ []) in
    append_assoc (first ++ []) (points_text version points) (ending_text version ending)
    ∙ ap (λ (t : List ℕ). t ++ (points_text version points ++ ending_text version ending)) (append-nil first)
    ∙ ap (λ (t : List ℕ). first ++ t) (sym (lines_by_element (flat_map (point_lines version) points) (ending_lines version ending)))

-- of no points
pub no_point_parts : (version : Version) (ending : Ending)
    → header_text version ++ ending_text version ending ≡ certificate_text (record { version = version; points = []; ending = ending })
no_point_parts version ending = ap (λ (t : List ℕ). t ++ ending_text version ending) (sym (append-nil (header_text version))) ∙ certificate_parts version [] ending

stopped_after_lines : {T E : Type 0} (before : Bool) (version : Version) (more : List ℕ) (result : Result T E)
    → is_stopped_after before ((line_text (header_line version) ++ (10 ∷ [])) ++ more) result ≡ is_err result
stopped_after_lines before One more result = stopped_after_some before 115 (codes "labfront 1\n" ++ more) result
stopped_after_lines before Two more result = stopped_after_some before 115 (codes "labfront 2\n" ++ more) result

-- a certificate has some bytes, so that a call was made
pub stopped_after_certificate : {T E : Type 0} (before : Bool) (c : Certificate) (result : Result T E) → is_stopped_after before (certificate_text c) result ≡ is_err result
stopped_after_certificate before c result = stopped_after_lines before c.version (lines_text (flat_map (point_lines c.version) c.points ++ ending_lines c.version c.ending)) result
