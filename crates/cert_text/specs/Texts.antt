-- The text of a certificate.
use Rattle.std.specs.Prelude.{◌≡◌, ℕ, ◌<◌, List, [], ◌∷◌, ◌++◌, length}
use Rattle.std.specs.List.{flat_map}
use Rattle.cert_view.specs.declared.line.Line.{Line}
use Rattle.cert_view.specs.Line.{most_line}
use Rattle.cert_view.specs.Text.{line_text, IsLine}
use Rattle.cert_text.specs.Certificates.{Certificate}
use Rattle.cert_text.specs.Lines.{certificate_lines}

-- each line with its line feed
abbrev pub lines_text : List Line → List ℕ
lines_text lines = flat_map (λ line. line_text line ++ 10 ∷ []) lines

abbrev pub certificate_text : Certificate → List ℕ
certificate_text c = lines_text (certificate_lines c)

abbrev pub Spells : List ℕ → Certificate → Type 0
Spells bytes c = bytes ≡ certificate_text c

-- a line that is read: as many numbers as its form wants, each in the range, and not too long
pub record IsReadable (line : Line) : Type 0 where
  pub good : IsLine line
  pub short : length (line_text line) < most_line
