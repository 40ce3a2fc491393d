-- What joins lines and texts.
use Rattle.std.specs.Prelude.{◌≡◌, ℕ, ◌+◌, ◌*◌, ◌<◌, ◌≤◌, List, [], ◌∷◌, ◌++◌, Some, Ok, length}
use Rattle.cert_view.specs.declared.line.Line.{Line}
use Rattle.cert_view.specs.Line.{most_line, next_line, after_line}
use Rattle.cert_view.specs.Held.{IsWhole}
use Rattle.cert_view.specs.Text.{line_text, line_numbers, IsLine}

-- the bytes begin with the text of this line and its line feed, and these bytes follow
pub record BeginsWith (line : Line) (bytes rest : List ℕ) : Type 0 where
  pub good : IsLine line
  pub short : length (line_text line) < most_line
  pub text : bytes ≡ line_text line ++ 10 ∷ rest

-- bytes that begin with a line's text give that line
abbrev pub TextIsRead : Type 0
TextIsRead = (line : Line) (bytes rest : List ℕ) → BeginsWith line bytes rest → (next_line bytes ≡ Some (Ok line)) × (after_line bytes ≡ rest)

-- only bytes that begin with a line's text give that line
abbrev pub ReadIsText : Type 0
ReadIsText = (line : Line) (bytes : List ℕ) → next_line bytes ≡ Some (Ok line) → BeginsWith line bytes (after_line bytes)

-- a number and its space take at most 21 bytes
abbrev pub TextIsShort : Type 0
TextIsShort = (line : Line) → IsLine line → length (line_text line) ≤ 11 + 21 * length (line_numbers line)

-- a whole line is read alike, whatever bytes follow it
abbrev pub WholeIsFirst : Type 0
WholeIsFirst = (held more : List ℕ) → IsWhole held → next_line (held ++ more) ≡ next_line held

-- a whole line that is read is the text of the line with its line feed, and no byte more
abbrev pub WholeIsText : Type 0
WholeIsText = (held : List ℕ) (line : Line) → IsWhole held → next_line held ≡ Some (Ok line) → held ≡ line_text line ++ 10 ∷ []
