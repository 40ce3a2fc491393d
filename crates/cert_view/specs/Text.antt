-- The text of a line.
use Rattle.std.specs.Prelude.{◌≡◌, ℕ, ◌≤◌, ℤ, List, [], ◌∷◌, ◌++◌, All, codes, length}
use Rattle.std.specs.List.{flat_map}
use Rattle.std.specs.Fmt.{signed_decimal}
use Rattle.cert_view.specs.declared.line.Line.{Line}
use Rattle.cert_view.specs.declared.line.Line.TheVariants.{Header, Header2, Point, New, Old, Pair, Put, Leaf, Done, Cut, Open, Bare, Plain, Spread, CNew, COld}
use Rattle.cert_view.specs.Number.{IsWithin}

-- each number in decimal after one space
abbrev pub numbers_text : List ℤ → List ℕ
numbers_text ns = flat_map (λ n. 32 ∷ signed_decimal n) ns

-- what stands before the numbers of a line
abbrev pub line_word : Line → List ℕ
line_word Header = codes "slabfront 1"
line_word Header2 = codes "slabfront 2"
line_word (Point ns) = codes "point"
line_word (New ns) = codes "new"
line_word (Old ns) = codes "old"
line_word (Pair ns) = codes "pair"
line_word (Put ns) = codes "put"
line_word (Leaf ns) = codes "leaf"
line_word Done = codes "done"
line_word Cut = codes "cut"
line_word Open = codes "open"
line_word Bare = codes "bare"
line_word Plain = codes "plain"
line_word (Spread ns) = codes "spread"
line_word (CNew ns) = codes "cnew"
line_word (COld ns) = codes "cold"

-- the numbers of a line
abbrev pub line_numbers : Line → List ℤ
line_numbers Header = []
line_numbers Header2 = []
line_numbers (Point ns) = ns
line_numbers (New ns) = ns
line_numbers (Old ns) = ns
line_numbers (Pair ns) = ns
line_numbers (Put ns) = ns
line_numbers (Leaf ns) = ns
line_numbers Done = []
line_numbers Cut = []
line_numbers Open = []
line_numbers Bare = []
line_numbers Plain = []
line_numbers (Spread ns) = ns
line_numbers (CNew ns) = ns
line_numbers (COld ns) = ns

-- the text of a line, without its line feed
abbrev pub line_text : Line → List ℕ
line_text line = line_word line ++ numbers_text (line_numbers line)

-- the line has as many numbers as its form wants
abbrev pub HasItsCount : Line → Type 0
HasItsCount Header = Unit {0}
HasItsCount Header2 = Unit {0}
HasItsCount (Point ns) = length ns ≡ 2
HasItsCount (New ns) = 2 ≤ length ns
HasItsCount (Old ns) = 2 ≤ length ns
HasItsCount (Pair ns) = length ns ≡ 2
HasItsCount (Put ns) = length ns ≡ 2
HasItsCount (Leaf ns) = 2 ≤ length ns
HasItsCount Done = Unit {0}
HasItsCount Cut = Unit {0}
HasItsCount Open = Unit {0}
HasItsCount Bare = Unit {0}
HasItsCount Plain = Unit {0}
HasItsCount (Spread ns) = length ns ≡ 1
HasItsCount (CNew ns) = 3 ≤ length ns
HasItsCount (COld ns) = 3 ≤ length ns

-- a line that a certificate can have: as many numbers as its form wants, each in the range
pub record IsLine (line : Line) : Type 0 where
  pub count : HasItsCount line
  pub within : All IsWithin (line_numbers line)
