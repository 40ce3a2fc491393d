-- The bytes of a line that have come so far.
use Rattle.std.specs.Prelude.{◌≡◌, ◌⊎◌, ℕ, ◌+◌, ◌-◌, ◌<◌, ◌≤◌, List, length, min, take}
use Rattle.std.specs.List.{position_or_len}
use Rattle.cert_view.specs.Line.{is_feed, most_line}

-- less than a line: no line feed has come, and fewer bytes than a line may have
pub record IsPart (held : List ℕ) : Type 0 where
  pub no_feed : position_or_len is_feed held ≡ length held
  pub few : length held < most_line

-- a line and no byte more: its line feed is the last byte, or none has come in as many bytes as a line may have
abbrev pub IsWhole : List ℕ → Type 0
IsWhole held = (position_or_len is_feed held + 1 ≡ length held) ⊎ ((position_or_len is_feed held ≡ length held) × (length held ≡ most_line))

-- how many bytes of a piece go to so many that are held: up to and with the first line feed, and no more than there is
-- room for
abbrev pub taken_of : ℕ → List ℕ → ℕ
taken_of held piece = min (min (position_or_len is_feed piece + 1) (length piece)) (most_line - held)

-- no byte stands behind the first line feed
abbrev pub IsOneLine : List ℕ → Type 0
IsOneLine held = length held ≤ position_or_len is_feed held + 1

-- the first bytes of a room that has as many as a line may have, and they are one line at most
pub record AreHeld (room : List ℕ) (len : ℕ) : Type 0 where
  pub within : len ≤ most_line
  pub one_line : IsOneLine (take len room)
