-- What is drawn by the numbers of the generator.
use Rattle.std.specs.Prelude.{ℕ, List, [], ◌∷◌, length, slice_get, Option, Some, None}
use Rattle.number_draws.specs.Draws.{next_draw, among}

-- something or none, and the number that was drawn last
pub record Drawn (X : Type 0) : Type 0 where
  pub found : Option X
  pub last : ℕ

-- the member that the next number stands for; among none no number is drawn
abbrev pub draw_from : {X : Type 0} → List X → ℕ → Drawn X
draw_from [] last = record { found = None; last = last }
draw_from (x ∷ xs) last =
    let next = next_draw last in
    record { found = slice_get (x ∷ xs) (among (length (x ∷ xs)) next); last = next }

-- what is drawn after something was found, with the numbers that come then
abbrev pub go_on : {X Y : Type 0} → Option X → ℕ → (X → ℕ → Drawn Y) → Drawn Y
go_on None last next = record { found = None; last = last }
go_on (Some x) last next = next x last

abbrev pub then_draw : {X Y : Type 0} → Drawn X → (X → ℕ → Drawn Y) → Drawn Y
then_draw drawn next = go_on drawn.found drawn.last next
