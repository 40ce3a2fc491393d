-- How many points can stand one after another.
use Rattle.std.specs.Prelude.{ℕ, ◌+◌, ◌≤◌, List, length, reverse}
use Rattle.mill_model.specs.declared.sums.Sums.{Sums}
use Rattle.cert_rules.specs.Room.{points_left}

-- each point has fewer new slabs than the one before, and the first at most 250, so that there is room for all
pub record IsStaircase (points : List Sums) (room : ℕ) : Type 0 where
  pub few : length points + points_left (reverse points) ≤ 251
  pub room_fits : 251 ≤ room
