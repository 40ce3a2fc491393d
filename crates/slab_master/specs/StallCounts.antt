-- What the counts of stalls and pivots show.
use Rattle.std.specs.Prelude.{◌≡◌, ℕ, ◌+◌, ◌≤◌, ◌⊎◌}
use Rattle.slab_counter.specs.Counter.{last_count}

pub record StallCounts : Type 0 where
  pub stalls : ℕ
  pub pivots : ℕ

-- the counter rose by n, or stands at its last value
abbrev pub RoseBy : ℕ → ℕ → ℕ → Type 0
RoseBy n before now = (now ≡ before + n) ⊎ (last_count ≤ now)

-- the counter didn't fall, and rose by at most n
pub record RoseAtMost (n before now : ℕ) : Type 0 where
  pub grows : before ≤ now
  pub most : now ≤ before + n
