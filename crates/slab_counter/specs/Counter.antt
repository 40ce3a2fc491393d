-- Counters of 64 bits.
use Rattle.std.specs.Prelude.{◌≡◌, ℕ, ◌+◌, ◌-◌, ◌^◌, ◌<◌, ◌≤◌, ◌⊎◌, ◌↔◌, nat_lt, if◌then◌else◌}

-- the last value of a counter
abbrev pub last_count : ℕ
last_count = 2 ^ 64 - 1

-- the value after one more: a counter stands still at its last value
abbrev pub next_count : ℕ → ℕ
next_count n = if nat_lt n (2 ^ 64 - 1) then n + 1 else n

-- the counter rose since, or stands at its last value
abbrev pub Rose : ℕ → ℕ → Type 0
Rose before now = next_count before ≤ now

-- that is what `Rose` says of a counter that doesn't fall
abbrev pub RoseLaw : Type 0
RoseLaw = (before now : ℕ) → before ≤ now → now < 2 ^ 64 → Rose before now ↔ ((before < now) ⊎ (now ≡ last_count))
