-- What follows from a counter's step.
use Rattle.std.proofs.Common.{◌≡◌, ℕ, ◌+◌, ◌-◌, ◌^◌, ◌<◌, ◌≤◌, ◌⊎◌, inl, inr, arith}
use Rattle.std.proofs.lemmas.Bool.{cases_lt}
use Rattle.slab_counter.specs.Counter.{next_count, Rose}

-- the step never falls
pub next_count-grows : (n : ℕ) → n ≤ next_count n
next_count-grows n = grind arith

-- the step stays within 64 bits
pub next_count-fits : (n : ℕ) → n < 2 ^ 64 → next_count n < 2 ^ 64
next_count-fits n h = grind arith

-- below the last value the step is one more
pub next_count-below : (n : ℕ) → n < 2 ^ 64 - 1 → next_count n ≡ n + 1
next_count-below n h = grind arith

-- at the last value the counter stands
pub next_count-last : (n : ℕ) → 2 ^ 64 - 1 ≤ n → next_count n ≡ n
next_count-last n h = grind arith

-- the step keeps the order
pub next_count-mono : (a b : ℕ) → a ≤ b → next_count a ≤ next_count b
next_count-mono a b h = grind arith

-- what rose in a part of a time rose in all of it
pub Rose-later : (a b c : ℕ) → Rose a b → b ≤ c → Rose a c
Rose-later a b c rose later = omega (arith, rose, later)

pub Rose-earlier : (a b c : ℕ) → a ≤ b → Rose b c → Rose a c
Rose-earlier a b c earlier rose = omega (arith, next_count-mono a b earlier, rose)
