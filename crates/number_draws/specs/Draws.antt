-- Numbers that follow from a seed, one after another, and what they stand for.
use Rattle.std.specs.Prelude.{ℕ, zero, suc, ◌+◌, ◌*◌, ◌/◌, ◌%◌, ◌^◌}

-- the number after this one, by a linear congruential generator
abbrev pub next_draw : ℕ → ℕ
next_draw x = (1664525 * x + 1013904223) % 2 ^ 32

-- number k of a seed, which is number 0
abbrev pub draw : ℕ → ℕ → ℕ
draw seed zero = seed
draw seed (suc k) = next_draw (draw seed k)

-- the thing among so many that a number stands for, counted from 0: by its upper half
abbrev pub among : ℕ → ℕ → ℕ
among count x = (x / 65536) % count
