-- What the numbers of a line name.
use Rattle.std.specs.Prelude.{ℕ, ◌-◌, ℤ, pos, negsuc, ◌≤ℤ◌, List, slice_index_or}

-- the order or surplus slab that a number names: texts count from 1
abbrev pub index : ℤ → ℕ
index (pos n) = n - 1
index (negsuc n) = 0

-- a size, a loss or a count
abbrev pub natural : ℤ → ℕ
natural (pos n) = n
natural (negsuc n) = 0

-- the number names one of so many
abbrev pub Names : ℕ → ℤ → Type 0
Names count n = (pos 1 ≤ℤ n) × (n ≤ℤ pos count)

abbrev pub number_at : List ℤ → ℕ → ℤ
number_at numbers i = slice_index_or numbers i (pos 0)
