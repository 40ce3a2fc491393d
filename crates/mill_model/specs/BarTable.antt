-- Bars as a table: for each order a number, with a bit for each surplus slab.
use Rattle.std.specs.Prelude.{◌≡◌, ℕ, ◌<◌, Bool, ◌&&◌, eqb, nat_lt, List, All, slice_index}
use Rattle.std.specs.List.{list_any}
use Rattle.std.specs.Int.{bit_at}
use Rattle.mill_model.specs.Mill.{most_orders, most_slabs, Bar, is_bar}

abbrev pub is_marked : List ℕ → ℕ → ℕ → Bool
is_marked rows o s = nat_lt s most_slabs && eqb (bit_at (slice_index rows o) s) 1

-- each bar has a place in the table
abbrev pub HaveAPlace : List Bar → Type 0
HaveAPlace bars = All (λ bar. (bar.0 < most_orders) × (bar.1 < most_slabs)) bars

-- the bars are marked, and no more
abbrev pub AreMarked : List Bar → List ℕ → Type 0
AreMarked bars rows = (o s : ℕ) → is_marked rows o s ≡ list_any (is_bar o s) bars
