-- Columns one after the other in one list of orders.
use Rattle.std.specs.Prelude.{ℕ, ◌≤◌, List, [], ◌∷◌, length, slice_range}
use Rattle.mill_model.specs.Columns.{Column, column_of}
use Rattle.slab_columns.specs.declared.flat.Start.{Start}

-- where the orders before these columns end: where the first of these begins, or the end of all
abbrev pub end_before : ℕ → List Start → ℕ
end_before end [] = end
end_before end (s ∷ starts) = s.at

-- each column, with the orders from its start up to the next one's
abbrev pub columns_of : List ℕ → List Start → List Column
columns_of orders [] = []
columns_of orders (s ∷ starts) = column_of s.kind (slice_range orders s.at (end_before (length orders) starts)) ∷ columns_of orders starts

-- no column begins behind the next one, or behind the end
abbrev pub AreLaidOut : ℕ → List Start → Type 0
AreLaidOut end [] = Unit {0}
AreLaidOut end (s ∷ starts) = (s.at ≤ end_before end starts) × AreLaidOut end starts
