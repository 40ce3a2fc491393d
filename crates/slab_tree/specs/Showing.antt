-- A cover's columns with their whole multipliers, as a mark shows them.
use Rattle.std.specs.Prelude.{ℕ, zero, suc, ℤ, pos, negsuc, List, [], ◌∷◌, ◌++◌}
use Rattle.mill_model.specs.Columns.{Column}
use Rattle.mill_model.specs.Shares.{Share}
use Rattle.slab_columns.specs.declared.column.ColId.{ColId}
use Rattle.slab_frac.specs.Fraction.{Fraction}
use Rattle.slab_relax.specs.PoolCovers.{Parts, column_at}

-- a column with a multiplier above 0
abbrev pub share_of : Column → ℤ → List Share
share_of c (pos zero) = []
share_of c (pos (suc k)) = record { times = pos (suc k); kind = c.kind; orders = c.orders } ∷ []
share_of c (negsuc k) = []

-- the cover's columns whose multipliers are above 0
abbrev pub shares_of : List Column → Parts → List ℤ → List Share
shares_of columns [] ks = []
shares_of columns (part ∷ cover) [] = []
shares_of columns (part ∷ cover) (k ∷ ks) = share_of (column_at columns part.0) k ++ shares_of columns cover ks
