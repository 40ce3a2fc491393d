-- Products of numbers with columns, rows and right sides.
use Rattle.std.specs.Prelude.{ℕ, ℤ, pos, ◌+ℤ◌, ◌*ℤ◌, List, [], ◌∷◌, slice_index_or, if◌then◌else◌, nat_eq}
use Rattle.slab_master.specs.Given.{Row, Column}

abbrev pub number_at : List ℤ → ℕ → ℤ
number_at ks i = slice_index_or ks i (pos 0)

-- the product of one number per row with a column
abbrev pub product_of : List ℤ → Column → ℤ
product_of ks [] = pos 0
product_of ks (e ∷ es) = (number_at ks e.0 *ℤ e.1) +ℤ product_of ks es

-- the product of one number per row with the right sides
abbrev pub right_product : List ℤ → List Row → ℤ
right_product [] rows = pos 0
right_product (k ∷ ks) [] = pos 0
right_product (k ∷ ks) (r ∷ rows) = (k *ℤ r.1) +ℤ right_product ks rows

-- a column's number in a row
abbrev pub coefficient : Column → ℕ → ℤ
coefficient [] i = pos 0
coefficient (e ∷ es) i = (if nat_eq e.0 i then e.1 else pos 0) +ℤ coefficient es i

-- the sum of a row over one multiplier per column
abbrev pub row_sum : List ℤ → List Column → ℕ → ℤ
row_sum [] columns i = pos 0
row_sum (k ∷ ks) [] i = pos 0
row_sum (k ∷ ks) (c ∷ columns) i = (k *ℤ coefficient c i) +ℤ row_sum ks columns i

-- what multipliers cost
abbrev pub cost_sum : List ℤ → List ℤ → ℤ
cost_sum [] costs = pos 0
cost_sum (k ∷ ks) [] = pos 0
cost_sum (k ∷ ks) (c ∷ costs) = (k *ℤ c) +ℤ cost_sum ks costs
