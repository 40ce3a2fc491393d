-- What orders gain and slabs cost, with the loss of a slab taken apart: its size costs, and the weight on it gains.
use Rattle.std.specs.Prelude.{ℕ, ℤ, pos, ◌+ℤ◌, ◌*ℤ◌, List}
use Rattle.mill_model.specs.declared.kind.Kind.{Kind}
use Rattle.mill_model.specs.Mill.{Mill}
use Rattle.mill_model.specs.SignedSums.{total_by}
use Rattle.mill_model.specs.Columns.{order_at, size_of}
use Rattle.mill_model.specs.Prices.{Prices, price_at, charge}

abbrev pub gain_of : Mill → Prices → ℕ → ℤ
gain_of m p o = price_at p.pi o +ℤ p.lambda *ℤ pos (order_at m o).weight

abbrev pub gains_of : Mill → Prices → List ℕ → ℤ
gains_of m p orders = total_by (gain_of m p) orders

abbrev pub cost_of : Mill → Prices → Kind → ℤ
cost_of m p kind = charge p kind +ℤ p.lambda *ℤ pos (size_of m kind)
