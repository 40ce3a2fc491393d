-- Prices on groups: each group has its price at its first order.
use Rattle.std.specs.Prelude.{◌≡◌, ℕ, ◌<◌, ℤ, pos, cond, eqb, List, length, replicate, slice_index_or}
use Rattle.mill_model.specs.declared.kind.Kind.{Kind}
use Rattle.mill_model.specs.Mill.{Mill}
use Rattle.mill_model.specs.Columns.{loss_of}
use Rattle.mill_model.specs.Plans.{is_new}
use Rattle.mill_model.specs.Prices.{Prices}
use Rattle.slab_node.specs.Grouped.{kind_at, group_column}
use Rattle.pricing_laws.specs.Groups.{head_of}

-- a number for each group, and 0 for each order that isn't the first of one
abbrev pub at_heads : List ℕ → (ℕ → ℤ) → ℕ → ℤ
at_heads heads value o = cond (eqb (head_of heads o) o) (value o) (pos 0)

pub record AreAtHeads (heads : List ℕ) (value : ℕ → ℤ) (pi : List ℤ) : Type 0 where
  pub size : length pi ≡ length heads
  pub each : (o : ℕ) → o < length heads → slice_index_or pi o (pos 0) ≡ at_heads heads value o

-- 1 for one group, and 0 for each other
abbrev pub only : ℕ → ℕ → ℤ
only head other = cond (eqb head other) (pos 1) (pos 0)

-- what a group loses on its slab
abbrev pub group_loss : Mill → List ℕ → List Kind → ℕ → ℤ
group_loss m heads kinds head = pos (loss_of m (group_column heads kinds head))

-- 1 for a group on a new slab
abbrev pub group_count : List Kind → ℕ → ℤ
group_count kinds head = pos (cond (is_new (kind_at kinds head)) 1 0)

-- prices where surplus slabs are free
abbrev pub free_prices : Mill → ℤ → ℤ → List ℤ → Prices
free_prices m lambda mu pi = record { lambda = lambda; mu = mu; pi = pi; sigma = replicate (length m.yard) (pos 0) }
