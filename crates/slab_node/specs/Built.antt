-- The plan of groups, built order by order.
use Rattle.std.specs.Prelude.{◌≡◌, ℕ, suc, pos, ◌<◌, cond, eqb, List, length, slice_index}
use Rattle.std.specs.List.{position_or_len, sum_by}
use Rattle.mill_model.specs.declared.kind.Kind.{Kind}
use Rattle.mill_model.specs.SignedSums.{total_below}
use Rattle.pricing_laws.specs.Groups.{head_of}
use Rattle.slab_node.specs.Grouped.{kind_at}

-- The first so many orders lie together exactly by their heads, on their heads' kinds, each group on a slab of its own; and the
-- slabs are numbered by their first orders.
pub record IsBuilt (heads : List ℕ) (kinds : List Kind) (count : ℕ) (used : List Kind) (place : List ℕ) : Type 0 where
  pub size : length place ≡ count
  pub within : (o : ℕ) → o < count → slice_index place o < length used
  pub joined : (i j : ℕ) → i < count → j < count → head_of heads i ≡ head_of heads j → slice_index place i ≡ slice_index place j
  pub parted : (i j : ℕ) → i < count → j < count → slice_index place i ≡ slice_index place j → head_of heads i ≡ head_of heads j
  pub kind : (o : ℕ) → o < count → kind_at used (slice_index place o) ≡ kind_at kinds (head_of heads o)
  pub rising : (k : ℕ) → suc k < length used → position_or_len (λ x. eqb x k) place < position_or_len (λ x. eqb x (suc k)) place
  pub filled : (k : ℕ) → k < length used → position_or_len (λ x. eqb x k) place < count
  -- what the slabs sum to, whatever is asked of each
  pub total : (f : Kind → ℕ) → pos (sum_by f used) ≡ total_below count (λ o. cond (eqb (head_of heads o) o) (pos (f (kind_at kinds o))) (pos 0))
