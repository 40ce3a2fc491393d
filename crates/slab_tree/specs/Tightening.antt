-- What becomes of a finished tree when its splits are decided anew for the final limits.
use Rattle.std.specs.Prelude.{◌≡◌, ℕ, ◌+◌, ◌≤◌, ◌⊎◌, Bool, not, List, length}
use Rattle.std.specs.List.{count_by}
use Rattle.mill_model.specs.declared.mark.Mark.{Mark}
use Rattle.mill_model.specs.Mill.{Mill}
use Rattle.slab_counter.specs.Counter.{last_count}
use Rattle.slab_tree.specs.declared.node.Node.{Node}
use Rattle.slab_tree.specs.declared.tree.Phase.TheVariants.{Done}
use Rattle.slab_tree.specs.Counts.{Counts}
use Rattle.slab_tree.specs.Marking.{ShowsCoverUnlessBare, is_bare}
use Rattle.slab_tree.specs.Searches.{Search, HasLimitsBelow, bare_count, limits_of}
use Rattle.slab_tree.specs.Standing.{IsWhole}
use Rattle.slab_tree.specs.Unfinished.{marks_in}

-- a finished tree for the present limits, each of whose marks shows a cover within them or is bare
pub record IsTight (m : Mill) (t : Search) : Type 0 where
  pub limits : HasLimitsBelow t
  pub finished : t.phase ≡ Done
  pub whole : IsWhole m (ShowsCoverUnlessBare m (limits_of t)) (limits_of t) t.nodes
  pub opened : t.opened ≡ length t.nodes

-- the limits and the best plan stay
pub record IsSameTree (old new : Search) : Type 0 where
  pub count : new.count ≡ old.count
  pub opening : new.opening ≡ old.opening
  pub loss : new.loss ≡ old.loss
  pub best : new.best ≡ old.best

-- the tree is tight, has ended as the old one has, and has no more nodes
pub record IsTightened (m : Mill) (old new : Search) : Type 0 where
  pub tight : IsTight m new
  pub same : IsSameTree old new
  pub fewer : length new.nodes ≤ length old.nodes

-- how many splits aren't bare
abbrev pub covered_count : List Node → ℕ
covered_count ns = count_by (λ mark. not (is_bare mark)) (marks_in ns)

-- each split among the nodes that isn't counted as bare may still be, within the nodes that were opened
abbrev pub HasRoom : Counts → List Node → Type 0
HasRoom n ns = (last_count ≤ n.opened) ⊎ (n.bare + covered_count ns ≤ n.opened)

abbrev pub MayCountBare : Counts → Search → Type 0
MayCountBare n t = HasRoom n t.nodes

-- Bare marks are as many as the old tree had and were counted since, unless the count stands at its last value; no more were
-- counted than there are, and none that the old tree had.
pub record AreBareCounted (old new : Counts) (before after : Search) : Type 0 where
  pub counted : (bare_count after.nodes + old.bare ≤ bare_count before.nodes + new.bare) ⊎ (last_count ≤ new.bare)
  pub no_more : new.bare ≤ old.bare + bare_count after.nodes
  pub once : new.bare ≤ old.bare + covered_count before.nodes
