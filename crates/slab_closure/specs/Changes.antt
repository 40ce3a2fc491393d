-- What the steps of a decision make of a table.
use Rattle.std.specs.Prelude.{◌≡◌, ℕ, ◌<◌, ◌||◌, ◌&&◌, if◌then◌else◌, nat_eq, nat_lt, length}
use Rattle.slab_closure.specs.declared.relation.Relation.{Relation}
use Rattle.slab_closure.specs.declared.relation.Relation.TheVariants.{Open, Same, Apart}
use Rattle.slab_closure.specs.Cells.{is_same, joined_of}
use Rattle.slab_closure.specs.Relations.{Table, Relations, relation_at}

-- the same nodes, which now stand to each other as a table says
pub record HasBecome (old new : Relations) (table : Table) : Type 0 where
  pub count : new.count ≡ old.count
  pub slabs : new.slabs ≡ old.slabs
  pub cells : length new.cells ≡ length old.cells
  pub at : (x y : ℕ) → x < old.count → y < old.count → relation_at new x y ≡ table x y

-- one cell is set
abbrev pub with_cell : ℕ → ℕ → Relation → Table → Table
with_cell x y relation at u v = if nat_eq u x && nat_eq v y then relation else at u v

-- one cell is set, and the one across the diagonal
abbrev pub with_pair : ℕ → ℕ → Relation → Table → Table
with_pair x y relation at = with_cell y x relation (with_cell x y relation at)

-- the row of a says how the group that a and b make stands to each node
abbrev pub with_joined_row : ℕ → ℕ → Table → Table
with_joined_row a b at u v = if nat_eq u a then joined_of (at a v) (at b v) else at u v

-- node x stands to each as node a does
abbrev pub with_copied_node : ℕ → ℕ → Table → Table
with_copied_node a x at u v = if nat_eq u x then at a v else if nat_eq v x then at a u else at u v

-- node x is apart from each of the group of b
abbrev pub with_parted_node : ℕ → ℕ → Table → Table
with_parted_node b x at u v = if (nat_eq u x && is_same (at b v)) || (nat_eq v x && is_same (at b u)) then Apart else at u v

-- nothing is said of any two
abbrev pub open_table : Table
open_table u v = Open

-- surplus slab s is apart from each
abbrev pub with_slab_apart : ℕ → ℕ → Table → Table
with_slab_apart s slabs at u v = if nat_eq u s && nat_lt v slabs then Apart else at u v

-- each surplus slab is apart from each
abbrev pub with_slabs_apart : ℕ → Table → Table
with_slabs_apart slabs at u v = if nat_lt u slabs && nat_lt v slabs then Apart else at u v

-- each node is in its own group
abbrev pub with_itself : Table → Table
with_itself at u v = if nat_eq u v then Same else at u v
