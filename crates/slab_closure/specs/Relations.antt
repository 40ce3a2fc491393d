-- Tables of relations between nodes, closed under their consequences. The nodes are the surplus slabs and then the orders.
use Rattle.std.specs.Prelude.{◌≡◌, ◌≢◌, ℕ, ◌+◌, ◌*◌, ◌<◌, ◌≤◌, Bool, List, length}
use Rattle.slab_closure.specs.declared.relation.Relation.{Relation}
use Rattle.slab_closure.specs.declared.relation.Relation.TheVariants.{Same, Apart}
use Rattle.slab_closure.specs.Cells.{cell, decided, start_of}

-- how two nodes stand to each other, for all pairs
abbrev pub Table : Type 0
Table = ℕ → ℕ → Relation

-- the nodes are those below n, and of these the surplus slabs are those below slabs. A node that shares its group with
-- another has the same row, and two slabs never share a group
pub record IsClosed (n slabs : ℕ) (at : Table) : Type 0 where
  pub itself : (x : ℕ) → x < n → at x x ≡ Same
  pub symmetric : (x y : ℕ) → x < n → y < n → at x y ≡ at y x
  pub shared : (x y z : ℕ) → x < n → y < n → z < n → at x y ≡ Same → at x z ≡ at y z
  pub distinct : (x y : ℕ) → x < slabs → y < slabs → x ≢ y → at x y ≡ Apart

-- the relations of count nodes, row by row
pub record Relations : Type 0 where
  pub count : ℕ
  pub slabs : ℕ
  pub cells : List Relation

abbrev pub relation_at : Relations → Table
relation_at r x y = cell r.cells (x * r.count + y)

-- the cells are a square
pub record IsSquare (r : Relations) : Type 0 where
  pub slabs : r.slabs ≤ r.count
  pub limit : r.count ≤ 290
  pub square : length r.cells ≡ r.count * r.count

-- the cells are a square, and are closed
pub record IsRelations (r : Relations) : Type 0 where
  pub slabs : r.slabs ≤ r.count
  pub limit : r.count ≤ 290
  pub square : length r.cells ≡ r.count * r.count
  pub closed : IsClosed r.count r.slabs (relation_at r)

-- no decision stands: each node is a group, and the slabs are apart
abbrev pub AreUndecided : Relations → Type 0
AreUndecided r = (x y : ℕ) → x < r.count → y < r.count → relation_at r x y ≡ start_of r.slabs x y

-- a table once it is decided whether the groups of a and b are one
abbrev pub decided_table : Bool → Table → ℕ → ℕ → Table
decided_table answer at a b x y = decided answer (at x a) (at x b) (at y a) (at y b) (at x y)

-- the relations once it is decided whether the groups of a and b are one
pub record AreDecided (old new : Relations) (a b : ℕ) (yes : Bool) : Type 0 where
  pub count : new.count ≡ old.count
  pub slabs : new.slabs ≡ old.slabs
  pub at : (x y : ℕ) → x < old.count → y < old.count → relation_at new x y ≡ decided_table yes (relation_at old) a b x y
