use Rattle.std.proofs.Common.{◌≡◌, ◌≢◌, ℕ, ◌<◌, ◌≤◌, arith, sym, ap, ◌∙◌}
use Rattle.slab_closure.specs.declared.relation.Relation.{Relation}
use Rattle.slab_closure.specs.declared.relation.Relation.TheVariants.{Same, Apart}
use Rattle.slab_closure.specs.Cells.{start_of}
use Rattle.slab_closure.specs.Relations.{Relations, IsRelations, IsSquare, AreUndecided, IsClosed, relation_at}

start_itself : (s x : ℕ) → start_of s x x ≡ Same
start_itself s x = grind arith

start_comm : (s x y : ℕ) → start_of s x y ≡ start_of s y x
start_comm s x y = grind arith

pub start_same : (s x y : ℕ) → start_of s x y ≡ Same → x ≡ y
start_same s x y e = grind arith

start_apart : (s x y : ℕ) → x < s → y < s → x ≢ y → start_of s x y ≡ Apart
start_apart s x y p q ne = grind arith

pub start_apart_is : (s x y : ℕ) → start_of s x y ≡ Apart → (x < s) × (y < s) × (x ≢ y)
start_apart_is s x y e = (grind arith, grind arith, λ f. grind arith)

-- the table before any decision is closed
pub start_closed : (n slabs : ℕ) → IsClosed n slabs (start_of slabs)
start_closed n slabs =
    record {
      itself = λ x i. start_itself slabs x;
      symmetric = λ x y i j. start_comm slabs x y;
      shared = λ x y z i j k same. ap (λ (w : ℕ). start_of slabs w z) (start_same slabs x y same);
      distinct = λ x y i j ne. start_apart slabs x y i j ne;
    }

-- what a table says decides whether it is closed
pub same_closed : (n s : ℕ) (f g : ℕ → ℕ → Relation) → s ≤ n → ((x y : ℕ) → x < n → y < n → g x y ≡ f x y) → IsClosed n s f → IsClosed n s g
same_closed n s f g w e h =
    record {
      itself = λ x i. e x x i i ∙ h.itself x i;
      symmetric = λ x y i j. e x y i j ∙ h.symmetric x y i j ∙ sym (e y x j i);
      shared = λ x y z i j k same. e x z i k ∙ h.shared x y z i j k (sym (e x y i j) ∙ same) ∙ sym (e y z j k);
      distinct = λ x y i j ne. e x y (omega arith) (omega arith) ∙ h.distinct x y i j ne;
    }

-- relations under no decision are closed
pub undecided_relations : (r : Relations) → IsSquare r → AreUndecided r → IsRelations r
undecided_relations r square h = record {
  slabs = square.slabs;
  limit = square.limit;
  square = square.square;
  closed = same_closed r.count r.slabs (start_of r.slabs) (relation_at r) square.slabs h (start_closed r.count r.slabs);
}
