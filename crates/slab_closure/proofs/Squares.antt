-- Cells of a square, and what a write to one leaves.
use Rattle.std.proofs.Common.{◌≡◌, ℕ, ◌+◌, ◌*◌, ◌/◌, ◌%◌, ◌<◌, Bool, arith, subst, sym, refl, ap, ◌∙◌, List, length, get_or-set_other, get_or-set_same, length-set}
use Rattle.std.proofs.Math.ListN.{set}
use Rattle.std.specs.Prelude.{if◌then◌else◌, nat_eq, ◌&&◌}
use Rattle.std.proofs.lemmas.Nat.{div-mul-add, mod-mul-add, mul-add-lt}
use Rattle.slab_closure.specs.declared.relation.Relation.{Relation}
use Rattle.slab_closure.specs.declared.relation.Relation.TheVariants.{Open}
use Rattle.slab_closure.specs.Cells.{cell}
use Rattle.slab_closure.specs.Relations.{Relations, IsRelations, IsSquare, AreDecided, IsClosed, relation_at, decided_table}
use Rattle.slab_closure.specs.Changes.{HasBecome, with_cell}
use Rattle.slab_closure.proofs.Closed.{decided_closed}
use Rattle.slab_closure.proofs.Starts.{same_closed}

-- a place has one row and one column
one_place : (n x y u v : ℕ) → y < n → v < n → u * n + v ≡ x * n + y → (u ≡ x) × (v ≡ y)
one_place n x y u v j l e =
    (sym (div-mul-add u n v l) ∙ ap (λ (k : ℕ). k / n) e ∙ div-mul-add x n y j, sym (mod-mul-add u n v l) ∙ ap (λ (k : ℕ). k % n) e ∙ mod-mul-add x n y j)

chosen : (u x v y : ℕ) (new old set : Relation) → (u ≡ x → v ≡ y → new ≡ set) → ((u ≡ x → v ≡ y → ⊥) → new ≡ old) → new ≡ (if nat_eq u x && nat_eq v y then set else old)
chosen u x v y new old set same other = grind arith

-- a write to one cell
pub set_cell : (n x y u v : ℕ) (cells : List Relation) (relation : Relation) → x < n → y < n → v < n → length cells ≡ n * n
    → cell (set cells (x * n + y) relation) (u * n + v) ≡ with_cell x y relation (λ (s t : ℕ). cell cells (s * n + t)) u v
set_cell n x y u v cells relation i j l square =
    chosen u x v y _ _ relation
    (λ e f. ap (λ (k : ℕ). cell (set cells (x * n + y) relation) k) (ap (λ (s : ℕ). s * n + v) e ∙ ap (λ (t : ℕ). x * n + t) f) ∙ get_or-set_same cells (x * n + y) relation Open (omega (arith, square, mul-add-lt x n y n i j)))
    (λ ne. get_or-set_other cells (x * n + y) (u * n + v) relation Open (λ e. let both = one_place n x y u v j l e in ne both.0 both.1))

pub set_becomes : (r : Relations) (x y : ℕ) (relation : Relation) → IsSquare r → x < r.count → y < r.count → HasBecome r (record r { cells = set r.cells (x * r.count + y) relation }) (with_cell x y relation (relation_at r))
set_becomes r x y relation square i j = record {
  count = refl;
  slabs = refl;
  cells = length-set r.cells (x * r.count + y) relation;
  at = λ u v k l. set_cell r.count x y u v r.cells relation i j l square.square;
}

-- what is decided of an open pair is closed
pub decided_relations : (answer : Bool) (r s : Relations) (a b : ℕ) → IsRelations r → a < r.count → b < r.count → relation_at r a b ≡ Open → AreDecided r s a b answer → length s.cells ≡ length r.cells → IsRelations s
decided_relations answer r s a b h p q o made cells = record {
  slabs = rw (made.count, made.slabs) h.slabs;
  limit = rw made.count h.limit;
  square = rw (made.count, cells) h.square;
  closed =
      subst (λ (n : ℕ). IsClosed n s.slabs (relation_at s)) (sym made.count)
      (subst (λ (n : ℕ). IsClosed r.count n (relation_at s)) (sym made.slabs)
      (same_closed r.count r.slabs (decided_table answer (relation_at r) a b) (relation_at s) h.slabs made.at (decided_closed answer r.count r.slabs a b (relation_at r) p q h.slabs o h.closed)));
}
