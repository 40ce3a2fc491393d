-- How the groups of two nodes come to lie apart, cell by cell.
use Rattle.std.proofs.Common.{◌≡◌, ◌≢◌, ℕ, ◌+◌, ◌<◌, ◌≤◌, Bool, true, false, ◌&&◌, ◌||◌, if◌then◌else◌, nat_eq, nat_lt, arith, sym, ap, ◌∙◌}
use Rattle.std.proofs.lemmas.Bool.{eqb-true}
use Rattle.slab_closure.specs.declared.relation.Relation.{Relation}
use Rattle.slab_closure.specs.declared.relation.Relation.TheVariants.{Open, Same, Apart}
use Rattle.slab_closure.specs.Cells.{is_same, separated}
use Rattle.slab_closure.specs.Relations.{Table, Relations, IsClosed, relation_at, decided_table}
use Rattle.slab_closure.specs.Changes.{HasBecome, with_pair, with_parted_node}
use Rattle.slab_closure.proofs.Joins.{then_becomes, lt_next, lt_true, is_same_true}

-- node x is apart from those of the group of b below y
abbrev pub parted_below : ℕ → ℕ → ℕ → Table → Table
parted_below y b x at u v = if (nat_eq u x && nat_lt v y && is_same (at b v)) || (nat_eq v x && nat_lt u y && is_same (at b u)) then Apart else at u v

-- the nodes of the group of a below x are apart from those of the group of b
abbrev pub across_below : ℕ → ℕ → ℕ → Table → Table
across_below x a b at u v = if (nat_lt u x && is_same (at a u) && is_same (at b v)) || (nat_lt v x && is_same (at a v) && is_same (at b u)) then Apart else at u v

not_same : (r : Relation) → r ≢ Same → is_same r ≡ false
not_same r ne = grind arith

-- a node of another group keeps out of the group of b
same_within : (change : Bool) (old : Relation) → (change ≡ true → is_same old ≡ false) → is_same (if change then Apart else old) ≡ is_same old
same_within change old h = grind arith

-- the row of b says as before who is in its group
parted_row : (b x y v : ℕ) (at : Table) → at b b ≡ Same → at b x ≢ Same → is_same (parted_below y b x at b v) ≡ is_same (at b v)
parted_row b x y v at itself other =
    same_within ((nat_eq b x && nat_lt v y && is_same (at b v)) || (nat_eq v x && nat_lt b y && is_same (at b b))) (at b v)
    (λ e. parts (nat_eq b x) (nat_lt v y) (is_same (at b v)) (nat_eq v x) (nat_lt b y) (is_same (at b b)) e
    (λ f. other (ap (at b) (sym (eqb-true b x f)) ∙ itself))
    (λ f. ap (λ (k : ℕ). is_same (at b k)) (eqb-true v x f) ∙ not_same (at b x) other))
  where
    parts : (bx vy bv vx below bb : Bool) → ((bx && vy && bv) || (vx && below && bb)) ≡ true → (bx ≡ true → ⊥) → (vx ≡ true → bv ≡ false) → bv ≡ false
    parts bx vy bv vx below bb e f g = grind arith

part_cell : (eu ev yu yv lu lv bu bv next_u next_v : Bool) (now old : Relation) → next_u ≡ (lu || yu) → next_v ≡ (lv || yv) → (yu ≡ true → bu ≡ true) → (yv ≡ true → bv ≡ true)
    → now ≡ (if (eu && lv && bv) || (ev && lu && bu) then Apart else old)
    → (if yu && ev then Apart else if eu && yv then Apart else now) ≡ (if (eu && next_v && bv) || (ev && next_u && bu) then Apart else old)
part_cell eu ev yu yv lu lv bu bv next_u next_v now old nu nv u v e = grind arith

part_pass_cell : (eu ev yu yv lu lv bu bv next_u next_v : Bool) (old : Relation) → next_u ≡ (lu || yu) → next_v ≡ (lv || yv) → (yu ≡ true → bu ≡ false) → (yv ≡ true → bv ≡ false)
    → (if (eu && lv && bv) || (ev && lu && bu) then Apart else old) ≡ (if (eu && next_v && bv) || (ev && next_u && bu) then Apart else old)
part_pass_cell eu ev yu yv lu lv bu bv next_u next_v old nu nv u v = grind arith

pub node_step : (r s t : Relations) (b x y : ℕ) → b < r.count → y < r.count → relation_at r b b ≡ Same → relation_at r b x ≢ Same → HasBecome r s (parted_below y b x (relation_at r)) → is_same (relation_at s b y) ≡ true
    → HasBecome s t (with_pair x y Apart (relation_at s)) → HasBecome r t (parted_below (y + 1) b x (relation_at r))
node_step r s t b x y p q itself other one inside two =
    let here : is_same (relation_at r b y) ≡ true = sym (ap is_same (one.at b y p q) ∙ parted_row b x y y (relation_at r) itself other) ∙ inside in
    then_becomes r s t _ _ _ one two
    (λ u v i j.
    part_cell (nat_eq u x) (nat_eq v x) (nat_eq u y) (nat_eq v y) (nat_lt u y) (nat_lt v y) (is_same (relation_at r b u)) (is_same (relation_at r b v)) (nat_lt u (y + 1)) (nat_lt v (y + 1)) (relation_at s u v) (relation_at r u v)
    (lt_next u y) (lt_next v y)
    (λ e. ap (λ (k : ℕ). is_same (relation_at r b k)) (eqb-true u y e) ∙ here)
    (λ e. ap (λ (k : ℕ). is_same (relation_at r b k)) (eqb-true v y e) ∙ here)
    (one.at u v i j))

pub node_pass : (r s : Relations) (b x y : ℕ) → b < r.count → y < r.count → relation_at r b b ≡ Same → relation_at r b x ≢ Same → HasBecome r s (parted_below y b x (relation_at r)) → is_same (relation_at s b y) ≡ false
    → HasBecome r s (parted_below (y + 1) b x (relation_at r))
node_pass r s b x y p q itself other one outside =
    let here : is_same (relation_at r b y) ≡ false = sym (ap is_same (one.at b y p q) ∙ parted_row b x y y (relation_at r) itself other) ∙ outside in
    record {
      count = one.count;
      slabs = one.slabs;
      cells = one.cells;
      at = λ u v i j. one.at u v i j
          ∙ part_pass_cell (nat_eq u x) (nat_eq v x) (nat_eq u y) (nat_eq v y) (nat_lt u y) (nat_lt v y) (is_same (relation_at r b u)) (is_same (relation_at r b v)) (nat_lt u (y + 1)) (nat_lt v (y + 1)) (relation_at r u v)
          (lt_next u y) (lt_next v y)
          (λ e. ap (λ (k : ℕ). is_same (relation_at r b k)) (eqb-true u y e) ∙ here)
          (λ e. ap (λ (k : ℕ). is_same (relation_at r b k)) (eqb-true v y e) ∙ here);
    }

-- two groups that no node shares
pub record AreTwo (n a b : ℕ) (at : Table) : Type 0 where
  pub first : at a a ≡ Same
  pub second : at b b ≡ Same
  pub disjoint : (x : ℕ) → x < n → is_same (at a x) ≡ true → is_same (at b x) ≡ false

pub two_groups : (n slabs a b : ℕ) (at : Table) → IsClosed n slabs at → a < n → b < n → at a b ≡ Open → AreTwo n a b at
two_groups n slabs a b at h p q o =
    record {
      first = h.itself a p;
      second = h.itself b q;
      disjoint = λ x i e. apart_of (at b x) (λ f. clash (at a b) o
          (h.symmetric a b p q ∙ h.shared b x a q i p f ∙ h.symmetric x a i p ∙ is_same_true (at a x) e));
    }
  where
    apart_of : (r : Relation) → (r ≡ Same → ⊥) → is_same r ≡ false
    apart_of r f = grind arith

    clash : (r : Relation) → r ≡ Open → r ≡ Same → ⊥
    clash r e f = cc

-- the rows of a and of b say as before who is in their groups
across_row_a : (n a b x v : ℕ) (at : Table) → AreTwo n a b at → a < n → v < n → is_same (across_below x a b at a v) ≡ is_same (at a v)
across_row_a n a b x v at two p j =
    same_within ((nat_lt a x && is_same (at a a) && is_same (at b v)) || (nat_lt v x && is_same (at a v) && is_same (at b a))) (at a v)
    (parts (nat_lt a x) (is_same (at a a)) (is_same (at b v)) (nat_lt v x) (is_same (at a v)) (is_same (at b a)) (ap is_same two.first) (two.disjoint v j) (two.disjoint a p))
  where
    parts : (l aa bv m av ba : Bool) → aa ≡ true → (av ≡ true → bv ≡ false) → (aa ≡ true → ba ≡ false) → ((l && aa && bv) || (m && av && ba)) ≡ true → av ≡ false
    parts l aa bv m av ba e f g h = grind arith

across_row_b : (n a b x v : ℕ) (at : Table) → AreTwo n a b at → b < n → v < n → is_same (across_below x a b at b v) ≡ is_same (at b v)
across_row_b n a b x v at two q j =
    same_within ((nat_lt b x && is_same (at a b) && is_same (at b v)) || (nat_lt v x && is_same (at a v) && is_same (at b b))) (at b v)
    (parts (nat_lt b x) (is_same (at a b)) (is_same (at b v)) (nat_lt v x) (is_same (at a v)) (is_same (at b b)) (ap is_same two.second) (two.disjoint v j) (two.disjoint b q))
  where
    parts : (l ab bv m av bb : Bool) → bb ≡ true → (av ≡ true → bv ≡ false) → (ab ≡ true → bb ≡ false) → ((l && ab && bv) || (m && av && bb)) ≡ true → bv ≡ false
    parts l ab bv m av bb e f g h = grind arith

across_cell : (eu ev lu lv au av bu bv row_u row_v next_u next_v : Bool) (now old : Relation) → next_u ≡ (lu || eu) → next_v ≡ (lv || ev) → row_u ≡ bu → row_v ≡ bv → (eu ≡ true → au ≡ true) → (ev ≡ true → av ≡ true)
    → now ≡ (if (lu && au && bv) || (lv && av && bu) then Apart else old)
    → (if (eu && row_v) || (ev && row_u) then Apart else now) ≡ (if (next_u && au && bv) || (next_v && av && bu) then Apart else old)
across_cell eu ev lu lv au av bu bv row_u row_v next_u next_v now old nu nv ru rv u v e = grind arith

across_pass_cell : (eu ev lu lv au av bu bv next_u next_v : Bool) (old : Relation) → next_u ≡ (lu || eu) → next_v ≡ (lv || ev) → (eu ≡ true → au ≡ false) → (ev ≡ true → av ≡ false)
    → (if (lu && au && bv) || (lv && av && bu) then Apart else old) ≡ (if (next_u && au && bv) || (next_v && av && bu) then Apart else old)
across_pass_cell eu ev lu lv au av bu bv next_u next_v old nu nv u v = grind arith

-- whether a node is in the group of a
in_first : (r s : Relations) (a b x : ℕ) → AreTwo r.count a b (relation_at r) → a < r.count → x < r.count → HasBecome r s (across_below x a b (relation_at r)) → is_same (relation_at s a x) ≡ is_same (relation_at r a x)
in_first r s a b x two p i one = ap is_same (one.at a x p i) ∙ across_row_a r.count a b x x (relation_at r) two p i

-- one node more of the loop over the group of a
pub part_step : (r s t : Relations) (a b x : ℕ) → AreTwo r.count a b (relation_at r) → a < r.count → b < r.count → x < r.count → HasBecome r s (across_below x a b (relation_at r)) → is_same (relation_at s a x) ≡ true
    → HasBecome s t (with_parted_node b x (relation_at s)) → HasBecome r t (across_below (x + 1) a b (relation_at r))
part_step r s t a b x two p q w one inside next =
    let here : is_same (relation_at r a x) ≡ true = sym (in_first r s a b x two p w one) ∙ inside in
    then_becomes r s t _ _ _ one next
    (λ u v i j.
    across_cell (nat_eq u x) (nat_eq v x) (nat_lt u x) (nat_lt v x) (is_same (relation_at r a u)) (is_same (relation_at r a v)) (is_same (relation_at r b u)) (is_same (relation_at r b v)) (is_same (relation_at s b u)) (is_same (relation_at s b v)) (nat_lt u (x + 1)) (nat_lt v (x + 1)) (relation_at s u v) (relation_at r u v)
    (lt_next u x) (lt_next v x)
    (ap is_same (one.at b u q i) ∙ across_row_b r.count a b x u (relation_at r) two q i)
    (ap is_same (one.at b v q j) ∙ across_row_b r.count a b x v (relation_at r) two q j)
    (λ e. ap (λ (k : ℕ). is_same (relation_at r a k)) (eqb-true u x e) ∙ here)
    (λ e. ap (λ (k : ℕ). is_same (relation_at r a k)) (eqb-true v x e) ∙ here)
    (one.at u v i j))

pub part_pass : (r s : Relations) (a b x : ℕ) → AreTwo r.count a b (relation_at r) → a < r.count → x < r.count → HasBecome r s (across_below x a b (relation_at r)) → is_same (relation_at s a x) ≡ false
    → HasBecome r s (across_below (x + 1) a b (relation_at r))
part_pass r s a b x two p w one outside =
    let here : is_same (relation_at r a x) ≡ false = sym (in_first r s a b x two p w one) ∙ outside in
    record {
      count = one.count;
      slabs = one.slabs;
      cells = one.cells;
      at = λ u v i j. one.at u v i j
          ∙ across_pass_cell (nat_eq u x) (nat_eq v x) (nat_lt u x) (nat_lt v x) (is_same (relation_at r a u)) (is_same (relation_at r a v)) (is_same (relation_at r b u)) (is_same (relation_at r b v)) (nat_lt u (x + 1)) (nat_lt v (x + 1)) (relation_at r u v)
          (lt_next u x) (lt_next v x)
          (λ e. ap (λ (k : ℕ). is_same (relation_at r a k)) (eqb-true u x e) ∙ here)
          (λ e. ap (λ (k : ℕ). is_same (relation_at r a k)) (eqb-true v x e) ∙ here);
    }

-- all nodes parted, the two groups are apart
separated_cell : (lu lv : Bool) (ua ub va vb old : Relation) → lu ≡ true → lv ≡ true → (if (lu && is_same ua && is_same vb) || (lv && is_same va && is_same ub) then Apart else old) ≡ separated ua ub va vb old
separated_cell lu lv ua ub va vb old u v = grind arith

pub parted_all : (n slabs a b x u v : ℕ) (at : Table) → IsClosed n slabs at → a < n → b < n → u < n → v < n → n ≤ x → across_below x a b at u v ≡ decided_table false at a b u v
parted_all n slabs a b x u v at h p q i j end =
    rw (h.symmetric u a i p, h.symmetric u b i q, h.symmetric v a j p, h.symmetric v b j q)
    (separated_cell (nat_lt u x) (nat_lt v x) (at a u) (at b u) (at a v) (at b v) (at u v) (lt_true u n x i end) (lt_true v n x j end))
