-- How the groups of two nodes become one, cell by cell.
use Rattle.std.proofs.Common.{◌≡◌, ℕ, ◌+◌, ◌<◌, ◌≤◌, Bool, true, false, ◌&&◌, ◌||◌, if◌then◌else◌, nat_eq, nat_lt, arith, sym, ap, ◌∙◌}
use Rattle.std.proofs.lemmas.Bool.{eqb-true}
use Rattle.slab_closure.specs.declared.relation.Relation.{Relation}
use Rattle.slab_closure.specs.declared.relation.Relation.TheVariants.{Same}
use Rattle.slab_closure.specs.Cells.{is_same, joined_of, merged}
use Rattle.slab_closure.specs.Relations.{Table, Relations, IsClosed, relation_at, decided_table}
use Rattle.slab_closure.specs.Changes.{HasBecome, with_cell, with_pair, with_joined_row, with_copied_node}

-- the row of a, joined with that of b below y
abbrev pub row_below : ℕ → ℕ → ℕ → Table → Table
row_below y a b at u v = if nat_eq u a && nat_lt v y then joined_of (at a v) (at b v) else at u v

-- the row and the column of x, copied from those of a below y
abbrev pub node_below : ℕ → ℕ → ℕ → Table → Table
node_below y a x at u v = if nat_eq u x && nat_lt v y then at a v else if nat_eq v x && nat_lt u y then at a u else at u v

-- the nodes below x that stand in the row of a as of its group, copied from a
abbrev pub group_below : ℕ → ℕ → Table → Table
group_below x a at u v = if nat_lt u x && is_same (at a u) then at a v else if nat_lt v x && is_same (at a v) then at a u else at u v

-- a second step goes on from the first
pub then_becomes : (r s t : Relations) (f g h : Table) → HasBecome r s f → HasBecome s t g → ((u v : ℕ) → u < r.count → v < r.count → g u v ≡ h u v) → HasBecome r t h
then_becomes r s t f g h one two same = record {
  count = two.count ∙ one.count;
  slabs = two.slabs ∙ one.slabs;
  cells = two.cells ∙ one.cells;
  at = λ u v i j. two.at u v (omega (arith, one.count, i)) (omega (arith, one.count, j)) ∙ same u v i j;
}

-- the numbers below the next one
pub lt_next : (v y : ℕ) → nat_lt v (y + 1) ≡ (nat_lt v y || nat_eq v y)
lt_next v y = grind arith

pub not_lt_itself : (y : ℕ) → nat_lt y y ≡ false
not_lt_itself y = grind arith

-- one cell of a row more
row_cell : (eu ev lv next : Bool) (now relation joined_v joined_y old : Relation) → next ≡ (lv || ev) → (ev ≡ true → joined_y ≡ joined_v) → relation ≡ joined_y → now ≡ (if eu && lv then joined_v else old)
    → (if eu && ev then relation else now) ≡ (if eu && next then joined_v else old)
row_cell eu ev lv next now relation joined_v joined_y old n j r e = grind arith

-- a cell beyond the part that was written
unwritten : (eu l : Bool) (new old : Relation) → l ≡ false → (if eu && l then new else old) ≡ old
unwritten eu l new old e = grind arith

pub row_step : (a b y u v : ℕ) (at now : Table) (relation : Relation) → now u v ≡ row_below y a b at u v → now a y ≡ row_below y a b at a y → now b y ≡ row_below y a b at b y → relation ≡ joined_of (now a y) (now b y)
    → with_cell a y relation now u v ≡ row_below (y + 1) a b at u v
row_step a b y u v at now relation here first second is =
    let first' : now a y ≡ at a y = first ∙ unwritten (nat_eq a a) (nat_lt y y) _ _ (not_lt_itself y) in
    let second' : now b y ≡ at b y = second ∙ unwritten (nat_eq b a) (nat_lt y y) _ _ (not_lt_itself y) in
    row_cell (nat_eq u a) (nat_eq v y) (nat_lt v y) (nat_lt v (y + 1)) (now u v) relation (joined_of (at a v) (at b v)) (joined_of (at a y) (at b y)) (at u v)
    (lt_next v y)
    (λ e. ap (λ (k : ℕ). joined_of (at a k) (at b k)) (sym (eqb-true v y e)))
    (is ∙ ap (λ (r : Relation). joined_of r (now b y)) first' ∙ ap (joined_of (at a y)) second')
    here

-- one cell of a row and one of a column more
node_cell : (eu ev yu yv lu lv next_u next_v : Bool) (now relation au av ay old : Relation) → next_u ≡ (lu || yu) → next_v ≡ (lv || yv) → (eu ≡ true → ev ≡ true → av ≡ au) → (yu ≡ true → au ≡ ay) → (yv ≡ true → av ≡ ay) → relation ≡ ay
    → now ≡ (if eu && lv then av else if ev && lu then au else old)
    → (if yu && ev then relation else if eu && yv then relation else now) ≡ (if eu && next_v then av else if ev && next_u then au else old)
node_cell eu ev yu yv lu lv next_u next_v now relation au av ay old nu nv both u v r e = grind arith

pub node_step : (a x y u v : ℕ) (at now : Table) (relation : Relation) → at a a ≡ Same → at a x ≡ Same → now u v ≡ node_below y a x at u v → now a y ≡ node_below y a x at a y → relation ≡ now a y
    → with_pair x y relation now u v ≡ node_below (y + 1) a x at u v
node_step a x y u v at now relation itself same here there is =
    node_cell (nat_eq u x) (nat_eq v x) (nat_eq u y) (nat_eq v y) (nat_lt u y) (nat_lt v y) (nat_lt u (y + 1)) (nat_lt v (y + 1)) (now u v) relation (at a u) (at a v) (at a y) (at u v)
    (lt_next u y) (lt_next v y)
    (λ e f. ap (at a) (eqb-true v x f ∙ sym (eqb-true u x e)))
    (λ e. ap (at a) (eqb-true u y e))
    (λ e. ap (at a) (eqb-true v y e))
    (is ∙ there ∙ row_of (nat_eq a x) (nat_lt y y) (nat_eq y x) (nat_lt a y) (at a y) (at a a) (not_lt_itself y) (λ e. itself ∙ sym same ∙ ap (at a) (sym (eqb-true y x e))))
    here
  where
    row_of : (ax l yx below : Bool) (ay aa : Relation) → l ≡ false → (yx ≡ true → aa ≡ ay) → (if ax && l then ay else if yx && below then aa else ay) ≡ ay
    row_of ax l yx below ay aa e f = grind arith

-- one node of a group more
group_cell : (eu ev lu lv su sv next_u next_v : Bool) (now row column au av old : Relation) → next_u ≡ (lu || eu) → next_v ≡ (lv || ev) → (eu ≡ true → su ≡ true) → (ev ≡ true → sv ≡ true) → (su ≡ true → au ≡ Same) → (sv ≡ true → av ≡ Same)
    → row ≡ av → column ≡ au → now ≡ (if lu && su then av else if lv && sv then au else old)
    → (if eu then row else if ev then column else now) ≡ (if next_u && su then av else if next_v && sv then au else old)
group_cell eu ev lu lv su sv next_u next_v now row column au av old nu nv u v w z r c e = grind arith

pub is_same_true : (r : Relation) → is_same r ≡ true → r ≡ Same
is_same_true r e = grind arith

-- the row of a stays as it is
pub group_row : (a x v : ℕ) (at : Table) → at a a ≡ Same → group_below x a at a v ≡ at a v
group_row a x v at itself =
    row_of (nat_lt a x) (is_same (at a a)) (nat_lt v x) (is_same (at a v)) (at a v) (at a a) (λ e. itself ∙ sym (is_same_true (at a v) e))
  where
    row_of : (l s m t : Bool) (av aa : Relation) → (t ≡ true → aa ≡ av) → (if l && s then av else if m && t then aa else av) ≡ av
    row_of l s m t av aa e = grind arith

pub group_step : (a x u v : ℕ) (at now : Table) → at a a ≡ Same → at a x ≡ Same → now u v ≡ group_below x a at u v → now a u ≡ group_below x a at a u → now a v ≡ group_below x a at a v
    → with_copied_node a x now u v ≡ group_below (x + 1) a at u v
group_step a x u v at now itself same here column row =
    group_cell (nat_eq u x) (nat_eq v x) (nat_lt u x) (nat_lt v x) (is_same (at a u)) (is_same (at a v)) (nat_lt u (x + 1)) (nat_lt v (x + 1)) (now u v) (now a v) (now a u) (at a u) (at a v) (at u v)
    (lt_next u x) (lt_next v x)
    (λ e. ap (λ (k : ℕ). is_same (at a k)) (eqb-true u x e) ∙ ap is_same same)
    (λ e. ap (λ (k : ℕ). is_same (at a k)) (eqb-true v x e) ∙ ap is_same same)
    (is_same_true (at a u)) (is_same_true (at a v))
    (row ∙ group_row a x v at itself) (column ∙ group_row a x u at itself) here

-- a node of another group
pub group_pass : (a x u v : ℕ) (at : Table) → is_same (at a x) ≡ false → group_below x a at u v ≡ group_below (x + 1) a at u v
group_pass a x u v at other =
    passed (nat_eq u x) (nat_eq v x) (nat_lt u x) (nat_lt v x) (is_same (at a u)) (is_same (at a v)) (nat_lt u (x + 1)) (nat_lt v (x + 1)) (at a u) (at a v) (at u v) (lt_next u x) (lt_next v x)
    (λ e. ap (λ (k : ℕ). is_same (at a k)) (eqb-true u x e) ∙ other)
    (λ e. ap (λ (k : ℕ). is_same (at a k)) (eqb-true v x e) ∙ other)
  where
    passed : (eu ev lu lv su sv next_u next_v : Bool) (au av old : Relation) → next_u ≡ (lu || eu) → next_v ≡ (lv || ev) → (eu ≡ true → su ≡ false) → (ev ≡ true → sv ≡ false)
        → (if lu && su then av else if lv && sv then au else old) ≡ (if next_u && su then av else if next_v && sv then au else old)
    passed eu ev lu lv su sv next_u next_v au av old nu nv u v = grind arith

-- all nodes copied, the two groups are one
merged_cell : (lu lv : Bool) (ju jv now pa pb qa qb old : Relation) → lu ≡ true → lv ≡ true → ju ≡ joined_of pa pb → jv ≡ joined_of qa qb → (is_same ju ≡ false → now ≡ old)
    → (if lu && is_same ju then jv else if lv && is_same jv then ju else now) ≡ merged pa pb qa qb old
merged_cell lu lv ju jv now pa pb qa qb old u v p q e = grind arith

pub lt_true : (u n x : ℕ) → u < n → n ≤ x → nat_lt u x ≡ true
lt_true u n x l h = grind arith

-- the row of a, joined with that of b, in terms of the columns
joined_at : (n slabs a b v : ℕ) (at now : Table) → IsClosed n slabs at → a < n → b < n → v < n → now a v ≡ with_joined_row a b at a v → now a v ≡ joined_of (at v a) (at v b)
joined_at n slabs a b v at now h p q j e = e ∙ itself a (joined_of (at a v) (at b v)) (at a v) ∙ ap (λ (r : Relation). joined_of r (at b v)) (h.symmetric a v p j) ∙ ap (joined_of (at v a)) (h.symmetric b v q j)
  where
    itself : (a : ℕ) (new old : Relation) → (if nat_eq a a then new else old) ≡ new
    itself a new old = grind arith

pub joined_itself_at : (n slabs a b : ℕ) (at now : Table) → IsClosed n slabs at → a < n → b < n → ((s t : ℕ) → s < n → t < n → now s t ≡ with_joined_row a b at s t) → now a a ≡ Same
joined_itself_at n slabs a b at now h p q row = joined_at n slabs a b a at now h p q p (row a a p p) ∙ of_itself (at a a) (at a b) (h.itself a p)
  where
    of_itself : (r s : Relation) → r ≡ Same → joined_of r s ≡ Same
    of_itself r s e = grind arith

pub joined_all : (n slabs a b x u v : ℕ) (at now : Table) → IsClosed n slabs at → a < n → b < n → u < n → v < n → n ≤ x → ((s t : ℕ) → s < n → t < n → now s t ≡ with_joined_row a b at s t)
    → group_below x a now u v ≡ decided_table true at a b u v
joined_all n slabs a b x u v at now h p q i j end row =
    merged_cell (nat_lt u x) (nat_lt v x) (now a u) (now a v) (now u v) (at u a) (at u b) (at v a) (at v b) (at u v) (lt_true u n x i end) (lt_true v n x j end)
    (joined_at n slabs a b u at now h p q i (row a u p i))
    (joined_at n slabs a b v at now h p q j (row a v p j))
    (λ e. row u v i j ∙ kept (nat_eq u a) (joined_of (at a v) (at b v)) (at u v) (λ same. other (now a u) (ap (now a) (eqb-true u a same) ∙ joined_itself_at n slabs a b at now h p q row) e))
  where
    kept : (eu : Bool) (new old : Relation) → (eu ≡ true → ⊥) → (if eu then new else old) ≡ old
    kept eu new old e = grind arith

    other : (r : Relation) → r ≡ Same → is_same r ≡ false → ⊥
    other r e f = grind arith

-- one node more of the loop over the group
pub join_step : (r s t : Relations) (a x : ℕ) → a < r.count → x < r.count → relation_at r a a ≡ Same → HasBecome r s (group_below x a (relation_at r)) → is_same (relation_at s a x) ≡ true → HasBecome s t (with_copied_node a x (relation_at s))
    → HasBecome r t (group_below (x + 1) a (relation_at r))
join_step r s t a x p q itself one inside two =
    let same : relation_at r a x ≡ Same = sym (one.at a x p q ∙ group_row a x x (relation_at r) itself) ∙ is_same_true (relation_at s a x) inside in
    then_becomes r s t _ _ _ one two (λ u v i j. group_step a x u v (relation_at r) (relation_at s) itself same (one.at u v i j) (one.at a u p i) (one.at a v p j))

pub join_pass : (r s : Relations) (a x : ℕ) → a < r.count → x < r.count → relation_at r a a ≡ Same → HasBecome r s (group_below x a (relation_at r)) → is_same (relation_at s a x) ≡ false
    → HasBecome r s (group_below (x + 1) a (relation_at r))
join_pass r s a x p q itself one outside = record {
  count = one.count;
  slabs = one.slabs;
  cells = one.cells;
  at = λ u v i j. one.at u v i j ∙ group_pass a x u v (relation_at r) (ap is_same (sym (one.at a x p q ∙ group_row a x x (relation_at r) itself)) ∙ outside);
}
