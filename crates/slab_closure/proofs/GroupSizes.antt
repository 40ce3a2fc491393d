-- The sizes of groups before any decision and after one.
use Rattle.std.proofs.Common.{◌≡◌, ◌≢◌, ℕ, zero, suc, ◌+◌, ◌<◌, ◌≤◌, Bool, true, false, ◌||◌, if◌then◌else◌, nat_eq, arith, sym, refl, ap, ◌∙◌, inl, inr, get_or, List, ◌++◌, length, take, drop, replicate}
use Rattle.std.proofs.lemmas.Bool.{cases_Bool}
use Rattle.std.proofs.lemmas.List.{get_or-replicate, get_or_default, take-append-le, take_all}
use Rattle.slab_closure.specs.declared.relation.Relation.{Relation}
use Rattle.slab_closure.specs.declared.relation.Relation.TheVariants.{Open, Same}
use Rattle.slab_closure.specs.Cells.{is_same, merged, separated, start_of}
use Rattle.slab_closure.specs.Relations.{Table, Relations, IsRelations, IsClosed, AreUndecided, AreDecided, relation_at, decided_table}
use Rattle.slab_closure.specs.Sizes.{count_from, size_in, group_size, AreSizes}
use Rattle.slab_closure.proofs.Counting.{one, count_from_few}
use Rattle.slab_closure.proofs.Closed.{inside, decided_keeps_same}
use Rattle.slab_closure.proofs.Parts.{AreTwo, two_groups}

-- numbers that pass the same test are as many
count_same : (p q : ℕ → Bool) (low k : ℕ) → ((m : ℕ) → m < low + k → p m ≡ q m) → count_from p low k ≡ count_from q low k
count_same p q low zero h = refl
count_same p q low (suc k) h =
    let first : one (p low) ≡ one (q low) = ap one (h low (omega arith)) in
    let rest : count_from p (low + 1) k ≡ count_from q (low + 1) k = count_same p q (low + 1) k (λ m l. h m (omega arith)) in
    omega (arith, first, rest)

-- numbers that pass one of two tests, of which none passes both
count_either : (p q : ℕ → Bool) (low k : ℕ) → ((m : ℕ) → m < low + k → p m ≡ true → q m ≡ false) → count_from (λ m. p m || q m) low k ≡ count_from p low k + count_from q low k
count_either p q low zero h = omega arith
count_either p q low (suc k) h =
    let first : one (p low || q low) ≡ one (p low) + one (q low) = either (p low) (q low) (h low (omega arith)) in
    let rest : count_from (λ m. p m || q m) (low + 1) k ≡ count_from p (low + 1) k + count_from q (low + 1) k = count_either p q (low + 1) k (λ m l. h m (omega arith)) in
    omega (arith, first, rest)
  where
    either : (p q : Bool) → (p ≡ true → q ≡ false) → one (p || q) ≡ one p + one q
    either p q h = grind arith

-- a number below all of them equals none
count_other : (x low k : ℕ) → x < low → count_from (λ m. nat_eq x m) low k ≡ 0
count_other x low zero l = refl
count_other x low (suc k) l =
    let first : one (nat_eq x low) ≡ 0 = ap one (differ x low l) in
    let rest : count_from (λ m. nat_eq x m) (low + 1) k ≡ 0 = count_other x (low + 1) k (omega arith) in
    omega (arith, first, rest)
  where
    differ : (x low : ℕ) → x < low → nat_eq x low ≡ false
    differ x low l = grind arith

-- a number is the only one that equals it
count_itself : (x low k : ℕ) → low ≤ x → x < low + k → count_from (λ m. nat_eq x m) low k ≡ 1
count_itself x low zero l h = absurd (omega arith)
count_itself x low (suc k) l h =
    elim (cases_Bool (nat_eq x low)) [
      | inl e ↦
          let first : one (nat_eq x low) ≡ 1 = ap one e in
          let rest : count_from (λ m. nat_eq x m) (low + 1) k ≡ 0 = count_other x (low + 1) k (omega (arith, equal x low e)) in
          omega (arith, first, rest)
      | inr e ↦
          let first : one (nat_eq x low) ≡ 0 = ap one e in
          let rest : count_from (λ m. nat_eq x m) (low + 1) k ≡ 1 = count_itself x (low + 1) k (omega (arith, unequal x low e)) (omega arith) in
          omega (arith, first, rest)
    ]
  where
    equal : (x y : ℕ) → nat_eq x y ≡ true → x ≡ y
    equal x y e = grind arith

    unequal : (x y : ℕ) → nat_eq x y ≡ false → x ≢ y
    unequal x y e = grind arith

-- under no decision each node is its group
pub undecided_size : (r : Relations) (x : ℕ) → AreUndecided r → x < r.count → group_size r x ≡ 1
undecided_size r x h i =
    count_same (λ y. is_same (relation_at r x y)) (λ y. nat_eq x y) 0 r.count (λ y j. ap is_same (h x y i (omega arith)) ∙ started r.slabs x y)
    ∙ count_itself x 0 r.count (omega arith) (omega arith)
  where
    started : (slabs x y : ℕ) → is_same (start_of slabs x y) ≡ nat_eq x y
    started slabs x y = grind arith

-- the group of a node that lies in one of the two
in_cell : (xa xb ya yb xy : Relation) → (is_same xa || is_same xb) ≡ true → is_same (merged xa xb ya yb xy) ≡ (is_same ya || is_same yb)
in_cell xa xb ya yb xy e = grind arith

-- the group of another node
out_cell : (xa xb ya yb xy : Relation) → (is_same xa || is_same xb) ≡ false → (xy ≡ Same → (xa ≡ ya) × (xb ≡ yb)) → is_same (merged xa xb ya yb xy) ≡ is_same xy
out_cell xa xb ya yb xy e h = grind arith

-- the group of two nodes is as large as the two groups
joined_in : (n slabs a b x : ℕ) (at new : Table) → IsClosed n slabs at → a < n → b < n → x < n → at a b ≡ Open → ((u v : ℕ) → u < n → v < n → new u v ≡ decided_table true at a b u v) → inside at a b x ≡ true
    → size_in n new x ≡ size_in n at a + size_in n at b
joined_in n slabs a b x at new h p q i o made in_one =
    let two : AreTwo n a b at = two_groups n slabs a b at h p q o in
    count_same (λ y. is_same (new x y)) (λ y. is_same (at a y) || is_same (at b y)) 0 n
    (λ y l.
    let j : y < n = omega arith in
    ap is_same (made x y i j) ∙ in_cell (at x a) (at x b) (at y a) (at y b) (at x y) in_one
    ∙ ap (λ (r : Relation). is_same r || is_same (at y b)) (h.symmetric y a j p) ∙ ap (λ (r : Relation). is_same (at a y) || is_same r) (h.symmetric y b j q))
    ∙ count_either (λ y. is_same (at a y)) (λ y. is_same (at b y)) 0 n (λ y l e. two.disjoint y (omega arith) e)

-- the group of another node stays as it is
joined_out : (n slabs a b x : ℕ) (at new : Table) → IsClosed n slabs at → a < n → b < n → x < n → ((u v : ℕ) → u < n → v < n → new u v ≡ decided_table true at a b u v) → inside at a b x ≡ false → size_in n new x ≡ size_in n at x
joined_out n slabs a b x at new h p q i made out =
    count_same (λ y. is_same (new x y)) (λ y. is_same (at x y)) 0 n
    (λ y l.
    let j : y < n = omega arith in
    ap is_same (made x y i j) ∙ out_cell (at x a) (at x b) (at y a) (at y b) (at x y) out (λ e. (h.shared x y a i j p e, h.shared x y b i j q e)))

pub joined_size : (r s : Relations) (a b x : ℕ) → IsRelations r → AreDecided r s a b true → a < r.count → b < r.count → x < r.count → relation_at r a b ≡ Open
    → group_size s x ≡ (if is_same (relation_at s a x) then group_size r a + group_size r b else group_size r x)
joined_size r s a b x h made p q i o =
    ap (λ (n : ℕ). size_in n (relation_at s) x) made.count
    ∙ elim (cases_Bool (inside at a b x)) [
      | inl e ↦ joined_in r.count r.slabs a b x at (relation_at s) h.closed p q i o made.at e ∙ sym (chosen (is_same (relation_at s a x)) _ _ (member ∙ e))
      | inr e ↦ joined_out r.count r.slabs a b x at (relation_at s) h.closed p q i made.at e ∙ sym (passed (is_same (relation_at s a x)) _ _ (member ∙ e))
    ]
  where
    at : Table
    at = relation_at r

    first : (aa ab : Relation) → aa ≡ Same → (is_same aa || is_same ab) ≡ true
    first aa ab e = grind arith

    member : is_same (relation_at s a x) ≡ inside at a b x
    member = ap is_same (made.at a x p i) ∙ in_cell (at a a) (at a b) (at x a) (at x b) (at a x) (first (at a a) (at a b) (h.closed.itself a p))

    chosen : (c : Bool) (m n : ℕ) → c ≡ true → (if c then m else n) ≡ m
    chosen c m n e = grind arith

    passed : (c : Bool) (m n : ℕ) → c ≡ false → (if c then m else n) ≡ n
    passed c m n e = grind arith

-- groups that are told apart stay as they are
pub parted_size : (r s : Relations) (a b x : ℕ) → IsRelations r → AreDecided r s a b false → a < r.count → b < r.count → x < r.count → relation_at r a b ≡ Open → group_size s x ≡ group_size r x
parted_size r s a b x h made p q i o =
    ap (λ (n : ℕ). size_in n (relation_at s) x) made.count
    ∙ count_same (λ y. is_same (relation_at s x y)) (λ y. is_same (relation_at r x y)) 0 r.count
    (λ y l.
    let j : y < r.count = omega arith in
    ap is_same (made.at x y i j)
    ∙ kept (relation_at r x a) (relation_at r x b) (relation_at r y a) (relation_at r y b) (relation_at r x y) (decided_keeps_same false r.count r.slabs a b (relation_at r) h.closed p q o x y i j))
  where
    kept : (xa xb ya yb xy : Relation) → (xy ≡ Same → separated xa xb ya yb xy ≡ Same) → is_same (separated xa xb ya yb xy) ≡ is_same xy
    kept xa xb ya yb xy e = grind arith

-- sizes of one for each node
pub started_sizes : (r : Relations) (n : ℕ) (sizes : List ℕ) → AreUndecided r → r.count ≡ n → sizes ≡ replicate n 1 → AreSizes r sizes
started_sizes r n sizes h e f x i = ap (λ (xs : List ℕ). get_or xs x 0) f ∙ get_or-replicate n x 1 0 (omega (arith, e, i)) ∙ sym (undecided_size r x h i)

-- the sizes after a join, where the size of the group of a and b is written for each of its nodes
pub joined_sizes : (r s : Relations) (a b size : ℕ) (sizes new : List ℕ) → IsRelations r → AreDecided r s a b true → a < r.count → b < r.count → relation_at r a b ≡ Open → AreSizes r sizes → size ≡ get_or sizes a 0 + get_or sizes b 0
    → ((x : ℕ) → x < s.count → get_or new x 0 ≡ (if is_same (relation_at s a x) then size else get_or sizes x 0)) → AreSizes s new
joined_sizes r s a b size sizes new h made p q o old sum written x l =
    let i : x < r.count = omega (arith, l, made.count) in
    let whole : size ≡ group_size r a + group_size r b = sum ∙ ap (λ (k : ℕ). k + get_or sizes b 0) (old a p) ∙ ap (λ (k : ℕ). group_size r a + k) (old b q) in
    written x l ∙ ap (λ (k : ℕ). if is_same (relation_at s a x) then k else get_or sizes x 0) whole ∙ ap (λ (k : ℕ). if is_same (relation_at s a x) then group_size r a + group_size r b else k) (old x i)
    ∙ sym (joined_size r s a b x h made p q i o)

pub parted_sizes : (r s : Relations) (a b : ℕ) (sizes : List ℕ) → IsRelations r → AreDecided r s a b false → a < r.count → b < r.count → relation_at r a b ≡ Open → AreSizes r sizes → AreSizes s sizes
parted_sizes r s a b sizes h made p q o old x l =
    let i : x < r.count = omega (arith, l, made.count) in
    old x i ∙ sym (parted_size r s a b x h made p q i o)

-- a size that is read
pub read_size : (sizes : List ℕ) (x size : ℕ) → x < length sizes → size ≡ get_or sizes x size → size ≡ get_or sizes x 0
read_size sizes x size l h = h ∙ get_or_default sizes x size 0 l

-- no group has more nodes than there are
pub few_in_group : (r : Relations) (sizes : List ℕ) (x : ℕ) → AreSizes r sizes → IsRelations r → x < r.count → get_or sizes x 0 ≤ 290
few_in_group r sizes x old h i = omega (arith, old x i, count_from_few (λ y. is_same (relation_at r x y)) 0 r.count, h.limit)

-- a whole write through a slice of a vector
pub written : {A : Type 0} (n : ℕ) (new items : List A) → length new ≡ n → take n (new ++ drop (length new) items) ≡ new
written n new items e = take-append-le n new (drop (length new) items) (omega arith) ∙ take_all n new (omega arith)
