-- A column agrees with all decisions exactly where its nodes are whole groups of which no two are apart.
use Rattle.std.proofs.Common.{◌≡◌, ℕ, ◌+◌, ◌-◌, ◌<◌, ◌≤◌, Bool, true, false, cond, not, ◌&&◌, eqb, zero, suc, List, [], ◌∷◌, refl, sym, ap, ap₂, ◌∙◌, subst, inl, inr, arith}
use Rattle.std.specs.List.{AllByRecursion}
use Rattle.std.specs.Prelude.{All, length, slice_index}
use Rattle.std.proofs.lemmas.Bool.{cases_lt, cases_order, both_ways, false_from_ne_true, and_from, eqb-true, eq-eqb, or_cases, or_left, or_right}
use Rattle.mill_model.specs.declared.ask.Ask.{Ask}
use Rattle.mill_model.specs.declared.ask.Ask.TheVariants.{Pair, Put}
use Rattle.mill_model.specs.declared.kind.Kind.{Kind}
use Rattle.mill_model.specs.declared.kind.Kind.TheVariants.{New, Old}
use Rattle.mill_model.specs.Columns.{Column, has, is_old, Rises}
use Rattle.mill_model.specs.Decisions.{Decision, first_test, second_test, agrees, column_agrees}
use Rattle.mill_model.proofs.Agreement.{column_follows}
use Rattle.slab_closure.specs.declared.relation.Relation.{Relation}
use Rattle.slab_closure.specs.declared.relation.Relation.TheVariants.{Open, Same, Apart}
use Rattle.slab_closure.specs.Relations.{Table, Relations, IsClosed, relation_at}
use Rattle.slab_decide.specs.Decided.{Decisions, IsAskOf, AreConsistent}
use Rattle.slab_decide.specs.Nodes.{first_node, second_node, relation_of}
use Rattle.slab_decide.specs.Kept.{IsRecorded, IsKept}
use Rattle.slab_decide.specs.Whole.{has_node, suits, IsRowWhole, IsWhole, IsSlabWhole, AreOrdersWhole, IsSlabNode, AreNodes}
use Rattle.slab_decide.proofs.Bridge.{low_choice, high_choice, first_in, second_in}
use Rattle.slab_decide.proofs.Kept.{kept_follows, kept_consistent}

pub order_node : (yard : ℕ) (c : Column) (o : ℕ) → has_node yard c (yard + o) ≡ has c.orders o
order_node yard c o = high_choice (yard + o) yard (is_old (yard + o) c.kind) (has c.orders (yard + o - yard)) (omega arith) ∙ ap (has c.orders) (omega arith)

pub slab_node : (yard : ℕ) (c : Column) (s : ℕ) → s < yard → has_node yard c s ≡ is_old s c.kind
slab_node yard c s h = low_choice s yard (is_old s c.kind) (has c.orders (s - yard)) h

first_by_node : (v : Decisions) (c : Column) (ask : Ask) → IsAskOf v ask → first_test ask c ≡ has_node v.yard c (first_node v.yard ask)
first_by_node v c (Pair i j) h = sym (order_node v.yard c i)
first_by_node v c (Put o s) h = sym (order_node v.yard c o)

second_by_node : (v : Decisions) (c : Column) (ask : Ask) → IsAskOf v ask → second_test ask c ≡ has_node v.yard c (second_node v.yard ask)
second_by_node v c (Pair i j) h = sym (order_node v.yard c j)
second_by_node v c (Put o s) h = sym (slab_node v.yard c s h.1)

both_or_neither : (f s : Bool) → (f ≡ true → s ≡ true) → (s ≡ true → f ≡ true) → cond f s (not s) ≡ true
both_or_neither true s g h = g refl
both_or_neither false true g h = h refl
both_or_neither false false g h = refl

never_both : (f s : Bool) → (f ≡ true → s ≡ true → ⊥) → not (f && s) ≡ true
never_both true true g = absurd (g refl refl)
never_both true false g = refl
never_both false s g = refl

then_second : (f s : Bool) → cond f s (not s) ≡ true → f ≡ true → s ≡ true
then_second true s g e = g
then_second false s g e = cc

then_first : (f s : Bool) → cond f s (not s) ≡ true → s ≡ true → f ≡ true
then_first true s g e = refl
then_first false true g e = cc
then_first false false g e = cc

not_both : (f s : Bool) → not (f && s) ≡ true → f ≡ true → s ≡ true → ⊥
not_both true true g e h = cc
not_both true false g e h = cc
not_both false s g e h = cc

pub suits_same : (t : Relation) (inside : Bool) → suits t inside ≡ true → t ≡ Same → inside ≡ true
suits_same Open inside e f = cc
suits_same Same inside e f = e
suits_same Apart inside e f = cc

pub suits_apart : (t : Relation) (inside : Bool) → suits t inside ≡ true → t ≡ Apart → inside ≡ true → ⊥
suits_apart Open inside e f g = cc
suits_apart Same inside e f g = cc
suits_apart Apart true e f g = cc
suits_apart Apart false e f g = cc

pub suits_from : (t : Relation) (inside : Bool) → (t ≡ Same → inside ≡ true) → (t ≡ Apart → inside ≡ true → ⊥) → suits t inside ≡ true
suits_from Open inside f g = refl
suits_from Same inside f g = f refl
suits_from Apart true f g = absurd (g refl refl)
suits_from Apart false f g = refl

module _ (v : Decisions) (r : Relations) (kept : IsKept v r) (c : Column) where
  low : (ask : Ask) → IsAskOf v ask → first_node v.yard ask < r.count
  low ask h = subst (λ n. first_node v.yard ask < n) (sym kept.count) (first_in v ask h)

  high : (ask : Ask) → IsAskOf v ask → second_node v.yard ask < r.count
  high ask h = subst (λ n. second_node v.yard ask < n) (sym kept.count) (second_in v ask h)

  whole_agrees_one : IsWhole r.count (relation_at r) (has_node v.yard c) → (ask : Ask) → IsAskOf v ask → (b : Bool) → relation_at r (first_node v.yard ask) (second_node v.yard ask) ≡ relation_of b → agrees c (ask, b) ≡ true
  whole_agrees_one w ask h true e = both_or_neither (first_test ask c) (second_test ask c)
      (λ q. second_by_node v c ask h ∙ suits_same (relation_at r (first_node v.yard ask) (second_node v.yard ask)) (has_node v.yard c (second_node v.yard ask)) (w (first_node v.yard ask) (low ask h) (sym (first_by_node v c ask h) ∙ q) (second_node v.yard ask) (high ask h)) e)
      (λ q. first_by_node v c ask h ∙ suits_same (relation_at r (second_node v.yard ask) (first_node v.yard ask)) (has_node v.yard c (first_node v.yard ask)) (w (second_node v.yard ask) (high ask h) (sym (second_by_node v c ask h) ∙ q) (first_node v.yard ask) (low ask h)) (kept.relations.closed.symmetric (second_node v.yard ask) (first_node v.yard ask) (high ask h) (low ask h) ∙ e))
  whole_agrees_one w ask h false e = never_both (first_test ask c) (second_test ask c)
      (λ p q. suits_apart (relation_at r (first_node v.yard ask) (second_node v.yard ask)) (has_node v.yard c (second_node v.yard ask)) (w (first_node v.yard ask) (low ask h) (sym (first_by_node v c ask h) ∙ p) (second_node v.yard ask) (high ask h)) e (sym (second_by_node v c ask h) ∙ q))

  whole_agrees_all : IsWhole r.count (relation_at r) (has_node v.yard c) → (list : List Decision) → AllByRecursion (λ (d : Decision). IsAskOf v d.0) list → AllByRecursion (IsRecorded v.yard (relation_at r)) list → column_agrees list c ≡ true
  whole_agrees_all w [] asks recorded = refl
  whole_agrees_all w (d ∷ list) asks recorded = and_from (agrees c d) (column_agrees list c) (whole_agrees_one w d.0 asks.0 d.1 recorded.0) (whole_agrees_all w list asks.1 recorded.1)

  pub whole_agrees : IsWhole r.count (relation_at r) (has_node v.yard c) → column_agrees v.list c ≡ true
  whole_agrees w = whole_agrees_all w v.list kept.decisions.asks kept.recorded

  -- what follows binds the column
  bound : column_agrees v.list c ≡ true → (ask : Ask) → IsAskOf v ask → (b : Bool) → relation_at r (first_node v.yard ask) (second_node v.yard ask) ≡ relation_of b → agrees c (ask, b) ≡ true
  bound column ask h b e = let some : AreConsistent v.list = kept_consistent v r kept in column_follows c v.list some.0 ask b some.1 column (kept_follows v r kept ask h b e)

  -- an ask of two nodes
  record Asked (x y : ℕ) : Type 0 where
    ask : Ask
    is_ask : IsAskOf v ask
    first : first_node v.yard ask ≡ x
    second : second_node v.yard ask ≡ y

  bound_together : column_agrees v.list c ≡ true → (x y : ℕ) → Asked x y → relation_at r x y ≡ Same → (has_node v.yard c x ≡ true → has_node v.yard c y ≡ true) × (has_node v.yard c y ≡ true → has_node v.yard c x ≡ true)
  bound_together column x y a e =
      let told : agrees c (a.ask, true) ≡ true = bound column a.ask a.is_ask true (ap₂ (relation_at r) a.first a.second ∙ e) in
      let f : first_test a.ask c ≡ has_node v.yard c x = first_by_node v c a.ask a.is_ask ∙ ap (has_node v.yard c) a.first in
      let s : second_test a.ask c ≡ has_node v.yard c y = second_by_node v c a.ask a.is_ask ∙ ap (has_node v.yard c) a.second in
      ((λ q. sym s ∙ then_second (first_test a.ask c) (second_test a.ask c) told (f ∙ q)), (λ q. sym f ∙ then_first (first_test a.ask c) (second_test a.ask c) told (s ∙ q)))

  bound_apart : column_agrees v.list c ≡ true → (x y : ℕ) → Asked x y → relation_at r x y ≡ Apart → has_node v.yard c x ≡ true → has_node v.yard c y ≡ true → ⊥
  bound_apart column x y a e p q =
      let told : agrees c (a.ask, false) ≡ true = bound column a.ask a.is_ask false (ap₂ (relation_at r) a.first a.second ∙ e) in
      not_both (first_test a.ask c) (second_test a.ask c) told (first_by_node v c a.ask a.is_ask ∙ ap (has_node v.yard c) a.first ∙ p) (second_by_node v c a.ask a.is_ask ∙ ap (has_node v.yard c) a.second ∙ q)

  closed : IsClosed r.count v.yard (relation_at r)
  closed = subst (λ s. IsClosed r.count s (relation_at r)) kept.slabs kept.relations.closed

  asked_put : (x y : ℕ) → v.yard ≤ x → x < r.count → y < v.yard → Asked x y
  asked_put x y p i q = record { ask = Put (x - v.yard) y; is_ask = (omega (arith, p, i, kept.count), q); first = omega (arith, p); second = refl }

  asked_pair : (x y : ℕ) → v.yard ≤ x → x < y → y < r.count → Asked x y
  asked_pair x y p l j = record { ask = Pair (x - v.yard) (y - v.yard); is_ask = (omega (arith, p, l), omega (arith, p, l, j, kept.count)); first = omega (arith, p); second = omega (arith, p, l) }

  apart_same : (t : Relation) → t ≡ Apart → t ≡ Same → ⊥
  apart_same t e f = cc

  -- two nodes are one, or two slabs, or an ask is about them, in one order or the other
  data Nodes (x y : ℕ) : Type 0 where
    one : x ≡ y → Nodes x y
    slabs : x < v.yard → y < v.yard → (x ≡ y → ⊥) → Nodes x y
    forth : Asked x y → Nodes x y
    back : Asked y x → Nodes x y

  nodes_of : (x y : ℕ) → x < r.count → y < r.count → Nodes x y
  nodes_of x y i j = elim (cases_order x y) [
    | inl e ↦ one e
    | inr less ↦ elim (cases_lt x v.yard) [
      | inl p ↦ elim (cases_lt y v.yard) [
        | inl q ↦ slabs p q (λ e. elim less [ inl l ↦ omega (arith, l, e) | inr l ↦ omega (arith, l, e) ])
        | inr q ↦ back (asked_put y x q j p)
      ]
      | inr p ↦ elim (cases_lt y v.yard) [
        | inl q ↦ forth (asked_put x y p i q)
        | inr q ↦ elim less [ inl l ↦ forth (asked_pair x y p l j) | inr l ↦ back (asked_pair y x q l i) ]
      ]
    ]
  ]

  one_slab : (k : Kind) (s t : ℕ) → is_old s k ≡ true → is_old t k ≡ true → s ≡ t
  one_slab (New size) s t e f = cc
  one_slab (Old u) s t e f = sym (eqb-true u s e) ∙ eqb-true u t f

  together_at : column_agrees v.list c ≡ true → (x y : ℕ) → x < r.count → y < r.count → Nodes x y → relation_at r x y ≡ Same → has_node v.yard c x ≡ true → has_node v.yard c y ≡ true
  together_at column x y i j (one e) same p = subst (λ z. has_node v.yard c z ≡ true) e p
  together_at column x y i j (slabs s t ne) same p = absurd (apart_same (relation_at r x y) (closed.distinct x y s t ne) same)
  together_at column x y i j (forth a) same p = (bound_together column x y a same).0 p
  together_at column x y i j (back a) same p = (bound_together column y x a (closed.symmetric y x j i ∙ same)).1 p

  apart_at : column_agrees v.list c ≡ true → (x y : ℕ) → x < r.count → y < r.count → Nodes x y → relation_at r x y ≡ Apart → has_node v.yard c x ≡ true → has_node v.yard c y ≡ true → ⊥
  apart_at column x y i j (one e) apart p q = apart_same (relation_at r x y) apart (subst (λ z. relation_at r x z ≡ Same) e (closed.itself x i))
  apart_at column x y i j (slabs s t ne) apart p q = ne (one_slab c.kind x y (sym (slab_node v.yard c x s) ∙ p) (sym (slab_node v.yard c y t) ∙ q))
  apart_at column x y i j (forth a) apart p q = bound_apart column x y a apart p q
  apart_at column x y i j (back a) apart p q = bound_apart column y x a (closed.symmetric y x j i ∙ apart) q p

  pub agrees_whole : column_agrees v.list c ≡ true → IsWhole r.count (relation_at r) (has_node v.yard c)
  agrees_whole column x i inside y j = suits_from (relation_at r x y) (has_node v.yard c y)
      (λ same. together_at column x y i j (nodes_of x y i j) same inside)
      (λ apart. apart_at column x y i j (nodes_of x y i j) apart inside)

-- an order of a list has a place in it
pub has_at : (xs : List ℕ) (o : ℕ) → has xs o ≡ true → (k : ℕ) × (k < length xs) × (slice_index xs k ≡ o)
has_at [] o e = cc
has_at (x ∷ xs) o e = elim (or_cases (eqb x o) (has xs o) e) [
  | inl q ↦ (0, omega arith, eqb-true x o q)
  | inr q ↦ let rest = has_at xs o q in (suc rest.0, omega (arith, rest.1), rest.2)
]

pub at_has : (xs : List ℕ) (k : ℕ) → k < length xs → has xs (slice_index xs k) ≡ true
at_has [] k h = absurd (omega (arith, h))
at_has (x ∷ xs) zero h = or_left (eqb x x) (has xs x) (eq-eqb x x refl)
at_has (x ∷ xs) (suc k) h = or_right (eqb x (slice_index xs k)) (has xs (slice_index xs k)) (at_has xs k (omega (arith, h)))

slab_is : (k : Kind) (s : ℕ) → is_old s k ≡ true → k ≡ Old s
slab_is (New size) s e = cc
slab_is (Old t) s e = ap Old (eqb-true t s e)

-- whole rows of the slab and of the orders make the column whole
pub whole_from_rows : (n yard : ℕ) (at : Table) (c : Column) → IsSlabWhole n at (has_node yard c) c.kind → AreOrdersWhole n at (has_node yard c) yard c.orders → IsWhole n at (has_node yard c)
whole_from_rows n yard at c slab orders x i inside = elim (cases_lt x yard) [
  | inl p ↦ subst (λ (k : Kind). IsSlabWhole n at (has_node yard c) k) (slab_is c.kind x (sym (slab_node yard c x p) ∙ inside)) slab
  | inr p ↦ let there = has_at c.orders (x - yard) (sym (high_choice x yard (is_old x c.kind) (has c.orders (x - yard)) p) ∙ inside) in subst (IsRowWhole n at (has_node yard c)) (omega (arith, there.2, p)) (orders there.0 there.1)
]

pub slab_from_whole : (n yard : ℕ) (at : Table) (c : Column) → yard ≤ n → IsSlabNode yard c.kind → IsWhole n at (has_node yard c) → IsSlabWhole n at (has_node yard c) c.kind
slab_from_whole n yard at c w node whole = by_kind c.kind refl
  where
    by_kind : (k : Kind) → c.kind ≡ k → IsSlabWhole n at (has_node yard c) k
    by_kind (New size) e = tt
    by_kind (Old s) e =
        let low : s < yard = subst (IsSlabNode yard) e node in
        whole s (omega (arith, low, w)) (slab_node yard c s low ∙ ap (is_old s) e ∙ eq-eqb s s refl)

pub orders_from_whole : (n yard : ℕ) (at : Table) (c : Column) → All (λ o. yard + o < n) c.orders → IsWhole n at (has_node yard c) → AreOrdersWhole n at (has_node yard c) yard c.orders
orders_from_whole n yard at c rises whole k h = whole (yard + slice_index c.orders k) (rises k 0 h) (order_node yard c (slice_index c.orders k) ∙ at_has c.orders k h)

-- decisions ask of surplus slabs that there are alone
first_alike : (ask : Ask) (k l : Kind) (orders : List ℕ) → first_test ask (record { kind = k; orders = orders }) ≡ first_test ask (record { kind = l; orders = orders })
first_alike (Pair i j) k l orders = refl
first_alike (Put o s) k l orders = refl

second_alike : (v : Decisions) (ask : Ask) (k l : Kind) (orders : List ℕ) → IsAskOf v ask → ((s : ℕ) → s < v.yard → is_old s k ≡ is_old s l) → second_test ask (record { kind = k; orders = orders }) ≡ second_test ask (record { kind = l; orders = orders })
second_alike v (Pair i j) k l orders h alike = refl
second_alike v (Put o s) k l orders h alike = alike s h.1

agrees_alike_one : (v : Decisions) (ask : Ask) (b : Bool) (k l : Kind) (orders : List ℕ) → IsAskOf v ask → ((s : ℕ) → s < v.yard → is_old s k ≡ is_old s l) → agrees (record { kind = k; orders = orders }) (ask, b) ≡ agrees (record { kind = l; orders = orders }) (ask, b)
agrees_alike_one v ask true k l orders h alike = rw (first_alike ask k l orders, second_alike v ask k l orders h alike) refl
agrees_alike_one v ask false k l orders h alike = rw (first_alike ask k l orders, second_alike v ask k l orders h alike) refl

pub agrees_alike : (v : Decisions) (list : List Decision) (k l : Kind) (orders : List ℕ) → AllByRecursion (λ (d : Decision). IsAskOf v d.0) list → ((s : ℕ) → s < v.yard → is_old s k ≡ is_old s l)
    → column_agrees list (record { kind = k; orders = orders }) ≡ column_agrees list (record { kind = l; orders = orders })
agrees_alike v [] k l orders asks alike = refl
agrees_alike v (d ∷ list) k l orders asks alike =
    rw (agrees_alike_one v d.0 d.1 k l orders asks.0 alike, agrees_alike v list k l orders asks.1 alike) refl

pub orders_in : (low high yard : ℕ) (xs : List ℕ) → Rises low high xs → All (λ o. yard + o < yard + high) xs
orders_in low high yard [] h k d l = absurd (omega (arith, l))
orders_in low high yard (x ∷ xs) h zero d l = omega (arith, h.1)
orders_in low high yard (x ∷ xs) h (suc k) d l = orders_in (x + 1) high yard xs h.2 k d (omega (arith, l))

module _ (v : Decisions) (r : Relations) (kept : IsKept v r) (c : Column) (slab : IsSlabNode v.yard c.kind) (rises : Rises 0 v.orders c.orders) where
  within : v.yard ≤ r.count
  within = omega (arith, kept.count)

  -- the column's nodes are nodes
  pub nodes : AreNodes r.count v.yard c.kind c.orders
  nodes = record {
    within = within;
    limit = omega (arith, kept.count, kept.decisions.orders, kept.decisions.yard);
    slab = slab;
    rises = subst (λ n. Rises 0 n c.orders) (omega (arith, kept.count)) rises;
  }

  in_range : All (λ o. v.yard + o < r.count) c.orders
  in_range = subst (λ n. All (λ o. v.yard + o < n) c.orders) (sym kept.count) (orders_in 0 v.orders v.yard c.orders rises)

  pub refused : (b : Bool) → b ≡ false → (IsSlabWhole r.count (relation_at r) (has_node v.yard c) c.kind → b ≡ true) → false ≡ column_agrees v.list c
  refused b e f = sym (false_from_ne_true (column_agrees v.list c) (λ t. both_ways b e (f (slab_from_whole r.count v.yard (relation_at r) c within slab (agrees_whole v r kept c t)))))

  pub answered : (b : Bool) → IsSlabWhole r.count (relation_at r) (has_node v.yard c) c.kind
      → (b ≡ true → AreOrdersWhole r.count (relation_at r) (has_node v.yard c) v.yard c.orders)
      → (AreOrdersWhole r.count (relation_at r) (has_node v.yard c) v.yard c.orders → b ≡ true) → b ≡ column_agrees v.list c
  answered true whole f g = sym (whole_agrees v r kept c (whole_from_rows r.count v.yard (relation_at r) c whole (f refl)))
  answered false whole f g = sym (false_from_ne_true (column_agrees v.list c) (λ t. both_ways false refl (g (orders_from_whole r.count v.yard (relation_at r) c in_range (agrees_whole v r kept c t)))))
