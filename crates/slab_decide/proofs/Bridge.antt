-- Labels of nodes as assignments of orders to groups.
use Rattle.std.proofs.Common.{◌≡◌, ◌≢◌, ℕ, ◌+◌, ◌-◌, ◌<◌, ◌≤◌, Bool, true, false, List, [], ◌∷◌, sym, ap, ap₂, ◌∙◌, subst, inl, inr, arith}
use Rattle.std.specs.Prelude.{if◌then◌else◌, nat_lt}
use Rattle.std.specs.List.{AllByRecursion}
use Rattle.std.proofs.lemmas.Bool.{cases_lt, false_from_ne_true}
use Rattle.mill_model.specs.declared.ask.Ask.{Ask}
use Rattle.mill_model.specs.declared.ask.Ask.TheVariants.{Pair, Put}
use Rattle.mill_model.specs.Decisions.{Decision}
use Rattle.mill_model.specs.Assignments.{Group, same_group, Assignment, answer, Agrees}
use Rattle.mill_model.specs.Assignments.Group.{On, Loose}
use Rattle.mill_model.proofs.SameGroups.{same_group-true, same_group_from}
use Rattle.slab_closure.specs.declared.relation.Relation.{Relation}
use Rattle.slab_closure.specs.declared.relation.Relation.TheVariants.{Same, Apart}
use Rattle.slab_closure.specs.Relations.{Table, IsClosed}
use Rattle.slab_closure.proofs.Labels.{label_of, same_label, one_group, slab_label}
use Rattle.slab_decide.specs.Decided.{Decisions, IsAskOf}
use Rattle.slab_decide.specs.Nodes.{first_node, second_node, relation_of}
use Rattle.slab_decide.specs.Kept.{group_at, IsRecorded}

pub low_choice : {X : Type 0} (x yard : ℕ) (p q : X) → x < yard → (if nat_lt x yard then p else q) ≡ p
low_choice x yard p q h = grind arith

pub high_choice : {X : Type 0} (x yard : ℕ) (p q : X) → yard ≤ x → (if nat_lt x yard then p else q) ≡ q
high_choice x yard p q h = grind arith

pub group_at_slab : (yard : ℕ) (a : Assignment) (s : ℕ) → s < yard → group_at yard a s ≡ On s
group_at_slab yard a s h = low_choice s yard (On s) (a (s - yard)) h

pub group_at_order : (yard : ℕ) (a : Assignment) (o : ℕ) → group_at yard a (yard + o) ≡ a o
group_at_order yard a o = high_choice (yard + o) yard (On (yard + o)) (a (yard + o - yard)) (omega arith) ∙ ap a (omega arith)

-- an ask compares the groups of its nodes
pub answer_by_nodes : (v : Decisions) (a : Assignment) (ask : Ask) → IsAskOf v ask → answer a ask ≡ same_group (group_at v.yard a (first_node v.yard ask)) (group_at v.yard a (second_node v.yard ask))
answer_by_nodes v a (Pair i j) h = ap₂ same_group (sym (group_at_order v.yard a i)) (sym (group_at_order v.yard a j))
answer_by_nodes v a (Put o s) h = ap₂ same_group (sym (group_at_order v.yard a o)) (sym (group_at_slab v.yard a s h.1))

pub first_in : (v : Decisions) (ask : Ask) → IsAskOf v ask → first_node v.yard ask < v.yard + v.orders
first_in v (Pair i j) h = omega (arith, h.0, h.1)
first_in v (Put o s) h = omega (arith, h.0)

pub second_in : (v : Decisions) (ask : Ask) → IsAskOf v ask → second_node v.yard ask < v.yard + v.orders
second_in v (Pair i j) h = omega (arith, h.1)
second_in v (Put o s) h = omega (arith, h.1)

-- a label below the number of surplus slabs is a slab's
abbrev pub group_of : ℕ → ℕ → Group
group_of yard label = if nat_lt label yard then On label else Loose label

group_of_same : (yard l k : ℕ) → group_of yard l ≡ group_of yard k → l ≡ k
group_of_same yard l k e = elim (cases_lt l yard) [
  | inl p ↦ elim (cases_lt k yard) [
    | inl q ↦ on_on l k (sym (low_choice l yard (On l) (Loose l) p) ∙ e ∙ low_choice k yard (On k) (Loose k) q)
    | inr q ↦ absurd (on_loose l k (sym (low_choice l yard (On l) (Loose l) p) ∙ e ∙ high_choice k yard (On k) (Loose k) q))
  ]
  | inr p ↦ elim (cases_lt k yard) [
    | inl q ↦ absurd (on_loose k l (sym (low_choice k yard (On k) (Loose k) q) ∙ sym e ∙ high_choice l yard (On l) (Loose l) p))
    | inr q ↦ loose_loose l k (sym (high_choice l yard (On l) (Loose l) p) ∙ e ∙ high_choice k yard (On k) (Loose k) q)
  ]
]
  where
    on_on : (l k : ℕ) → On l ≡ On k → l ≡ k
    on_on l k e = cc

    loose_loose : (l k : ℕ) → Loose l ≡ Loose k → l ≡ k
    loose_loose l k e = cc

    on_loose : (l k : ℕ) → On l ≡ Loose k → ⊥
    on_loose l k e = cc

-- the assignment that a table gives: each node in the group of its label
abbrev pub assigned : ℕ → ℕ → Table → Assignment
assigned n yard at o = group_of yard (label_of n at (yard + o))

assigned_at : (n yard : ℕ) (at : Table) → IsClosed n yard at → yard ≤ n → (x : ℕ) → group_at yard (assigned n yard at) x ≡ group_of yard (label_of n at x)
assigned_at n yard at h w x = elim (cases_lt x yard) [
  | inl p ↦ group_at_slab yard (assigned n yard at) x p ∙ sym (low_choice x yard (On x) (Loose x) p) ∙ ap (group_of yard) (sym (slab_label n yard x at h w p))
  | inr p ↦ high_choice x yard (On x) (assigned n yard at (x - yard)) p ∙ ap (λ (y : ℕ). group_of yard (label_of n at y)) (omega arith)
]

pub assigned_same : (n yard : ℕ) (at : Table) → IsClosed n yard at → yard ≤ n → (x y : ℕ) → x < n → y < n → at x y ≡ Same → same_group (group_at yard (assigned n yard at) x) (group_at yard (assigned n yard at) y) ≡ true
assigned_same n yard at h w x y i j same = same_group_from _ _ (assigned_at n yard at h w x ∙ ap (group_of yard) (same_label n yard x y at h i j same) ∙ sym (assigned_at n yard at h w y))

pub assigned_other : (n yard : ℕ) (at : Table) → IsClosed n yard at → yard ≤ n → (x y : ℕ) → x < n → y < n → at x y ≢ Same → same_group (group_at yard (assigned n yard at) x) (group_at yard (assigned n yard at) y) ≡ false
assigned_other n yard at h w x y i j ne = false_from_ne_true _ (λ t. ne (one_group n yard x y at h i j (group_of_same yard (label_of n at x) (label_of n at y) (sym (assigned_at n yard at h w x) ∙ same_group-true _ _ t ∙ assigned_at n yard at h w y))))

apart_same : (r : Relation) → r ≡ Apart → r ≢ Same
apart_same r e f = cc

-- it answers as the table says
pub assigned_answers : (v : Decisions) (n : ℕ) (at : Table) → n ≡ v.yard + v.orders → IsClosed n v.yard at → (ask : Ask) → IsAskOf v ask → (b : Bool) → at (first_node v.yard ask) (second_node v.yard ask) ≡ relation_of b → answer (assigned n v.yard at) ask ≡ b
assigned_answers v n at e h ask k true same = answer_by_nodes v (assigned n v.yard at) ask k ∙ assigned_same n v.yard at h (omega arith) (first_node v.yard ask) (second_node v.yard ask) (subst (λ m. first_node v.yard ask < m) (sym e) (first_in v ask k)) (subst (λ m. second_node v.yard ask < m) (sym e) (second_in v ask k)) same
assigned_answers v n at e h ask k false apart = answer_by_nodes v (assigned n v.yard at) ask k ∙ assigned_other n v.yard at h (omega arith) (first_node v.yard ask) (second_node v.yard ask) (subst (λ m. first_node v.yard ask < m) (sym e) (first_in v ask k)) (subst (λ m. second_node v.yard ask < m) (sym e) (second_in v ask k)) (apart_same _ apart)

-- so it agrees with all decisions that the table has
pub assigned_agrees : (v : Decisions) (n : ℕ) (at : Table) → n ≡ v.yard + v.orders → IsClosed n v.yard at → (list : List Decision) → AllByRecursion (λ (d : Decision). IsAskOf v d.0) list → AllByRecursion (IsRecorded v.yard at) list → Agrees list (assigned n v.yard at)
assigned_agrees v n at e h [] asks recorded = tt
assigned_agrees v n at e h (d ∷ list) asks recorded = (assigned_answers v n at e h d.0 asks.0 d.1 recorded.0, assigned_agrees v n at e h list asks.1 recorded.1)
