-- Plans and columns as assignments: they agree with what follows from the decisions.
use Rattle.std.proofs.Common.{◌≡◌, ℕ, ◌+◌, ◌<◌, Bool, true, false, cond, not, ◌&&◌, eqb, List, [], ◌∷◌, length, slice_index, slice_index_or, refl, sym, ap, ◌∙◌, inl, inr, ◌⊎◌, arith}
use Rattle.std.proofs.lemmas.Bool.{eqb-true, eq-eqb, cases_Bool, cond-true, cond-false, false_from_ne_true, both_ways, not-true, and_parts, and_from, cases_order}
use Rattle.mill_model.specs.declared.kind.Kind.{Kind}
use Rattle.mill_model.specs.declared.kind.Kind.TheVariants.{New, Old}
use Rattle.mill_model.specs.declared.ask.Ask.{Ask}
use Rattle.mill_model.specs.declared.ask.Ask.TheVariants.{Pair, Put}
use Rattle.mill_model.specs.Mill.{Mill}
use Rattle.mill_model.specs.Plans.{Plan, IsLegal}
use Rattle.mill_model.specs.Columns.{Column, has, is_old}
use Rattle.mill_model.specs.Decisions.{Decision, IsAsk, AreAsks, answer_of, PlanAgrees, agrees, column_agrees}
use Rattle.mill_model.specs.Assignments.{Group, same_group, Assignment, answer, Agrees, Follows, AreSettled}
use Rattle.mill_model.specs.Assignments.Group.{On, Loose}
use Rattle.mill_model.proofs.Slabs.{place, kind, only_slab, on_a_slab}
use Rattle.mill_model.proofs.SameGroups.{same_group-true, same_group_from}

-- ---- a plan as an assignment

abbrev pub group_of : ℕ → Kind → Group
group_of k (New size) = Loose k
group_of k (Old s) = On s

abbrev pub assignment_of : Plan → Assignment
assignment_of p o = group_of (slice_index p.place o) (slice_index_or p.kinds (slice_index p.place o) (New 0))

group_is_old : (k s : ℕ) (kind : Kind) → same_group (group_of k kind) (On s) ≡ is_old s kind
group_is_old k s (New size) = refl
group_is_old k s (Old t) = refl

same_bool : (x y : Bool) → (x ≡ true → y ≡ true) → (y ≡ true → x ≡ true) → x ≡ y
same_bool true y f g = sym (f refl)
same_bool false true f g = g refl
same_bool false false f g = refl

module _ (m : Mill) (p : Plan) (legal : IsLegal m p) where
  -- two slabs that are one group are one slab
  one_slab : (i j : ℕ) → i < length m.orders → j < length m.orders → assignment_of p i ≡ assignment_of p j → place m p legal i ≡ place m p legal j
  one_slab i j h l e = by_kind (kind m p legal (place m p legal i)) (kind m p legal (place m p legal j)) refl refl e
    where
      by_kind : (x y : Kind) → kind m p legal (place m p legal i) ≡ x → kind m p legal (place m p legal j) ≡ y → group_of (place m p legal i) (kind m p legal (place m p legal i)) ≡ group_of (place m p legal j) (kind m p legal (place m p legal j)) → place m p legal i ≡ place m p legal j
      by_kind (New u) (New v) a b q = loose (ap (group_of (place m p legal i)) (sym a) ∙ q ∙ ap (group_of (place m p legal j)) b)
        where
          loose : Loose (place m p legal i) ≡ Loose (place m p legal j) → place m p legal i ≡ place m p legal j
          loose z = cc
      by_kind (New u) (Old t) a b q = apart (ap (group_of (place m p legal i)) (sym a) ∙ q ∙ ap (group_of (place m p legal j)) b)
        where
          apart : Loose (place m p legal i) ≡ On t → place m p legal i ≡ place m p legal j
          apart z = cc
      by_kind (Old s) (New v) a b q = apart (ap (group_of (place m p legal i)) (sym a) ∙ q ∙ ap (group_of (place m p legal j)) b)
        where
          apart : On s ≡ Loose (place m p legal j) → place m p legal i ≡ place m p legal j
          apart z = cc
      by_kind (Old s) (Old t) a b q =
          let is_s : is_old s (kind m p legal (place m p legal i)) ≡ true = ap (is_old s) a ∙ eq-eqb s s refl in
          let same : s ≡ t = on (ap (group_of (place m p legal i)) (sym a) ∙ q ∙ ap (group_of (place m p legal j)) b) in
          eqb-true (place m p legal i) (place m p legal j) (sym (only_slab m p legal i s (place m p legal j) h (on_a_slab m p legal j l) is_s) ∙ ap (is_old s) b ∙ eq-eqb t s (sym same))
        where
          on : On s ≡ On t → s ≡ t
          on z = cc

  -- a legal plan answers as its assignment
  pub plan_answers : (ask : Ask) → IsAsk m ask → answer (assignment_of p) ask ≡ answer_of p ask
  plan_answers (Pair i j) h = same_bool (same_group (assignment_of p i) (assignment_of p j)) (eqb (place m p legal i) (place m p legal j))
      (λ e. eq-eqb (place m p legal i) (place m p legal j) (one_slab i j (omega arith) (omega arith) (same_group-true (assignment_of p i) (assignment_of p j) e)))
      (λ e. same_group_from (assignment_of p i) (assignment_of p j) (ap (λ k. group_of k (kind m p legal k)) (eqb-true (place m p legal i) (place m p legal j) e)))
  plan_answers (Put o s) h = group_is_old (place m p legal o) s (kind m p legal (place m p legal o))

  plan_assignment_agrees : (decisions : List Decision) → AreAsks m decisions → PlanAgrees decisions p → Agrees decisions (assignment_of p)
  plan_assignment_agrees [] asks h = tt
  plan_assignment_agrees (d ∷ decisions) asks h = (plan_answers d.0 asks.0 ∙ h.0, plan_assignment_agrees decisions asks.1 h.1)

  -- a legal plan that agrees with decisions answers as they do what follows from them
  pub plan_follows : (decisions : List Decision) (ask : Ask) (b : Bool) → AreAsks m decisions → IsAsk m ask → PlanAgrees decisions p → Follows decisions ask b → answer_of p ask ≡ b
  plan_follows decisions ask b asks h agree follows = sym (plan_answers ask h) ∙ follows (assignment_of p) (plan_assignment_agrees decisions asks agree)

-- ---- a column as a group of an assignment

old_is : (s : ℕ) (k : Kind) → is_old s k ≡ true → k ≡ Old s
old_is s (New size) e = cc
old_is s (Old t) e = ap Old (eqb-true t s e)

module _ (c : Column) where
  -- the column's own group
  abbrev own : Group
  own = group_of 0 c.kind

  -- each other group, moved away from it
  abbrev moved : Group → Group
  moved (Loose g) = Loose (g + 2)
  moved (On t) = cond (is_old t c.kind) (Loose 1) (On t)

  abbrev beside : Assignment → Assignment
  beside a o = cond (has c.orders o) own (moved (a o))

  beside_in : (a : Assignment) (o : ℕ) → has c.orders o ≡ true → beside a o ≡ own
  beside_in a o e = cond-true (has c.orders o) own (moved (a o)) e

  beside_out : (a : Assignment) (o : ℕ) → has c.orders o ≡ false → beside a o ≡ moved (a o)
  beside_out a o e = cond-false (has c.orders o) own (moved (a o)) e

  own_on : (t : ℕ) → is_old t c.kind ≡ true → own ≡ On t
  own_on t e = ap (group_of 0) (old_is t c.kind e)

  own_off : (t : ℕ) → own ≡ On t → is_old t c.kind ≡ true
  own_off t e = by_kind c.kind e
    where
      by_kind : (k : Kind) → group_of 0 k ≡ On t → is_old t k ≡ true
      by_kind (New u) q = cc
      by_kind (Old s) q = eq-eqb s t (on q)
        where
          on : On s ≡ On t → s ≡ t
          on z = cc

  moved_on : (t : ℕ) → is_old t c.kind ≡ false → moved (On t) ≡ On t
  moved_on t e = cond-false (is_old t c.kind) (Loose 1) (On t) e

  -- what is moved to a surplus slab was there, and it isn't the column's
  moved_from : (x : Group) (t : ℕ) → moved x ≡ On t → (x ≡ On t) × (is_old t c.kind ≡ false)
  moved_from (Loose g) t e = cc
  moved_from (On s) t e = by_test (is_old s c.kind) refl e
    where
      by_test : (b : Bool) → is_old s c.kind ≡ b → cond (is_old s c.kind) (Loose 1) (On s) ≡ On t → (On s ≡ On t) × (is_old t c.kind ≡ false)
      by_test true q z = absurd (off (sym (cond-true (is_old s c.kind) (Loose 1) (On s) q) ∙ z))
        where
          off : Loose 1 ≡ On t → ⊥
          off w = cc
      by_test false q z = let w : On s ≡ On t = sym (cond-false (is_old s c.kind) (Loose 1) (On s) q) ∙ z in (w, ap (λ r. is_old r c.kind) (sym (on w)) ∙ q)
        where
          on : On s ≡ On t → s ≡ t
          on v = cc

  moved_not_own : (x : Group) → moved x ≡ own → ⊥
  moved_not_own x e = by_kind c.kind refl
    where
      by_kind : (k : Kind) → c.kind ≡ k → ⊥
      by_kind (Old s) q = both_ways (is_old s c.kind) ((moved_from x s (e ∙ own_on s (ap (is_old s) q ∙ eq-eqb s s refl))).1) (ap (is_old s) q ∙ eq-eqb s s refl)
      by_kind (New u) q = by_group x (e ∙ own_new)
        where
          own_new : own ≡ Loose 0
          own_new = ap (group_of 0) q

          by_group : (y : Group) → moved y ≡ Loose 0 → ⊥
          by_group (Loose g) z = suc_not (loose z)
            where
              loose : Loose (g + 2) ≡ Loose 0 → g + 2 ≡ 0
              loose w = cc

              suc_not : g + 2 ≡ 0 → ⊥
              suc_not w = omega arith
          by_group (On t) z = off (sym (cond-false (is_old t c.kind) (Loose 1) (On t) (ap (is_old t) q)) ∙ z)
            where
              off : On t ≡ Loose 0 → ⊥
              off w = cc

  moved_loose : (g t : ℕ) → moved (Loose g) ≡ moved (On t) → ⊥
  moved_loose g t e = elim (cases_Bool (is_old t c.kind)) [
    | inl q ↦ less (loose (e ∙ cond-true (is_old t c.kind) (Loose 1) (On t) q))
    | inr q ↦ off (e ∙ cond-false (is_old t c.kind) (Loose 1) (On t) q)
  ]
    where
      loose : Loose (g + 2) ≡ Loose 1 → g + 2 ≡ 1
      loose w = cc

      less : g + 2 ≡ 1 → ⊥
      less w = omega arith

      off : Loose (g + 2) ≡ On t → ⊥
      off w = cc

  moved_same : (x y : Group) → moved x ≡ moved y → x ≡ y
  moved_same (Loose g) (Loose h) e = ap Loose (less (loose e))
    where
      loose : Loose (g + 2) ≡ Loose (h + 2) → g + 2 ≡ h + 2
      loose w = cc

      less : g + 2 ≡ h + 2 → g ≡ h
      less w = omega arith
  moved_same (Loose g) (On t) e = absurd (moved_loose g t e)
  moved_same (On s) (Loose h) e = absurd (moved_loose h s (sym e))
  moved_same (On s) (On t) e = elim (cases_Bool (is_old s c.kind)) [
    | inl q ↦ elim (cases_Bool (is_old t c.kind)) [
      | inl r ↦ old_same (sym (old_is s c.kind q) ∙ old_is t c.kind r)
      | inr r ↦ absurd (off (sym (cond-true (is_old s c.kind) (Loose 1) (On s) q) ∙ e ∙ moved_on t r))
    ]
    | inr q ↦ sym ((moved_from (On t) s (sym e ∙ moved_on s q)).0)
  ]
    where
      old_same : Old s ≡ Old t → On s ≡ On t
      old_same w = ap On (same w)
        where
          same : Old s ≡ Old t → s ≡ t
          same v = cc

      off : Loose 1 ≡ On t → ⊥
      off w = cc

  -- two orders are in one group beside the column where both are in it, or neither is and they were in one group
  cases_beside : (a : Assignment) (i : ℕ) → ((has c.orders i ≡ true) × (beside a i ≡ own)) ⊎ ((has c.orders i ≡ false) × (beside a i ≡ moved (a i)))
  cases_beside a i = elim (cases_Bool (has c.orders i)) [ inl e ↦ inl (e, beside_in a i e) | inr e ↦ inr (e, beside_out a i e) ]

  both_test : (s t : Bool) → cond s t (not t) ≡ true → s ≡ t
  both_test true true e = refl
  both_test true false e = sym e
  both_test false true e = e
  both_test false false e = refl

  -- where a column and an assignment agree with a decision, so does the assignment with the column as a group
  beside_answers : (a : Assignment) (ask : Ask) (b : Bool) → agrees c (ask, b) ≡ true → answer a ask ≡ b → answer (beside a) ask ≡ b
  beside_answers a (Pair i j) true h e = elim (cases_beside a i) [
    | inl p ↦ same_group_from (beside a i) (beside a j) (p.1 ∙ sym (beside_in a j (sym (both_test (has c.orders i) (has c.orders j) h) ∙ p.0)))
    | inr p ↦ same_group_from (beside a i) (beside a j) (p.1 ∙ ap moved (same_group-true (a i) (a j) e) ∙ sym (beside_out a j (sym (both_test (has c.orders i) (has c.orders j) h) ∙ p.0)))
  ]
  beside_answers a (Pair i j) false h e = false_from_ne_true (same_group (beside a i) (beside a j)) (λ t. never (same_group-true (beside a i) (beside a j) t))
    where
      never : beside a i ≡ beside a j → ⊥
      never q = elim (cases_beside a i) [
        | inl x ↦ elim (cases_beside a j) [
          | inl y ↦ both_ways (has c.orders i && has c.orders j) (not-true (has c.orders i && has c.orders j) h) (and_from (has c.orders i) (has c.orders j) x.0 y.0)
          | inr y ↦ moved_not_own (a j) (sym y.1 ∙ sym q ∙ x.1)
        ]
        | inr x ↦ elim (cases_beside a j) [
          | inl y ↦ moved_not_own (a i) (sym x.1 ∙ q ∙ y.1)
          | inr y ↦ both_ways (same_group (a i) (a j)) e (same_group_from (a i) (a j) (moved_same (a i) (a j) (sym x.1 ∙ q ∙ y.1)))
        ]
      ]
  beside_answers a (Put o t) true h e = elim (cases_beside a o) [
    | inl x ↦ same_group_from (beside a o) (On t) (x.1 ∙ own_on t (sym (both_test (has c.orders o) (is_old t c.kind) h) ∙ x.0))
    | inr x ↦ same_group_from (beside a o) (On t) (x.1 ∙ ap moved (same_group-true (a o) (On t) e) ∙ moved_on t (sym (both_test (has c.orders o) (is_old t c.kind) h) ∙ x.0))
  ]
  beside_answers a (Put o t) false h e = false_from_ne_true (same_group (beside a o) (On t)) (λ r. never (same_group-true (beside a o) (On t) r))
    where
      never : beside a o ≡ On t → ⊥
      never q = elim (cases_beside a o) [
        | inl x ↦ both_ways (has c.orders o && is_old t c.kind) (not-true (has c.orders o && is_old t c.kind) h) (and_from (has c.orders o) (is_old t c.kind) x.0 (own_off t (sym x.1 ∙ q)))
        | inr x ↦ both_ways (same_group (a o) (On t)) e (same_group_from (a o) (On t) ((moved_from (a o) t (sym x.1 ∙ q)).0))
      ]

  beside_agrees : (decisions : List Decision) (a : Assignment) → column_agrees decisions c ≡ true → Agrees decisions a → Agrees decisions (beside a)
  beside_agrees [] a h k = tt
  beside_agrees (d ∷ decisions) a h k =
      let parts : (agrees c d ≡ true) × (column_agrees decisions c ≡ true) = and_parts (agrees c d) (column_agrees decisions c) h in
      (beside_answers a d.0 d.1 parts.0 k.0, beside_agrees decisions a parts.1 k.1)

  -- the assignment beside the column answers a question so only where the column agrees with the answer
  agrees_beside : (a : Assignment) (ask : Ask) (b : Bool) → answer (beside a) ask ≡ b → agrees c (ask, b) ≡ true
  agrees_beside a (Pair i j) true e = both (has c.orders i) (has c.orders j) refl refl
    where
      same : beside a i ≡ beside a j
      same = same_group-true (beside a i) (beside a j) e

      both : (s t : Bool) → has c.orders i ≡ s → has c.orders j ≡ t → cond s t (not t) ≡ true
      both true true x y = refl
      both true false x y = absurd (moved_not_own (a j) (sym (beside_out a j y) ∙ sym same ∙ beside_in a i x))
      both false true x y = absurd (moved_not_own (a i) (sym (beside_out a i x) ∙ same ∙ beside_in a j y))
      both false false x y = refl
  agrees_beside a (Pair i j) false e = both (has c.orders i) (has c.orders j) refl refl
    where
      both : (s t : Bool) → has c.orders i ≡ s → has c.orders j ≡ t → not (s && t) ≡ true
      both true true x y = absurd (both_ways (same_group (beside a i) (beside a j)) e (same_group_from (beside a i) (beside a j) (beside_in a i x ∙ sym (beside_in a j y))))
      both true false x y = refl
      both false t x y = refl
  agrees_beside a (Put o t) true e = both (has c.orders o) (is_old t c.kind) refl refl
    where
      on : beside a o ≡ On t
      on = same_group-true (beside a o) (On t) e

      both : (s r : Bool) → has c.orders o ≡ s → is_old t c.kind ≡ r → cond s r (not r) ≡ true
      both true true x y = refl
      both true false x y = absurd (both_ways (is_old t c.kind) y (own_off t (sym (beside_in a o x) ∙ on)))
      both false true x y = absurd (both_ways (is_old t c.kind) ((moved_from (a o) t (sym (beside_out a o x) ∙ on)).1) y)
      both false false x y = refl
  agrees_beside a (Put o t) false e = both (has c.orders o) (is_old t c.kind) refl refl
    where
      both : (s r : Bool) → has c.orders o ≡ s → is_old t c.kind ≡ r → not (s && r) ≡ true
      both true true x y = absurd (both_ways (same_group (beside a o) (On t)) e (same_group_from (beside a o) (On t) (beside_in a o x ∙ own_on t y)))
      both true false x y = refl
      both false r x y = refl

-- a column that agrees with decisions agrees with what follows from them
pub column_follows : (c : Column) (decisions : List Decision) (a : Assignment) (ask : Ask) (b : Bool) → Agrees decisions a → column_agrees decisions c ≡ true → Follows decisions ask b → agrees c (ask, b) ≡ true
column_follows c decisions a ask b h k follows = agrees_beside c a ask b (follows (beside c a) (beside_agrees c decisions a k h))

-- ---- settled decisions

yes_first : (s t : Bool) → s ≡ true → cond s t (not t) ≡ true → t ≡ true
yes_first true t e h = h
yes_first false t e h = cc

yes_second : (s t : Bool) → t ≡ true → cond s t (not t) ≡ true → s ≡ true
yes_second true t e h = refl
yes_second false true e h = cc
yes_second false false e h = cc

no_first : (s t : Bool) → s ≡ true → not (s && t) ≡ true → t ≡ false
no_first true true e h = cc
no_first true false e h = refl
no_first false t e h = cc

no_second : (s t : Bool) → t ≡ true → not (s && t) ≡ true → s ≡ false
no_second true true e h = cc
no_second true false e h = cc
no_second false t e h = refl

module _ (m : Mill) (decisions : List Decision) (a : Assignment) (c : Column) (agree : Agrees decisions a) (settled : AreSettled m decisions) (column : column_agrees decisions c ≡ true) where
  answered : (ask : Ask) → IsAsk m ask → agrees c (ask, answer a ask) ≡ true
  answered ask h = ap (λ b. agrees c (ask, b)) ((settled ask h).1 a agree) ∙ column_follows c decisions a ask (settled ask h).0 agree column (settled ask h).1

  pair_after : (i j : ℕ) → i < j → j < length m.orders → has c.orders i ≡ true → has c.orders j ≡ answer a (Pair i j)
  pair_after i j h l e = by_answer (answer a (Pair i j)) (answered (Pair i j) (h, l))
    where
      by_answer : (b : Bool) → agrees c (Pair i j, b) ≡ true → has c.orders j ≡ b
      by_answer true k = yes_first (has c.orders i) (has c.orders j) e k
      by_answer false k = no_first (has c.orders i) (has c.orders j) e k

  pair_before : (i j : ℕ) → i < j → j < length m.orders → has c.orders j ≡ true → has c.orders i ≡ answer a (Pair i j)
  pair_before i j h l e = by_answer (answer a (Pair i j)) (answered (Pair i j) (h, l))
    where
      by_answer : (b : Bool) → agrees c (Pair i j, b) ≡ true → has c.orders i ≡ b
      by_answer true k = yes_second (has c.orders i) (has c.orders j) e k
      by_answer false k = no_second (has c.orders i) (has c.orders j) e k

  -- where all is settled, a column that has an order has its group, and no more
  pub settled_orders : (o j : ℕ) → o < length m.orders → j < length m.orders → has c.orders o ≡ true → has c.orders j ≡ same_group (a j) (a o)
  settled_orders o j h l e = elim (cases_order o j) [
    | inl q ↦ ap (has c.orders) (sym q) ∙ e ∙ sym (same_group_from (a j) (a o) (ap a (sym q)))
    | inr q ↦ elim q [
      | inl r ↦ pair_after o j r l e ∙ swapped (a o) (a j)
      | inr r ↦ pair_before j o r h e
    ]
  ]
    where
      swapped : (x y : Group) → same_group x y ≡ same_group y x
      swapped x y = same_bool (same_group x y) (same_group y x) (λ z. same_group_from y x (sym (same_group-true x y z))) (λ z. same_group_from x y (sym (same_group-true y x z)))

  -- and it lies on the surplus slab of its group, or is new where the group has none
  pub settled_kind : (o s : ℕ) → o < length m.orders → s < length m.yard → has c.orders o ≡ true → is_old s c.kind ≡ same_group (a o) (On s)
  settled_kind o s h l e = by_answer (answer a (Put o s)) (answered (Put o s) (h, l))
    where
      by_answer : (b : Bool) → agrees c (Put o s, b) ≡ true → is_old s c.kind ≡ b
      by_answer true k = yes_first (has c.orders o) (is_old s c.kind) e k
      by_answer false k = no_first (has c.orders o) (is_old s c.kind) e k
