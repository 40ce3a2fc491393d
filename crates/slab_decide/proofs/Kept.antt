-- What follows from decisions is what the relations say.
use Rattle.std.proofs.Common.{◌≡◌, ◌≢◌, ℕ, ◌+◌, ◌<◌, ◌≤◌, Bool, true, false, not, List, [], ◌∷◌, ◌++◌, Contains, ◌-◌, reverse, length, get_or, refl, sym, ap, ap₂, ◌∙◌, subst, inl, inr, arith, zero, suc}
use Rattle.std.specs.List.{AllByRecursion}
use Rattle.std.proofs.lemmas.List.{reverse-append, reverse-reverse, length-reverse, get_or-reverse}
use Rattle.std.proofs.lemmas.Bool.{false_from_ne_true, both_ways}
use Rattle.mill_model.specs.declared.ask.Ask.{Ask}
use Rattle.mill_model.specs.Decisions.{Decision, agrees}
use Rattle.mill_model.specs.Assignments.{Group, same_group, Follows}
use Rattle.mill_model.specs.Assignments.Group.{On}
use Rattle.mill_model.proofs.SameGroups.{same_group-true, same_group_from}
use Rattle.mill_model.proofs.Gap.{Contains-here, Contains-later, Contains-cases}
use Rattle.slab_closure.specs.declared.relation.Relation.{Relation}
use Rattle.slab_closure.specs.declared.relation.Relation.TheVariants.{Open, Same, Apart}
use Rattle.slab_closure.specs.Relations.{Table, Relations, IsClosed, IsRelations, relation_at, AreDecided, AreUndecided, decided_table}
use Rattle.slab_closure.specs.Labels.{Holds, Decides}
use Rattle.slab_closure.proofs.Closed.{decided_closed, decided_keeps_same, decided_keeps_apart, joined_itself, parted_itself}
use Rattle.slab_closure.proofs.Labels.{decided_holds, start_holds}
use Rattle.mill_model.specs.Trees.{AreAskedOnce, IsFresh}
use Rattle.slab_decide.specs.Decided.{Decisions, IsAskOf, AreDecisions, AreConsistent, IsOpen}
use Rattle.slab_decide.specs.Nodes.{first_node, second_node, relation_of}
use Rattle.slab_decide.specs.Kept.{group_at, IsRecorded, IsKept}
use Rattle.slab_decide.proofs.Bridge.{answer_by_nodes, first_in, second_in, group_at_slab, assigned, assigned_answers, assigned_agrees}

fresh_from : (ask : Ask) (list : List Decision) → AllByRecursion (λ (e : Decision). ask ≡ e.0 → ⊥) list → IsFresh ask list
fresh_from ask [] all found = omega (arith, found.1)
fresh_from ask (d ∷ list) all (zero, lt, e) = all.0 (sym e)
fresh_from ask (d ∷ list) all (suc k, lt, e) = fresh_from ask list all.1 (k, omega (arith, lt), e)

module _ (v : Decisions) (r : Relations) (kept : IsKept v r) where
  closed : IsClosed r.count v.yard (relation_at r)
  closed = subst (λ s. IsClosed r.count s (relation_at r)) kept.slabs kept.relations.closed

  low : (ask : Ask) → IsAskOf v ask → first_node v.yard ask < r.count
  low ask h = subst (λ n. first_node v.yard ask < n) (sym kept.count) (first_in v ask h)

  high : (ask : Ask) → IsAskOf v ask → second_node v.yard ask < r.count
  high ask h = subst (λ n. second_node v.yard ask < n) (sym kept.count) (second_in v ask h)

  pub kept_consistent : AreConsistent v.list
  kept_consistent = (assigned r.count v.yard (relation_at r), assigned_agrees v r.count (relation_at r) kept.count closed v.list kept.decisions.asks kept.recorded)

  -- what the relations say follows
  pub kept_follows : (ask : Ask) → IsAskOf v ask → (b : Bool) → relation_at r (first_node v.yard ask) (second_node v.yard ask) ≡ relation_of b → Follows v.list ask b
  kept_follows ask h true e a agrees = answer_by_nodes v a ask h ∙ same_group_from _ _ ((kept.sound a agrees (first_node v.yard ask) (second_node v.yard ask) (low ask h) (high ask h)).same e)
  kept_follows ask h false e a agrees = answer_by_nodes v a ask h ∙ false_from_ne_true _ (λ t. (kept.sound a agrees (first_node v.yard ask) (second_node v.yard ask) (low ask h) (high ask h)).apart e (same_group-true _ _ t))

  -- a decision against what the relations say clashes
  pub kept_clash : (ask : Ask) → IsAskOf v ask → (b c : Bool) → relation_at r (first_node v.yard ask) (second_node v.yard ask) ≡ relation_of b → b ≢ c → AreConsistent ((ask, c) ∷ v.list) → ⊥
  kept_clash ask h b c e ne some = ne (sym (kept_follows ask h b e some.0 some.1.1) ∙ some.1.0)

  -- and one that they say stands beside the others
  pub kept_agrees : (ask : Ask) → IsAskOf v ask → (b : Bool) → relation_at r (first_node v.yard ask) (second_node v.yard ask) ≡ relation_of b → AreConsistent ((ask, b) ∷ v.list)
  kept_agrees ask h b e = (
    assigned r.count v.yard (relation_at r),
    (
      assigned_answers v r.count (relation_at r) kept.count closed ask h b e,
      assigned_agrees v r.count (relation_at r) kept.count closed v.list kept.decisions.asks kept.recorded,
    ),
  )

  -- a decision on an open pair leaves each decision recorded
  still_recorded : (b : Bool) (x y : ℕ) → x < r.count → y < r.count → relation_at r x y ≡ Open → (list : List Decision) → AllByRecursion (λ (d : Decision). IsAskOf v d.0) list → AllByRecursion (IsRecorded v.yard (relation_at r)) list → AllByRecursion (IsRecorded v.yard (decided_table b (relation_at r) x y)) list
  still_recorded b x y i j e [] asks recorded = tt
  still_recorded b x y i j e (d ∷ list) asks recorded = (by_answer d.1 recorded.0, still_recorded b x y i j e list asks.1 recorded.1)
    where
      by_answer : (c : Bool) → relation_at r (first_node v.yard d.0) (second_node v.yard d.0) ≡ relation_of c → decided_table b (relation_at r) x y (first_node v.yard d.0) (second_node v.yard d.0) ≡ relation_of c
      by_answer true same = decided_keeps_same b r.count v.yard x y (relation_at r) closed i j e (first_node v.yard d.0) (second_node v.yard d.0) (low d.0 asks.0) (high d.0 asks.0) same
      by_answer false apart = decided_keeps_apart b r.count v.yard x y (relation_at r) closed i j e (first_node v.yard d.0) (second_node v.yard d.0) (low d.0 asks.0) (high d.0 asks.0) apart

  now_recorded : (b : Bool) (x y : ℕ) → x < r.count → y < r.count → decided_table b (relation_at r) x y x y ≡ relation_of b
  now_recorded true x y i j = joined_itself r.count v.yard x y (relation_at r) closed i j
  now_recorded false x y i j = parted_itself r.count v.yard x y (relation_at r) closed i j

  -- either answer to an open ask stands beside the decisions
  pub may_be : (b : Bool) (ask : Ask) → IsAskOf v ask → relation_at r (first_node v.yard ask) (second_node v.yard ask) ≡ Open → AreConsistent ((ask, b) ∷ v.list)
  may_be b ask h e =
      let x : ℕ = first_node v.yard ask in
      let y : ℕ = second_node v.yard ask in
      let at : Table = decided_table b (relation_at r) x y in
      let at_closed : IsClosed r.count v.yard at = decided_closed b r.count v.yard x y (relation_at r) (low ask h) (high ask h) (omega (arith, kept.count)) e closed in (
        assigned r.count v.yard at,
        (
          assigned_answers v r.count at kept.count at_closed ask h b (now_recorded b x y (low ask h) (high ask h)),
          assigned_agrees v r.count at kept.count at_closed v.list kept.decisions.asks (still_recorded b x y (low ask h) (high ask h) e v.list kept.decisions.asks kept.recorded),
        ),
      )

  pub kept_open : (ask : Ask) → IsAskOf v ask → relation_at r (first_node v.yard ask) (second_node v.yard ask) ≡ Open → IsOpen v.list ask
  kept_open ask h e = record { may_be_yes = may_be true ask h e; may_be_no = may_be false ask h e }

  -- no ask of the list is this one, where the relations don't say its answer
  not_asked_by : (ask : Ask) (list : List Decision) → AllByRecursion (IsRecorded v.yard (relation_at r)) list → ((b : Bool) → Contains list (ask, b) → relation_at r (first_node v.yard ask) (second_node v.yard ask) ≡ relation_of b → ⊥) → AllByRecursion (λ (e : Decision). ask ≡ e.0 → ⊥) list
  not_asked_by ask [] recorded none = tt
  not_asked_by ask (d ∷ list) recorded none = (
    (λ q. none d.1 (subst (λ (x : Ask). Contains (d ∷ list) (x, d.1)) (sym q) (Contains-here d list)) (subst (λ (x : Ask). relation_at r (first_node v.yard x) (second_node v.yard x) ≡ relation_of d.1) (sym q) recorded.0)),
    not_asked_by ask list recorded.1 (λ b c. none b (Contains-later d list (ask, b) c)),
  )

  recorded_there : (list : List Decision) → AllByRecursion (IsRecorded v.yard (relation_at r)) list → (d : Decision) → Contains list d → IsRecorded v.yard (relation_at r) d
  recorded_there [] recorded d c = absurd (omega (arith, c.1))
  recorded_there (x ∷ list) recorded d c = elim (Contains-cases x list d c) [ inl e ↦ subst (IsRecorded v.yard (relation_at r)) e recorded.0 | inr q ↦ recorded_there list recorded.1 d q ]

  -- a decision that stands isn't open
  pub not_standing : (ask : Ask) (b : Bool) → relation_at r (first_node v.yard ask) (second_node v.yard ask) ≡ Open → Contains v.list (ask, b) → ⊥
  not_standing ask b e c = unsaid b (sym e ∙ recorded_there v.list kept.recorded (ask, b) c)
    where
      unsaid : (b : Bool) → Open ≡ relation_of b → ⊥
      unsaid true q = cc
      unsaid false q = cc

  -- the list with one more ask, that wasn't asked
  more_decisions : (ask : Ask) (b : Bool) → IsAskOf v ask → AllByRecursion (λ (e : Decision). ask ≡ e.0 → ⊥) v.list → AreDecisions (record v { list = (ask, b) ∷ v.list })
  more_decisions ask b h new = record { orders = kept.decisions.orders; yard = kept.decisions.yard; asks = (h, kept.decisions.asks); once = (fresh_from ask v.list new, kept.decisions.once) }

  -- a decision that the relations say already
  pub kept_said : (ask : Ask) (b : Bool) → IsAskOf v ask → relation_at r (first_node v.yard ask) (second_node v.yard ask) ≡ relation_of b → (Contains v.list (ask, b) → ⊥) → IsKept (record v { list = (ask, b) ∷ v.list }) r
  kept_said ask b h e new = record {
    decisions = more_decisions ask b h (not_asked_by ask v.list kept.recorded (λ c there said. new (subst (λ d. Contains v.list (ask, d)) (one_answer c b (sym said ∙ e)) there)));
    relations = kept.relations;
    slabs = kept.slabs;
    count = kept.count;
    recorded = (e, kept.recorded);
    sound = λ a agrees. kept.sound a agrees.1;
  }
    where
      one_answer : (c b : Bool) → relation_of c ≡ relation_of b → c ≡ b
      one_answer true true e = refl
      one_answer true false e = cc
      one_answer false true e = cc
      one_answer false false e = refl

  decides_by_answer : (b : Bool) (x y : Group) → same_group x y ≡ b → Decides b x y
  decides_by_answer true x y e = same_group-true x y e
  decides_by_answer false x y e = λ q. both_ways (same_group x y) e (same_group_from x y q)

  -- a decision on an open ask
  pub kept_decided : (new : Relations) (ask : Ask) (b : Bool) → IsAskOf v ask → relation_at r (first_node v.yard ask) (second_node v.yard ask) ≡ Open → AreDecided r new (first_node v.yard ask) (second_node v.yard ask) b → IsRelations new → IsKept (record v { list = (ask, b) ∷ v.list }) new
  kept_decided new ask b h e d is = record {
    decisions = more_decisions ask b h (not_asked_by ask v.list kept.recorded (λ c there said. open_unsaid c (sym e ∙ said)));
    relations = is;
    slabs = d.slabs ∙ kept.slabs;
    count = d.count ∙ kept.count;
    recorded = (
      d.at (first_node v.yard ask) (second_node v.yard ask) (low ask h) (high ask h) ∙ now_recorded b (first_node v.yard ask) (second_node v.yard ask) (low ask h) (high ask h),
      recorded_as v.list kept.decisions.asks (still_recorded b (first_node v.yard ask) (second_node v.yard ask) (low ask h) (high ask h) e v.list kept.decisions.asks kept.recorded),
    );
    sound = λ a agrees x y i j.
        let old_i : x < r.count = subst (λ n. x < n) d.count i in
        let old_j : y < r.count = subst (λ n. y < n) d.count j in
        subst (λ (t : Relation). Holds (group_at v.yard a x) (group_at v.yard a y) t) (sym (d.at x y old_i old_j))
        (decided_holds b r.count v.yard (first_node v.yard ask) (second_node v.yard ask) (relation_at r) (group_at v.yard a) closed (low ask h) (high ask h) (kept.sound a agrees.1)
        (decides_by_answer b (group_at v.yard a (first_node v.yard ask)) (group_at v.yard a (second_node v.yard ask)) (sym (answer_by_nodes v a ask h) ∙ agrees.0)) x y old_i old_j);
  }
    where
      open_unsaid : (c : Bool) → Open ≡ relation_of c → ⊥
      open_unsaid true q = cc
      open_unsaid false q = cc

      recorded_as : (list : List Decision) → AllByRecursion (λ (d : Decision). IsAskOf v d.0) list → AllByRecursion (IsRecorded v.yard (decided_table b (relation_at r) (first_node v.yard ask) (second_node v.yard ask))) list → AllByRecursion (IsRecorded v.yard (relation_at new)) list
      recorded_as [] asks recorded = tt
      recorded_as (o ∷ list) asks recorded = (d.at (first_node v.yard o.0) (second_node v.yard o.0) (low o.0 asks.0) (high o.0 asks.0) ∙ recorded.0, recorded_as list asks.1 recorded.1)

-- before any decision
pub kept_none : (v : Decisions) (r : Relations) → v.orders ≤ 250 → v.yard ≤ 40 → v.list ≡ [] → r.slabs ≡ v.yard → r.count ≡ v.yard + v.orders → AreUndecided r → IsRelations r → IsKept v r
kept_none v r orders yard none slabs count start is = record {
  decisions = record { orders = orders; yard = yard; asks = subst (λ (l : List Decision). AllByRecursion (λ (d : Decision). IsAskOf v d.0) l) (sym none) tt; once = subst AreAskedOnce (sym none) tt };
  relations = is;
  slabs = slabs;
  count = count;
  recorded = subst (λ (l : List Decision). AllByRecursion (IsRecorded v.yard (relation_at r)) l) (sym none) tt;
  sound = λ a agrees. start_holds r.count r.slabs (relation_at r) (group_at v.yard a) start (λ s t i j e. on_same s t (sym (group_at_slab v.yard a s (subst (λ n. s < n) slabs i)) ∙ e ∙ group_at_slab v.yard a t (subst (λ n. t < n) slabs j)));
}
  where
    on_same : (s t : ℕ) → On s ≡ On t → s ≡ t
    on_same s t e = cc

-- what a read of the relations of an ask's nodes says
pub said : (r : Relations) (yard other : ℕ) (ask : Ask) (x y : ℕ) (t : Relation) → yard ≡ other → x ≡ first_node yard ask → y ≡ second_node yard ask → t ≡ relation_at r x y → relation_at r (first_node other ask) (second_node other ask) ≡ t
said r yard other ask x y t e f g h = sym (h ∙ ap₂ (relation_at r) (f ∙ ap (λ z. first_node z ask) e) (g ∙ ap (λ z. second_node z ask) e))

Contains-reverse : (xs : List Decision) (d : Decision) → Contains xs d → Contains (reverse xs) d
Contains-reverse xs d (k, h, e) = (
  length xs - 1 - k,
  omega (arith, h, length-reverse xs),
  get_or-reverse xs (length xs - 1 - k) d (omega (arith, h)) ∙ ap (λ (i : ℕ). get_or xs i d) (omega (arith, h)) ∙ e,
)

-- a decision stands in the list as it is kept, exactly where it does in the list as it is seen
pub stands_seen : (items : List Decision) (d : Decision) → Contains items d → Contains (reverse items) d
stands_seen items d c = Contains-reverse items d c

pub stands_kept : (items : List Decision) (d : Decision) → Contains (reverse items) d → Contains items d
stands_kept items d c = subst (λ (xs : List Decision). Contains xs d) (reverse-reverse items) (Contains-reverse (reverse items) d c)

pub reverse-more : (items new : List Decision) (d : Decision) → new ≡ items ++ d ∷ [] → d ∷ reverse items ≡ reverse new
reverse-more items new d e = sym (ap reverse e ∙ reverse-append items (d ∷ []))

-- the other answer
pub against : (t : Relation) (b : Bool) → (t ≡ Open → ⊥) → (t ≡ relation_of b → ⊥) → t ≡ relation_of (not b)
against Open b h g = absurd (h refl)
against Same true h g = absurd (g refl)
against Same false h g = refl
against Apart true h g = refl
against Apart false h g = absurd (g refl)

pub other_answer : (b : Bool) → not b ≡ b → ⊥
other_answer true e = cc
other_answer false e = cc

pub decided_nodes : (r new : Relations) (x y z w : ℕ) (b : Bool) → x ≡ z → y ≡ w → AreDecided r new x y b → AreDecided r new z w b
decided_nodes r new x y z w b e f d = subst (λ i. AreDecided r new i w b) e (subst (λ j. AreDecided r new x j b) f d)
