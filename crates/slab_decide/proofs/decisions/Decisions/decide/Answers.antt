use Rattle.std.proofs.Common.{◌≡◌, ℕ, List, ◌∷◌, reverse, not, refl, ap, sym, subst, ◌∙◌, inl, inr, rules, arith}
use Rattle.std.specs.Prelude.{Contains}
use Rattle.std.proofs.lemmas.Bool.{false≢true}
use Rattle.slab_closure.specs.declared.relation.Relation.TheVariants.{Open}
use Rattle.slab_closure.specs.Relations.{Relations, relation_at, AreDecided}
use Rattle.mill_model.specs.Decisions.{Decision}
use Rattle.slab_decide.specs.Decided.{Decisions, IsAskOf, AreConsistent, HasDecided}
use Rattle.slab_decide.specs.Nodes.{first_node, second_node, relation_of}
use Rattle.slab_decide.specs.Kept.{IsKept}
use Rattle.slab_decide.proofs.Kept.{kept_decided, kept_said, kept_agrees, kept_clash, may_be, not_standing, said, stands_seen, stands_kept, reverse-more, against, other_answer, decided_nodes}
use Rattle.slab_decide.proofs.Room.{room_for}
use Rattle.slab_decide.proofs.decisions.Decisions.decide.Goals as goal

-- the decisions before the call, as the fields have them
abbrev before : ℕ → ℕ → List Decision → Decisions
before orders yard items = record { orders = orders; yard = yard; list = reverse items }

pub invariant_of-self : goal.invariant_of-self
invariant_of-self c =
    let v : Decisions = before c.self.inside.orders c.self.inside.yard c.self.inside.list.items in
    let r : Relations = c.self.inside.relations in
    let h : IsAskOf v c.args.ask = subst (λ (w : Decisions). IsAskOf w c.args.ask) (sym c.self.view_is) c.requires in
    let e : c.at-relation.result ≡ Open = search rules in
    let open_there : relation_at r (first_node v.yard c.args.ask) (second_node v.yard c.args.ask) ≡ Open = said r v.yard v.yard c.args.ask _ _ _ refl c.nodes-first.ensures.first c.nodes-first.ensures.second (sym e ∙ c.at-relation.ensures.value) in
    let done : AreDecided r c.decide.new.self (first_node v.yard c.args.ask) (second_node v.yard c.args.ask) c.args.yes = decided_nodes r c.decide.new.self _ _ _ _ c.args.yes c.nodes-first.ensures.first c.nodes-first.ensures.second c.decide.ensures.decided in (
      subst (λ (l : List Decision). IsKept (record { orders = c.self.inside.orders; yard = c.self.inside.yard; list = l }) c.decide.new.self) (reverse-more c.self.inside.list.items c.add.new.list.items (c.args.ask, c.args.yes) c.add.ensures.items)
          (kept_decided v r c.self.invariant.0 c.decide.new.self c.args.ask c.args.yes h open_there done c.decide.ensures.relations),
      omega (arith, c.self.invariant.1, c.add.ensures.capacity),
    )

pub add-requires : goal.add-requires
add-requires c =
    let v : Decisions = before c.self.inside.orders c.self.inside.yard c.self.inside.list.items in
    let r : Relations = c.self.inside.relations in
    let h : IsAskOf v c.args.ask = subst (λ (w : Decisions). IsAskOf w c.args.ask) (sym c.self.view_is) c.requires in
    let e : c.at-relation.result ≡ Open = search rules in
    let open_there : relation_at r (first_node v.yard c.args.ask) (second_node v.yard c.args.ask) ≡ Open = said r v.yard v.yard c.args.ask _ _ _ refl c.nodes-first.ensures.first c.nodes-first.ensures.second (sym e ∙ c.at-relation.ensures.value) in
    let done : AreDecided r c.decide.new.self (first_node v.yard c.args.ask) (second_node v.yard c.args.ask) c.args.yes = decided_nodes r c.decide.new.self _ _ _ _ c.args.yes c.nodes-first.ensures.first c.nodes-first.ensures.second c.decide.ensures.decided in
    let kept = kept_decided v r c.self.invariant.0 c.decide.new.self c.args.ask c.args.yes h open_there done c.decide.ensures.relations in
    omega (arith, c.self.inside.list.ok.0, room_for v (c.args.ask, c.args.yes) c.self.inside.list.items _ kept.decisions refl c.self.invariant.1)

pub returns-then-eq-clause-decided : goal.returns-then-eq-clause-decided
returns-then-eq-clause-decided c =
    let v : Decisions = before c.self.inside.orders c.self.inside.yard c.self.inside.list.items in
    let r : Relations = c.self.inside.relations in
    let e : c.at-relation.result ≡ Open = search rules in
    let open_there : relation_at r (first_node v.yard c.args.ask) (second_node v.yard c.args.ask) ≡ Open = said r v.yard v.yard c.args.ask _ _ _ refl c.nodes-first.ensures.first c.nodes-first.ensures.second (sym e ∙ c.at-relation.ensures.value) in
    subst (λ (w : Decisions). HasDecided w (record { orders = c.self.inside.orders; yard = c.self.inside.yard; list = reverse c.add.new.list.items }) (c.args.ask, c.args.yes)) c.self.view_is
    (inr (not_standing v r c.self.invariant.0 c.args.ask c.args.yes open_there, ap (λ (l : List Decision). before_list c.self.inside.orders c.self.inside.yard l) (sym (reverse-more c.self.inside.list.items c.add.new.list.items (c.args.ask, c.args.yes) c.add.ensures.items))))
  where
    before_list : ℕ → ℕ → List Decision → Decisions
    before_list orders yard list = record { orders = orders; yard = yard; list = list }

pub returns-then-eq-clause-consistent : goal.returns-then-eq-clause-consistent
returns-then-eq-clause-consistent c =
    let v : Decisions = before c.self.inside.orders c.self.inside.yard c.self.inside.list.items in
    let r : Relations = c.self.inside.relations in
    let h : IsAskOf v c.args.ask = subst (λ (w : Decisions). IsAskOf w c.args.ask) (sym c.self.view_is) c.requires in
    let e : c.at-relation.result ≡ Open = search rules in
    let open_there : relation_at r (first_node v.yard c.args.ask) (second_node v.yard c.args.ask) ≡ Open = said r v.yard v.yard c.args.ask _ _ _ refl c.nodes-first.ensures.first c.nodes-first.ensures.second (sym e ∙ c.at-relation.ensures.value) in
    subst (λ (w : Decisions). AreConsistent ((c.args.ask, c.args.yes) ∷ w.list)) c.self.view_is (may_be v r c.self.invariant.0 c.args.yes c.args.ask h open_there)

pub returns-then-ne-clause-clash : goal.returns-then-ne-clause-clash
returns-then-ne-clause-clash c =
    let v : Decisions = before c.self.inside.orders c.self.inside.yard c.self.inside.list.items in
    let r : Relations = c.self.inside.relations in
    let h : IsAskOf v c.args.ask = subst (λ (w : Decisions). IsAskOf w c.args.ask) (sym c.self.view_is) c.requires in
    let closed : c.at-relation.result ≡ Open → ⊥ = search rules in
    let other : c.at-relation.result ≡ c.relation_of.result → ⊥ = search rules in
    let e : c.at-relation.result ≡ relation_of (not c.args.yes) = against c.at-relation.result c.args.yes closed (λ q. other (q ∙ sym c.relation_of.ensures)) in
    let there : relation_at r (first_node v.yard c.args.ask) (second_node v.yard c.args.ask) ≡ relation_of (not c.args.yes) = said r v.yard v.yard c.args.ask _ _ _ refl c.nodes-first.ensures.first c.nodes-first.ensures.second (sym e ∙ c.at-relation.ensures.value) in
    subst (λ (w : Decisions). AreConsistent ((c.args.ask, c.args.yes) ∷ w.list) → ⊥) c.self.view_is (kept_clash v r c.self.invariant.0 c.args.ask h (not c.args.yes) c.args.yes there (other_answer c.args.yes))

pub returns-then-stands-clause-decided : goal.returns-then-stands-clause-decided
returns-then-stands-clause-decided c =
    let there : Contains c.self.inside.list.items (c.args.ask, c.args.yes) = subst (λ (xs : List Decision). Contains xs (c.args.ask, c.args.yes)) c.deref.ensures.value (c.stands.ensures.0 c.if-stands.true) in
    inl (subst (λ (w : Decisions). Contains w.list (c.args.ask, c.args.yes)) c.self.view_is (stands_seen c.self.inside.list.items (c.args.ask, c.args.yes) there), refl)

pub returns-then-stands-clause-consistent : goal.returns-then-stands-clause-consistent
returns-then-stands-clause-consistent c =
    let v : Decisions = before c.self.inside.orders c.self.inside.yard c.self.inside.list.items in
    let r : Relations = c.self.inside.relations in
    let h : IsAskOf v c.args.ask = subst (λ (w : Decisions). IsAskOf w c.args.ask) (sym c.self.view_is) c.requires in
    let e : c.at-relation.result ≡ c.relation_of.result = search rules in
    let there : relation_at r (first_node v.yard c.args.ask) (second_node v.yard c.args.ask) ≡ relation_of c.args.yes = said r v.yard v.yard c.args.ask _ _ _ refl c.nodes-first.ensures.first c.nodes-first.ensures.second (sym (e ∙ c.relation_of.ensures) ∙ c.at-relation.ensures.value) in
    subst (λ (w : Decisions). AreConsistent ((c.args.ask, c.args.yes) ∷ w.list)) c.self.view_is (kept_agrees v r c.self.invariant.0 c.args.ask h c.args.yes there)

pub add-requires-2 : goal.add-requires-2
add-requires-2 c =
    let v : Decisions = before c.self.inside.orders c.self.inside.yard c.self.inside.list.items in
    let r : Relations = c.self.inside.relations in
    let h : IsAskOf v c.args.ask = subst (λ (w : Decisions). IsAskOf w c.args.ask) (sym c.self.view_is) c.requires in
    let e : c.at-relation.result ≡ c.relation_of.result = search rules in
    let there : relation_at r (first_node v.yard c.args.ask) (second_node v.yard c.args.ask) ≡ relation_of c.args.yes = said r v.yard v.yard c.args.ask _ _ _ refl c.nodes-first.ensures.first c.nodes-first.ensures.second (sym (e ∙ c.relation_of.ensures) ∙ c.at-relation.ensures.value) in
    let none : Contains v.list (c.args.ask, c.args.yes) → ⊥ = λ q. false≢true (sym c.if-stands.false ∙ (c.stands.ensures.1 (subst (λ (xs : List Decision). Contains xs (c.args.ask, c.args.yes)) (sym c.deref.ensures.value) (stands_kept c.self.inside.list.items (c.args.ask, c.args.yes) q)))) in
    let kept = kept_said v r c.self.invariant.0 c.args.ask c.args.yes h there none in
    omega (arith, c.self.inside.list.ok.0, room_for v (c.args.ask, c.args.yes) c.self.inside.list.items _ kept.decisions refl c.self.invariant.1)

pub invariant_of-self-2 : goal.invariant_of-self-2
invariant_of-self-2 c =
    let v : Decisions = before c.self.inside.orders c.self.inside.yard c.self.inside.list.items in
    let r : Relations = c.self.inside.relations in
    let h : IsAskOf v c.args.ask = subst (λ (w : Decisions). IsAskOf w c.args.ask) (sym c.self.view_is) c.requires in
    let e : c.at-relation.result ≡ c.relation_of.result = search rules in
    let there : relation_at r (first_node v.yard c.args.ask) (second_node v.yard c.args.ask) ≡ relation_of c.args.yes = said r v.yard v.yard c.args.ask _ _ _ refl c.nodes-first.ensures.first c.nodes-first.ensures.second (sym (e ∙ c.relation_of.ensures) ∙ c.at-relation.ensures.value) in
    let none : Contains v.list (c.args.ask, c.args.yes) → ⊥ = λ q. false≢true (sym c.if-stands.false ∙ (c.stands.ensures.1 (subst (λ (xs : List Decision). Contains xs (c.args.ask, c.args.yes)) (sym c.deref.ensures.value) (stands_kept c.self.inside.list.items (c.args.ask, c.args.yes) q)))) in (
      subst (λ (l : List Decision). IsKept (record { orders = c.self.inside.orders; yard = c.self.inside.yard; list = l }) r) (reverse-more c.self.inside.list.items c.add-2.new.list.items (c.args.ask, c.args.yes) c.add-2.ensures.items)
          (kept_said v r c.self.invariant.0 c.args.ask c.args.yes h there none),
      omega (arith, c.self.invariant.1, c.add-2.ensures.capacity),
    )

pub returns-clause-decided : goal.returns-clause-decided
returns-clause-decided c =
    let v : Decisions = before c.self.inside.orders c.self.inside.yard c.self.inside.list.items in
    let none : Contains v.list (c.args.ask, c.args.yes) → ⊥ = λ q. false≢true (sym c.if-stands.false ∙ (c.stands.ensures.1 (subst (λ (xs : List Decision). Contains xs (c.args.ask, c.args.yes)) (sym c.deref.ensures.value) (stands_kept c.self.inside.list.items (c.args.ask, c.args.yes) q)))) in
    subst (λ (w : Decisions). HasDecided w (record { orders = c.self.inside.orders; yard = c.self.inside.yard; list = reverse c.add-2.new.list.items }) (c.args.ask, c.args.yes)) c.self.view_is
    (inr (none, ap (λ (l : List Decision). before_list c.self.inside.orders c.self.inside.yard l) (sym (reverse-more c.self.inside.list.items c.add-2.new.list.items (c.args.ask, c.args.yes) c.add-2.ensures.items))))
  where
    before_list : ℕ → ℕ → List Decision → Decisions
    before_list orders yard list = record { orders = orders; yard = yard; list = list }

pub returns-clause-consistent : goal.returns-clause-consistent
returns-clause-consistent c =
    let v : Decisions = before c.self.inside.orders c.self.inside.yard c.self.inside.list.items in
    let r : Relations = c.self.inside.relations in
    let h : IsAskOf v c.args.ask = subst (λ (w : Decisions). IsAskOf w c.args.ask) (sym c.self.view_is) c.requires in
    let e : c.at-relation.result ≡ c.relation_of.result = search rules in
    let there : relation_at r (first_node v.yard c.args.ask) (second_node v.yard c.args.ask) ≡ relation_of c.args.yes = said r v.yard v.yard c.args.ask _ _ _ refl c.nodes-first.ensures.first c.nodes-first.ensures.second (sym (e ∙ c.relation_of.ensures) ∙ c.at-relation.ensures.value) in
    subst (λ (w : Decisions). AreConsistent ((c.args.ask, c.args.yes) ∷ w.list)) c.self.view_is (kept_agrees v r c.self.invariant.0 c.args.ask h c.args.yes there)
