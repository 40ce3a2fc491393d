use Rattle.std.proofs.Common.{◌≡◌, ◌<◌, ℕ, pos, List, length, get_or, Some, None, sym, subst, ap, ◌∙◌, arith}
use Rattle.std.proofs.lemmas.Result.{IfOk-weaker}
use Rattle.std.proofs.lemmas.Grind.{get_or_default_zero}
use Rattle.mill_model.specs.Prices.{Refutes}
use Rattle.slab_node.specs.Misfits.{slab_number}
use Rattle.pricing_laws.specs.Groups.{head_of}
use Rattle.slab_node.specs.FirstPrices.{StatesMisfit}
use Rattle.slab_node.specs.Stated.{free_prices, only, AreAtHeads}
use Rattle.slab_node.proofs.Settling.{misfit_of, misfit_refutes, rule_slab, slab_order, own_head}
use Rattle.slab_node.proofs.FirstStated.{stated_of, one_head}
use Rattle.slab_node.proofs.settle.misfit.Goals as goal

pub unreachable-requires : goal.unreachable-requires
unreachable-requires c =
    let number = (misfit_of c.args.node.now c.args.settlement.now c.requires.settlement c.args.rule c.requires.broken).number in
    none (sym c.in-None.is ∙ c.slab_number.ensures ∙ number)
  where
    none : {k : ℕ} → None ≡ Some k → ⊥
    none e = cc

pub unreachable-requires-in-None-first_order : goal.unreachable-requires-in-None-first_order
unreachable-requires-in-None-first_order c =
    let it = rule_slab c.args.node.now c.args.settlement.now c.requires.settlement c.args.rule c.in-Some.slab c.requires.broken (sym c.slab_number.ensures ∙ c.in-Some.is) in
    let order = slab_order c.args.node.now c.args.settlement.now c.requires.settlement c.in-Some.slab it.0 in
    c.in-None-first_order.ensures.none order.0 (subst (λ (l : List ℕ). order.0 < length l) (sym c.place.ensures) order.1) (ap (λ (l : List ℕ). get_or l order.0 0) c.place.ensures ∙ order.2)

pub one_group-requires-clause-own : goal.one_group-requires-clause-own
one_group-requires-clause-own c =
    let inside : c.in-Some-first_order.order < length c.args.settlement.now.heads.items = omega (arith, c.in-Some-first_order.ensures.some.0, ap length c.place.ensures, c.requires.settlement.built.size) in
    let head : c.index-head.result.now ≡ head_of c.args.settlement.now.heads.items c.in-Some-first_order.order = c.index-head.ensures ∙ get_or_default_zero c.args.settlement.now.heads.items c.in-Some-first_order.order c.index-head.result.now inside in
    rw (c.deref.ensures.value, head) (own_head c.args.node.now c.args.settlement.now c.requires.settlement c.in-Some-first_order.order inside)

pub returns-clause-refutes : goal.returns-clause-refutes
returns-clause-refutes c =
    let inside : c.in-Some-first_order.order < length c.args.settlement.now.heads.items = omega (arith, c.in-Some-first_order.ensures.some.0, ap length c.place.ensures, c.requires.settlement.built.size) in
    let head : c.index-head.result.now ≡ head_of c.args.settlement.now.heads.items c.in-Some-first_order.order = c.index-head.ensures ∙ get_or_default_zero c.args.settlement.now.heads.items c.in-Some-first_order.order c.index-head.result.now inside in
    let it = rule_slab c.args.node.now c.args.settlement.now c.requires.settlement c.args.rule c.in-Some.slab c.requires.broken (sym c.slab_number.ensures ∙ c.in-Some.is) in
    let there : get_or c.args.settlement.now.plan.place c.in-Some-first_order.order 0 ≡ c.in-Some.slab = ap (λ (l : List ℕ). get_or l c.in-Some-first_order.order 0) (sym c.place.ensures) ∙ c.in-Some-first_order.ensures.some.1 in
    let at : AreAtHeads c.args.settlement.now.heads.items (only (head_of c.args.settlement.now.heads.items c.in-Some-first_order.order)) c.in_ok-pi.pi.items =
    subst (λ (l : List ℕ). AreAtHeads l (only (head_of c.args.settlement.now.heads.items c.in-Some-first_order.order)) c.in_ok-pi.pi.items) c.deref.ensures.value
    (subst (λ (h : ℕ). AreAtHeads c.deref.result.now (only h) c.in_ok-pi.pi.items) head c.in_ok-pi.ensures.at) in
    let refutes = misfit_refutes c.args.node.now c.args.settlement.now c.requires.settlement c.in-Some.slab c.in-Some-first_order.order c.in_ok-pi.pi.items it.0 it.1 inside there at c.in_ok-pi.ensures.range in
    IfOk-weaker c.prices_by.result (λ p. p ≡ free_prices c.args.node.now.mill.now (pos 0) (pos 0) c.in_ok-pi.pi.items) (Refutes c.args.node.now.mill.now c.args.node.now.limits c.args.node.now.decisions.now.list)
    (λ p is. subst (Refutes c.args.node.now.mill.now c.args.node.now.limits c.args.node.now.decisions.now.list) (sym is) refutes) c.prices_by.ensures

pub returns-clause-stated : goal.returns-clause-stated
returns-clause-stated c =
    let inside : c.in-Some-first_order.order < length c.args.settlement.now.heads.items = omega (arith, c.in-Some-first_order.ensures.some.0, ap length c.place.ensures, c.requires.settlement.built.size) in
    let placed : c.in-Some-first_order.order < length c.args.settlement.now.plan.place = omega (arith, c.in-Some-first_order.ensures.some.0, ap length c.place.ensures) in
    let head : c.index-head.result.now ≡ head_of c.args.settlement.now.heads.items c.in-Some-first_order.order = c.index-head.ensures ∙ get_or_default_zero c.args.settlement.now.heads.items c.in-Some-first_order.order c.index-head.result.now inside in
    let there : get_or c.args.settlement.now.plan.place c.in-Some-first_order.order 0 ≡ c.in-Some.slab = ap (λ (l : List ℕ). get_or l c.in-Some-first_order.order 0) (sym c.place.ensures) ∙ c.in-Some-first_order.ensures.some.1 in
    let at : AreAtHeads c.args.settlement.now.heads.items (only (head_of c.args.settlement.now.heads.items c.in-Some-first_order.order)) c.in_ok-pi.pi.items =
    subst (λ (l : List ℕ). AreAtHeads l (only (head_of c.args.settlement.now.heads.items c.in-Some-first_order.order)) c.in_ok-pi.pi.items) c.deref.ensures.value
    (subst (λ (h : ℕ). AreAtHeads c.deref.result.now (only h) c.in_ok-pi.pi.items) head c.in_ok-pi.ensures.at) in
    let same : (k order : ℕ) → slab_number c.args.rule ≡ Some k → order < length c.args.settlement.now.plan.place → get_or c.args.settlement.now.plan.place order 0 ≡ k → head_of c.args.settlement.now.heads.items c.in-Some-first_order.order ≡ head_of c.args.settlement.now.heads.items order =
    (λ k order number l on. one_head c.args.node.now c.args.settlement.now c.requires.settlement c.in-Some-first_order.order order placed l (there ∙ some c.in-Some.slab k (sym c.in-Some.is ∙ c.slab_number.ensures ∙ number) ∙ sym on)) in
    IfOk-weaker c.prices_by.result (λ p. p ≡ free_prices c.args.node.now.mill.now (pos 0) (pos 0) c.in_ok-pi.pi.items) (StatesMisfit c.args.node.now.mill.now c.args.settlement.now.heads.items c.args.settlement.now.plan c.args.rule)
    (λ p is. λ k order number l on. stated_of c.args.node.now.mill.now (pos 0) (pos 0) c.args.settlement.now.heads.items (only (head_of c.args.settlement.now.heads.items order)) c.in_ok-pi.pi.items p (subst (λ (h : ℕ). AreAtHeads c.args.settlement.now.heads.items (only h) c.in_ok-pi.pi.items) (same k order number l on) at) is) c.prices_by.ensures
  where
    some : (j k : ℕ) → Some j ≡ Some k → j ≡ k
    some j k e = cc
