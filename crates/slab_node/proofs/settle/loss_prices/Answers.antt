use Rattle.std.proofs.Common.{◌≡◌, ℕ, pos, List, sym, subst}
use Rattle.std.proofs.lemmas.Result.{IfOk-weaker}
use Rattle.mill_model.specs.declared.kind.Kind.{Kind}
use Rattle.mill_model.specs.Prices.{Refutes}
use Rattle.slab_node.specs.FirstPrices.{AreStated}
use Rattle.slab_node.specs.Stated.{AreAtHeads, group_loss, free_prices}
use Rattle.slab_node.proofs.Settling.{fit, loss_refutes}
use Rattle.slab_node.proofs.FirstStated.{stated_of}
use Rattle.slab_node.proofs.settle.loss_prices.Goals as goal

pub losses_of-requires-clause-fits : goal.losses_of-requires-clause-fits
losses_of-requires-clause-fits c = rw (c.deref.ensures.value, c.deref-2.ensures.value) (fit c.args.node.now c.args.settlement.now c.requires.settlement c.requires.legal)

pub returns-clause-refutes : goal.returns-clause-refutes
returns-clause-refutes c =
    let at : AreAtHeads c.args.settlement.now.heads.items (group_loss c.args.node.now.mill.now c.args.settlement.now.heads.items c.args.settlement.now.kinds.items) c.in_ok-pi.pi.items =
    subst (λ (l : List ℕ). AreAtHeads l (group_loss c.args.node.now.mill.now l c.args.settlement.now.kinds.items) c.in_ok-pi.pi.items) c.deref.ensures.value
    (subst (λ (l : List Kind). AreAtHeads c.deref.result.now (group_loss c.args.node.now.mill.now c.deref.result.now l) c.in_ok-pi.pi.items) c.deref-2.ensures.value c.in_ok-pi.ensures.at) in
    let refutes = loss_refutes c.args.node.now c.args.settlement.now c.requires.settlement c.requires.legal c.in_ok-pi.pi.items c.requires.above at c.in_ok-pi.ensures.range in
    IfOk-weaker c.prices_by.result (λ p. p ≡ free_prices c.args.node.now.mill.now (pos 1) (pos 0) c.in_ok-pi.pi.items) (Refutes c.args.node.now.mill.now c.args.node.now.limits c.args.node.now.decisions.now.list)
    (λ p is. subst (Refutes c.args.node.now.mill.now c.args.node.now.limits c.args.node.now.decisions.now.list) (sym is) refutes) c.prices_by.ensures

pub returns-clause-stated : goal.returns-clause-stated
returns-clause-stated c =
    let at : AreAtHeads c.args.settlement.now.heads.items (group_loss c.args.node.now.mill.now c.args.settlement.now.heads.items c.args.settlement.now.kinds.items) c.in_ok-pi.pi.items =
    subst (λ (l : List ℕ). AreAtHeads l (group_loss c.args.node.now.mill.now l c.args.settlement.now.kinds.items) c.in_ok-pi.pi.items) c.deref.ensures.value
    (subst (λ (l : List Kind). AreAtHeads c.deref.result.now (group_loss c.args.node.now.mill.now c.deref.result.now l) c.in_ok-pi.pi.items) c.deref-2.ensures.value c.in_ok-pi.ensures.at) in
    IfOk-weaker c.prices_by.result (λ p. p ≡ free_prices c.args.node.now.mill.now (pos 1) (pos 0) c.in_ok-pi.pi.items) (AreStated c.args.node.now.mill.now (pos 1) (pos 0) c.args.settlement.now.heads.items (group_loss c.args.node.now.mill.now c.args.settlement.now.heads.items c.args.settlement.now.kinds.items))
    (λ p is. stated_of c.args.node.now.mill.now (pos 1) (pos 0) c.args.settlement.now.heads.items (group_loss c.args.node.now.mill.now c.args.settlement.now.heads.items c.args.settlement.now.kinds.items) c.in_ok-pi.pi.items p at is) c.prices_by.ensures
