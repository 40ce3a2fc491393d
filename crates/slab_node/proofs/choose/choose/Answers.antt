use Rattle.std.proofs.Common.{ℤ, List, sym, subst}
use Rattle.mill_model.specs.Covers.{IsCover}
use Rattle.mill_model.specs.Decisions.{IsAsk}
use Rattle.slab_relax.specs.PoolCovers.{Parts, parts_of}
use Rattle.slab_node.specs.Choices.{AreMultiples}
use Rattle.slab_node.specs.Shares.{AreTimes, CoversOrders, IsFractional}
use Rattle.slab_node.proofs.Choosing.{covers_orders, fractional_is_open}
use Rattle.slab_node.proofs.TimesOfCover.{are_times, covers_by}
use Rattle.slab_node.proofs.choose.choose.Goals as goal

pub invariant_of-wholes : goal.invariant_of-wholes
invariant_of-wholes c =
    let made : AreMultiples c.list.result.now c.in-Some.multiples.whole c.in-Some.multiples.times.items = rw c.in-Some.is at c.in_ok-multiples.ensures.some in
    let are : AreMultiples c.args.cover.now c.in-Some.multiples.whole c.in-Some.multiples.times.items = subst (λ (l : Parts). AreMultiples l c.in-Some.multiples.whole c.in-Some.multiples.times.items) c.list.ensures made in
    let times : AreTimes c.args.pool.now.columns c.args.cover.now c.in-Some.multiples.times.items =
    are_times c.args.node.now.mill.now c.args.node.now.limits c.args.node.now.decisions.now.list c.args.pool.now.columns c.args.cover.now c.in-Some.multiples.whole c.in-Some.multiples.times.items c.requires.cover are in
    let covers : CoversOrders c.args.node.now.mill.now c.in-Some.multiples.whole (parts_of c.args.pool.now.columns c.args.cover.now c.in-Some.multiples.times.items) =
    covers_orders c.args.node.now.mill.now c.args.node.now.limits c.args.node.now.decisions.now.list c.in-Some.multiples.whole (parts_of c.args.pool.now.columns c.args.cover.now c.in-Some.multiples.times.items)
    (covers_by c.args.node.now.mill.now c.args.node.now.limits c.args.node.now.decisions.now.list c.args.pool.now.columns c.args.cover.now c.in-Some.multiples.whole c.in-Some.multiples.times.items c.requires.cover are) in
    record {
      belongs = c.requires.mill;
      numbers = subst (λ (l : Parts). AreTimes c.args.pool.now.columns l c.deref.result.now) (sym c.list-2.ensures) (subst (λ (ks : List ℤ). AreTimes c.args.pool.now.columns c.args.cover.now ks) (sym c.deref.ensures.value) times);
      covers = subst (λ (l : Parts). CoversOrders c.args.node.now.mill.now c.in-Some.multiples.whole (parts_of c.args.pool.now.columns l c.deref.result.now)) (sym c.list-2.ensures)
          (subst (λ (ks : List ℤ). CoversOrders c.args.node.now.mill.now c.in-Some.multiples.whole (parts_of c.args.pool.now.columns c.args.cover.now ks)) (sym c.deref.ensures.value) covers);
    }

pub returns-in-Some-2-clause-split : goal.returns-in-Some-2-clause-split
returns-in-Some-2-clause-split c =
    let made : AreMultiples c.list.result.now c.in-Some.multiples.whole c.in-Some.multiples.times.items = rw c.in-Some.is at c.in_ok-multiples.ensures.some in
    let are : AreMultiples c.args.cover.now c.in-Some.multiples.whole c.in-Some.multiples.times.items = subst (λ (l : Parts). AreMultiples l c.in-Some.multiples.whole c.in-Some.multiples.times.items) c.list.ensures made in
    let cover : IsCover c.args.node.now.mill.now c.args.node.now.limits c.args.node.now.decisions.now.list c.in-Some.multiples.whole (parts_of c.args.pool.now.columns c.args.cover.now c.in-Some.multiples.times.items) =
    covers_by c.args.node.now.mill.now c.args.node.now.limits c.args.node.now.decisions.now.list c.args.pool.now.columns c.args.cover.now c.in-Some.multiples.whole c.in-Some.multiples.times.items c.requires.cover are in
    let found : IsAsk c.args.node.now.mill.now c.in-Some-2.ask × IsFractional c.in-Some.multiples.whole (parts_of c.args.pool.now.columns c.list-2.result.now c.deref.result.now) c.in-Some-2.ask = rw c.in-Some-2.is at c.in_ok-ask.ensures.some in
    let fractional : IsFractional c.in-Some.multiples.whole (parts_of c.args.pool.now.columns c.args.cover.now c.in-Some.multiples.times.items) c.in-Some-2.ask =
    subst (λ (ks : List ℤ). IsFractional c.in-Some.multiples.whole (parts_of c.args.pool.now.columns c.args.cover.now ks) c.in-Some-2.ask) c.deref.ensures.value
    (subst (λ (l : Parts). IsFractional c.in-Some.multiples.whole (parts_of c.args.pool.now.columns l c.deref.result.now) c.in-Some-2.ask) c.list-2.ensures found.1) in
    record {
      asked = found.0;
      undecided =
          fractional_is_open c.args.node.now.mill.now c.args.node.now.limits c.args.node.now.decisions.now.list c.in-Some.multiples.whole (parts_of c.args.pool.now.columns c.args.cover.now c.in-Some.multiples.times.items) c.in-Some-2.ask c.requires.consistent.0 c.requires.consistent.1 cover found.0 fractional;
    }
