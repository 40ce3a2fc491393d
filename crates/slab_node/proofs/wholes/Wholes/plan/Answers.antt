use Rattle.std.proofs.Common.{ℕ, List, length, sym, subst, Option}
use Rattle.std.proofs.lemmas.Result.{IfOk-weaker}
use Rattle.mill_model.specs.declared.kind.Kind.{Kind}
use Rattle.slab_relax.specs.PoolCovers.{parts_of}
use Rattle.slab_node.specs.Built.{IsBuilt}
use Rattle.slab_node.specs.Grouped.{IsGrouping, AreGrouped, AreKinds}
use Rattle.slab_node.specs.Turns.{IsInBox}
use Rattle.slab_node.proofs.WholeGroups.{are_grouped, whole_in_box}
use Rattle.slab_node.proofs.wholes.Wholes.plan.Goals as goal

pub kinds_of-requires : goal.kinds_of-requires
kinds_of-requires c =
    let grouped : AreGrouped c.args.self.now.node.mill.now c.in_ok-groups.groups.heads.items c.in_ok-groups.groups.slabs.items =
    are_grouped c.args.self.now.node.mill.now c.args.self.now.node.limits c.args.self.now.node.decisions.now.list c.args.self.now.whole (parts_of c.args.self.now.pool.now.columns c.args.self.now.cover.now c.args.self.now.times.now) c.requires.cover c.requires.whole c.in_ok-groups.groups.heads.items c.in_ok-groups.groups.slabs.items c.in_ok-groups.ensures in
    subst (λ (heads : List ℕ). AreGrouped c.args.self.now.node.mill.now heads c.deref-2.result.now) (sym c.deref.ensures.value) (subst (λ (slabs : List (Option ℕ)). AreGrouped c.args.self.now.node.mill.now c.in_ok-groups.groups.heads.items slabs) (sym c.deref-2.ensures.value) grouped)

pub plan_by-requires-clause-heads : goal.plan_by-requires-clause-heads
plan_by-requires-clause-heads c =
    let grouped : AreGrouped c.args.self.now.node.mill.now c.in_ok-groups.groups.heads.items c.in_ok-groups.groups.slabs.items =
    are_grouped c.args.self.now.node.mill.now c.args.self.now.node.limits c.args.self.now.node.decisions.now.list c.args.self.now.whole (parts_of c.args.self.now.pool.now.columns c.args.self.now.cover.now c.args.self.now.times.now) c.requires.cover c.requires.whole c.in_ok-groups.groups.heads.items c.in_ok-groups.groups.slabs.items c.in_ok-groups.ensures in
    subst IsGrouping (sym c.deref-3.ensures.value) grouped.grouping

pub returns : goal.returns
returns c =
    let kinds : AreKinds c.args.self.now.node.mill.now c.in_ok-groups.groups.heads.items c.in_ok-groups.groups.slabs.items c.in_ok-kinds.kinds.items =
    subst (λ (heads : List ℕ). AreKinds c.args.self.now.node.mill.now heads c.in_ok-groups.groups.slabs.items c.in_ok-kinds.kinds.items) c.deref.ensures.value
    (subst (λ (slabs : List (Option ℕ)). AreKinds c.args.self.now.node.mill.now c.deref.result.now slabs c.in_ok-kinds.kinds.items) c.deref-2.ensures.value c.in_ok-kinds.ensures) in
    IfOk-weaker c.plan_by.result (λ p. IsBuilt c.deref-3.result.now c.deref-4.result.now (length c.deref-3.result.now) p.kinds p.place) (IsInBox c.args.self.now.node.mill.now c.args.self.now.node.limits c.args.self.now.node.decisions.now.list)
    (λ p built. let own : IsBuilt c.in_ok-groups.groups.heads.items c.in_ok-kinds.kinds.items (length c.in_ok-groups.groups.heads.items) p.kinds p.place =
    subst (λ (heads : List ℕ). IsBuilt heads c.in_ok-kinds.kinds.items (length heads) p.kinds p.place) c.deref-3.ensures.value (subst (λ (kinds : List Kind). IsBuilt c.deref-3.result.now kinds (length c.deref-3.result.now) p.kinds p.place) c.deref-4.ensures.value built) in
    whole_in_box c.args.self.now.node.mill.now c.args.self.now.node.limits c.args.self.now.node.decisions.now.list c.args.self.now.whole (parts_of c.args.self.now.pool.now.columns c.args.self.now.cover.now c.args.self.now.times.now) c.requires.cover c.requires.whole c.in_ok-groups.groups.heads.items c.in_ok-groups.groups.slabs.items c.in_ok-groups.ensures c.in_ok-kinds.kinds.items p.kinds p.place kinds own c.requires.asks) c.plan_by.ensures
