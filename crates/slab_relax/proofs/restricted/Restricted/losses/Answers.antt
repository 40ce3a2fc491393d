use Rattle.std.proofs.Common.{rules, ◌≡◌, pos, ◌≤ℤ◌, map, to_z, of_z, sym, ap, ◌∙◌, subst, arith}
use Rattle.std.specs.Prelude.{FitsSigned}
use Rattle.std.specs.Int.{w64}
use Rattle.std.proofs.lemmas.Int.{ints, to_z-of_z}
use Rattle.std.proofs.lemmas.List.{take_all}
use Rattle.slab_master.specs.Given.{IsSmall}
use Rattle.slab_relax.proofs.Losing.{loss_at, losses_more, all_more, losses_are, are_costs}
use Rattle.slab_relax.proofs.restricted.Restricted.losses.Goals as goal

pub loop-id-preserved : goal.loop-id-preserved
loop-id-preserved c =
    let fits : FitsSigned w64 c.loss.result = search rules in
    let same : to_z w64 (of_z w64 c.loss.result) ≡ c.loss.result = to_z-of_z w64 c.loss.result fits in
    rw c.in_ok-push.ensures.items (record {
      value = losses_more c.args.node.now.mill.now c.args.pool.now.columns c.args.self.now.ids.items c.deref-id-items.result.now c.loop-id.id-index _ (to_z w64 (of_z w64 c.loss.result)) c.loop-id.losses.items c.deref-id-items.ensures.value c.loop-id-test.true (same ∙ c.loss.ensures.value) c.loop-id.invariant.value;
      signs = all_more (λ z. pos 0 ≤ℤ z) c.loop-id.losses.items (to_z w64 (of_z w64 c.loss.result)) c.loop-id.invariant.signs (omega (arith, ints, same, c.loss.ensures.value));
      small = all_more IsSmall c.loop-id.losses.items (to_z w64 (of_z w64 c.loss.result)) c.loop-id.invariant.small (subst IsSmall (sym same) c.loss.ensures.small);
    })

pub returns-clause-value : goal.returns-clause-value
returns-clause-value c =
    c.loop-id.invariant.value
    ∙ ap (map (loss_at c.args.node.now.mill.now c.args.pool.now.columns)) (take_all c.loop-id.id-index c.args.self.now.ids.items (omega (arith, c.loop-id-test.false, c.deref-id-items.ensures.len)))
    ∙ losses_are c.args.node.now.mill.now c.args.node.now.decisions.now.list c.args.pool.now.columns c.args.self.now.ids.items c.requires.restricted.numbers

pub returns-clause-costs : goal.returns-clause-costs
returns-clause-costs c = are_costs c.args.node.now.mill.now c.args.node.now.limits c.args.node.now.decisions.now.list c.args.pool.now.columns c.args.self.now.ids.items c.args.self.now.master c.loop-id.losses.items c.requires.restricted.given c.requires.restricted.numbers (returns-clause-value c) c.loop-id.invariant.signs c.loop-id.invariant.small
