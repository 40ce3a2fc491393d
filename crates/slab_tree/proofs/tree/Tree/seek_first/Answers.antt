use Rattle.std.proofs.Common.{◌≡◌, subst}
use Rattle.std.specs.Prelude.{IfSome, Option}
use Rattle.mill_model.specs.declared.limits.Limits.{Limits}
use Rattle.mill_model.specs.Plans.{Plan}
use Rattle.slab_repack.specs.FoundPlans.{IsFoundPlan}
use Rattle.slab_tree.specs.Searches.{limits_of}
use Rattle.slab_tree.proofs.Moves.{lowered_by}
use Rattle.slab_tree.proofs.tree.Tree.seek_first.Goals as goal

pub returns-in-Some : goal.returns-in-Some
returns-in-Some c =
    let within : IsFoundPlan c.args.mill.now c.limits-limits.result c.in-Some.plan = subst (λ (p : Option Plan). IfSome p (IsFoundPlan c.args.mill.now c.limits-limits.result)) c.in-Some.is c.in_ok-plan.ensures.found in
    let found : IsFoundPlan c.args.mill.now (limits_of c.args.self.now) c.in-Some.plan = subst (λ (l : Limits). IsFoundPlan c.args.mill.now l c.in-Some.plan) c.limits-limits.ensures within in
    record { lowered = lowered_by c.args.mill.now c.args.self.now c.lower.new.self c.in-Some.plan c.requires c.orders-orders.ensures.limits found c.lower.ensures.small c.lower.ensures.tree }
