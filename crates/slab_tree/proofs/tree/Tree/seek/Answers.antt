use Rattle.std.proofs.Common.{rules, subst}
use Rattle.std.specs.Prelude.{IfSome}
use Rattle.mill_model.specs.Mill.{Mill}
use Rattle.slab_repack.specs.FoundPlans.{IsFoundPlan}
use Rattle.slab_tree.specs.Searches.{limits_of, opening_of}
use Rattle.slab_tree.specs.Marking.{HoldsCover}
use Rattle.slab_tree.proofs.Standing.{path_open}
use Rattle.slab_tree.proofs.tree.Tree.seek.Goals as goal

pub tell-requires : goal.tell-requires
tell-requires c =
    rw (c.dive.new.place.extent.orders, c.dive.new.place.extent.yard, c.in_ok-found.ensures.mill, c.loop.invariant.mill)
    (path_open c.args.place.now.mill.now (HoldsCover c.args.place.now.mill.now (opening_of c.args.self.now)) (limits_of c.args.self.now) c.args.self.now.path c.args.self.now.nodes c.requires.tree.stands)

pub returns-then-is_some-clause-found : goal.returns-then-is_some-clause-found
returns-then-is_some-clause-found c =
    let found : IfSome c.in_ok-found.found (IsFoundPlan c.loop.place.mill.now (limits_of c.args.self.now)) = search rules in
    subst (λ (m : Mill). IfSome c.in_ok-found.found (IsFoundPlan m (limits_of c.args.self.now))) c.loop.invariant.mill found
