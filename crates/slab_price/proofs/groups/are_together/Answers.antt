use Rattle.std.proofs.Common.{Bool, true, sym, subst}
use Rattle.std.specs.Bool.{OnTrue, OnFalse}
use Rattle.mill_model.specs.declared.ask.Ask.TheVariants.{Pair}
use Rattle.mill_model.specs.Assignments.{Follows}
use Rattle.slab_price.specs.Groupings.{AreAlike}
use Rattle.slab_price.proofs.Groupings.{alike_where_together, not_together}
use Rattle.slab_price.proofs.groups.are_together.Goals as goal

pub returns-clause-no : goal.returns-clause-no
returns-clause-no c =
    subst (λ (b : Bool). OnFalse b (Follows c.args.decisions.now.list (Pair c.args.first c.args.second) true → ⊥)) (sym c.eq.ensures)
    (not_together c.args.decisions.now.list c.follows.ensures.consistent c.args.first c.args.second c.follows.result c.follows.ensures.some c.follows.ensures.none)

pub returns-clause-alike : goal.returns-clause-alike
returns-clause-alike c =
    subst (λ (b : Bool). OnTrue b (AreAlike c.args.decisions.now.list c.args.second c.args.first)) (sym c.eq.ensures)
    (alike_where_together c.args.decisions.now.list c.follows.ensures.consistent c.args.first c.args.second c.follows.result c.follows.ensures.some)
