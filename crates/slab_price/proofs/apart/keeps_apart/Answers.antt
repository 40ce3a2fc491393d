use Rattle.std.proofs.Common.{Bool, sym, subst}
use Rattle.std.specs.Bool.{OnTrue}
use Rattle.pricing_laws.specs.Groups.{AreApart}
use Rattle.slab_price.proofs.Groupings.{apart_where_kept}
use Rattle.slab_price.proofs.apart.keeps_apart.Goals as goal

pub returns : goal.returns
returns c =
    subst (λ (b : Bool). OnTrue b (AreApart c.args.decisions.now.list c.args.first c.args.second)) (sym c.eq.ensures)
    (apart_where_kept c.args.decisions.now.list c.follows.ensures.consistent c.args.first c.args.second c.follows.result c.follows.ensures.some)
