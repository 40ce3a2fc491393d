use Rattle.std.proofs.Common.{ℤ, All, List, sym, subst, ◌∙◌}
use Rattle.mill_model.specs.Mill.{Mill}
use Rattle.mill_model.specs.Columns.{IsLegalColumn}
use Rattle.slab_frac.specs.Fraction.{Fraction}
use Rattle.slab_master.specs.Least.{IsLeast}
use Rattle.slab_master.specs.Prices.{ArePrices}
use Rattle.slab_relax.specs.PoolCovers.{HasLeastLoss}
use Rattle.slab_relax.specs.Masters.{allowed_of, losses_of, used_of}
use Rattle.slab_relax.proofs.LeastLoss.{least_loss, no_spread_and_prices}
use Rattle.slab_relax.proofs.restricted.Restricted.least_cover.Goals as goal

pub returns-in-Best-clause-least : goal.returns-in-Best-clause-least
returns-in-Best-clause-least c none =
    let best : IsLeast c.args.self.now.master c.deref.result.now c.in-Best.x c.in-Best._y = rw c.in-Best.is at c.in_ok-solved.ensures.holds in
    let least : IsLeast c.args.self.now.master (losses_of c.args.node.now.mill.now (allowed_of c.args.node.now.decisions.now.list c.args.pool.now.columns)) c.in-Best.x c.in-Best._y =
    subst (λ (costs : List ℤ). IsLeast c.args.self.now.master costs c.in-Best.x c.in-Best._y) (c.deref.ensures.value ∙ c.in_ok-losses.ensures.value) best in
    let of : HasLeastLoss c.args.node.now.mill.now c.args.node.now.limits c.args.node.now.decisions.now.list c.args.pool.now.columns (used_of c.args.self.now.ids.items c.in-Best.x) =
    least_loss c.args.node.now.mill.now c.args.node.now.limits c.args.node.now.decisions.now.list c.args.pool.now.columns c.args.self.now.ids.items c.args.self.now.master c.in-Best.x c.in-Best._y c.requires.restricted.numbers c.requires.restricted.given least in
    subst (HasLeastLoss c.args.node.now.mill.now c.args.node.now.limits c.args.node.now.decisions.now.list c.args.pool.now.columns) (sym c.in_ok-lesser-in-Best.ensures.value) (subst (λ (xs : List Fraction). HasLeastLoss c.args.node.now.mill.now c.args.node.now.limits c.args.node.now.decisions.now.list c.args.pool.now.columns (used_of c.args.self.now.ids.items xs)) (sym c.list.ensures) of)

pub unreachable-requires : goal.unreachable-requires
unreachable-requires c =
    let legal : All (IsLegalColumn c.args.node.now.mill.now) c.args.pool.now.columns = subst (λ (m : Mill). All (IsLegalColumn m) c.args.pool.now.columns) c.requires.mill c.len-legal.ensures.pool.legal in
    let prices : ArePrices c.args.self.now.master.rows c.args.self.now.master.columns c.in-Prices._prices = rw c.in-Prices.is at c.in_ok-solved.ensures.holds in
    no_spread_and_prices c.args.node.now.mill.now c.args.node.now.limits c.args.node.now.decisions.now.list c.args.pool.now.columns c.args.self.now.master c.args.found.now c.in-Prices._prices legal c.requires.restricted.given c.requires.spread prices
