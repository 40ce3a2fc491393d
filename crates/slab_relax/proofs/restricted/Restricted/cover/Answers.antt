use Rattle.std.proofs.Common.{◌≡◌, All, sym, subst}
use Rattle.std.proofs.lemmas.Result.{IfOk-weaker}
use Rattle.mill_model.specs.Mill.{Mill}
use Rattle.mill_model.specs.Columns.{IsLegalColumn}
use Rattle.slab_master.specs.Given.{Given}
use Rattle.slab_master.specs.Spread.{IsSpread}
use Rattle.slab_relax.specs.PoolCovers.{IsPoolCover}
use Rattle.slab_relax.specs.Masters.{used_of}
use Rattle.slab_relax.proofs.PoolCovering.{count_is, pool_cover}
use Rattle.slab_relax.proofs.restricted.Restricted.cover.Goals as goal

pub used-requires : goal.used-requires
used-requires c = count_is c.args.node.now.mill.now c.args.node.now.limits c.args.node.now.decisions.now.list c.args.pool.now.columns c.args.self.now.ids.items c.args.self.now.master c.args.multipliers.now c.requires.restricted.given c.requires.restricted.numbers c.requires.spread

pub returns-clause-covers : goal.returns-clause-covers
returns-clause-covers c =
    let legal : All (IsLegalColumn c.args.node.now.mill.now) c.args.pool.now.columns = subst (λ (m : Mill). All (IsLegalColumn m) c.args.pool.now.columns) c.requires.mill c.len-legal.ensures.pool.legal in
    let covers : IsPoolCover c.args.node.now.mill.now c.args.node.now.limits c.args.node.now.decisions.now.list c.args.pool.now.columns (used_of c.args.self.now.ids.items c.args.multipliers.now) =
    pool_cover c.args.node.now.mill.now c.args.node.now.limits c.args.node.now.decisions.now.list c.args.pool.now.columns c.args.self.now.ids.items c.args.multipliers.now legal c.requires.restricted.numbers
    (subst (λ (g : Given). IsSpread g.rows g.columns c.args.multipliers.now) c.requires.restricted.given c.requires.spread) in
    IfOk-weaker c.used.result (λ cover. cover ≡ used_of c.args.self.now.ids.items c.args.multipliers.now) (IsPoolCover c.args.node.now.mill.now c.args.node.now.limits c.args.node.now.decisions.now.list c.args.pool.now.columns)
    (λ cover is. subst (IsPoolCover c.args.node.now.mill.now c.args.node.now.limits c.args.node.now.decisions.now.list c.args.pool.now.columns) (sym is) covers) c.used.ensures
