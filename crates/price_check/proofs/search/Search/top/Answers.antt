use Rattle.std.proofs.Common.{arith}
use Rattle.pricing_laws.proofs.Steps.{ranked_inside, top_read, top_sign, top_small}
use Rattle.price_check.specs.Searches.{search_of}
use Rattle.price_check.proofs.search.Search.top.Goals as goal

pub index-requires-2 : goal.index-requires-2
index-requires-2 c =
    let s = c.args.self.now in
    omega (arith, ranked_inside (search_of s) c.args.rank c.index.result.now c.from.result (omega (arith, c.if-rank-eq0.false)) c.requires c.index.ensures c.from.ensures, s.frame.now.worths.ok.0)

pub returns-clause-most : goal.returns-clause-most
returns-clause-most c = top_read (search_of c.args.self.now) c.args.rank c.index.result.now c.from.result (omega (arith, c.if-rank-eq0.false)) c.requires c.index.ensures c.from.ensures c.index-2.result.now c.index-2.ensures

pub returns-clause-sign : goal.returns-clause-sign
returns-clause-sign c = top_sign (search_of c.args.self.now) c.args.rank c.index.result.now c.from.result (omega (arith, c.if-rank-eq0.false)) c.requires c.index.ensures c.from.ensures c.index-2.result.now c.index-2.ensures

pub returns-clause-small : goal.returns-clause-small
returns-clause-small c = top_small (search_of c.args.self.now) c.args.rank c.index.result.now c.from.result (omega (arith, c.if-rank-eq0.false)) c.requires c.index.ensures c.from.ensures c.index-2.result.now c.index-2.ensures
