use Rattle.std.proofs.Common.{arith}
use Rattle.pricing_laws.proofs.Steps.{greater_with, greater_small}
use Rattle.slab_price.proofs.table.entry.Goals as goal

pub returns-clause-with : goal.returns-clause-with
returns-clause-with c inside = greater_with c.args.table.now c.args.row c.args.width c.args.column c.args.jump c.args.gain c.requires.row c.requires.column inside c.requires.narrow c.requires.gain c.requires.small c.max.result c.max.ensures.value

pub returns-clause-small : goal.returns-clause-small
returns-clause-small c = greater_small c.args.table.now c.args.row c.args.width c.args.column c.args.jump c.args.gain c.requires.row c.requires.column (omega (arith, c.if-column-jump.false)) c.requires.narrow c.requires.gain c.requires.small c.max.result c.max.ensures.value
