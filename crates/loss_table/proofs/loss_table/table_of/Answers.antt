use Rattle.std.proofs.Common.{arith}
use Rattle.std.proofs.lemmas.List.{get_or_default}
use Rattle.loss_table.proofs.loss_table.table_of.Goals as goal

pub returns : goal.returns
returns c = record {
  answers = λ load h. c.loop-load.invariant.answers load (omega (arith, h, c.loop-load.invariant.reached));
  reaches = λ k d h. omega (arith, c.loop-load.invariant.reached, c.loop-load-test.false, c.type_inv.sizes k, get_or_default c.args.sizes.now k d 0 h);
}
