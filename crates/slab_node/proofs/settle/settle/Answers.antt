use Rattle.slab_node.proofs.FirstStated.{by_misfit}
use Rattle.slab_node.proofs.settle.settle.Goals as goal

pub returns-in_ok-misfit-in-Err-clause-stated : goal.returns-in_ok-misfit-in-Err-clause-stated
returns-in_ok-misfit-in-Err-clause-stated c = by_misfit c.args.node.now c.in_ok-settlement.settlement c.in_ok-settlement.ensures c.in-Err.rule c.in_ok-misfit-in-Err.field-0 c.in-Err.ensures.first c.in_ok-misfit-in-Err.ensures.stated
