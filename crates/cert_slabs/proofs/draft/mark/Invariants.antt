use Rattle.std.proofs.Common.{take}
use Rattle.cert_slabs.specs.Drafts.{ArePut}
use Rattle.cert_slabs.proofs.draft.mark.Given as goal

abbrev pub invariant-loop-order : goal.invariant-loop-order
invariant-loop-order l = ArePut l.initial.placed l.placed (take l.order-index l.orders)
