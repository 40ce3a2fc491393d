use Rattle.std.proofs.Common.{◌≡◌, fold, take}
use Rattle.slab_columns.specs.Index.{next_key, kind_key}
use Rattle.slab_columns.proofs.index.key_of.Given as goal

abbrev pub invariant-loop-order : goal.invariant-loop-order
invariant-loop-order l = l.key ≡ fold next_key (kind_key l.fn.kind) (take l.order-index l.orders)
