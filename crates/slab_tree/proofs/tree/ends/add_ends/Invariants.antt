use Rattle.std.proofs.Common.{◌≡◌, ◌++◌, replicate, Option, None}
use Rattle.mill_model.specs.declared.ask.Ask.{Ask}
use Rattle.slab_tree.proofs.tree.ends.add_ends.Given as goal

abbrev pub invariant-ends : goal.invariant-ends
invariant-ends l = l.list.items ≡ l.fn.list.items ++ replicate {A = Option Ask} l.counter None
