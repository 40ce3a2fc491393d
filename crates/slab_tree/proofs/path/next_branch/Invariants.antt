use Rattle.std.proofs.Common.{◌≡◌, ◌≤◌, length, reverse, vec_len, vec_capacity}
use Rattle.mill_model.specs.Paths.{next_branch as branch_after}
use Rattle.slab_tree.proofs.path.next_branch.Given as goal

abbrev pub invariant-loop-ask : goal.invariant-loop-ask
invariant-loop-ask l = record {
  left : branch_after (reverse l.path.items) ≡ branch_after (reverse l.fn.path.items);
  room : vec_len l.path ≤ vec_capacity l.path;
}

abbrev pub decreases-loop-ask : goal.decreases-loop-ask
decreases-loop-ask l = length l.path.items
