use Rattle.std.proofs.Common.{◌≡◌, ℕ, ◌<◌, length}
use Rattle.pricing_laws.specs.Groups.{head_of}
use Rattle.slab_node.specs.Settled.{IsFirst}
use Rattle.slab_node.proofs.groups.firsts_of.Given as goal

abbrev pub invariant-loop-order : goal.invariant-loop-order
invariant-loop-order l = record {
  size : length l.heads.items ≡ l.order;
  firsts : (o : ℕ) → o < l.order → IsFirst l.node.decisions.now.list o (head_of l.heads.items o);
}
