use Rattle.std.proofs.Common.{pos}
use Rattle.pricing_laws.specs.Problems.{ExceedAtMost}
use Rattle.pricing_laws.specs.Packs.{IsOnYard}
use Rattle.price_check.specs.Leaves.{problem_of}
use Rattle.price_check.proofs.leaf.Leaf.offer_yard.Given as goal

abbrev pub invariant-loop-slab : goal.invariant-loop-slab
invariant-loop-slab l = ExceedAtMost (problem_of l.self) (pos 0) (IsOnYard l.slab l.orders)
