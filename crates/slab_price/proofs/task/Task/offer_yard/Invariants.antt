use Rattle.pricing_laws.specs.Packs.{IsOnYard}
use Rattle.slab_price.specs.Bests.{IsImproved}
use Rattle.slab_price.specs.Tasks.{problem_of}
use Rattle.slab_price.proofs.task.Task.offer_yard.Given as goal

abbrev pub invariant-loop-slab : goal.invariant-loop-slab
invariant-loop-slab l = IsImproved (problem_of l.self) l.initial.best l.best (IsOnYard l.slab l.orders)
