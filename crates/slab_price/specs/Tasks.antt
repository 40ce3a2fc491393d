-- A task as a pricing problem.
use Rattle.pricing_laws.specs.Problems.{Problem}
use Rattle.slab_price.specs.declared.task.Task.{Task}

abbrev pub problem_of : Task → Problem
problem_of t = record { mill = t.mill.now; decisions = t.decisions.now.list; prices = t.prices.now }
