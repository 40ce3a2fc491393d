-- A leaf as a pricing problem.
use Rattle.pricing_laws.specs.Problems.{Problem}
use Rattle.price_check.specs.declared.leaf.Leaf.{Leaf}

abbrev pub problem_of : Leaf → Problem
problem_of t = record { mill = t.mill.now; decisions = t.trail.now.decisions; prices = t.quote.now }
