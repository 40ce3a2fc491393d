-- What a solve answers, and when.
use Rattle.std.specs.Prelude.{ℕ, ℤ, List}
use Rattle.slab_counter.specs.Counter.{next_count, Rose}
use Rattle.slab_master.specs.Given.{Given}
use Rattle.slab_master.specs.Spread.{IsSpread}
use Rattle.slab_master.specs.Prices.{ArePrices}
use Rattle.slab_master.specs.Least.{IsLeast}
use Rattle.slab_master.specs.StallCounts.{StallCounts, RoseBy}
use Rattle.slab_master.specs.declared.outcome.Outcome.{Outcome}
use Rattle.slab_master.specs.declared.outcome.Outcome.TheVariants.{Spread, Prices, Wide, Stalled}
use Rattle.slab_master.specs.declared.outcome.Least.{Least}
use Rattle.slab_master.specs.declared.outcome.Least.TheVariants as least

-- what a solve answers, from the count of wide fractions and the pivots before and after it
abbrev pub OutcomeHolds : Given → ℕ → ℕ → StallCounts → StallCounts → Outcome → Type 0
OutcomeHolds given before now old new (Spread xs) = IsSpread given.rows given.columns xs
OutcomeHolds given before now old new (Prices ys) = ArePrices given.rows given.columns ys
OutcomeHolds given before now old new Wide = Rose before now
OutcomeHolds given before now old new Stalled = RoseBy 20000 old.pivots new.pivots

-- how the stalls are counted
abbrev pub stalls_after : Outcome → ℕ → ℕ
stalls_after (Spread xs) n = n
stalls_after (Prices ys) n = n
stalls_after Wide n = n
stalls_after Stalled n = next_count n

-- the same of a solve for least cost
abbrev pub LeastHolds : Given → List ℤ → ℕ → ℕ → StallCounts → StallCounts → Least → Type 0
LeastHolds given costs before now old new (least.Best xs ys) = IsLeast given costs xs ys
LeastHolds given costs before now old new (least.Prices ys) = ArePrices given.rows given.columns ys
LeastHolds given costs before now old new least.Wide = Rose before now
LeastHolds given costs before now old new least.Stalled = RoseBy 20000 old.pivots new.pivots

abbrev pub stalls_after_least : Least → ℕ → ℕ
stalls_after_least (least.Best xs ys) n = n
stalls_after_least (least.Prices ys) n = n
stalls_after_least least.Wide n = n
stalls_after_least least.Stalled n = next_count n
