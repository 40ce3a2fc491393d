-- What a turn and a whole solve find, of the problem that they read.
use Rattle.std.specs.Prelude.{◌≡◌, ℕ, ℤ, List}
use Rattle.slab_counter.specs.Counter.{next_count, Rose}
use Rattle.slab_master.specs.Given.{Given, columns_of}
use Rattle.slab_master.specs.Spread.{IsSpread}
use Rattle.slab_master.specs.Prices.{ArePrices}
use Rattle.slab_master.specs.Least.{IsLeast}
use Rattle.slab_master.specs.StallCounts.{StallCounts, RoseBy}
use Rattle.slab_master.specs.declared.problem.Problem.{Problem}
use Rattle.slab_master.specs.declared.problem.Aim.{Aim}
use Rattle.slab_master.specs.declared.problem.Aim.TheVariants.{Meet}
use Rattle.slab_master.specs.declared.outcome.Answer.{Answer}
use Rattle.slab_master.specs.declared.outcome.Answer.TheVariants.{Meets, Best, Refutes}
use Rattle.slab_master.specs.declared.outcome.Turn.{Turn}
use Rattle.slab_master.specs.declared.outcome.Turn.TheVariants.{Answers, TooWide, Again}
use Rattle.slab_master.specs.declared.outcome.Ended.{Ended}
use Rattle.slab_master.specs.declared.outcome.Ended.TheVariants.{Answered, LeftRange, GaveUp}

abbrev pub given_of : Problem → Given
given_of p = record { rows = p.rows.now; columns = columns_of p.columns.now }

-- an answer; multipliers alone are one where nothing more was asked
abbrev pub AnswersTo : Given → List ℤ → Aim → Answer → Type 0
AnswersTo given costs goal (Meets xs) = (goal ≡ Meet) × IsSpread given.rows given.columns xs
AnswersTo given costs goal (Best xs ys) = IsLeast given costs xs ys
AnswersTo given costs goal (Refutes ys) = ArePrices given.rows given.columns ys

abbrev pub AnswerHolds : Problem → Answer → Type 0
AnswerHolds p a = AnswersTo (given_of p) p.costs.now p.goal a

-- what a turn finds, from the count of wide fractions before and after it
abbrev pub TurnHolds : Problem → ℕ → ℕ → Turn → Type 0
TurnHolds p before now (Answers a) = AnswerHolds p a
TurnHolds p before now TooWide = Rose before now
TurnHolds p before now Again = Unit {0}

-- how a solve ends, from that count and the pivots before and after it
abbrev pub EndedAs : Given → List ℤ → Aim → ℕ → ℕ → StallCounts → StallCounts → Ended → Type 0
EndedAs given costs goal before now old new (Answered a) = AnswersTo given costs goal a
EndedAs given costs goal before now old new LeftRange = Rose before now
EndedAs given costs goal before now old new GaveUp = RoseBy 20000 old.pivots new.pivots

abbrev pub stalls_after_end : Ended → ℕ → ℕ
stalls_after_end (Answered a) n = n
stalls_after_end LeftRange n = n
stalls_after_end GaveUp n = next_count n
