-- What a cover with whole multipliers says of each question.
use Rattle.std.specs.Prelude.{ℕ, ◌<◌, List, length}
use Rattle.mill_model.specs.declared.ask.Ask.{Ask}
use Rattle.mill_model.specs.declared.ask.Ask.TheVariants.{Pair, Put}
use Rattle.mill_model.specs.Covers.{Part, IsCover}
use Rattle.mill_model.specs.Decisions.{IsAsk}
use Rattle.slab_decide.specs.Decided.{IsBefore}
use Rattle.slab_relax.specs.PoolCovers.{parts_of}
use Rattle.slab_node.specs.declared.wholes.Wholes.{Wholes}
use Rattle.slab_node.specs.Shares.{share, IsFractional, IsWhole}

-- the columns, each with its whole multiplier
abbrev pub parts_in : Wholes → List Part
parts_in w = parts_of w.pool.now.columns w.cover.now w.times.now

-- how much of the cover answers an ask by yes
abbrev pub share_in : Wholes → Ask → ℕ
share_in w ask = share (parts_in w) ask

-- an ask of the mill that the cover answers in part
abbrev pub IsPartialIn : Wholes → Ask → Type 0
IsPartialIn w ask = IsAsk w.node.mill.now ask × IsFractional w.whole (parts_in w) ask

-- it answers no earlier ask of the mill in part
abbrev pub HasNoneBefore : Wholes → Ask → Type 0
HasNoneBefore w ask = (other : Ask) → IsAsk w.node.mill.now other → IsBefore other ask → IsFractional w.whole (parts_in w) other → ⊥

-- it answers no earlier put in part
abbrev pub HasNoPutBefore : Wholes → Ask → Type 0
HasNoPutBefore w ask = (o s : ℕ) → o < length w.node.mill.now.orders → s < length w.node.mill.now.yard → IsBefore (Put o s) ask → IsFractional w.whole (parts_in w) (Put o s) → ⊥

-- it answers no pair in part
abbrev pub HasWholePairs : Wholes → Type 0
HasWholePairs w = (i j : ℕ) → i < j → j < length w.node.mill.now.orders → IsFractional w.whole (parts_in w) (Pair i j) → ⊥

-- it answers no put in part
abbrev pub HasWholePuts : Wholes → Type 0
HasWholePuts w = (o s : ℕ) → o < length w.node.mill.now.orders → s < length w.node.mill.now.yard → IsFractional w.whole (parts_in w) (Put o s) → ⊥

-- it answers each ask of the mill by yes or by no
abbrev pub IsWholeIn : Wholes → Type 0
IsWholeIn w = IsWhole w.node.mill.now w.whole (parts_in w)

-- a cover within the node's limits by columns that agree with its decisions
abbrev pub IsCoverIn : Wholes → Type 0
IsCoverIn w = IsCover w.node.mill.now w.node.limits w.node.decisions.now.list w.whole (parts_in w)
