-- What one node's turn is asked and what it answers.
use Rattle.std.specs.Prelude.{◌≡◌, ℕ, ◌<◌, ℤ, Bool, List, []}
use Rattle.mill_model.specs.declared.ask.Ask.{Ask}
use Rattle.mill_model.specs.declared.limits.Limits.{Limits}
use Rattle.mill_model.specs.Mill.{Mill}
use Rattle.mill_model.specs.Columns.{Column}
use Rattle.mill_model.specs.Plans.{Plan, IsLegal, IsInOrder, sums_of}
use Rattle.mill_model.specs.Limits.{IsWithin}
use Rattle.mill_model.specs.Prices.{Prices, Refutes}
use Rattle.mill_model.specs.Covers.{Part, IsCover}
use Rattle.mill_model.specs.Decisions.{Decision, IsAsk, PlanAgrees}
use Rattle.mill_model.specs.Assignments.{Follows}
use Rattle.slab_columns.specs.Pool.{Pool}
use Rattle.slab_decide.specs.Decided.{Decisions, IsBefore}
use Rattle.slab_frac.specs.Scaled.{IsScaled}
use Rattle.slab_relax.specs.declared.tally.Tally.{Tally}
use Rattle.slab_relax.specs.Nodes.{BelongTogether}
use Rattle.slab_relax.specs.Tallies.{HasCause}
use Rattle.slab_relax.specs.PoolCovers.{Parts, multipliers, parts_of}
use Rattle.slab_node.specs.Shares.{IsFractional}
use Rattle.slab_node.specs.declared.turned.Turned.{Turned}
use Rattle.slab_node.specs.declared.turned.Turned.TheVariants.{Refuted, InBox, Spread, Bare}

-- the table, the decisions and the pool are those of one mill, and each limit that stands is at most 2 ^ 40 in absolute value
pub record IsNode (m : Mill) (listed : List ℕ) (decisions : Decisions) (limits : Limits) (columns : Pool) : Type 0 where
  pub together : BelongTogether m listed decisions limits
  pub pool : columns.mill ≡ m

-- a pool of more columns is emptied before a relaxation
abbrev pub most_columns : ℕ
most_columns = 4096

abbrev pub emptied : Pool → Pool
emptied pool = record pool { columns = [] }

-- ---- what an answer carries

-- a legal plan in order, within the limits, that agrees with the decisions
pub record IsInBox (m : Mill) (limits : Limits) (decisions : List Decision) (p : Plan) : Type 0 where
  pub legal : IsLegal m p
  pub order : IsInOrder p
  pub within : IsWithin (sums_of m p) limits
  pub agrees : PlanAgrees decisions p

-- neither answer follows
abbrev pub IsUndecided : List Decision → Ask → Type 0
IsUndecided decisions ask = (b : Bool) → Follows decisions ask b → ⊥

-- a question of the mill that doesn't follow from the decisions
pub record IsOpenAsk (m : Mill) (decisions : List Decision) (ask : Ask) : Type 0 where
  pub asked : IsAsk m ask
  pub undecided : IsUndecided decisions ask

-- some cover is within the limits by columns that agree, so no prices refute them
pub record HasCover (m : Mill) (limits : Limits) (decisions : List Decision) : Type 0 where
  pub denominator : ℕ
  pub parts : List Part
  pub covers : IsCover m limits decisions denominator parts

-- The first ask of the mill that a cover answers in part, its multipliers brought to whole numbers over some denominator; it's
-- the first over each.
pub record IsFirstPartial (m : Mill) (columns : List Column) (cover : Parts) (ask : Ask) : Type 0 where
  pub denominator : ℕ
  pub wholes : List ℤ
  pub positive : 0 < denominator
  pub scaled : IsScaled denominator (multipliers cover) wholes
  pub half : IsFractional denominator (parts_of columns cover wholes) ask
  pub first : (other : Ask) → IsAsk m other → IsBefore other ask → IsFractional denominator (parts_of columns cover wholes) other → ⊥

-- ---- which answer it is

abbrev pub IfRefuted : Turned → (Prices → Type 0) → Type 0
IfRefuted (Refuted p) P = P p
IfRefuted (InBox plan) P = Unit {0}
IfRefuted (Spread cover ask) P = Unit {0}
IfRefuted (Bare ask) P = Unit {0}

abbrev pub IfInBox : Turned → (Plan → Type 0) → Type 0
IfInBox (Refuted p) P = Unit {0}
IfInBox (InBox plan) P = P plan
IfInBox (Spread cover ask) P = Unit {0}
IfInBox (Bare ask) P = Unit {0}

abbrev pub IfSpread : Turned → (Parts → Type 0) → Type 0
IfSpread (Refuted p) P = Unit {0}
IfSpread (InBox plan) P = Unit {0}
IfSpread (Spread cover ask) P = P cover
IfSpread (Bare ask) P = Unit {0}

-- what holds of a cover and the ask that it comes with
abbrev pub IfSplits : Turned → (Parts → Ask → Type 0) → Type 0
IfSplits (Refuted p) P = Unit {0}
IfSplits (InBox plan) P = Unit {0}
IfSplits (Spread cover ask) P = P cover ask
IfSplits (Bare ask) P = Unit {0}

abbrev pub IfBare : Turned → (Ask → Type 0) → Type 0
IfBare (Refuted p) P = Unit {0}
IfBare (InBox plan) P = Unit {0}
IfBare (Spread cover ask) P = Unit {0}
IfBare (Bare ask) P = P ask

-- what holds of the question that a cover or a bare node names
abbrev pub IfAsks : Turned → (Ask → Type 0) → Type 0
IfAsks (Refuted p) P = Unit {0}
IfAsks (InBox plan) P = Unit {0}
IfAsks (Spread cover ask) P = P ask
IfAsks (Bare ask) P = P ask

abbrev pub IsRefuted : Turned → Type 0
IsRefuted (Refuted p) = Unit {0}
IsRefuted (InBox plan) = ⊥
IsRefuted (Spread cover ask) = ⊥
IsRefuted (Bare ask) = ⊥

-- the node is closed: nothing is left to ask
abbrev pub IsClosed : Turned → Type 0
IsClosed (Refuted p) = Unit {0}
IsClosed (InBox plan) = Unit {0}
IsClosed (Spread cover ask) = ⊥
IsClosed (Bare ask) = ⊥

-- what a turn's answer shows of its node, whatever the pool
abbrev pub IsTurn : Mill → Limits → List Decision → Tally → Tally → Turned → Type 0
IsTurn m limits decisions old new (Refuted p) = Refutes m limits decisions p
IsTurn m limits decisions old new (InBox plan) = IsInBox m limits decisions plan
IsTurn m limits decisions old new (Spread cover ask) = HasCover m limits decisions × IsOpenAsk m decisions ask
IsTurn m limits decisions old new (Bare ask) = HasCause old new × IsOpenAsk m decisions ask
