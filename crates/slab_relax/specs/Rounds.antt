-- What a round of the relaxation answers, and the relaxation itself.
use Rattle.std.specs.Prelude.{◌≡◌, ◌+◌, length}
use Rattle.mill_model.specs.Prices.{Prices, Refutes}
use Rattle.slab_master.specs.Given.{Given}
use Rattle.slab_master.specs.Spread.{IsSpread}
use Rattle.slab_columns.specs.Pool.{Pool}
use Rattle.slab_relax.specs.declared.node.Node.{Node}
use Rattle.slab_relax.specs.declared.tally.Tally.{Tally}
use Rattle.slab_relax.specs.declared.relaxed.Relaxed.{Relaxed}
use Rattle.slab_relax.specs.declared.relaxed.Relaxed.TheVariants.{Refuted, Covered, Counted}
use Rattle.slab_relax.specs.declared.round.Round.{Round}
use Rattle.slab_relax.specs.declared.round.Round.TheVariants.{Refuted as RoundRefuted, Met, Grew, Counted as RoundCounted}
use Rattle.slab_relax.specs.PoolCovers.{Parts}
use Rattle.slab_relax.specs.Tallies.{HasCause}

-- what a round answers, with the master after it
abbrev pub RoundHolds : Node → Given → Pool → Pool → Tally → Tally → Round → Type 0
RoundHolds node given before now old new (RoundRefuted p) = Refutes node.mill.now node.limits node.decisions.now.list p
RoundHolds node given before now old new (Met xs) = IsSpread given.rows given.columns xs
RoundHolds node given before now old new Grew = length now.columns ≡ length before.columns + 1
RoundHolds node given before now old new RoundCounted = HasCause old new

-- ---- which answer the relaxation gives

abbrev pub IfRefuted : Relaxed → (Prices → Type 0) → Type 0
IfRefuted (Refuted p) P = P p
IfRefuted (Covered cover) P = Unit {0}
IfRefuted Counted P = Unit {0}

abbrev pub IfCovered : Relaxed → (Parts → Type 0) → Type 0
IfCovered (Refuted p) P = Unit {0}
IfCovered (Covered cover) P = P cover
IfCovered Counted P = Unit {0}

abbrev pub OnCounted : Relaxed → Type 0 → Type 0
OnCounted (Refuted p) P = Unit {0}
OnCounted (Covered cover) P = Unit {0}
OnCounted Counted P = P

-- it's a cover
abbrev pub IsCovered : Relaxed → Type 0
IsCovered (Refuted p) = ⊥
IsCovered (Covered cover) = Unit {0}
IsCovered Counted = ⊥
