-- What a cover comes to: a question to split on, or a plan.
use Rattle.std.specs.Prelude.{ℕ, ◌<◌, List, ℤ}
use Rattle.mill_model.specs.declared.ask.Ask.{Ask}
use Rattle.mill_model.specs.Plans.{Plan}
use Rattle.slab_frac.specs.Scaled.{IsScaled, AreInRange}
use Rattle.slab_relax.specs.PoolCovers.{Parts, multipliers}
use Rattle.slab_node.specs.declared.choose.Choice.{Choice}
use Rattle.slab_node.specs.declared.choose.Choice.TheVariants.{Split, Whole}

-- a cover's multipliers, brought to whole numbers in range
pub record AreMultiples (cover : Parts) (whole : ℕ) (times : List ℤ) : Type 0 where
  pub positive : 0 < whole
  pub scaled : IsScaled whole (multipliers cover) times
  pub range : AreInRange times

abbrev pub IfSplit : Choice → (Ask → Type 0) → Type 0
IfSplit (Split ask) P = P ask
IfSplit (Whole plan) P = Unit {0}

abbrev pub IfWhole : Choice → (Plan → Type 0) → Type 0
IfWhole (Split ask) P = Unit {0}
IfWhole (Whole plan) P = P plan
