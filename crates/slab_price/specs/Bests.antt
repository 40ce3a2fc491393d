-- The best column so far, and what makes it better.
use Rattle.std.specs.Prelude.{◌≡◌, ◌⊎◌, pos, ◌≤ℤ◌}
use Rattle.mill_model.specs.Columns.{Column}
use Rattle.pricing_laws.specs.Problems.{Problem, ExceedAtMost}
use Rattle.slab_price.specs.declared.best.Best.{Best}
use Rattle.slab_price.specs.Excess.{IsFound}
use Rattle.slab_price.specs.Found.{Found}
use Rattle.slab_price.specs.Tasks.{problem_of}
use Rattle.slab_price.specs.declared.task.Task.{Task}

abbrev pub as_found : Best → Found
as_found best = record { kind = best.kind; orders = best.orders.items; excess = best.excess }

-- nothing is found yet, or a column
abbrev pub IsBest : Problem → Best → Type 0
IsBest q best = (best.excess ≡ pos 0) ⊎ IsFound q.mill q.decisions q.prices (as_found best)

-- the best column stays, or gives way to a better one, and no column that is so exceeds more
pub record IsImproved (q : Problem) (old new : Best) (IsSo : Column → Type 0) : Type 0 where
  pub kept : IsBest q old → IsBest q new
  pub grows : old.excess ≤ℤ new.excess
  pub most : ExceedAtMost q new.excess IsSo

abbrev pub IsImprovedIn : Task → Best → Best → (Column → Type 0) → Type 0
IsImprovedIn t old new IsSo = IsImproved (problem_of t) old new IsSo
