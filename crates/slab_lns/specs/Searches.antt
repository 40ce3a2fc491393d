-- What a search stands for.
use Rattle.std.specs.Prelude.{◌≡◌, ◌≤◌, length}
use Rattle.mill_model.specs.Mill.{Mill, most_orders}
use Rattle.mill_model.specs.Starts.{IsStart}
use Rattle.mill_model.specs.Plans.{Plan, sums_of}
use Rattle.slab_filling.specs.Closing.{plan_of}
use Rattle.slab_lns.specs.declared.search.Search.{Search}
use Rattle.slab_lns.specs.Neighbourhoods.{slabs_of}
use Rattle.slab_lns.specs.Rounds.{Round}

abbrev pub plan_at : Mill → Search → Plan
plan_at m s = plan_of (length m.orders) s.slabs.items

-- the plan of its slabs, and the number that was drawn last
abbrev pub round_at : Mill → Search → Round
round_at m s = record { plan = plan_at m s; last = s.placing.draws.last }

-- its slabs are those of a plan that may be a start, its sums that plan's, and its table is of the mill's sizes
pub record IsSound (m : Mill) (s : Search) : Type 0 where
  pub start : IsStart m s.limit (plan_at m s)
  pub slabs : slabs_of (plan_at m s) ≡ s.slabs.items
  pub sums : s.sums ≡ sums_of m (plan_at m s)
  pub sizes : s.table ≡ m.sizes
  pub few : length s.slabs.items ≤ most_orders
