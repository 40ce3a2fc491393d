-- A mark for each question says whether it stands on a path.
use Rattle.std.specs.Prelude.{◌≡◌, ℕ, ◌+◌, ◌*◌, ◌≤◌, Bool, true, false, List, [], ◌∷◌, length, slice_index_or, slice_set}
use Rattle.mill_model.specs.Mill.{most_orders, most_slabs}
use Rattle.mill_model.specs.declared.ask.Ask.{Ask}
use Rattle.mill_model.specs.declared.ask.Ask.TheVariants.{Pair, Put}
use Rattle.mill_model.specs.Decisions.{Decision}
use Rattle.mill_model.specs.Decisions.{IsAskAmong}
use Rattle.mill_model.specs.Trees.{pair_count, asks_among}

-- the place of a question's mark: pairs by their greater order, then the orders with each surplus slab
abbrev pub place_of : ℕ → ℕ → Ask → ℕ
place_of orders slabs (Pair i j) = pair_count j + i
place_of orders slabs (Put o s) = pair_count orders + (o * slabs + s)

-- the questions of these decisions are distinct, and they alone are marked
abbrev pub AreMarked : ℕ → ℕ → List Decision → List Bool → Type 0
AreMarked orders slabs [] marks = (k : ℕ) → slice_index_or marks k false ≡ false
AreMarked orders slabs (d ∷ decisions) marks =
    IsAskAmong orders slabs d.0 × (slice_index_or marks (place_of orders slabs d.0) false ≡ true) × AreMarked orders slabs decisions (slice_set marks (place_of orders slabs d.0) false)

-- there is a mark for each question, and room for each decision
pub record IsMarkedTrail (orders slabs : ℕ) (decisions : List Decision) (marks : List Bool) (capacity : ℕ) : Type 0 where
  pub few_orders : orders ≤ most_orders
  pub few_slabs : slabs ≤ most_slabs
  pub size : length marks ≡ asks_among orders slabs
  pub marked : AreMarked orders slabs decisions marks
  pub room : asks_among orders slabs ≤ capacity
