-- What a path keeps for the test of a leaf.
use Rattle.std.specs.Prelude.{◌≡◌, ℕ, ◌*◌, ◌≤◌, List, length, Option, option_map}
use Rattle.mill_model.specs.Mill.{most_orders, most_slabs}
use Rattle.mill_model.specs.declared.kind.Kind.{Kind}
use Rattle.mill_model.specs.Prices.{Prices}
use Rattle.pricing_laws.specs.Groupings.{HasRoom}
use Rattle.price_check.specs.declared.frame.Frame.{Frame}
use Rattle.price_check.specs.declared.workspace.Workspace.{Workspace}
use Rattle.price_check.specs.Path.{Path, Trail}

-- a path by its decisions, and the slab and the orders of the column that was found
abbrev pub seen_path : Trail → Option Kind → List ℕ → Path
seen_path trail bad orders = record { orders = trail.orders; slabs = trail.slabs; decisions = trail.decisions; bad = option_map (λ (kind : Kind). record { kind = kind; orders = orders }) bad }

-- there is room for so many orders in groups, and a mark for each two
pub record HasFrameRoom (orders : ℕ) (f : Frame) : Type 0 where
  pub groups : HasRoom orders f.groups
  pub apart : length f.apart.items ≡ orders * orders

abbrev pub HasSpace : ℕ → Workspace → Type 0
HasSpace orders w = HasFrameRoom orders w.frame

-- there is room for the prices, and for the search of a column that exceeds
pub record IsReady (trail : Trail) (quote : Prices) (space : Workspace) : Type 0 where
  pub few_orders : trail.orders ≤ most_orders
  pub few_slabs : trail.slabs ≤ most_slabs
  pub pi_length : length quote.pi ≡ trail.orders
  pub sigma_length : length quote.sigma ≡ trail.slabs
  pub workspace : HasSpace trail.orders space
