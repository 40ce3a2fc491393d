-- What stands through a search, whichever columns it looks for.
use Rattle.std.specs.Prelude.{◌≡◌, ℕ, ◌+◌, ◌^◌, ◌<◌, ◌≤◌, ℤ, unsigned_abs, List, length, slice_index, cond, eqb}
use Rattle.mill_model.specs.Prices.{most_price}
use Rattle.mill_model.specs.Mill.{Mill}
use Rattle.pricing_laws.specs.Bounds.{AreEnds}
use Rattle.pricing_laws.specs.Chains.{AreChains, Chains}
use Rattle.pricing_laws.specs.Colours.{colour_at}
use Rattle.pricing_laws.specs.Groups.{head_of}
use Rattle.pricing_laws.specs.Groupings.{Groups, AreGroups}
use Rattle.pricing_laws.specs.Problems.{Problem}
use Rattle.pricing_laws.specs.Worths.{AreWorths, IsFloor, IsRanking}

-- the groups, the heads by their colours and the orders by their heads, what slabs cost by their load, what the groups of a colour are worth, the colours ranked, and the least charge
pub record Frame : Type 0 where
  pub groups : Groups
  pub by_colour : Chains
  pub by_head : Chains
  pub ends : List ℤ
  pub worths : List ℤ
  pub ranking : List ℕ
  pub floor : ℤ

-- the colour of a head, and 0 for another order
abbrev pub colour_key : Mill → List ℕ → ℕ → ℕ
colour_key m heads o = cond (eqb (head_of heads o) o) (colour_at m o) 0

-- for each order its colour key
abbrev pub AreColourKeys : Mill → List ℕ → List ℕ → Type 0
AreColourKeys m heads keys = (o : ℕ) → o < length heads → slice_index keys o ≡ colour_key m heads o

abbrev pub AreGroupsIn : Problem → Groups → Type 0
AreGroupsIn q groups = AreGroups q.mill q.decisions q.prices groups

abbrev pub AreWorthsIn : Problem → Groups → List ℤ → Type 0
AreWorthsIn q groups worths = AreWorths q.mill q.prices groups 0 worths

-- each part is right for the problem
pub record IsFrame (q : Problem) (f : Frame) : Type 0 where
  pub groups : AreGroupsIn q f.groups
  pub by_colour : AreChains (colour_key q.mill f.groups.heads) (length q.mill.orders) (q.mill.colours + 1) f.by_colour
  pub by_head : AreChains (head_of f.groups.heads) (length q.mill.orders) (length q.mill.orders) f.by_head
  pub ends : AreEnds q.mill q.prices f.ends
  pub worths : AreWorthsIn q f.groups f.worths
  pub ranking : IsRanking q.mill f.worths f.ranking
  pub floor : IsFloor q.mill q.prices f.floor
  pub small : unsigned_abs f.floor ≤ most_price
