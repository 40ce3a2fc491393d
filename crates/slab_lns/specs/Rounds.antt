-- Rounds of large neighbourhoods: each releases the orders of two slabs and places them anew.
use Rattle.std.specs.Prelude.{◌≡◌, ◌≤◌, ℕ, zero, suc, ℤ, Bool, ◌||◌, ◌&&◌, eqb, nat_le, nat_lt, if◌then◌else◌, List, length, Option, Some, None}
use Rattle.std.specs.Option.{option_map}
use Rattle.mill_model.specs.declared.sums.Sums.{Sums}
use Rattle.mill_model.specs.Mill.{Mill}
use Rattle.mill_model.specs.Starts.{IsStart}
use Rattle.mill_model.specs.Columns.{Column}
use Rattle.mill_model.specs.Plans.{Plan, sums_of}
use Rattle.number_draws.specs.Draws.{next_draw}
use Rattle.slab_filling.specs.Closing.{plan_of_filled}
use Rattle.number_draws.specs.Draws.{among}
use Rattle.slab_lns.specs.Neighbourhoods.{slabs_of, kept, released}
use Rattle.slab_lns.specs.Options.{place_all}

-- a plan, and the number that was drawn last
pub record Round : Type 0 where
  pub plan : Plan
  pub last : ℕ

-- less loss, or as much loss and no more new slabs
abbrev pub is_no_worse : Sums → Sums → Bool
is_no_worse new old = nat_lt new.loss old.loss || (eqb new.loss old.loss && nat_le new.count old.count)

-- the same as a fact
pub record IsNoWorse (new old : Sums) : Type 0 where
  pub loss : new.loss ≤ old.loss
  pub count : new.loss ≡ old.loss → new.count ≤ old.count

-- the plan of these slabs, where there is one and it is no worse; else the old plan
abbrev pub no_worse_plan : Mill → Plan → Option (List Column) → Plan
no_worse_plan m old None = old
no_worse_plan m old (Some slabs) =
    let new = plan_of_filled m slabs in
    (if is_no_worse (sums_of m new) (sums_of m old) then new else old)

-- the orders of slabs a and b, maybe the same, are placed anew
abbrev pub renewed : Mill → Option ℤ → Plan → ℕ → ℕ → ℕ → Round
renewed m limit p a b last =
    let slabs = slabs_of p in
    let placed = place_all m limit (released m a b slabs) (kept m a b slabs) last in
    record { plan = no_worse_plan m p placed.found; last = placed.last }

-- two of so many slabs are drawn and their orders placed anew; of no slabs nothing is drawn
abbrev pub round_among : ℕ → Mill → Option ℤ → Round → Round
round_among zero m limit r = r
round_among (suc k) m limit r =
    let first = next_draw r.last in
    let second = next_draw first in
    renewed m limit r.plan (among (suc k) first) (among (suc k) second) second

abbrev pub round : Mill → Option ℤ → Round → Round
round m limit r = round_among (length r.plan.kinds) m limit r

-- so many rounds, one after another
abbrev pub after_rounds : Mill → Option ℤ → ℕ → Round → Round
after_rounds m limit zero r = r
after_rounds m limit (suc rounds) r = round m limit (after_rounds m limit rounds r)

-- the plan after so many rounds, whose numbers are those of this seed
abbrev pub plan_after_rounds : ℕ → ℕ → Mill → Option ℤ → Plan → Plan
plan_after_rounds rounds seed m limit p = (after_rounds m limit rounds (record { plan = p; last = seed })).plan

-- what is told of a starter, with so many rounds after each of its plans
abbrev pub told_after_rounds : ℕ → ℕ → Option (Mill → Option ℤ → Option Plan) → Option (Mill → Option ℤ → Option Plan)
told_after_rounds rounds seed told = option_map (λ answers m limit. option_map (plan_after_rounds rounds seed m limit) (answers m limit)) told

-- a plan that may be a start in the old one's place, and is no worse
pub record IsKeptBetter (m : Mill) (limit : Option ℤ) (old new : Plan) : Type 0 where
  pub start : IsStart m limit new
  pub better : IsNoWorse (sums_of m new) (sums_of m old)

-- a start after these rounds, and no worse than it was
pub record IsAfterRounds (m : Mill) (limit : Option ℤ) (rounds seed : ℕ) (new : Plan) : Type 0 where
  pub old : Plan
  pub start : IsStart m limit old
  pub rounds_are : new ≡ plan_after_rounds rounds seed m limit old
  pub better : IsNoWorse (sums_of m new) (sums_of m old)
