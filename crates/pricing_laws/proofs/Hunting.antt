-- The facts of a walk, by what it goes by.
use Rattle.std.proofs.Common.{◌≡◌, ◌⊎◌, ◌-◌, ℕ, ◌+◌, ◌*◌, ◌/◌, ◌^◌, ◌<◌, ◌≤◌, pos, ◌+ℤ◌, ℤ, true, List, [], ◌∷◌, ◌++◌, length, get_or, refl, subst, ap, arith, append-nil}
use Rattle.std.specs.Prelude.{◌-ℤ◌, unsigned_abs}
use Rattle.std.proofs.lemmas.Nat.{mul-le}
use Rattle.std.proofs.lemmas.Int.{ints}
use Rattle.mill_model.specs.Columns.{Column, Rises, has, load}
use Rattle.pricing_laws.specs.Gains.{gains_of}
use Rattle.pricing_laws.specs.Groups.{IsApart, members}
use Rattle.pricing_laws.specs.Groupings.{weight_at, gain_at}
use Rattle.pricing_laws.specs.Parts.{left_of}
use Rattle.pricing_laws.specs.Problems.{ExceedAtMost, IsAllowed}
use Rattle.pricing_laws.proofs.Choices.{choice_apart, choice_bounded, choice_heavy, choice_step, chosen_colours, chosen_gain, chosen_inside, chosen_later, chosen_small, chosen_taken, chosen_weight, queue_inside}
use Rattle.pricing_laws.proofs.Colours.{colours_few}
use Rattle.pricing_laws.proofs.Groups.{members_rise}
use Rattle.pricing_laws.proofs.Parts.{distinct_below, has_left, length-left_of, part_nil}
use Rattle.pricing_laws.proofs.Tables.{column_within, entry_within, most_at_end, most_from_table}
use Rattle.pricing_laws.specs.Hunts.{Hunt}
use Rattle.pricing_laws.specs.Packs.{IsPack}
use Rattle.pricing_laws.specs.Hunts.{AreTakenIn, IsChoiceIn, IsChoiceWith, IsMostIn}

-- ---- the queue

pub queue_short : (h : Hunt) → length h.queue.heads ≤ 250
queue_short h = omega (
  arith,
  h.search.limits.order_count,
  distinct_below (left_of h.queue.heads (length h.queue.heads)) (length h.search.problem.mill.orders) h.queued.groups.distinct (λ x e. (h.queued.groups.sound x e).inside),
  length-left_of h.queue.heads (length h.queue.heads),
)

-- a head of the queue is an order
pub head_inside : (h : Hunt) (k : ℕ) → k < length h.queue.heads → get_or h.queue.heads k 0 < length h.search.problem.mill.orders
head_inside h k l = queue_inside h.search.problem h.search.frame.groups h.search.framed.groups h.colours h.queue.heads h.queued.groups k l

-- ---- bounds

pub most_of_none : (h : Hunt) (load : ℕ) → IsMostIn h 0 load (get_or h.search.frame.ends load (pos 0))
most_of_none h load = most_at_end h.search.problem.mill h.search.problem.prices h.search.frame.groups h.search.frame.ends load h.search.framed.ends

-- the entry of a load in the table
module _ (h : Hunt) (left load : ℕ) (le : left ≤ length h.queue.heads) (light : load < length h.search.frame.ends) where
  pub entry_inside : left * h.queue.width + load / h.queue.step < length h.queue.table
  entry_inside = omega (
    arith,
    h.queued.tabulated.size,
    entry_within (length h.queue.heads) left h.queue.width (load / h.queue.step) le (column_within (length h.search.frame.ends) h.queue.step h.queue.width load h.queued.tabulated.steps light),
  )

  pub entry_most : IsMostIn h left load (get_or h.queue.table (left * h.queue.width + load / h.queue.step) (pos 0))
  entry_most = most_from_table h.search.problem.mill h.search.problem.prices h.search.frame.groups h.queue.heads h.search.frame.ends h.queue.step h.queue.width h.queue.table left load h.search.framed.ends h.queued.tabulated.steps h.queued.tabulated.table light entry_inside

  pub entry_small : unsigned_abs (get_or h.queue.table (left * h.queue.width + load / h.queue.step) (pos 0)) ≤ 2 ^ 109
  entry_small =
      let narrow : (length h.queue.heads + 1) * h.queue.width ≤ 251 * 10001 = mul-le (length h.queue.heads + 1) h.queue.width 251 10001 (omega (arith, queue_short h)) (omega (arith, h.queued.tabulated.steps.narrow, h.search.framed.ends.narrow)) in
      omega (arith, h.queued.tabulated.table.small (left * h.queue.width + load / h.queue.step) entry_inside, entry_inside, narrow, h.queued.tabulated.size)

-- ---- what is taken

module _ (h : Hunt) (left : ℕ) (chosen : List ℕ) (weight : ℕ) (gain : ℤ) (taken : AreTakenIn h left chosen weight gain) where
  pub taken_small : unsigned_abs gain ≤ 2 ^ 92
  taken_small = chosen_small h.search.problem h.search.frame.groups h.search.framed.groups h.colours h.queue.heads h.queued.groups left chosen weight gain taken h.search.limits.order_count

  pub taken_inside : (x : ℕ) → has chosen x ≡ true → x < length h.search.problem.mill.orders
  taken_inside x e = chosen_inside h.search.problem h.search.frame.groups h.search.framed.groups h.colours h.queue.heads h.queued.groups left chosen weight gain taken [] (part_nil (left_of h.queue.heads left)) x (has_left chosen [] x e)

  -- the bound isn't above the best so far
  pub taken_bounded : (most : ℤ) → IsMostIn h left weight (most -ℤ gain) → ExceedAtMost h.search.problem most (IsChoiceIn h chosen left)
  taken_bounded most bound = choice_bounded h.search.problem h.search.frame.groups h.search.framed.groups h.colours h.queue.heads h.queued.groups left chosen weight gain taken most bound

-- the orders of the groups taken
pub taken_pack : (h : Hunt) (chosen : List ℕ) (weight : ℕ) (gain : ℤ) → AreTakenIn h 0 chosen weight gain → 0 < length (members h.search.frame.groups.heads chosen) → IsPack h.search.problem (members h.search.frame.groups.heads chosen) weight gain
taken_pack h chosen weight gain taken some = record {
  rises = subst (λ (n : ℕ). Rises 0 n (members h.search.frame.groups.heads chosen)) h.search.framed.groups.room.heads (members_rise h.search.frame.groups.heads chosen);
  some = some;
  colours = omega (arith, h.queued.few, colours_few h.search.problem.mill h.colours (members h.search.frame.groups.heads chosen) (chosen_colours h.search.problem h.search.frame.groups h.search.framed.groups h.colours h.queue.heads h.queued.groups 0 chosen weight gain taken));
  load_is = omega (arith, ap (λ xs. load h.search.problem.mill (members h.search.frame.groups.heads xs)) (append-nil chosen), chosen_weight h.search.problem h.search.frame.groups h.search.framed.groups h.colours h.queue.heads h.queued.groups 0 chosen weight gain taken [] refl);
  gain_is = omega (arith, ints, ap (λ xs. gains_of h.search.problem.mill h.search.problem.prices (members h.search.frame.groups.heads xs)) (append-nil chosen), chosen_gain h.search.problem h.search.frame.groups h.search.framed.groups h.colours h.queue.heads h.queued.groups 0 chosen weight gain taken [] refl);
  small = taken_small h 0 chosen weight gain taken;
}

-- ---- the next group

module _ (h : Hunt) (left : ℕ) (chosen : List ℕ) (weight : ℕ) (gain : ℤ) (taken : AreTakenIn h (left + 1) chosen weight gain) where
  pub next_heavy : (most : ℤ) → length h.search.frame.ends ≤ weight + weight_at h.search.frame.groups (get_or h.queue.heads left 0) → ExceedAtMost h.search.problem most (IsChoiceIn h (chosen ++ get_or h.queue.heads left 0 ∷ []) left)
  next_heavy most heavy = choice_heavy h.search.problem h.search.frame.groups h.search.framed.groups h.colours h.queue.heads h.queued.groups left chosen weight gain taken most h.search.frame.ends h.search.framed.ends heavy

  pub next_apart : (most : ℤ) → IsApart h.search.problem.decisions chosen (get_or h.queue.heads left 0) → ExceedAtMost h.search.problem most (IsChoiceIn h (chosen ++ get_or h.queue.heads left 0 ∷ []) left)
  next_apart most apart = choice_apart h.search.problem h.search.frame.groups h.search.framed.groups h.colours h.queue.heads h.queued.groups left chosen weight gain taken most apart

  -- a choice is one with the next group or one without it
  pub next_taken : AreTakenIn h left (chosen ++ get_or h.queue.heads left 0 ∷ []) (weight + weight_at h.search.frame.groups (get_or h.queue.heads left 0)) (gain +ℤ gain_at h.search.frame.groups (get_or h.queue.heads left 0))
  next_taken = chosen_taken h.search.frame.groups h.queue.heads left chosen weight gain taken

  pub next_left : AreTakenIn h left chosen weight gain
  next_left = chosen_later h.search.frame.groups h.queue.heads left chosen weight gain taken

-- a choice is one with the next group, or one without it
pub next_choice : (h : Hunt) (chosen : List ℕ) (left : ℕ) → (left ≡ 0 → ⊥) → (c : Column) → IsAllowed h.search.problem c → IsChoiceIn h chosen left c → IsChoiceWith h chosen (left - 1) c ⊎ IsChoiceIn h chosen (left - 1) c
next_choice h chosen left some c allowed choice =
    let next : left ≡ left - 1 + 1 = omega (arith, some) in
    choice_step h.search.frame.groups.heads h.queue.heads chosen (left - 1) c (subst (λ (k : ℕ). IsChoiceIn h chosen k c) next choice)
