-- Groups that are weighed and priced, order by order.
use Rattle.std.proofs.Common.{true, ◌≡◌, ℕ, ◌+◌, ◌*◌, ◌^◌, ◌<◌, ◌≤◌, ℤ, pos, ◌+ℤ◌, List, [], ◌∷◌, length, get_or, set, sym, ap, ◌∙◌, subst, inl, inr, arith, get_or-set_same, get_or-set_other}
use Rattle.std.specs.Prelude.{unsigned_abs}
use Rattle.std.proofs.lemmas.Bool.{cases_eq}
use Rattle.std.proofs.lemmas.Int.{ints}
use Rattle.mill_model.specs.Mill.{Mill}
use Rattle.mill_model.specs.Prices.{Prices}
use Rattle.std.specs.List.{sum_by}
use Rattle.mill_model.specs.SignedSums.{total_by}
use Rattle.mill_model.specs.Columns.{order_at, load, has}
use Rattle.mill_model.specs.Decisions.{Decision}
use Rattle.pricing_laws.specs.Parts.{AreDistinct}
use Rattle.pricing_laws.specs.Groups.{AreHeads, members}
use Rattle.pricing_laws.specs.Gains.{gain_of, gains_of}
use Rattle.pricing_laws.specs.Groupings.{Groups, AreBefore, AreWeights, AreGains, AreGroups, weight_at, gain_at}
use Rattle.pricing_laws.proofs.Groups.{total-members, sum-members, total_alike, sum_alike, AreSums, AreTotals, sums_more, totals_more, sums_all, totals_all}

pub groups_from : (m : Mill) (decisions : List Decision) (p : Prices) (g : Groups) → length g.heads ≡ length m.orders → AreHeads decisions g.heads → AreWeights m g.heads g.weights → AreGains m p g.heads g.gains → AreGroups m decisions p g
groups_from m decisions p g size heads weights gains = record {
  room = record { heads = size; weights = weights.size ∙ size; gains = gains.size ∙ size };
  heads = heads;
  weights = weights;
  gains = gains;
}

module _ (m : Mill) (decisions : List Decision) (p : Prices) (g : Groups) (groups : AreGroups m decisions p g) where
  -- what some groups weigh and gain together
  pub group_weights : (taken : List ℕ) → AreDistinct taken → ((h : ℕ) → has taken h ≡ true → h < length m.orders) → load m (members g.heads taken) ≡ sum_by (weight_at g) taken
  group_weights taken d inside =
      sum-members (λ o. (order_at m o).weight) g.heads taken d
      ∙ sum_alike (λ h. h < length m.orders) (λ h. load m (members g.heads (h ∷ []))) (weight_at g) taken inside (λ h l. sym (groups.weights.weight h (omega (arith, l, groups.room.heads))))

  pub group_gains : (taken : List ℕ) → AreDistinct taken → ((h : ℕ) → has taken h ≡ true → h < length m.orders) → gains_of m p (members g.heads taken) ≡ total_by (gain_at g) taken
  group_gains taken d inside =
      total-members (gain_of m p) g.heads taken d
      ∙ total_alike (λ h. h < length m.orders) (λ h. gains_of m p (members g.heads (h ∷ []))) (gain_at g) taken inside (λ h l. sym (groups.gains.gain h (omega (arith, l, groups.room.heads))))

  pub group_light : (head : ℕ) → head < length m.orders → weight_at g head ≤ 250 * 10000
  group_light head l = groups.weights.light head (omega (arith, l, groups.room.heads))

  pub group_small : (head : ℕ) → head < length m.orders → unsigned_abs (gain_at g head) ≤ 250 * 2 ^ 76
  group_small head l = groups.gains.small head (omega (arith, l, groups.room.heads))

-- the same where the lists were handed over
pub groups_at : (m : Mill) (decisions : List Decision) (p : Prices) (g : Groups) (heads weights : List ℕ) (gains : List ℤ) → g.heads ≡ heads → g.weights ≡ weights → g.gains ≡ gains → length heads ≡ length m.orders
    → AreHeads decisions heads → AreWeights m heads weights → AreGains m p heads gains → AreGroups m decisions p g
groups_at m decisions p g heads weights gains d e f size are weighed priced =
    groups_from m decisions p g (ap length d ∙ size) (subst (AreHeads decisions) (sym d) are)
    (subst (λ (ws : List ℕ). AreWeights m g.heads ws) (sym e) (subst (λ (hs : List ℕ). AreWeights m hs weights) (sym d) weighed))
    (subst (λ (gs : List ℤ). AreGains m p g.heads gs) (sym f) (subst (λ (hs : List ℕ). AreGains m p hs gains) (sym d) priced))

-- one order more on a group
pub light_more : (weights : List ℕ) (o head weight : ℕ) → head < length weights → weight ≤ 10000 → ((h : ℕ) → get_or weights h 0 ≤ o * 10000) → (h : ℕ) → get_or (set weights head (get_or weights head 0 + weight)) h 0 ≤ (o + 1) * 10000
light_more weights o head weight inside w light h = elim (cases_eq h head) [
  | inl e ↦ let same : get_or (set weights head (get_or weights head 0 + weight)) h 0 ≡ get_or weights head 0 + weight = ap (λ z. get_or (set weights head (get_or weights head 0 + weight)) z 0) e ∙ get_or-set_same weights head (get_or weights head 0 + weight) 0 inside in omega (arith, same, light head)
  | inr ne ↦ omega (arith, get_or-set_other weights head h (get_or weights head 0 + weight) 0 ne, light h)
]

pub weighed_more : (m : Mill) (heads weights : List ℕ) (o head weight : ℕ) → AreBefore heads → o < length heads → head ≡ get_or heads o 0 → weight ≡ (order_at m o).weight → AreSums (λ i. (order_at m i).weight) heads o weights
    → AreSums (λ i. (order_at m i).weight) heads (o + 1) (set weights head (get_or weights head 0 + weight))
weighed_more m heads weights o head weight before h e f sums = rw (e, f) (sums_more (λ i. (order_at m i).weight) heads o weights h (omega (arith, before o h)) sums)

pub priced_more : (m : Mill) (p : Prices) (heads : List ℕ) (gains : List ℤ) (o head : ℕ) (gain : ℤ) → AreBefore heads → o < length heads → head ≡ get_or heads o 0 → gain ≡ gain_of m p o → AreTotals (gain_of m p) heads o gains
    → AreTotals (gain_of m p) heads (o + 1) (set gains head (get_or gains head (pos 0) +ℤ gain))
priced_more m p heads gains o head gain before h e f totals =
    subst (λ (z : ℤ). AreTotals (gain_of m p) heads (o + 1) (set gains head (get_or gains head (pos 0) +ℤ z))) (sym f)
    (subst (λ k. AreTotals (gain_of m p) heads (o + 1) (set gains k (get_or gains k (pos 0) +ℤ gain_of m p o))) (sym e) (totals_more (gain_of m p) heads o gains h (omega (arith, before o h)) totals))

pub small_more : (gains : List ℤ) (o head : ℕ) (gain : ℤ) → head < length gains → unsigned_abs gain ≤ 2 ^ 76 → ((h : ℕ) → unsigned_abs (get_or gains h (pos 0)) ≤ o * 2 ^ 76)
    → (h : ℕ) → unsigned_abs (get_or (set gains head (get_or gains head (pos 0) +ℤ gain)) h (pos 0)) ≤ (o + 1) * 2 ^ 76
small_more gains o head gain inside w small h = elim (cases_eq h head) [
  | inl e ↦ let same : get_or (set gains head (get_or gains head (pos 0) +ℤ gain)) h (pos 0) ≡ get_or gains head (pos 0) +ℤ gain = ap (λ z. get_or (set gains head (get_or gains head (pos 0) +ℤ gain)) z (pos 0)) e ∙ get_or-set_same gains head (get_or gains head (pos 0) +ℤ gain) (pos 0) inside in rw same (omega (arith, ints, small head))
  | inr ne ↦ rw (get_or-set_other gains head h (get_or gains head (pos 0) +ℤ gain) (pos 0) ne) (omega (arith, small h))
]

pub weights_done : (m : Mill) (heads weights : List ℕ) → length heads ≤ 250 → AreSums (λ o. (order_at m o).weight) heads (length heads) weights → ((head : ℕ) → get_or weights head 0 ≤ length heads * 10000) → AreWeights m heads weights
weights_done m heads weights few sums light = record {
  size = sums.size;
  weight = sums_all (λ o. (order_at m o).weight) heads weights sums;
  light = λ head h. omega (arith, light head, few);
}

pub gains_done : (m : Mill) (p : Prices) (heads : List ℕ) (gains : List ℤ) → length heads ≤ 250 → AreTotals (gain_of m p) heads (length heads) gains → ((head : ℕ) → unsigned_abs (get_or gains head (pos 0)) ≤ length heads * 2 ^ 76) → AreGains m p heads gains
gains_done m p heads gains few totals small = record {
  size = totals.size;
  gain = totals_all (gain_of m p) heads gains totals;
  small = λ head h. omega (arith, small head, few);
}
