-- One step of each loop that the two searches have in common, as it was computed: each search proves its own code by these laws.
use Rattle.std.proofs.Common.{◌≡◌, ◌⊎◌, ℕ, ◌+◌, ◌-◌, ◌*◌, ◌/◌, ◌^◌, ◌<◌, ◌≤◌, pos, ◌+ℤ◌, ◌≤ℤ◌, ℤ, true, false, cond, List, [], ◌∷◌, ◌++◌, length, get_or, set, take, sym, subst, ap, ◌∙◌, arith, append-nil, to_z, of_z}
use Rattle.std.specs.Prelude.{unsigned_abs}
use Rattle.std.specs.Int.{w128, int_max}
use Rattle.std.proofs.lemmas.Bool.{cond-true, cond-false}
use Rattle.std.proofs.lemmas.Int.{ints, int_max_is}
use Rattle.std.proofs.lemmas.Nat.{mul-le}
use Rattle.std.proofs.lemmas.List.{length_push, get_or_default}
use Rattle.mill_model.specs.Mill.{Mill, IsInLimits}
use Rattle.mill_model.specs.Prices.{Prices}
use Rattle.mill_model.specs.Columns.{has, order_at}
use Rattle.pricing_laws.specs.Bounds.{AreSmall, IsTable}
use Rattle.pricing_laws.specs.Gains.{gain_of}
use Rattle.pricing_laws.specs.Grids.{IsGrid}
use Rattle.pricing_laws.specs.Groups.{members}
use Rattle.pricing_laws.specs.Groupings.{Groups, AreBefore, AreWeights, AreGains, weight_at, gain_at}
use Rattle.pricing_laws.specs.Hunts.{Hunt, IsMostIn}
use Rattle.pricing_laws.specs.Parts.{left_of}
use Rattle.pricing_laws.specs.Searches.{Search}
use Rattle.pricing_laws.specs.Worths.{worth_of}
use Rattle.pricing_laws.proofs.Groups.{AreSums, AreTotals, members_take}
use Rattle.pricing_laws.proofs.Groupings.{light_more, weighed_more, weights_done, small_more, priced_more, gains_done}
use Rattle.pricing_laws.proofs.Hunting.{entry_inside, entry_most, entry_small, most_of_none}
use Rattle.pricing_laws.proofs.Numbers.{entry_back, max_small}
use Rattle.pricing_laws.proofs.Products.{entry_small as entry_bounded}
use Rattle.pricing_laws.proofs.Ranks.{rank_inside, worth_small}
use Rattle.pricing_laws.proofs.Tables.{first_more, table_more}
use Rattle.pricing_laws.proofs.Worths.{top_of}

-- ---- a table

module _ (g : Groups) (ends : List ℤ) (heads : List ℕ) (step width : ℕ) (grid : IsGrid g ends heads step width) (table more : List ℤ) (t : IsTable g heads ends step width table) where
  -- an entry of the first row
  pub first_pushed : (column : ℕ) → column < width → length table ≡ column → more ≡ table ++ to_z w128 (of_z w128 (get_or ends (column * step) (pos 0))) ∷ []
      → (length more ≡ column + 1) × IsTable g heads ends step width more
  first_pushed column inside size pushed =
      let small : unsigned_abs (get_or ends (column * step) (pos 0)) ≤ 2 ^ 100 = grid.small (column * step) (grid.steps.within column inside) in
      let back : to_z w128 (of_z w128 (get_or ends (column * step) (pos 0))) ≡ get_or ends (column * step) (pos 0) = omega (arith, ints, small) in
      let exact : more ≡ table ++ get_or ends (column * step) (pos 0) ∷ [] = pushed ∙ ap (λ (z : ℤ). table ++ z ∷ []) back in (
        omega (arith, ap (λ (xs : List ℤ). length xs) exact, length_push table (get_or ends (column * step) (pos 0)), size),
        subst (λ (xs : List ℤ). IsTable g heads ends step width xs) (sym exact) (first_more g heads ends step width table column inside size small t),
      )

  -- an entry of a later row, from the row before
  pub row_pushed : (at column weight : ℕ) (gain next : ℤ) (before : List ℤ) → at < length heads → column < width → length table ≡ (at + 1) * width + column
      → before ≡ table → weight ≡ weight_at g (get_or heads at 0) → gain ≡ gain_at g (get_or heads at 0)
      → get_or before (at * width + column) (pos 0) ≤ℤ next
      → (column + weight / step < width → (to_z w128 (of_z w128 gain) +ℤ get_or before (at * width + (column + weight / step)) (pos 0)) ≤ℤ next)
      → unsigned_abs next ≤ 2 ^ 100 + (at * width + width) * 2 ^ 84
      → more ≡ table ++ to_z w128 (of_z w128 next) ∷ []
      → (length more ≡ (at + 1) * width + (column + 1)) × IsTable g heads ends step width more
  row_pushed at column weight gain next before lt inside size same weight_is gain_is without with small pushed =
      let head = get_or heads at 0 in
      let short : (at + 1) * width ≤ 250 * 10001 = mul-le (at + 1) width 250 10001 (omega (arith, lt, grid.few)) (omega (arith, grid.steps.narrow, grid.narrow)) in
      let back : to_z w128 (of_z w128 next) ≡ next = omega (arith, ints, small, short) in
      let exact : more ≡ table ++ next ∷ [] = pushed ∙ ap (λ (z : ℤ). table ++ z ∷ []) back in
      let gain_small : unsigned_abs (gain_at g head) ≤ 2 ^ 84 = grid.weighed.small head (grid.weighed.gains at lt) in
      let gain_back : to_z w128 (of_z w128 gain) ≡ gain_at g head = omega (arith, ints, gain_is, gain_small) in
      let above : get_or table (at * width + column) (pos 0) ≤ℤ next = subst (λ (xs : List ℤ). get_or xs (at * width + column) (pos 0) ≤ℤ next) same without in
      let jumped : column + weight_at g head / step < width → (gain_at g head +ℤ get_or table (at * width + (column + weight_at g head / step)) (pos 0)) ≤ℤ next =
      subst (λ (xs : List ℤ). column + weight_at g head / step < width → (gain_at g head +ℤ get_or xs (at * width + (column + weight_at g head / step)) (pos 0)) ≤ℤ next) same
      (subst (λ (z : ℤ). column + weight_at g head / step < width → (z +ℤ get_or before (at * width + (column + weight_at g head / step)) (pos 0)) ≤ℤ next) gain_back
      (subst (λ (w : ℕ). column + w / step < width → (to_z w128 (of_z w128 gain) +ℤ get_or before (at * width + (column + w / step)) (pos 0)) ≤ℤ next) weight_is with)) in (
        omega (arith, ap (λ (xs : List ℤ). length xs) exact, length_push table next, size),
        subst (λ (xs : List ℤ). IsTable g heads ends step width xs) (sym exact) (table_more g heads ends step width table at column next grid.steps inside size above jumped small t),
      )

-- the greater of an entry and of the gain beside another one
module _ (table : List ℤ) (row width column jump : ℕ) (gain : ℤ) (few : row + width ≤ length table) (inside : column < width) (within : column + jump < width) (narrow : length table ≤ 2 ^ 24) (little : unsigned_abs gain ≤ 2 ^ 84) (small : AreSmall table)
    (z : ℤ) (greater : z ≡ int_max (to_z w128 (of_z w128 (get_or table (row + column) (pos 0)))) (to_z w128 (of_z w128 (to_z w128 (of_z w128 gain) +ℤ to_z w128 (of_z w128 (get_or table (row + (column + jump)) (pos 0))))))) where
  pub greater_with : (gain +ℤ get_or table (row + (column + jump)) (pos 0)) ≤ℤ to_z w128 (of_z w128 z)
  greater_with =
      let without = to_z w128 (of_z w128 (get_or table (row + column) (pos 0))) in
      let with = to_z w128 (of_z w128 (to_z w128 (of_z w128 gain) +ℤ to_z w128 (of_z w128 (get_or table (row + (column + jump)) (pos 0))))) in
      let here : unsigned_abs (get_or table (row + (column + jump)) (pos 0)) ≤ 2 ^ 109 = entry_bounded table (row + (column + jump)) small narrow (omega (arith, within, few)) in
      let before : unsigned_abs (get_or table (row + column) (pos 0)) ≤ 2 ^ 109 = entry_bounded table (row + column) small narrow (omega (arith, inside, few)) in
      let bounded : unsigned_abs z ≤ 2 ^ 110 = max_small (2 ^ 110) without with z greater (omega (arith, ints, before)) (omega (arith, ints, here, little)) in
      omega (arith, ints, greater, int_max_is without with, bounded, here, little)

  pub greater_small : unsigned_abs (to_z w128 (of_z w128 z)) ≤ 2 ^ 100 + (row + width) * 2 ^ 84
  greater_small =
      let without = to_z w128 (of_z w128 (get_or table (row + column) (pos 0))) in
      let with = to_z w128 (of_z w128 (to_z w128 (of_z w128 gain) +ℤ to_z w128 (of_z w128 (get_or table (row + (column + jump)) (pos 0))))) in
      let here : unsigned_abs (get_or table (row + (column + jump)) (pos 0)) ≤ 2 ^ 100 + (row + (column + jump)) * 2 ^ 84 = small (row + (column + jump)) (omega (arith, within, few)) in
      let before : unsigned_abs (get_or table (row + column) (pos 0)) ≤ 2 ^ 100 + (row + column) * 2 ^ 84 = small (row + column) (omega (arith, inside, few)) in
      let bounded : unsigned_abs z ≤ 2 ^ 100 + (row + width) * 2 ^ 84 =
      max_small (2 ^ 100 + (row + width) * 2 ^ 84) without with z greater (omega (arith, ints, before, inside, few, narrow)) (omega (arith, ints, here, little, within, few, narrow)) in
      omega (arith, ints, bounded, few, narrow)

-- ---- a bound that is looked up

-- the end of a load, where no group is left
pub end_read : (h : Hunt) (left load : ℕ) (end : ℤ) → left ≡ 0 → load < length h.search.frame.ends → end ≡ get_or h.search.frame.ends load end → IsMostIn h left load (to_z w128 (of_z w128 end))
end_read h left load end none light is =
    let ends = h.search.frame.ends in
    let value : end ≡ get_or ends load (pos 0) = is ∙ get_or_default ends load end (pos 0) light in
    let back : to_z w128 (of_z w128 end) ≡ get_or ends load (pos 0) = omega (arith, ints, value, h.search.framed.ends.small load light) in
    subst (IsMostIn h left load) (sym back) (subst (λ (k : ℕ). IsMostIn h k load (get_or ends load (pos 0))) (sym none) (most_of_none h load))

-- the entry of a load in the table
module _ (h : Hunt) (left load : ℕ) (entry : ℤ) (le : left ≤ length h.queue.heads) (light : load < length h.search.frame.ends) (is : entry ≡ get_or h.queue.table (left * h.queue.width + load / h.queue.step) entry) where
  value : entry ≡ get_or h.queue.table (left * h.queue.width + load / h.queue.step) (pos 0)
  value = is ∙ get_or_default h.queue.table (left * h.queue.width + load / h.queue.step) entry (pos 0) (entry_inside h left load le light)

  pub entry_read : IsMostIn h left load (to_z w128 (of_z w128 entry))
  entry_read =
      let back : to_z w128 (of_z w128 entry) ≡ get_or h.queue.table (left * h.queue.width + load / h.queue.step) (pos 0) = omega (arith, ints, value, entry_small h left load le light) in
      subst (IsMostIn h left load) (sym back) (entry_most h left load le light)

  pub entry_read_small : unsigned_abs (to_z w128 (of_z w128 entry)) ≤ 2 ^ 110
  entry_read_small = omega (arith, ints, value, entry_small h left load le light)

-- the colour of a rank
module _ (s : Search) (rank at colour : ℕ) (some : rank ≡ rank - 1 + 1) (le : rank ≤ length s.frame.ranking) (read : at ≡ get_or s.frame.ranking (rank - 1) at) (same : colour ≡ at) where
  ranked : rank - 1 < length s.frame.ranking
  ranked = omega (arith, some, le)

  colour_is : colour ≡ get_or s.frame.ranking (rank - 1) 0
  colour_is = same ∙ read ∙ get_or_default s.frame.ranking (rank - 1) at 0 ranked

  pub ranked_inside : colour < length s.frame.worths
  ranked_inside = omega (arith, colour_is, rank_inside s (rank - 1) ranked)

  -- what it is worth
  module _ (worth : ℤ) (is : worth ≡ get_or s.frame.worths colour worth) where
    back : to_z w128 (of_z w128 worth) ≡ worth_of s.frame.worths (get_or s.frame.ranking (rank - 1) 0)
    back =
        let value : worth ≡ worth_of s.frame.worths (get_or s.frame.ranking (rank - 1) 0) =
        is ∙ ap (λ k. get_or s.frame.worths k worth) colour_is ∙ get_or_default s.frame.worths (get_or s.frame.ranking (rank - 1) 0) worth (pos 0) (rank_inside s (rank - 1) ranked) in
        omega (arith, ints, value, worth_small s (get_or s.frame.ranking (rank - 1) 0))

    pub top_read : (x : ℕ) → has (left_of s.frame.ranking rank) x ≡ true → worth_of s.frame.worths x ≤ℤ to_z w128 (of_z w128 worth)
    top_read x e =
        let there : has (left_of s.frame.ranking (rank - 1 + 1)) x ≡ true = subst (λ (k : ℕ). has (left_of s.frame.ranking k) x ≡ true) some e in
        omega (arith, ints, back, top_of s.problem.mill s.frame.worths s.frame.ranking (rank - 1) s.framed.ranking ranked x there)

    pub top_sign : pos 0 ≤ℤ to_z w128 (of_z w128 worth)
    top_sign = omega (arith, ints, back, s.framed.worths.sign (get_or s.frame.ranking (rank - 1) 0))

    pub top_small : unsigned_abs (to_z w128 (of_z w128 worth)) ≤ 2 ^ 94
    top_small = omega (arith, ints, back, worth_small s (get_or s.frame.ranking (rank - 1) 0))

-- ---- groups, order by order

-- what the first so many orders weigh, on their groups
pub record AreWeighedTo (m : Mill) (heads : List ℕ) (o : ℕ) (weights : List ℕ) : Type 0 where
  pub sums : AreSums (λ i. (order_at m i).weight) heads o weights
  pub light : (head : ℕ) → get_or weights head 0 ≤ o * 10000

pub weighed_step : (m : Mill) (heads weights : List ℕ) (o head weight : ℕ) → IsInLimits m → length heads ≡ length m.orders → AreBefore heads → o < length heads → head ≡ get_or heads o 0 → weight ≡ (order_at m o).weight
    → AreWeighedTo m heads o weights → AreWeighedTo m heads (o + 1) (set weights head (get_or weights head 0 + weight))
weighed_step m heads weights o head weight limits size before lt head_is weight_is w =
    let light : weight ≤ 10000 = omega (arith, weight_is, limits.weights o (record { weight = 0; colour = 0 }) (omega (arith, lt, size))) in
    let inside : head < length weights = omega (arith, head_is, before o lt, lt, w.sums.size) in
    record {
      sums = weighed_more m heads weights o head weight before lt head_is weight_is w.sums;
      light = light_more weights o head weight inside light w.light;
    }

pub weighed_all : (m : Mill) (heads weights : List ℕ) (o : ℕ) → length heads ≤ 250 → o ≡ length heads → AreWeighedTo m heads o weights → AreWeights m heads weights
weighed_all m heads weights o few done w =
    weights_done m heads weights few
    (subst (λ (k : ℕ). AreSums (λ i. (order_at m i).weight) heads k weights) done w.sums)
    (λ head. omega (arith, w.light head, done))

-- what they gain
pub record ArePricedTo (m : Mill) (p : Prices) (heads : List ℕ) (o : ℕ) (gains : List ℤ) : Type 0 where
  pub totals : AreTotals (gain_of m p) heads o gains
  pub small : (head : ℕ) → unsigned_abs (get_or gains head (pos 0)) ≤ o * 2 ^ 76

-- a gain is small enough for one more
pub priced_room : (m : Mill) (p : Prices) (heads : List ℕ) (gains : List ℤ) (o head : ℕ) → length heads ≤ 250 → o < length heads → ArePricedTo m p heads o gains → unsigned_abs (get_or gains head (pos 0)) ≤ 2 ^ 84
priced_room m p heads gains o head few lt w = omega (arith, w.small head, lt, few)

pub priced_step : (m : Mill) (p : Prices) (heads : List ℕ) (gains : List ℤ) (o head : ℕ) (gain : ℤ) → length heads ≤ 250 → AreBefore heads → o < length heads → head ≡ get_or heads o 0 → gain ≡ gain_of m p o → unsigned_abs gain ≤ 2 ^ 76
    → ArePricedTo m p heads o gains → ArePricedTo m p heads (o + 1) (set gains head (to_z w128 (of_z w128 (to_z w128 (of_z w128 (get_or gains head (pos 0))) +ℤ to_z w128 (of_z w128 gain)))))
priced_step m p heads gains o head gain few before lt head_is gain_is little w =
    let inside : head < length gains = omega (arith, head_is, before o lt, lt, w.totals.size) in
    let back : to_z w128 (of_z w128 (to_z w128 (of_z w128 (get_or gains head (pos 0))) +ℤ to_z w128 (of_z w128 gain))) ≡ get_or gains head (pos 0) +ℤ gain = entry_back (get_or gains head (pos 0)) gain (priced_room m p heads gains o head few lt w) little in
    subst (λ (z : ℤ). ArePricedTo m p heads (o + 1) (set gains head z)) (sym back)
    (record {
      totals = priced_more m p heads gains o head gain before lt head_is gain_is w.totals;
      small = small_more gains o head gain inside little w.small;
    })

pub priced_all : (m : Mill) (p : Prices) (heads : List ℕ) (gains : List ℤ) (o : ℕ) → length heads ≤ 250 → o ≡ length heads → ArePricedTo m p heads o gains → AreGains m p heads gains
priced_all m p heads gains o few done w =
    gains_done m p heads gains few
    (subst (λ (k : ℕ). AreTotals (gain_of m p) heads k gains) done w.totals)
    (λ head. omega (arith, w.small head, done))

-- ---- members

-- those of the first so many orders whose heads are chosen
pub record AreListedTo (heads chosen : List ℕ) (o : ℕ) (orders : List ℕ) : Type 0 where
  pub few : length orders ≤ o
  pub members : orders ≡ members (take o heads) chosen

module _ (heads chosen orders more : List ℕ) (o : ℕ) (lt : o < length heads) (listed : AreListedTo heads chosen o orders) where
  pub listed_with : has chosen (get_or heads o 0) ≡ true → more ≡ orders ++ o ∷ [] → AreListedTo heads chosen (o + 1) more
  listed_with has_it items = record {
    few = omega (arith, ap (λ (os : List ℕ). length os) items, length_push orders o, listed.few);
    members = items ∙ ap (λ (os : List ℕ). os ++ o ∷ []) listed.members ∙ sym (members_take heads chosen o lt ∙ ap (λ (os : List ℕ). members (take o heads) chosen ++ os) (cond-true (has chosen (get_or heads o 0)) (o ∷ []) [] has_it));
  }

  pub listed_without : has chosen (get_or heads o 0) ≡ false → more ≡ orders → AreListedTo heads chosen (o + 1) more
  listed_without lacks items = record {
    few = omega (arith, ap (λ (os : List ℕ). length os) items, listed.few);
    members = items ∙ listed.members
        ∙ sym (members_take heads chosen o lt ∙ ap (λ (os : List ℕ). members (take o heads) chosen ++ os) (cond-false (has chosen (get_or heads o 0)) (o ∷ []) [] lacks) ∙ append-nil (members (take o heads) chosen));
  }
