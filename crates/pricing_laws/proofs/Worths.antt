-- What columns exceed by at most, by the worths of their groups.
use Rattle.std.proofs.Common.{◌≡◌, inl, inr, ℕ, zero, suc, append-nil, ◌+◌, ◌-◌, ◌*◌, ◌^◌, ◌<◌, ◌≤◌, pos, ◌+ℤ◌, ◌≤ℤ◌, ℤ, true, eqb, List, [], ◌∷◌, ◌++◌, length, get_or, set, sym, subst, ap, ◌∙◌, arith, get_or-set_same, get_or-set_other, length-set, append_assoc}
use Rattle.std.specs.Prelude.{◌-ℤ◌, ◌*ℤ◌, unsigned_abs}
use Rattle.std.specs.List.{sum_by}
use Rattle.std.proofs.lemmas.Int.{ints}
use Rattle.std.proofs.lemmas.Bool.{cases_eq, cases_lt, eqb-true, or_cases}
use Rattle.std.proofs.lemmas.List.{get_or_past, get_or-replicate, length-replicate}
use Rattle.std.proofs.lemmas.List.Sums.{sum_by-cons}
use Rattle.std.proofs.Math.ListN.{replicate}
use Rattle.mill_model.specs.Mill.{Mill, IsBetween}
use Rattle.mill_model.specs.SignedSums.{total_by}
use Rattle.mill_model.specs.Columns.{Rises, has, load, loss_of}
use Rattle.mill_model.specs.Prices.{Prices, charge, price_at}
use Rattle.mill_model.proofs.Signed.{mul_add, mul_le, mul_le_pos, mul_zero, total_by-append}
use Rattle.pricing_laws.specs.Colours.{AreOf, IsOfSet, colour_at}
use Rattle.pricing_laws.specs.Gains.{gains_of}
use Rattle.pricing_laws.specs.Groups.{heads_in, members}
use Rattle.pricing_laws.specs.Groupings.{Groups, AreGroups, weight_at, gain_at}
use Rattle.pricing_laws.specs.Parts.{AreDistinct, IsPart, left_of}
use Rattle.pricing_laws.specs.Problems.{Problem, ExceedAtMost, excess}
use Rattle.pricing_laws.specs.Worths.{AreTaken, AreWorths, IsFloor, IsRanking, worth_at, worth_of}
use Rattle.pricing_laws.proofs.Colours.{heads_of}
use Rattle.pricing_laws.proofs.Excesses.{gains_split}
use Rattle.pricing_laws.proofs.Groups.{heads_in_rise, whole_groups}
use Rattle.pricing_laws.proofs.Groupings.{group_gains, group_weights}
use Rattle.pricing_laws.proofs.Parts.{below_rising, distinct_rising, has_here, has_later, has_left, has_none, left_distinct, part_distinct, part_has, part_later, part_next, part_nil, place_in_left, whole_has}

-- ---- sums over colours

-- more for a colour is no less for some colours, and more where it is among them
module _ (worths : List ℤ) (k : ℕ) (more : ℤ) (inside : k < length worths) (sign : pos 0 ≤ℤ more) where
  raised : List ℤ
  raised = set worths k (get_or worths k (pos 0) +ℤ more)

  entry : (c : ℕ) → worth_of worths c ≤ℤ worth_of (set worths k (get_or worths k (pos 0) +ℤ more)) c
  entry c = elim (cases_eq c k) [
    | inl e ↦ omega (arith, ints, ap (worth_of worths) e, ap (worth_of (set worths k (get_or worths k (pos 0) +ℤ more))) e, get_or-set_same worths k (get_or worths k (pos 0) +ℤ more) (pos 0) inside)
    | inr n ↦ omega (arith, ints, get_or-set_other worths k c (get_or worths k (pos 0) +ℤ more) (pos 0) n)
  ]

  total_grows : (colours : List ℕ) → total_by (worth_of worths) colours ≤ℤ total_by (worth_of (set worths k (get_or worths k (pos 0) +ℤ more))) colours
  total_grows [] = omega (arith, ints)
  total_grows (c ∷ colours) = omega (arith, ints, entry c, total_grows colours)

  total_takes : (colours : List ℕ) → has colours k ≡ true → (total_by (worth_of worths) colours +ℤ more) ≤ℤ total_by (worth_of (set worths k (get_or worths k (pos 0) +ℤ more))) colours
  total_takes [] e = absurd (has_none k e)
  total_takes (c ∷ colours) e = elim (or_cases (eqb c k) (has colours k) e) [
    | inl q ↦
        let same : c ≡ k = eqb-true c k q in
        omega (arith, ints, total_grows colours, ap (worth_of worths) same, ap (worth_of (set worths k (get_or worths k (pos 0) +ℤ more))) same, get_or-set_same worths k (get_or worths k (pos 0) +ℤ more) (pos 0) inside)
    | inr q ↦ omega (arith, ints, entry c, total_takes colours q)
  ]

-- ---- worths, order by order

total_sign : (worths : List ℤ) → ((c : ℕ) → pos 0 ≤ℤ worth_of worths c) → (colours : List ℕ) → pos 0 ≤ℤ total_by (worth_of worths) colours
total_sign worths sign [] = omega (arith, ints)
total_sign worths sign (c ∷ colours) = omega (arith, ints, sign c, total_sign worths sign colours)

pub zeros : (n k : ℕ) → get_or (replicate n (pos 0)) k (pos 0) ≡ pos 0
zeros n k = elim (cases_lt k n) [
  | inl below ↦ get_or-replicate n k (pos 0) (pos 0) below
  | inr past ↦ get_or_past (replicate n (pos 0)) k (pos 0) (omega (arith, past, length-replicate n (pos 0)))
]

pub worths_none : (m : Mill) (p : Prices) (g : Groups) (worths : List ℤ) → length worths ≡ m.colours + 1 → ((k : ℕ) → get_or worths k (pos 0) ≡ pos 0) → AreWorths m p g (length m.orders) worths
worths_none m p g worths size none = record { size = size; sign = sign; most = most; small = λ c. rw (none c) (omega arith) }
  where
    sign : (c : ℕ) → pos 0 ≤ℤ worth_of worths c
    sign c = omega (arith, ints, none c)

    most : (colours taken : List ℕ) → Rises (length m.orders) (length m.orders) taken → AreOf m colours taken → total_by (worth_at p g) taken ≤ℤ total_by (worth_of worths) colours
    most colours [] r of = total_sign worths sign colours
    most colours (x ∷ xs) r of = absurd (omega (arith, r.0, r.1))

-- one order more
pub worths_more : (m : Mill) (p : Prices) (g : Groups) (at : ℕ) (worths : List ℤ) (more : ℤ) → at < length m.orders → colour_at m at ≤ m.colours → worth_at p g at ≤ℤ more → pos 0 ≤ℤ more → unsigned_abs more ≤ 2 ^ 86
    → AreWorths m p g (at + 1) worths → AreWorths m p g at (set worths (colour_at m at) (get_or worths (colour_at m at) (pos 0) +ℤ more))
worths_more m p g at worths more lt known covers sign little a = record {
  size = omega (arith, length-set worths (colour_at m at) (get_or worths (colour_at m at) (pos 0) +ℤ more), a.size);
  sign = λ c. omega (arith, ints, a.sign c, entry worths (colour_at m at) more inside sign c);
  most = most;
  small = small;
}
  where
    inside : colour_at m at < length worths
    inside = omega (arith, a.size, known)

    most : (colours taken : List ℕ) → Rises at (length m.orders) taken → AreOf m colours taken → total_by (worth_at p g) taken ≤ℤ total_by (worth_of (set worths (colour_at m at) (get_or worths (colour_at m at) (pos 0) +ℤ more))) colours
    most colours [] r of = omega (arith, ints, a.most colours [] tt (λ o e. absurd (has_none o e)), total_grows worths (colour_at m at) more inside sign colours)
    most colours (x ∷ xs) r of = elim (cases_eq x at) [
      | inl e ↦
          let rest : total_by (worth_at p g) xs ≤ℤ total_by (worth_of worths) colours = a.most colours xs (subst (λ (y : ℕ). Rises (y + 1) (length m.orders) xs) e r.2) (λ o h. of o (has_later o x xs h)) in
          omega (arith, ints, rest, covers, ap (worth_at p g) e, total_takes worths (colour_at m at) more inside sign colours (subst (λ (y : ℕ). has colours (colour_at m y) ≡ true) e (of x (has_here x xs))))
      | inr n ↦ omega (arith, ints, a.most colours (x ∷ xs) (omega (arith, r.0), r.1, r.2) of, total_grows worths (colour_at m at) more inside sign colours)
    ]

    small : (c : ℕ) → unsigned_abs (worth_of (set worths (colour_at m at) (get_or worths (colour_at m at) (pos 0) +ℤ more)) c) ≤ (length m.orders - at) * 2 ^ 86
    small c = elim (cases_eq c (colour_at m at)) [
      | inl e ↦ rw e (rw (get_or-set_same worths (colour_at m at) (get_or worths (colour_at m at) (pos 0) +ℤ more) (pos 0) inside) (omega (arith, ints, little, lt, a.small (colour_at m at))))
      | inr n ↦ rw (get_or-set_other worths (colour_at m at) c (get_or worths (colour_at m at) (pos 0) +ℤ more) (pos 0) n) (omega (arith, lt, a.small c))
    ]

-- ---- the bound

total_worth : (p : Prices) (g : Groups) (taken : List ℕ) → total_by (worth_at p g) taken ≡ total_by (gain_at g) taken -ℤ p.lambda *ℤ pos (sum_by (weight_at g) taken)
total_worth p g [] = omega (arith, ints, mul_zero p.lambda)
total_worth p g (x ∷ xs) =
    let weights : pos (sum_by (weight_at g) (x ∷ xs)) ≡ pos (weight_at g x) +ℤ pos (sum_by (weight_at g) xs) = omega (arith, ints, sum_by-cons (weight_at g) x xs) in
    omega (arith, ints, total_worth p g xs, ap (λ z. p.lambda *ℤ z) weights, mul_add p.lambda (pos (weight_at g x)) (pos (sum_by (weight_at g) xs)))

module _ (q : Problem) (g : Groups) (groups : AreGroups q.mill q.decisions q.prices g) (worths : List ℤ) (are : AreWorths q.mill q.prices g 0 worths) (floor : ℤ) (least : IsFloor q.mill q.prices floor) (sign : pos 0 ≤ℤ q.prices.lambda) where
  -- columns of some colours
  pub worth_bounded : (colours : List ℕ) → ExceedAtMost q (total_by (worth_of worths) colours -ℤ floor) (λ c. AreOf q.mill colours c.orders)
  worth_bounded colours c allowed of =
      let heads : List ℕ = heads_in g.heads c.orders in
      let rises : Rises 0 (length q.mill.orders) (heads_in g.heads c.orders) = heads_in_rise 0 (length q.mill.orders) g.heads c.orders allowed.legal.rises in
      let whole : c.orders ≡ members g.heads (heads_in g.heads c.orders) = whole_groups q.decisions g.heads c groups.heads (subst (λ (n : ℕ). Rises 0 n c.orders) (sym groups.room.heads) allowed.legal.rises) allowed.agrees in
      let distinct : AreDistinct (heads_in g.heads c.orders) = distinct_rising 0 (length q.mill.orders) (heads_in g.heads c.orders) rises in
      let gains : gains_of q.mill q.prices c.orders ≡ total_by (gain_at g) (heads_in g.heads c.orders) =
      ap (gains_of q.mill q.prices) whole ∙ group_gains q.mill q.decisions q.prices g groups (heads_in g.heads c.orders) distinct (below_rising 0 (length q.mill.orders) (heads_in g.heads c.orders) rises) in
      let weights : load q.mill c.orders ≡ sum_by (weight_at g) (heads_in g.heads c.orders) =
      ap (load q.mill) whole ∙ group_weights q.mill q.decisions q.prices g groups (heads_in g.heads c.orders) distinct (below_rising 0 (length q.mill.orders) (heads_in g.heads c.orders) rises) in
      let worth : total_by (worth_at q.prices g) (heads_in g.heads c.orders) ≤ℤ total_by (worth_of worths) colours = are.most colours (heads_in g.heads c.orders) rises (heads_of q g.heads groups.heads groups.room.heads c colours of) in
      let loss : (q.prices.lambda *ℤ pos 0) ≤ℤ (q.prices.lambda *ℤ pos (loss_of q.mill c)) = mul_le q.prices.lambda (pos 0) (pos (loss_of q.mill c)) sign (omega (arith, ints)) in
      chain (total_by (price_at q.prices.pi) c.orders) (gains_of q.mill q.prices c.orders) (q.prices.lambda *ℤ pos (load q.mill c.orders)) (total_by (worth_at q.prices g) (heads_in g.heads c.orders)) (total_by (gain_at g) (heads_in g.heads c.orders)) (q.prices.lambda *ℤ pos (sum_by (weight_at g) (heads_in g.heads c.orders)))
      (total_by (worth_of worths) colours) (q.prices.lambda *ℤ pos (loss_of q.mill c)) (charge q.prices c.kind) floor
      (gains_split q.mill q.prices c.orders) gains (ap (λ n. q.prices.lambda *ℤ pos n) weights) (total_worth q.prices g (heads_in g.heads c.orders)) worth (omega (arith, ints, loss, mul_zero q.prices.lambda)) (least c.kind allowed.legal.fits.kind)
    where
      chain : (worth gain saved worths gains saves most loss charge floor : ℤ) → gain ≡ worth +ℤ saved → gain ≡ gains → saved ≡ saves → worths ≡ gains -ℤ saves → worths ≤ℤ most → pos 0 ≤ℤ loss → floor ≤ℤ charge
          → ((worth -ℤ loss) -ℤ charge) ≤ℤ (most -ℤ floor)
      chain worth gain saved worths gains saves most loss charge floor a b c d e f g = omega (arith, ints)

-- ---- sets of colours

total_few : (f : ℕ → ℤ) (top : ℤ) (left : ℕ) (more : List ℕ) → length more ≤ left → pos 0 ≤ℤ top → ((c : ℕ) → has more c ≡ true → f c ≤ℤ top) → total_by f more ≤ℤ (pos left *ℤ top)
total_few f top left [] few sign h = omega (arith, ints, mul_le_pos left (pos 0) top sign, mul_zero (pos left))
total_few f top zero (c ∷ more) few sign h = absurd (omega arith)
total_few f top (suc left) (c ∷ more) few sign h = omega (arith, ints, h c (has_here c more), total_few f top left more (omega arith) sign (λ x e. h x (has_later x c more e)))

-- no colour left is worth more than the next one
pub top_of : (m : Mill) (worths : List ℤ) (ranking : List ℕ) (rank : ℕ) → IsRanking m worths ranking → rank < length ranking → (c : ℕ) → has (left_of ranking (rank + 1)) c ≡ true → worth_of worths c ≤ℤ worth_of worths (get_or ranking rank 0)
top_of m worths ranking rank ranked h c e = at (place_in_left ranking (rank + 1) c e)
  where
    at : ((k : ℕ) × (k < rank + 1) × (get_or ranking k 0 ≡ c)) → worth_of worths c ≤ℤ worth_of worths (get_or ranking rank 0)
    at (k, l, s) = omega (arith, ints, ap (worth_of worths) s, ranked.rises k rank (omega (arith, l)) h)

-- a colour is left out
pub taken_later : (worths : List ℤ) (ranking : List ℕ) (rank : ℕ) (taken : List ℕ) (worth : ℤ) → AreTaken worths ranking (rank + 1) taken worth → AreTaken worths ranking rank taken worth
taken_later worths ranking rank taken worth a = record { part = λ more part. a.part more (part_later ranking rank more part); worth_is = a.worth_is }

-- a colour is taken
pub taken_more : (worths : List ℤ) (ranking : List ℕ) (rank : ℕ) (taken : List ℕ) (worth : ℤ) → AreTaken worths ranking (rank + 1) taken worth
    → AreTaken worths ranking rank (taken ++ get_or ranking rank 0 ∷ []) (worth +ℤ worth_of worths (get_or ranking rank 0))
taken_more worths ranking rank taken worth a = record {
  part = λ more part. subst (λ (xs : List ℕ). IsPart xs (left_of ranking (length ranking))) (sym (append_assoc taken (get_or ranking rank 0 ∷ []) more)) (a.part (get_or ranking rank 0 ∷ more) (part_next ranking rank more part));
  worth_is = omega (arith, ints, a.worth_is, total_by-append (worth_of worths) taken (get_or ranking rank 0 ∷ []));
}

-- the colours taken are distinct colours of the ranking
pub taken_distinct : (m : Mill) (worths : List ℤ) (ranking : List ℕ) (rank : ℕ) (taken : List ℕ) (worth : ℤ) → IsRanking m worths ranking → AreTaken worths ranking rank taken worth → AreDistinct taken
taken_distinct m worths ranking rank taken worth ranked a =
    subst AreDistinct (append-nil taken) (part_distinct (taken ++ []) (left_of ranking (length ranking)) (a.part [] (part_nil (left_of ranking rank))) (left_distinct ranking (length ranking) (omega arith) ranked.distinct))

pub taken_known : (m : Mill) (worths : List ℤ) (ranking : List ℕ) (rank : ℕ) (taken : List ℕ) (worth : ℤ) → IsRanking m worths ranking → AreTaken worths ranking rank taken worth → (c : ℕ) → has taken c ≡ true → IsBetween 1 m.colours c
taken_known m worths ranking rank taken worth ranked a c e =
    ranked.known c (whole_has ranking (length ranking) c (omega arith) (part_has (taken ++ []) (left_of ranking (length ranking)) (a.part [] (part_nil (left_of ranking rank))) c (has_left taken [] c e)))

module _ (q : Problem) (g : Groups) (groups : AreGroups q.mill q.decisions q.prices g) (worths : List ℤ) (are : AreWorths q.mill q.prices g 0 worths) (floor : ℤ) (least : IsFloor q.mill q.prices floor) (sign : pos 0 ≤ℤ q.prices.lambda) where
  -- columns of the colours taken and of some of those left
  pub set_bounded : (ranking : List ℕ) (rank left : ℕ) (taken : List ℕ) (worth top : ℤ) → AreTaken worths ranking rank taken worth → pos 0 ≤ℤ top → ((c : ℕ) → has (left_of ranking rank) c ≡ true → worth_of worths c ≤ℤ top)
      → ExceedAtMost q ((worth +ℤ pos left *ℤ top) -ℤ floor) (IsOfSet q.mill taken (left_of ranking rank) left)
  set_bounded ranking rank left taken worth top a positive below c allowed set =
      let bound : excess q.mill q.prices c ≤ℤ (total_by (worth_of worths) (taken ++ set.more) -ℤ floor) = worth_bounded q g groups worths are floor least sign (taken ++ set.more) c allowed set.colours in
      let more : total_by (worth_of worths) set.more ≤ℤ (pos left *ℤ top) = total_few (worth_of worths) top left set.more set.few positive (λ x e. below x (part_has set.more (left_of ranking rank) set.part x e)) in
      omega (arith, ints, bound, more, total_by-append (worth_of worths) taken set.more, a.worth_is)
