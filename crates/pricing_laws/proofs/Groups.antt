-- Members of groups, and sums over them.
use Rattle.std.proofs.Common.{◌≡◌, ℕ, zero, suc, ◌+◌, ◌<◌, ◌≤◌, ℤ, pos, ◌+ℤ◌, Bool, true, false, cond, ◌&&◌, ◌||◌, eqb, List, [], ◌∷◌, ◌++◌, map, length, get_or, set, take, sum_by, refl, sym, ap, ◌∙◌, subst, inl, inr, arith, get_or-set_same, get_or-set_other, length-set, length-take}
use Rattle.std.proofs.lemmas.Bool.{eqb-true, eq-eqb, ne_eqb, cases_eq, cond-true, cond-false, cond_both, or_left}
use Rattle.std.proofs.lemmas.Int.{ints}
use Rattle.std.proofs.lemmas.List.{take_more, get_or-map, length-map}
use Rattle.std.proofs.lemmas.List.Sums.{sum_by-cons}
use Rattle.std.proofs.Math.Seq.{take-length}
use Rattle.mill_model.specs.SignedSums.{total_by}
use Rattle.mill_model.specs.Columns.{Column, has, Rises}
use Rattle.mill_model.specs.Decisions.{Decision, column_agrees}
use Rattle.pricing_laws.specs.Parts.{AreDistinct}
use Rattle.pricing_laws.proofs.Parts.{has_here, has_later}
use Rattle.pricing_laws.specs.Groups.{head_of, AreHeads, members_from, members, heads_in}
use Rattle.mill_model.proofs.Signed.{total_by-append, total_by-pos, total_by-ext}
use Rattle.mill_model.proofs.Duality.{not_has}
use Rattle.mill_model.proofs.Slabs.{Rises-lower}
use Rattle.mill_model.proofs.Rising.{same_members}

-- ---- who is a member

pub members_from_rise : (low high : ℕ) (heads taken : List ℕ) → low + length heads ≤ high → Rises low high (members_from low heads taken)
members_from_rise low high [] taken h = tt
members_from_rise low high (head ∷ heads) taken h =
    cond_both (has taken head) (low ∷ members_from (low + 1) heads taken) (members_from (low + 1) heads taken) (λ os. Rises low high os)
    (λ _. (omega arith, omega arith, members_from_rise (low + 1) high heads taken (omega arith)))
    (λ _. Rises-lower (low + 1) low high (members_from (low + 1) heads taken) (omega arith) (members_from_rise (low + 1) high heads taken (omega arith)))

pub members_rise : (heads taken : List ℕ) → Rises 0 (length heads) (members heads taken)
members_rise heads taken = members_from_rise 0 (length heads) heads taken (omega arith)

pub has-members_from : (low o k : ℕ) (heads taken : List ℕ) → o ≡ low + k → k < length heads → has (members_from low heads taken) o ≡ has taken (get_or heads k 0)
has-members_from low o k [] taken e h = absurd (omega arith)
has-members_from low o zero (head ∷ heads) taken e h =
    cond_both (has taken head) (low ∷ members_from (low + 1) heads taken) (members_from (low + 1) heads taken) (λ os. has os o ≡ has taken head)
    (λ q. or_left (eqb low o) (has (members_from (low + 1) heads taken) o) (eq-eqb low o (omega arith)) ∙ sym q)
    (λ q. not_has (low + 1) (low + 1 + length heads) (members_from (low + 1) heads taken) o (members_from_rise (low + 1) (low + 1 + length heads) heads taken (omega arith)) (omega arith) ∙ sym q)
has-members_from low o (suc k) (head ∷ heads) taken e h =
    let rest : has (members_from (low + 1) heads taken) o ≡ has taken (get_or heads k 0) = has-members_from (low + 1) o k heads taken (omega arith) (omega arith) in
    cond_both (has taken head) (low ∷ members_from (low + 1) heads taken) (members_from (low + 1) heads taken) (λ os. has os o ≡ has taken (get_or heads k 0))
    (λ q. ap (λ b. b || has (members_from (low + 1) heads taken) o) (ne_eqb low o (λ r. omega arith)) ∙ rest)
    (λ q. rest)

-- an order is a member where its head is taken
pub has-members : (heads taken : List ℕ) (o : ℕ) → o < length heads → has (members heads taken) o ≡ has taken (head_of heads o)
has-members heads taken o h = has-members_from 0 o o heads taken (omega arith) h

-- ---- heads among orders

pub heads_in_rise : (low high : ℕ) (heads orders : List ℕ) → Rises low high orders → Rises low high (heads_in heads orders)
heads_in_rise low high heads [] r = tt
heads_in_rise low high heads (o ∷ orders) r =
    let rest : Rises (o + 1) high (heads_in heads orders) = heads_in_rise (o + 1) high heads orders r.2 in
    cond_both (eqb (head_of heads o) o) (o ∷ heads_in heads orders) (heads_in heads orders) (λ os. Rises low high os)
    (λ _. (r.0, r.1, rest))
    (λ _. Rises-lower (o + 1) low high (heads_in heads orders) (omega (arith, r.0)) rest)

pub has-heads_in : (heads orders : List ℕ) (o : ℕ) → has (heads_in heads orders) o ≡ (has orders o && eqb (head_of heads o) o)
has-heads_in heads [] o = refl
has-heads_in heads (x ∷ orders) o = elim (cases_eq x o) [
  | inl e ↦ at_order e (has-heads_in heads orders o)
  | inr ne ↦
      cond_both (eqb (head_of heads x) x) (x ∷ heads_in heads orders) (heads_in heads orders) (λ os. has os o ≡ has orders o && eqb (head_of heads o) o) (λ _. ap (λ b. b || has (heads_in heads orders) o) (ne_eqb x o ne) ∙ has-heads_in heads orders o) (λ _. has-heads_in heads orders o)
      ∙ sym (ap (λ b. (b || has orders o) && eqb (head_of heads o) o) (ne_eqb x o ne))
]
  where
    at_order : x ≡ o → has (heads_in heads orders) o ≡ (has orders o && eqb (head_of heads o) o) → has (cond (eqb (head_of heads x) x) (x ∷ heads_in heads orders) (heads_in heads orders)) o ≡ ((eqb x o || has orders o) && eqb (head_of heads o) o)
    at_order e rest =
        cond_both (eqb (head_of heads x) x) (x ∷ heads_in heads orders) (heads_in heads orders) (λ os. has os o ≡ eqb (head_of heads x) x)
        (λ q. or_left (eqb x o) (has (heads_in heads orders) o) (eq-eqb x o e) ∙ sym q)
        (λ q. rest ∙ ap (λ z. has orders o && eqb (head_of heads z) z) (sym e) ∙ ap (λ b. has orders o && b) q ∙ neither (has orders o) ∙ sym q)
        ∙ ap (λ z. eqb (head_of heads z) z) e
        ∙ sym (ap (λ b. (b || has orders o) && eqb (head_of heads o) o) (eq-eqb x o e))
      where
        neither : (b : Bool) → (b && false) ≡ false
        neither true = refl
        neither false = refl

-- a column that agrees has the members of the heads that it has
pub whole_groups : (decisions : List Decision) (heads : List ℕ) (c : Column) → AreHeads decisions heads → Rises 0 (length heads) c.orders → column_agrees decisions c ≡ true → c.orders ≡ members heads (heads_in heads c.orders)
whole_groups decisions heads c are rises agree = same_members 0 (length heads) c.orders (members heads (heads_in heads c.orders)) rises (members_rise heads (heads_in heads c.orders)) same
  where
    both : (a b : Bool) → b ≡ true → (a && b) ≡ a
    both true true e = refl
    both true false e = e
    both false b e = refl

    same : (o : ℕ) → o < length heads → has c.orders o ≡ has (members heads (heads_in heads c.orders)) o
    same o h =
        are.joined c agree o h
        ∙ sym (both (has c.orders (head_of heads o)) (eqb (head_of heads (head_of heads o)) (head_of heads o)) (eq-eqb (head_of heads (head_of heads o)) (head_of heads o) (are.fixed o h)))
        ∙ sym (has-heads_in heads c.orders (head_of heads o))
        ∙ sym (has-members heads (heads_in heads c.orders) o h)

-- ---- sums over the members, group by group

pub total-members_from_none : (f : ℕ → ℤ) (low : ℕ) (heads : List ℕ) → total_by f (members_from low heads []) ≡ pos 0
total-members_from_none f low [] = refl
total-members_from_none f low (head ∷ heads) = total-members_from_none f (low + 1) heads

-- one more group
total-members_from_cons : (f : ℕ → ℤ) (low h : ℕ) (taken heads : List ℕ) → has taken h ≡ false → total_by f (members_from low heads (h ∷ taken)) ≡ total_by f (members_from low heads (h ∷ [])) +ℤ total_by f (members_from low heads taken)
total-members_from_cons f low h taken [] n = refl
total-members_from_cons f low h taken (head ∷ heads) n =
    let rest : total_by f (members_from (low + 1) heads (h ∷ taken)) ≡ total_by f (members_from (low + 1) heads (h ∷ [])) +ℤ total_by f (members_from (low + 1) heads taken) = total-members_from_cons f (low + 1) h taken heads n in
    elim (cases_eq h head) [
      | inl e ↦
          rw (eq-eqb h head e, ap (has taken) (sym e) ∙ n) (omega (arith, ints, rest))
      | inr ne ↦
          rw (ne_eqb h head ne) (by_test (has taken head) rest)
    ]
  where
    by_test : (b : Bool) → total_by f (members_from (low + 1) heads (h ∷ taken)) ≡ total_by f (members_from (low + 1) heads (h ∷ [])) +ℤ total_by f (members_from (low + 1) heads taken)
        → total_by f (cond b (low ∷ members_from (low + 1) heads (h ∷ taken)) (members_from (low + 1) heads (h ∷ taken))) ≡ total_by f (members_from (low + 1) heads (h ∷ [])) +ℤ total_by f (cond b (low ∷ members_from (low + 1) heads taken) (members_from (low + 1) heads taken))
    by_test true e = omega (arith, ints, e)
    by_test false e = e

-- the members of distinct heads, group by group
pub total-members : (f : ℕ → ℤ) (heads taken : List ℕ) → AreDistinct taken → total_by f (members heads taken) ≡ total_by (λ h. total_by f (members heads (h ∷ []))) taken
total-members f heads [] d = total-members_from_none f 0 heads
total-members f heads (h ∷ taken) d = omega (arith, ints, total-members_from_cons f 0 h taken heads d.0, total-members f heads taken d.1)

pub sum-members : (f : ℕ → ℕ) (heads taken : List ℕ) → AreDistinct taken → sum_by f (members heads taken) ≡ sum_by (λ h. sum_by f (members heads (h ∷ []))) taken
sum-members f heads taken d =
    let signed : total_by (λ o. pos (f o)) (members heads taken) ≡ total_by (λ h. pos (sum_by f (members heads (h ∷ [])))) taken =
    total-members (λ o. pos (f o)) heads taken d ∙ total_by-ext (λ h. total_by (λ o. pos (f o)) (members heads (h ∷ []))) (λ h. pos (sum_by f (members heads (h ∷ [])))) taken (λ h. total_by-pos f (members heads (h ∷ []))) in
    omega (arith, ints, signed, total_by-pos f (members heads taken), total_by-pos (λ h. sum_by f (members heads (h ∷ []))) taken)

-- ---- order by order

pub members_from-push : (low : ℕ) (heads : List ℕ) (head : ℕ) (taken : List ℕ) → members_from low (heads ++ head ∷ []) taken ≡ members_from low heads taken ++ cond (has taken head) ((low + length heads) ∷ []) []
members_from-push low [] head taken = cond_both (has taken head) (low ∷ []) [] (λ ys. ys ≡ cond (has taken head) ((low + 0) ∷ []) []) (λ e. sym (cond-true (has taken head) ((low + 0) ∷ []) [] e ∙ ap (λ n. n ∷ []) (omega arith))) (λ e. sym (cond-false (has taken head) ((low + 0) ∷ []) [] e))
members_from-push low (y ∷ heads) head taken =
    let rest : members_from (low + 1) (heads ++ head ∷ []) taken ≡ members_from (low + 1) heads taken ++ cond (has taken head) ((low + suc (length heads)) ∷ []) [] =
    members_from-push (low + 1) heads head taken ∙ ap (λ n. members_from (low + 1) heads taken ++ cond (has taken head) (n ∷ []) []) (omega arith) in
    by_test (has taken y) rest
  where
    by_test : (b : Bool) → members_from (low + 1) (heads ++ head ∷ []) taken ≡ members_from (low + 1) heads taken ++ cond (has taken head) ((low + suc (length heads)) ∷ []) []
        → cond b (low ∷ members_from (low + 1) (heads ++ head ∷ []) taken) (members_from (low + 1) (heads ++ head ∷ []) taken) ≡ cond b (low ∷ members_from (low + 1) heads taken) (members_from (low + 1) heads taken) ++ cond (has taken head) ((low + suc (length heads)) ∷ []) []
    by_test true e = ap (λ ys. low ∷ ys) e
    by_test false e = e

-- one order more of the groups taken
pub members_take : (heads taken : List ℕ) (o : ℕ) → o < length heads → members (take (o + 1) heads) taken ≡ members (take o heads) taken ++ cond (has taken (head_of heads o)) (o ∷ []) []
members_take heads taken o h =
    ap (λ hs. members hs taken) (take_more heads o 0 h) ∙ members_from-push 0 (take o heads) (head_of heads o) taken
    ∙ ap (λ n. members (take o heads) taken ++ cond (has taken (head_of heads o)) (n ∷ []) []) (omega (arith, length-take o heads))

-- one order more of one group
pub members-more : (heads : List ℕ) (h o : ℕ) → o < length heads → members (take (o + 1) heads) (h ∷ []) ≡ members (take o heads) (h ∷ []) ++ cond (eqb h (head_of heads o)) (o ∷ []) []
members-more heads h o l =
    ap (λ hs. members hs (h ∷ [])) (take_more heads o 0 l)
    ∙ members_from-push 0 (take o heads) (head_of heads o) (h ∷ [])
    ∙ ap (λ b. members (take o heads) (h ∷ []) ++ cond b ((0 + length (take o heads)) ∷ []) []) (only (eqb h (head_of heads o)))
    ∙ ap (λ n. members (take o heads) (h ∷ []) ++ cond (eqb h (head_of heads o)) (n ∷ []) []) (omega (arith, length-take o heads))
  where
    only : (b : Bool) → (b || false) ≡ b
    only true = refl
    only false = refl

pub total-members_more : (f : ℕ → ℤ) (heads : List ℕ) (h o : ℕ) → o < length heads → total_by f (members (take (o + 1) heads) (h ∷ [])) ≡ total_by f (members (take o heads) (h ∷ [])) +ℤ cond (eqb h (head_of heads o)) (f o) (pos 0)
total-members_more f heads h o l =
    ap (total_by f) (members-more heads h o l)
    ∙ total_by-append f (members (take o heads) (h ∷ [])) (cond (eqb h (head_of heads o)) (o ∷ []) [])
    ∙ ap (λ z. total_by f (members (take o heads) (h ∷ [])) +ℤ z) (by_test (eqb h (head_of heads o)))
  where
    by_test : (b : Bool) → total_by f (cond b (o ∷ []) []) ≡ cond b (f o) (pos 0)
    by_test true = omega (arith, ints)
    by_test false = refl

-- what the groups of the orders below one sum to
pub record AreTotals (f : ℕ → ℤ) (heads : List ℕ) (o : ℕ) (totals : List ℤ) : Type 0 where
  pub size : length totals ≡ length heads
  pub total : (h : ℕ) → h < length heads → get_or totals h (pos 0) ≡ total_by f (members (take o heads) (h ∷ []))

-- one order more
pub totals_more : (f : ℕ → ℤ) (heads : List ℕ) (o : ℕ) (totals : List ℤ) → o < length heads → head_of heads o < length heads → AreTotals f heads o totals → AreTotals f heads (o + 1) (set totals (head_of heads o) (get_or totals (head_of heads o) (pos 0) +ℤ f o))
totals_more f heads o totals l b are = record { size = omega (arith, are.size, length-set totals (head_of heads o) (get_or totals (head_of heads o) (pos 0) +ℤ f o)); total = total }
  where
    total : (h : ℕ) → h < length heads → get_or (set totals (head_of heads o) (get_or totals (head_of heads o) (pos 0) +ℤ f o)) h (pos 0) ≡ total_by f (members (take (o + 1) heads) (h ∷ []))
    total h k = elim (cases_eq h (head_of heads o)) [
      | inl e ↦
          let inside : head_of heads o < length totals = omega (arith, b, are.size) in
          ap (λ z. get_or (set totals (head_of heads o) (get_or totals (head_of heads o) (pos 0) +ℤ f o)) z (pos 0)) e
          ∙ get_or-set_same totals (head_of heads o) (get_or totals (head_of heads o) (pos 0) +ℤ f o) (pos 0) inside
          ∙ ap (λ z. get_or totals z (pos 0) +ℤ f o) (sym e)
          ∙ ap (λ z. z +ℤ f o) (are.total h k)
          ∙ ap (λ z. total_by f (members (take o heads) (h ∷ [])) +ℤ z) (sym (cond-true (eqb h (head_of heads o)) (f o) (pos 0) (eq-eqb h (head_of heads o) e)))
          ∙ sym (total-members_more f heads h o l)
      | inr ne ↦
          get_or-set_other totals (head_of heads o) h (get_or totals (head_of heads o) (pos 0) +ℤ f o) (pos 0) ne
          ∙ omega (arith, ints, are.total h k, total-members_more f heads h o l, cond-false (eqb h (head_of heads o)) (f o) (pos 0) (ne_eqb h (head_of heads o) ne))
    ]

pub totals_all : (f : ℕ → ℤ) (heads : List ℕ) (totals : List ℤ) → AreTotals f heads (length heads) totals → (h : ℕ) → h < length heads → get_or totals h (pos 0) ≡ total_by f (members heads (h ∷ []))
totals_all f heads totals are h l = are.total h l ∙ ap (λ hs. total_by f (members hs (h ∷ []))) (take-length heads)

-- ---- the same with natural numbers

pub sum-members_more : (f : ℕ → ℕ) (heads : List ℕ) (h o : ℕ) → o < length heads → sum_by f (members (take (o + 1) heads) (h ∷ [])) ≡ sum_by f (members (take o heads) (h ∷ [])) + cond (eqb h (head_of heads o)) (f o) 0
sum-members_more f heads h o l = omega (
  arith,
  ints,
  total-members_more (λ i. pos (f i)) heads h o l,
  total_by-pos f (members (take (o + 1) heads) (h ∷ [])),
  total_by-pos f (members (take o heads) (h ∷ [])),
  by_test (eqb h (head_of heads o)),
)
  where
    by_test : (b : Bool) → cond b (pos (f o)) (pos 0) ≡ pos (cond b (f o) 0)
    by_test true = refl
    by_test false = refl

pub record AreSums (f : ℕ → ℕ) (heads : List ℕ) (o : ℕ) (sums : List ℕ) : Type 0 where
  pub size : length sums ≡ length heads
  pub sum : (h : ℕ) → h < length heads → get_or sums h 0 ≡ sum_by f (members (take o heads) (h ∷ []))

-- one order more
pub sums_more : (f : ℕ → ℕ) (heads : List ℕ) (o : ℕ) (sums : List ℕ) → o < length heads → head_of heads o < length heads → AreSums f heads o sums → AreSums f heads (o + 1) (set sums (head_of heads o) (get_or sums (head_of heads o) 0 + f o))
sums_more f heads o sums l b are = record { size = omega (arith, are.size, length-set sums (head_of heads o) (get_or sums (head_of heads o) 0 + f o)); sum = sum }
  where
    sum : (h : ℕ) → h < length heads → get_or (set sums (head_of heads o) (get_or sums (head_of heads o) 0 + f o)) h 0 ≡ sum_by f (members (take (o + 1) heads) (h ∷ []))
    sum h k = elim (cases_eq h (head_of heads o)) [
      | inl e ↦
          let inside : head_of heads o < length sums = omega (arith, b, are.size) in
          ap (λ z. get_or (set sums (head_of heads o) (get_or sums (head_of heads o) 0 + f o)) z 0) e
          ∙ get_or-set_same sums (head_of heads o) (get_or sums (head_of heads o) 0 + f o) 0 inside
          ∙ ap (λ z. get_or sums z 0 + f o) (sym e)
          ∙ ap (λ z. z + f o) (are.sum h k)
          ∙ ap (λ z. sum_by f (members (take o heads) (h ∷ [])) + z) (sym (cond-true (eqb h (head_of heads o)) (f o) 0 (eq-eqb h (head_of heads o) e)))
          ∙ sym (sum-members_more f heads h o l)
      | inr ne ↦
          get_or-set_other sums (head_of heads o) h (get_or sums (head_of heads o) 0 + f o) 0 ne
          ∙ omega (arith, are.sum h k, sum-members_more f heads h o l, cond-false {A = ℕ} (eqb h (head_of heads o)) (f o) 0 (ne_eqb h (head_of heads o) ne))
    ]

pub sums_all : (f : ℕ → ℕ) (heads : List ℕ) (sums : List ℕ) → AreSums f heads (length heads) sums → (h : ℕ) → h < length heads → get_or sums h 0 ≡ sum_by f (members heads (h ∷ []))
sums_all f heads sums are h l = are.sum h l ∙ ap (λ hs. sum_by f (members hs (h ∷ []))) (take-length heads)

-- ---- sums over numbers that are alike

pub total_alike : (P : ℕ → Type 0) (f g : ℕ → ℤ) (xs : List ℕ) → ((x : ℕ) → has xs x ≡ true → P x) → ((x : ℕ) → P x → f x ≡ g x) → total_by f xs ≡ total_by g xs
total_alike P f g [] h e = refl
total_alike P f g (x ∷ xs) h e = omega (arith, ints, e x (h x (has_here x xs)), total_alike P f g xs (λ y q. h y (has_later y x xs q)) e)

pub sum_alike : (P : ℕ → Type 0) (f g : ℕ → ℕ) (xs : List ℕ) → ((x : ℕ) → has xs x ≡ true → P x) → ((x : ℕ) → P x → f x ≡ g x) → sum_by f xs ≡ sum_by g xs
sum_alike P f g [] h e = refl
sum_alike P f g (x ∷ xs) h e = omega (arith, sum_by-cons f x xs, sum_by-cons g x xs, e x (h x (has_here x xs)), sum_alike P f g xs (λ y q. h y (has_later y x xs q)) e)

-- ---- heads

-- more decisions leave the heads
pub heads_stay : (decisions more : List Decision) (heads : List ℕ) → ((c : Column) → column_agrees more c ≡ true → column_agrees decisions c ≡ true) → AreHeads decisions heads → AreHeads more heads
heads_stay decisions more heads weaker are = record { before = are.before; fixed = are.fixed; joined = λ c agree. are.joined c (weaker c agree) }

-- one head in the place of another that goes with it
pub heads_renamed : (decisions : List Decision) (heads : List ℕ) (gone kept : ℕ) → AreHeads decisions heads → kept ≤ gone → kept < length heads → head_of heads kept ≡ kept
    → ((c : Column) → column_agrees decisions c ≡ true → has c.orders gone ≡ has c.orders kept) → AreHeads decisions (map (λ h. cond (eqb h gone) kept h) heads)
heads_renamed decisions heads gone kept are le inside own alike = record { before = before; fixed = fixed; joined = joined }
  where
    size : length (map (λ h. cond (eqb h gone) kept h) heads) ≡ length heads
    size = length-map heads (λ h. cond (eqb h gone) kept h)

    at : (o : ℕ) → o < length heads → head_of (map (λ h. cond (eqb h gone) kept h) heads) o ≡ cond (eqb (head_of heads o) gone) kept (head_of heads o)
    at o h = get_or-map (λ z. cond (eqb z gone) kept z) heads o 0 0 h

    kept_stays : cond (eqb kept gone) kept kept ≡ kept
    kept_stays = cond_both (eqb kept gone) kept kept (λ z. z ≡ kept) (λ _. refl) (λ _. refl)

    before : (o : ℕ) → o < length (map (λ h. cond (eqb h gone) kept h) heads) → head_of (map (λ h. cond (eqb h gone) kept h) heads) o ≤ o
    before o h =
        let l : o < length heads = omega (arith, h, size) in
        let lower : cond (eqb (head_of heads o) gone) kept (head_of heads o) ≤ head_of heads o = cond_both (eqb (head_of heads o) gone) kept (head_of heads o) (λ z. z ≤ head_of heads o) (λ e. omega (arith, eqb-true (head_of heads o) gone e)) (λ _. omega arith) in
        omega (arith, at o l, are.before o l, lower)

    fixed : (o : ℕ) → o < length (map (λ h. cond (eqb h gone) kept h) heads) → head_of (map (λ h. cond (eqb h gone) kept h) heads) (head_of (map (λ h. cond (eqb h gone) kept h) heads) o) ≡ head_of (map (λ h. cond (eqb h gone) kept h) heads) o
    fixed o h =
        let l : o < length heads = omega (arith, h, size) in
        let lower : head_of heads o < length heads = omega (arith, are.before o l) in
        subst (λ z. head_of (map (λ h. cond (eqb h gone) kept h) heads) z ≡ z) (sym (at o l))
        (
        cond_both (eqb (head_of heads o) gone) kept (head_of heads o) (λ z. head_of (map (λ h. cond (eqb h gone) kept h) heads) z ≡ z)
        (λ _. at kept inside ∙ ap (λ z. cond (eqb z gone) kept z) own ∙ kept_stays)
        (λ e. at (head_of heads o) lower ∙ ap (λ z. cond (eqb z gone) kept z) (are.fixed o l) ∙ cond-false (eqb (head_of heads o) gone) kept (head_of heads o) e)
        )

    joined : (c : Column) → column_agrees decisions c ≡ true → (o : ℕ) → o < length (map (λ h. cond (eqb h gone) kept h) heads) → has c.orders o ≡ has c.orders (head_of (map (λ h. cond (eqb h gone) kept h) heads) o)
    joined c agree o h =
        let l : o < length heads = omega (arith, h, size) in
        are.joined c agree o l
        ∙ cond_both (eqb (head_of heads o) gone) kept (head_of heads o) (λ z. has c.orders (head_of heads o) ≡ has c.orders z) (λ e. ap (has c.orders) (eqb-true (head_of heads o) gone e) ∙ alike c agree) (λ _. refl)
        ∙ ap (has c.orders) (sym (at o l))
