-- Spans that follow each other touch.
use Rattle.std.proofs.Common.{◌≡◌, ◌⊎◌, ℕ, zero, suc, ◌+◌, ◌-◌, ◌*◌, ◌<◌, ◌≤◌, Bool, true, false, cond, List, [], ◌∷◌, ◌++◌, map, length, get_or, length-append, All, Contains, refl, arith, ap, ap₂, sym, subst, ◌∙◌, inl, inr}
use Rattle.std.specs.Prelude.{AllPairs, filter}
use Rattle.std.specs.List.{AllByRecursion}
use Rattle.std.proofs.lemmas.Bool.{cases_lt}
use Rattle.std.proofs.lemmas.List.{get_or-map, length-map, map-append}
use Rattle.std.proofs.lemmas.List.Elements.{All-contains, All-head, All-tail, Contains-append_cases, Contains-append_left, Contains-append_right, Contains-get_or, filter-append}
use Rattle.std.proofs.lemmas.Nat.Gcd.{IsGcd-from_zero, IsGcd-swap}
use Rattle.mill_model.specs.declared.sums.Sums.{Sums}
use Rattle.mill_model.proofs.Gap.{Contains-here, Contains-later, Contains-cases}
use Rattle.slab_tariff.specs.declared.span.Span.{Span}
use Rattle.slab_tariff.specs.Ratios.{Ratio, IsSame, IsAtMost, IsBelow, IsLowest}
use Rattle.slab_tariff.specs.Tariffs.{ratio, is_wide, IsBefore, IsStaircase, IsSpan, AreSpans, RunFrom}
use Rattle.slab_tariff.proofs.Order.{trans, same_at_most, below_at_most, is_wide-from_below, is_wide-from_not_below}
use Rattle.slab_tariff.proofs.Fronts.{where_it_stands, before_it, after_it, lowest_proper, mapped}
use Rattle.slab_tariff.proofs.Slopes.{below_not, below_from, below_before, same_both, before_trans, not_back, not_itself, proper_ratio, second_below_first, second_below_whole, whole_below_second, first_below_second, one_lowest}

-- ---- lists

all_append : {X : Type 0} (P : X → Type 0) (xs ys : List X) → AllByRecursion P xs → AllByRecursion P ys → AllByRecursion P (xs ++ ys)
all_append P [] ys h k = k
all_append P (x ∷ xs) ys h k = (h.0, all_append P xs ys h.1 k)

all_left : {X : Type 0} (P : X → Type 0) (xs ys : List X) → AllByRecursion P (xs ++ ys) → AllByRecursion P xs
all_left P [] ys h = tt
all_left P (x ∷ xs) ys h = (h.0, all_left P xs ys h.1)

all_right : {X : Type 0} (P : X → Type 0) (xs ys : List X) → AllByRecursion P (xs ++ ys) → AllByRecursion P ys
all_right P [] ys h = h
all_right P (x ∷ xs) ys h = all_right P xs ys h.1

all_weaker : {X : Type 0} (P Q : X → Type 0) → ((x : X) → P x → Q x) → (xs : List X) → AllByRecursion P xs → AllByRecursion Q xs
all_weaker P Q f [] h = tt
all_weaker P Q f (x ∷ xs) h = (f x h.0, all_weaker P Q f xs h.1)

all_both : {X : Type 0} (P Q : X → Type 0) (xs : List X) → AllByRecursion P xs → AllByRecursion Q xs → AllByRecursion (λ x. P x × Q x) xs
all_both P Q [] h k = tt
all_both P Q (x ∷ xs) h k = ((h.0, k.0), all_both P Q xs h.1 k.1)

by_recursion : {X : Type 0} (P : X → Type 0) (xs : List X) → All P xs → AllByRecursion P xs
by_recursion P [] h = tt
by_recursion P (x ∷ xs) h = (All-head P x xs h, by_recursion P xs (All-tail P x xs h))

abbrev points_of : List Span → List Sums
points_of spans = map (λ s. s.sums) spans

-- what holds of each span holds of one with this point
with_point : (P : Span → Type 0) (spans : List Span) (z : Sums) → AllByRecursion P spans → Contains (points_of spans) z → (u : Span) × (u.sums ≡ z) × P u
with_point P [] z h c = absurd (omega (arith, c.1))
with_point P (s ∷ spans) z h c = elim (Contains-cases s.sums (points_of spans) z c) [
  | inl e ↦ (s, e, h.0)
  | inr k ↦ with_point P spans z h.1 k
]

unmapped : (f : Sums → Ratio) (xs : List Sums) (r : Ratio) → Contains (map f xs) r → (y : Sums) × Contains xs y × (f y ≡ r)
unmapped f [] r c = absurd (omega (arith, c.1))
unmapped f (x ∷ xs) r c = elim (Contains-cases (f x) (map f xs) r c) [
  | inl e ↦ (x, Contains-here x xs, e)
  | inr k ↦ let inner = unmapped f xs r k in (inner.0, Contains-later x xs inner.0 inner.1, inner.2)
]

-- ---- the ends of a span, by the points before and after it

-- some point of these kind has this ratio
abbrev Met : List Sums → (Sums → Type 0) → (Sums → Ratio) → Ratio → Type 0
Met points Stands f r = (y : Sums) × Contains points y × Stands y × IsSame r (f y)

record HasEnds (points : List Sums) (s : Span) : Type 0 where
  among : Contains points s.sums
  lowest_from : IsLowest s.from
  lowest_to : IsLowest s.to
  over : (y : Sums) → Contains points y → IsBefore y s.sums → IsAtMost (ratio y s.sums) s.from
  under : (y : Sums) → Contains points y → IsBefore s.sums y → IsAtMost s.to (ratio s.sums y)
  from_is : IsSame s.from (0, 1) ⊎ Met points (λ y. IsBefore y s.sums) (λ y. ratio y s.sums) s.from
  to_is : IsSame s.to (1, 0) ⊎ Met points (IsBefore s.sums) (ratio s.sums) s.to

has_ends : (points : List Sums) (s : Span) → AllPairs IsBefore points → IsSpan points s → HasEnds points s
has_ends points s steps span = record {
  among = subst (λ ps. Contains ps s.sums) (sym span.stands) (Contains-append_right span.before (s.sums ∷ span.after) s.sums (Contains-here s.sums span.after));
  lowest_from = span.from.lowest;
  lowest_to = span.to.lowest;
  over = λ y c b. elim (where_it_stands points span.before span.after s.sums y span.stands c) [
    | inl k ↦ All-contains (λ r. IsAtMost r s.from) ((0, 1) ∷ map (λ x. ratio x s.sums) span.before) (ratio y s.sums) span.from.greatest (mapped (λ x. ratio x s.sums) (0, 1) span.before y k)
    | inr rest ↦ elim rest [
      | inl e ↦ absurd (not_itself y s.sums (sym e) b)
      | inr k ↦ absurd (not_back s.sums y (after_it span.before span.after s.sums stands y k) b)
    ]
  ];
  under = λ y c b. elim (where_it_stands points span.before span.after s.sums y span.stands c) [
    | inl k ↦ absurd (not_back y s.sums (before_it span.before span.after s.sums stands y k) b)
    | inr rest ↦ elim rest [
      | inl e ↦ absurd (not_itself s.sums y e b)
      | inr k ↦ All-contains (IsAtMost s.to) ((1, 0) ∷ map (λ z. ratio s.sums z) span.after) (ratio s.sums y) span.to.least (mapped (λ z. ratio s.sums z) (1, 0) span.after y k)
    ]
  ];
  from_is = elim (Contains-cases (0, 1) (map (λ x. ratio x s.sums) span.before) span.from.among.0 span.from.among.1) [
    | inl e ↦ inl (subst (IsSame s.from) (sym e) span.from.among.2)
    | inr k ↦ inr (let met = unmapped (λ x. ratio x s.sums) span.before span.from.among.0 k in (met.0, inside_before met.0 met.1, before_it span.before span.after s.sums stands met.0 met.1, subst (IsSame s.from) (sym met.2) span.from.among.2))
  ];
  to_is = elim (Contains-cases (1, 0) (map (λ z. ratio s.sums z) span.after) span.to.among.0 span.to.among.1) [
    | inl e ↦ inl (subst (IsSame s.to) (sym e) span.to.among.2)
    | inr k ↦ inr (let met = unmapped (λ z. ratio s.sums z) span.after span.to.among.0 k in (met.0, inside_after met.0 met.1, after_it span.before span.after s.sums stands met.0 met.1, subst (IsSame s.to) (sym met.2) span.to.among.2))
  ];
}
  where
    stands : AllPairs IsBefore (span.before ++ s.sums ∷ span.after)
    stands = subst (AllPairs IsBefore) span.stands steps

    inside_before : (y : Sums) → Contains span.before y → Contains points y
    inside_before y c = subst (λ ps. Contains ps y) (sym span.stands) (Contains-append_left span.before (s.sums ∷ span.after) y c)

    inside_after : (y : Sums) → Contains span.after y → Contains points y
    inside_after y c = subst (λ ps. Contains ps y) (sym span.stands) (Contains-append_right span.before (s.sums ∷ span.after) y (Contains-later s.sums span.after y c))

-- ---- spans one after another

-- each stands after the one before it
abbrev Follow : Sums → List Span → Type 0
Follow x [] = Unit {0}
Follow x (u ∷ us) = IsBefore x u.sums × Follow u.sums us

follow_from : (s : Span) (rest : List Span) → AllPairs IsBefore (points_of (s ∷ rest)) → Follow s.sums rest
follow_from s [] steps = tt
follow_from s (u ∷ us) steps = (
  steps 0 1 u.sums (omega arith) (omega arith),
  follow_from u us (λ i j d p q. steps (suc i) (suc j) d (omega (arith, p)) (omega (arith, q))),
)

follow_to : (x : Sums) (passed : List Span) (next : Span) (later : List Span) → Follow x (passed ++ next ∷ later) → IsBefore x next.sums
follow_to x [] next later f = f.0
follow_to x (u ∷ us) next later f = before_trans x u.sums next.sums f.0 (follow_to u.sums us next later f.1)

all_follow : (x : Sums) (us : List Span) → Follow x us → AllByRecursion (λ u. IsBefore x u.sums) us
all_follow x [] f = tt
all_follow x (u ∷ us) f = (f.0, all_weaker (λ v. IsBefore u.sums v.sums) (λ v. IsBefore x v.sums) (λ v h. before_trans x u.sums v.sums f.0 h) us (all_follow u.sums us f.1))

-- ---- the span after one: the last of those with the least ratio

record IsPassed (s next u : Span) : Type 0 where
  after : IsBefore s.sums u.sums
  before : IsBefore u.sums next.sums
  over : IsAtMost (ratio s.sums next.sums) (ratio s.sums u.sums)

record IsLater (s next u : Span) : Type 0 where
  after : IsBefore s.sums u.sums
  over : IsBelow (ratio s.sums next.sums) (ratio s.sums u.sums)

record Next (s : Span) (rest : List Span) : Type 0 where
  passed : List Span
  next : Span
  later : List Span
  split : rest ≡ passed ++ next ∷ later
  after : IsBefore s.sums next.sums
  are_passed : AllByRecursion (IsPassed s next) passed
  are_later : AllByRecursion (IsLater s next) later
  follow : Follow next.sums later

next_from : (s u : Span) (us : List Span) → IsBefore s.sums u.sums → Follow u.sums us → Next s (u ∷ us)
next_from s u [] b f = record { passed = []; next = u; later = []; split = refl; after = b; are_passed = tt; are_later = tt; follow = tt }
next_from s u (v ∷ vs) b f = chosen (next_from s v vs (before_trans s.sums u.sums v.sums b f.0) f.1)
  where
    chosen : Next s (v ∷ vs) → Next s (u ∷ v ∷ vs)
    chosen n = elim (cases_lt ((ratio s.sums u.sums).0 * (ratio s.sums n.next.sums).1) ((ratio s.sums n.next.sums).0 * (ratio s.sums u.sums).1)) [
      | inl lt ↦ record {
        passed = [];
        next = u;
        later = v ∷ vs;
        split = refl;
        after = b;
        are_passed = tt;
        are_later = subst (AllByRecursion (IsLater s u)) (sym n.split) (all_append (IsLater s u) n.passed (n.next ∷ n.later)
            (all_weaker (IsPassed s n.next) (IsLater s u) (λ w h. record { after = h.after; over = below_before (ratio s.sums u.sums) (ratio s.sums n.next.sums) (ratio s.sums w.sums) (proper_ratio s.sums w.sums h.after) lt h.over }) n.passed n.are_passed) (
              record { after = n.after; over = lt },
              all_weaker (IsLater s n.next) (IsLater s u) (λ w h. record { after = h.after; over = below_before (ratio s.sums u.sums) (ratio s.sums n.next.sums) (ratio s.sums w.sums) (proper_ratio s.sums w.sums h.after) lt (below_at_most (ratio s.sums n.next.sums) (ratio s.sums w.sums) h.over) }) n.later n.are_later,
            ));
        follow = f;
      }
      | inr le ↦ record {
        passed = u ∷ n.passed;
        next = n.next;
        later = n.later;
        split = ap (λ ss. u ∷ ss) n.split;
        after = n.after;
        are_passed = (record { after = b; before = follow_to u.sums n.passed n.next n.later (subst (Follow u.sums) n.split f); over = le }, n.are_passed);
        are_later = n.are_later;
        follow = n.follow;
      }
    ]

-- ---- one step from a wide span to the next

-- a wide span, and those after it: each point is before it, its own or one of theirs
record Stand (points : List Sums) (s : Span) (rest : List Span) : Type 0 where
  ends : HasEnds points s
  wide : IsBelow s.from s.to
  all : AllByRecursion (HasEnds points) rest
  follow : Follow s.sums rest
  place : (z : Sums) → Contains points z → IsBefore z s.sums ⊎ ((z ≡ s.sums) ⊎ Contains (points_of rest) z)

-- where a point of the rest stands by the next span
abbrev Beside : (s next : Span) → Sums → Type 0
Beside s next z = ((u : Span) × (u.sums ≡ z) × IsPassed s next u) ⊎ ((next.sums ≡ z) ⊎ ((u : Span) × (u.sums ≡ z) × (IsLater s next u × IsBefore next.sums u.sums)))

module _ (points : List Sums) (s : Span) (rest : List Span) (h : Stand points s rest) (n : Next s rest) where
  abbrev bound : Ratio
  bound = ratio s.sums n.next.sums

  bound_proper : 0 < bound.0 + bound.1
  bound_proper = proper_ratio s.sums n.next.sums n.after

  parted : AllByRecursion (HasEnds points) (n.passed ++ n.next ∷ n.later)
  parted = subst (AllByRecursion (HasEnds points)) n.split h.all

  next_ends : HasEnds points n.next
  next_ends = (all_right (HasEnds points) n.passed (n.next ∷ n.later) parted).0

  beside : (z : Sums) → Contains (points_of rest) z → Beside s n.next z
  beside z c = elim (Contains-append_cases (points_of n.passed) (n.next.sums ∷ points_of n.later) z (subst (λ ps. Contains ps z) (ap points_of n.split ∙ map-append (λ (u : Span). u.sums) n.passed (n.next ∷ n.later)) c)) [
    | inl k ↦ inl (with_point (IsPassed s n.next) n.passed z n.are_passed k)
    | inr k ↦ elim (Contains-cases n.next.sums (points_of n.later) z k) [
      | inl e ↦ inr (inl e)
      | inr l ↦ inr (inr (with_point (λ u. IsLater s n.next u × IsBefore n.next.sums u.sums) n.later z (all_both (IsLater s n.next) (λ u. IsBefore n.next.sums u.sums) n.later n.are_later (all_follow n.next.sums n.later n.follow)) l))
    ]
  ]

  -- no point after the span has a smaller ratio with it
  least : (y : Sums) → Contains points y → IsBefore s.sums y → IsAtMost bound (ratio s.sums y)
  least y c b = elim (h.place y c) [
    | inl k ↦ absurd (not_back s.sums y b k)
    | inr o ↦ elim o [
      | inl e ↦ absurd (not_itself s.sums y (sym e) b)
      | inr k ↦ elim (beside y k) [
        | inl u ↦ subst (λ z. IsAtMost bound (ratio s.sums z)) u.1 u.2.over
        | inr p ↦ elim p [
          | inl e ↦ subst (λ z. IsAtMost bound (ratio s.sums z)) e (same_at_most bound bound refl)
          | inr u ↦ subst (λ z. IsAtMost bound (ratio s.sums z)) u.1 (below_at_most bound (ratio s.sums u.0.sums) u.2.0.over)
        ]
      ]
    ]
  ]

  to_below : IsAtMost s.to bound
  to_below = h.ends.under n.next.sums next_ends.among n.after

  to_above : IsAtMost bound s.to
  to_above = elim h.ends.to_is [
    | inl e ↦ trans bound (1, 0) s.to (omega arith) (omega arith) (same_at_most (1, 0) s.to (sym e))
    | inr m ↦ trans bound (ratio s.sums m.0) s.to (proper_ratio s.sums m.0 m.2) (least m.0 m.1 m.2) (same_at_most (ratio s.sums m.0) s.to (sym m.3))
  ]

  -- a point before the next span has no greater ratio with it
  greatest : (y : Sums) → Contains points y → IsBefore y n.next.sums → IsAtMost (ratio y n.next.sums) bound
  greatest y c b = elim (h.place y c) [
    | inl k ↦ whole_below_second y s.sums n.next.sums k n.after (trans (ratio y s.sums) s.from bound (lowest_proper s.from h.ends.lowest_from) (h.ends.over y c k) (trans s.from s.to bound (lowest_proper s.to h.ends.lowest_to) (below_at_most s.from s.to h.wide) to_below))
    | inr o ↦ elim o [
      | inl e ↦ subst (λ z. IsAtMost (ratio z n.next.sums) bound) (sym e) (same_at_most bound bound refl)
      | inr k ↦ elim (beside y k) [
        | inl u ↦ subst (λ z. IsAtMost (ratio z n.next.sums) bound) u.1 (second_below_whole s.sums u.0.sums n.next.sums u.2.after u.2.before u.2.over)
        | inr p ↦ elim p [
          | inl e ↦ absurd (not_itself y n.next.sums (sym e) b)
          | inr u ↦ absurd (not_back n.next.sums y (subst (IsBefore n.next.sums) u.1 u.2.1) b)
        ]
      ]
    ]
  ]

  from_above : IsAtMost bound n.next.from
  from_above = next_ends.over s.sums h.ends.among n.after

  from_below : IsAtMost n.next.from bound
  from_below = elim next_ends.from_is [
    | inl e ↦ trans n.next.from (0, 1) bound (omega arith) (same_at_most n.next.from (0, 1) e) (omega arith)
    | inr m ↦ trans n.next.from (ratio m.0 n.next.sums) bound (proper_ratio m.0 n.next.sums m.2) (same_at_most n.next.from (ratio m.0 n.next.sums) m.3) (greatest m.0 m.1 m.2)
  ]

  -- the next span begins where this one ends
  touch : n.next.from ≡ s.to
  touch = one_lowest n.next.from s.to next_ends.lowest_from h.ends.lowest_to (same_both n.next.from s.to (trans n.next.from bound s.to bound_proper from_below to_above) (trans s.to bound n.next.from bound_proper to_below from_above))

  -- a span that is passed isn't wide
  narrow : (u : Span) → HasEnds points u × IsPassed s n.next u → is_wide u ≡ false
  narrow u (ends, p) = is_wide-from_not_below u (λ q. below_not u.from u.to q
      (trans u.to (ratio u.sums n.next.sums) u.from (proper_ratio u.sums n.next.sums p.before) (ends.under n.next.sums next_ends.among p.before)
      (trans (ratio u.sums n.next.sums) (ratio s.sums u.sums) u.from (proper_ratio s.sums u.sums p.after) (second_below_first s.sums u.sums n.next.sums p.after p.before p.over) (ends.over s.sums h.ends.among p.after))))

  -- no point after the next span has a ratio with it that is at most the bound
  beyond : (y : Sums) → Contains points y → IsBefore n.next.sums y → IsBelow bound (ratio n.next.sums y)
  beyond y c b = elim (h.place y c) [
    | inl k ↦ absurd (not_back s.sums y (before_trans s.sums n.next.sums y n.after b) k)
    | inr o ↦ elim o [
      | inl e ↦ absurd (not_itself s.sums y (sym e) (before_trans s.sums n.next.sums y n.after b))
      | inr k ↦ elim (beside y k) [
        | inl u ↦ absurd (not_back n.next.sums y b (subst (λ z. IsBefore z n.next.sums) u.1 u.2.before))
        | inr p ↦ elim p [
          | inl e ↦ absurd (not_itself n.next.sums y e b)
          | inr u ↦ subst (λ z. IsBelow bound (ratio n.next.sums z)) u.1 (first_below_second s.sums n.next.sums u.0.sums n.after u.2.1 u.2.0.over)
        ]
      ]
    ]
  ]

  next_wide : IsBelow n.next.from n.next.to
  next_wide = below_from n.next.from n.next.to (λ q. elim next_ends.to_is [
    | inl e ↦ none (trans (1, 0) n.next.to bound (lowest_proper n.next.to next_ends.lowest_to) (same_at_most (1, 0) n.next.to (sym e)) (trans n.next.to n.next.from bound (lowest_proper n.next.from next_ends.lowest_from) q from_below))
    | inr m ↦ below_not bound (ratio n.next.sums m.0) (beyond m.0 m.1 m.2)
        (trans (ratio n.next.sums m.0) n.next.to bound (lowest_proper n.next.to next_ends.lowest_to) (same_at_most (ratio n.next.sums m.0) n.next.to (sym m.3)) (trans n.next.to n.next.from bound (lowest_proper n.next.from next_ends.lowest_from) q from_below))
  ])
    where
      none : IsAtMost (1, 0) bound → ⊥
      none k = omega (arith, k, n.after.1)

  stands_next : Stand points n.next n.later
  stands_next = record {
    ends = next_ends;
    wide = next_wide;
    all = (all_right (HasEnds points) n.passed (n.next ∷ n.later) parted).1;
    follow = n.follow;
    place = λ z c. elim (h.place z c) [
      | inl k ↦ inl (before_trans z s.sums n.next.sums k n.after)
      | inr o ↦ elim o [
        | inl e ↦ inl (subst (λ x. IsBefore x n.next.sums) (sym e) n.after)
        | inr k ↦ elim (Contains-append_cases (points_of n.passed) (n.next.sums ∷ points_of n.later) z (subst (λ ps. Contains ps z) (ap points_of n.split ∙ map-append (λ (u : Span). u.sums) n.passed (n.next ∷ n.later)) k)) [
          | inl l ↦ let u = with_point (IsPassed s n.next) n.passed z n.are_passed l in inl (subst (λ x. IsBefore x n.next.sums) u.1 u.2.before)
          | inr l ↦ elim (Contains-cases n.next.sums (points_of n.later) z l) [ inl e ↦ inr (inl (sym e)) | inr j ↦ inr (inr j) ]
        ]
      ]
    ];
  }

none_kept : (spans : List Span) → AllByRecursion (λ u. is_wide u ≡ false) spans → filter is_wide spans ≡ []
none_kept [] h = refl
none_kept (s ∷ spans) h = ap (λ b. cond b (s ∷ filter is_wide spans) (filter is_wide spans)) h.0 ∙ none_kept spans h.1

-- a wide span with the next one, and what is kept of those after it
kept_next : (passed : List Span) (next : Span) (later : List Span) → AllByRecursion (λ u. is_wide u ≡ false) passed → is_wide next ≡ true → filter is_wide (passed ++ next ∷ later) ≡ next ∷ filter is_wide later
kept_next passed next later h e =
    filter-append is_wide passed (next ∷ later)
    ∙ ap (λ ss. ss ++ filter is_wide (next ∷ later)) (none_kept passed h)
    ∙ ap (λ b. cond b (next ∷ filter is_wide later) (filter is_wide later)) e

no_end : (points : List Sums) (s : Span) → Stand points s [] → s.to ≡ (1, 0)
no_end points s h = one_lowest s.to (1, 0) h.ends.lowest_to (IsGcd-from_zero 1 0 refl) (elim h.ends.to_is [
  | inl e ↦ e
  | inr m ↦ absurd (elim (h.place m.0 m.1) [
    | inl k ↦ not_back s.sums m.0 m.2 k
    | inr o ↦ elim o [ inl e ↦ not_itself s.sums m.0 (sym e) m.2 | inr k ↦ omega (arith, k.1) ]
  ])
])

runs : (fuel : ℕ) (points : List Sums) (s : Span) (rest : List Span) → length rest < fuel → Stand points s rest → RunFrom s.to (filter is_wide rest)
runs zero points s rest l h = absurd (omega arith)
runs (suc fuel) points s [] l h = no_end points s h
runs (suc fuel) points s (u ∷ us) l h = stepped (next_from s u us h.follow.0 h.follow.1) (runs fuel)
  where
    stepped : (n : Next s (u ∷ us)) → ((ps : List Sums) (t : Span) (ts : List Span) → length ts < fuel → Stand ps t ts → RunFrom t.to (filter is_wide ts)) → RunFrom s.to (filter is_wide (u ∷ us))
    stepped n again =
        let kept : filter is_wide (u ∷ us) ≡ n.next ∷ filter is_wide n.later =
        ap (filter is_wide) n.split
        ∙ kept_next n.passed n.next n.later
        (all_weaker (λ v. HasEnds points v × IsPassed s n.next v) (λ v. is_wide v ≡ false) (narrow points s (u ∷ us) h n) n.passed (all_both (HasEnds points) (IsPassed s n.next) n.passed (all_left (HasEnds points) n.passed (n.next ∷ n.later) (parted points s (u ∷ us) h n)) n.are_passed))
        (is_wide-from_below n.next (next_wide points s (u ∷ us) h n))
        in
        let fewer : length n.later < fuel = omega (arith, l, ap (λ (ss : List Span). length ss) n.split, length-append n.passed (n.next ∷ n.later)) in
        subst (RunFrom s.to) (sym kept) (touch points s (u ∷ us) h n, again points n.next n.later fewer (stands_next points s (u ∷ us) h n))

-- ---- the first span

first_stands : (points : List Sums) (s : Span) (rest : List Span) → points_of (s ∷ rest) ≡ points → HasEnds points s → AllByRecursion (HasEnds points) rest → Follow s.sums rest → (s.from ≡ (0, 1)) × Stand points s rest
first_stands points s rest one_each ends all follow = (begins, record { ends = ends; wide = wide; all = all; follow = follow; place = place })
  where
    place : (z : Sums) → Contains points z → IsBefore z s.sums ⊎ ((z ≡ s.sums) ⊎ Contains (points_of rest) z)
    place z c = elim (Contains-cases s.sums (points_of rest) z (subst (λ ps. Contains ps z) (sym one_each) c)) [ inl e ↦ inr (inl (sym e)) | inr k ↦ inr (inr k) ]

    after_first : (z : Sums) → Contains (points_of rest) z → IsBefore s.sums z
    after_first z k = let u = with_point (λ v. IsBefore s.sums v.sums) rest z (all_follow s.sums rest follow) k in subst (IsBefore s.sums) u.1 u.2

    none_before : (z : Sums) → Contains points z → IsBefore z s.sums → ⊥
    none_before z c b = elim (Contains-cases s.sums (points_of rest) z (subst (λ ps. Contains ps z) (sym one_each) c)) [
      | inl e ↦ not_itself z s.sums (sym e) b
      | inr k ↦ not_back z s.sums b (after_first z k)
    ]

    begins : s.from ≡ (0, 1)
    begins = one_lowest s.from (0, 1) ends.lowest_from (IsGcd-swap 1 0 1 (IsGcd-from_zero 1 0 refl)) (elim ends.from_is [
      | inl e ↦ e
      | inr m ↦ absurd (none_before m.0 m.1 m.2)
    ])

    above_zero : (x y : Sums) → IsBefore x y → IsBelow (0, 1) (ratio x y)
    above_zero x y b = omega (arith, b.0)

    wide : IsBelow s.from s.to
    wide = subst (λ r. IsBelow r s.to) (sym begins) (elim ends.to_is [
      | inl e ↦ below_before (0, 1) (1, 0) s.to (lowest_proper s.to ends.lowest_to) (omega arith) (same_at_most (1, 0) s.to (sym e))
      | inr m ↦ below_before (0, 1) (ratio s.sums m.0) s.to (lowest_proper s.to ends.lowest_to) (above_zero s.sums m.0 m.2) (same_at_most (ratio s.sums m.0) s.to (sym m.3))
    ])

all_run : (points : List Sums) (all : List Span) → points_of all ≡ points → IsStaircase points → 0 < length points → All (IsSpan points) all → RunFrom (0, 1) (filter is_wide all)
all_run points [] one_each steps some spans = absurd (omega (arith, some, ap (λ (ps : List Sums). length ps) one_each))
all_run points (s ∷ rest) one_each steps some spans =
    let ends : AllByRecursion (HasEnds points) (s ∷ rest) = all_weaker (IsSpan points) (HasEnds points) (λ u. has_ends points u steps) (s ∷ rest) (by_recursion (IsSpan points) (s ∷ rest) spans) in
    let first : (s.from ≡ (0, 1)) × Stand points s rest = first_stands points s rest one_each ends.0 ends.1 (follow_from s rest (subst (AllPairs IsBefore) (sym one_each) steps)) in
    let kept : filter is_wide (s ∷ rest) ≡ s ∷ filter is_wide rest = ap (λ b. cond b (s ∷ filter is_wide rest) (filter is_wide rest)) (is_wide-from_below s first.1.wide) in
    subst (RunFrom (0, 1)) (sym kept) (first.0, runs (suc (length rest)) points s rest (omega arith) first.1)

pub spans_run : (points : List Sums) (spans : List Span) → IsStaircase points → 0 < length points → AreSpans points spans → RunFrom (0, 1) spans
spans_run points spans steps some are = subst (RunFrom (0, 1)) (sym are.wide) (all_run points are.all are.one_each steps some are.ends)

-- ---- each ratio lies in a span

within_run : (at r : Ratio) (spans : List Span) → IsAtMost at r → (at ≡ (1, 0) → ⊥) → RunFrom at spans → (s : Span) × Contains spans s × IsAtMost s.from r × IsAtMost r s.to
within_run at r [] low not run = absurd (not run)
within_run at r (s ∷ spans) low not run = elim (cases_lt (s.to.0 * r.1) (r.0 * s.to.1)) [
  | inl below ↦
      let inner = within_run s.to r spans (omega (arith, below)) (λ e. endless r (subst (λ t. t.0 * r.1 < r.0 * t.1) e below)) run.1 in
      (inner.0, Contains-later s spans inner.0 inner.1, inner.2, inner.3)
  | inr over ↦ (s, Contains-here s spans, subst (λ t. IsAtMost t r) (sym run.0) low, over)
]
  where
    endless : (t : Ratio) → 1 * t.1 < t.0 * 0 → ⊥
    endless t h = omega (arith, h)

pub each_ratio : (points : List Sums) (spans : List Span) (r : Ratio) → IsStaircase points → 0 < length points → AreSpans points spans → (s : Span) × Contains spans s × IsAtMost s.from r × IsAtMost r s.to
each_ratio points spans r steps some are = within_run (0, 1) r spans (omega arith) (λ e. differ (ap (λ (t : Ratio). t.0) e)) (spans_run points spans steps some are)
  where
    differ : ◌≡◌ {A = ℕ} 0 1 → ⊥
    differ e = omega (arith, e)
