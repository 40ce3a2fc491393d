-- The gap law: the points of a whole certificate are the Pareto front.
use Rattle.std.proofs.Common.{◌≡◌, ℕ, zero, suc, ◌<◌, ◌≤◌, pos, List, [], ◌∷◌, ◌++◌, length, get_or, Contains, refl, sym, ap, ap₂, ◌∙◌, subst, inl, inr, ◌⊎◌, arith, Option, Some, None}
use Rattle.std.specs.List.{AllByRecursion}
use Rattle.std.proofs.lemmas.Int.{ints}
use Rattle.std.proofs.lemmas.Bool.{cases_lt, cases_eq}
use Rattle.mill_model.specs.declared.sums.Sums.{Sums}
use Rattle.mill_model.specs.declared.limits.Limits.{Limits}
use Rattle.mill_model.specs.Mill.{Mill}
use Rattle.mill_model.specs.Plans.{Plan, IsLegal, IsAttained, sums_of}
use Rattle.mill_model.specs.Limits.{AtMost, IsWithin}
use Rattle.mill_model.specs.Marks.{MarkedSteps, IsMarkedRefutation}
use Rattle.mill_model.specs.Fronts.{IsUndominated, LossesRise, IsFront, Point, below, FallsBelow, count_before, IsGoodPoint, IsGoodFrom, last_sums, IsGoodWhole, sums_list}
use Rattle.mill_model.proofs.TreeLaws.{tree_refutes}

-- ---- membership by cases on the list

pub Contains-here : {X : Type 0} (x : X) (xs : List X) → Contains (x ∷ xs) x
Contains-here x xs = (0, omega arith, refl)

pub Contains-later : {X : Type 0} (y : X) (xs : List X) (x : X) → Contains xs x → Contains (y ∷ xs) x
Contains-later y xs x c = (suc c.0, omega (arith, c.1), c.2)

pub Contains-cases : {X : Type 0} (y : X) (xs : List X) (x : X) → Contains (y ∷ xs) x → (y ≡ x) ⊎ Contains xs x
Contains-cases y xs x c = go c.0 c.1 c.2
  where
    go : (k : ℕ) → k < suc (length xs) → get_or (y ∷ xs) k x ≡ x → (y ≡ x) ⊎ Contains xs x
    go zero h e = inl e
    go (suc k) h e = inr (k, omega arith, e)

-- ---- one tree

-- where a tree refutes the limits, no attained pair is within them
no_pair : (m : Mill) (limits : Limits) (steps : MarkedSteps) (x : Sums) → IsMarkedRefutation m limits [] steps → IsAttained m x → IsWithin x limits → ⊥
no_pair m limits steps x refutation attained within = tree_refutes m limits refutation.tree [] attained.0 tt refutation.refutes attained.1 tt (let W : Sums → Type 0 = λ y. IsWithin y limits in subst W (sym attained.2) within)

-- a count that falls below the one before is within one less than it
within_below : (n : ℕ) (before : Option Sums) → FallsBelow n before → AtMost (Some (pos n)) (below (count_before before))
within_below n None h = tt
within_below n (Some b) h = omega (arith, ints)

-- no attained pair of less loss than a point has fewer new slabs than the point before
point_least : (m : Mill) (before : Option Sums) (point : Point) → IsGoodPoint m before point → (x : Sums) → IsAttained m x → FallsBelow x.count before → point.sums.loss ≤ x.loss
point_least m before point good x attained falls = elim (cases_lt x.loss point.sums.loss) [
  | inl h ↦ absurd (no_pair m (record { loss = below (Some point.sums.loss); count = below (count_before before) }) point.steps x good.steps attained (record { loss = omega (arith, ints); count = within_below x.count before falls }))
  | inr h ↦ h
]

point_attained : (m : Mill) (before : Option Sums) (point : Point) → IsGoodPoint m before point → IsAttained m point.sums
point_attained m before point good = (point.plan, good.legal, good.sums)

pub same_sums : (x y : Sums) → x.loss ≡ y.loss → x.count ≡ y.count → x ≡ y
same_sums x y p q = λ i. record { loss = p i; count = q i }

fewer : (n : ℕ) (before : Option Sums) (mid : Sums) → n < mid.count → FallsBelow mid.count before → FallsBelow n before
fewer n None mid h f = tt
fewer n (Some b) mid h f = omega arith

-- ---- the points, from the one before on

-- what is left over: no attained pair has fewer new slabs than the last point
abbrev NoneLeft : Mill → Option Sums → Type 0
NoneLeft m last = (x : Sums) → IsAttained m x → FallsBelow x.count last → ⊥

-- an attained pair that falls below the one before is a point, or a point dominates it
all_points : (m : Mill) (before : Option Sums) (points : List Point) → IsGoodFrom m before points → NoneLeft m (last_sums before points) → (x : Sums) → IsAttained m x → IsUndominated m x → FallsBelow x.count before → Contains (sums_list points) x
all_points m before [] good none x attained undominated falls = absurd (none x attained falls)
all_points m before (point ∷ points) good none x attained undominated falls = elim (cases_lt x.count point.sums.count) [
  | inl h ↦ Contains-later point.sums (sums_list points) x (all_points m (Some point.sums) points good.1 none x attained undominated h)
  | inr h ↦ elim (cases_same) [ inl e ↦ here e | inr ne ↦ absurd (undominated point.sums (point_attained m before point good.0) (least, h, ne)) ]
]
  where
    least : point.sums.loss ≤ x.loss
    least = point_least m before point good.0 x attained falls

    here : point.sums ≡ x → Contains (sums_list (point ∷ points)) x
    here e = (0, omega arith, e)

    cases_same : (point.sums ≡ x) ⊎ (point.sums ≡ x → ⊥)
    cases_same = elim (cases_eq point.sums.loss x.loss) [
      | inl p ↦ elim (cases_eq point.sums.count x.count) [ inl q ↦ inl (same_sums point.sums x p q) | inr q ↦ inr (λ e. q (ap (λ s. s.count) e)) ]
      | inr p ↦ inr (λ e. p (ap (λ s. s.loss) e))
    ]

-- a point is undominated if no attained pair of at most its loss has fewer new slabs
undominated_if : (m : Mill) (before : Option Sums) (point : Point) → IsGoodPoint m before point → ((y : Sums) → IsAttained m y → y.loss ≤ point.sums.loss → y.count < point.sums.count → ⊥) → IsUndominated m point.sums
undominated_if m before point good none y attained dominates = elim (cases_lt y.count point.sums.count) [
  | inl h ↦ none y attained dominates.0 h
  | inr h ↦ elim (cases_lt y.loss point.sums.loss) [
    | inl l ↦ not_less (lower before good) l
    | inr l ↦ dominates.2 (same_sums y point.sums (omega (arith, dominates.0)) (omega (arith, dominates.1)))
  ]
]
  where
    falls : (b : Option Sums) → FallsBelow point.sums.count b → FallsBelow y.count b
    falls None f = tt
    falls (Some s) f = omega (arith, dominates.1)

    lower : (b : Option Sums) → IsGoodPoint m b point → point.sums.loss ≤ y.loss
    lower b g = point_least m b point g y attained (falls b g.count)

    not_less : point.sums.loss ≤ y.loss → y.loss < point.sums.loss → ⊥
    not_less p q = omega arith

-- the next point leaves none
next_excludes : (m : Mill) (point next : Point) → IsGoodPoint m (Some point.sums) next → (y : Sums) → IsAttained m y → y.loss ≤ point.sums.loss → y.count < point.sums.count → ⊥
next_excludes m point next good y attained l c = not_less (point_least m (Some point.sums) next good y attained c) good.loss
  where
    not_less : next.sums.loss ≤ y.loss → point.sums.loss < next.sums.loss → ⊥
    not_less p q = omega arith

rest_excludes : (m : Mill) (point : Point) (points : List Point) → IsGoodFrom m (Some point.sums) points → NoneLeft m (last_sums (Some point.sums) points) → (y : Sums) → IsAttained m y → y.loss ≤ point.sums.loss → y.count < point.sums.count → ⊥
rest_excludes m point [] good none y attained l c = none y attained c
rest_excludes m point (next ∷ points) good none y attained l c = next_excludes m point next good.0 y attained l c

all_undominated : (m : Mill) (before : Option Sums) (points : List Point) → IsGoodFrom m before points → NoneLeft m (last_sums before points) → (x : Sums) → Contains (sums_list points) x → IsAttained m x × IsUndominated m x
all_undominated m before [] good none x c = absurd (omega (arith, c.1))
all_undominated m before (point ∷ points) good none x c = elim (Contains-cases point.sums (sums_list points) x c) [
  | inl e ↦ subst (λ (y : Sums). IsAttained m y × IsUndominated m y) e (point_attained m before point good.0, undominated_if m before point good.0 (rest_excludes m point points good.1 none))
  | inr d ↦ all_undominated m (Some point.sums) points good.1 none x d
]

losses_rise : (m : Mill) (before : Option Sums) (points : List Point) → IsGoodFrom m before points → LossesRise (sums_list points)
losses_rise m before [] good = tt
losses_rise m before (point ∷ []) good = tt
losses_rise m before (point ∷ next ∷ points) good = (good.1.0.loss, losses_rise m (Some point.sums) (next ∷ points) good.1)

-- the last tree leaves nothing
none_left : (m : Mill) (points : List Point) (last : MarkedSteps) → IsGoodWhole m points last → NoneLeft m (last_sums None points)
none_left m points last whole x attained falls =
    no_pair m (record { loss = None; count = below (count_before (last_sums None points)) }) last x whole.rest attained (record { loss = tt; count = within_below x.count (last_sums None points) falls })

pub gap_law : (m : Mill) (points : List Point) (last : MarkedSteps) → IsGoodWhole m points last → IsFront m (sums_list points)
gap_law m points last whole = record {
  rise = losses_rise m None points whole.head;
  exact = λ x. (
    all_undominated m None points whole.head (none_left m points last whole) x,
    λ h. all_points m None points whole.head (none_left m points last whole) x h.0 h.1 tt,
  );
}

-- without a point there is no legal plan
pub no_plan : (m : Mill) (last : MarkedSteps) → IsGoodWhole m [] last → (p : Plan) → IsLegal m p → ⊥
no_plan m last whole p legal = none_left m [] last whole (sums_of m p) (p, legal, refl) tt

-- ---- a head alone

pub head_law : (m : Mill) (before : Option Sums) (front : List Point) (last : Point) → IsGoodFrom m before (front ++ last ∷ []) →
    AllByRecursion (IsUndominated m) (sums_list front) × ((x : Sums) → IsAttained m x → FallsBelow x.count (last_sums before front) → last.sums.loss ≤ x.loss)
head_law m before [] last good = (tt, λ x attained falls. point_least m before last good.0 x attained falls)
head_law m before (point ∷ []) last good =
    ((undominated_if m before point good.0 (next_excludes m point last good.1.0), tt), (head_law m (Some point.sums) [] last good.1).1)
head_law m before (point ∷ next ∷ front) last good =
    let rest : AllByRecursion (IsUndominated m) (sums_list (next ∷ front)) × ((x : Sums) → IsAttained m x → FallsBelow x.count (last_sums (Some point.sums) (next ∷ front)) → last.sums.loss ≤ x.loss) = head_law m (Some point.sums) (next ∷ front) last good.1 in
    ((undominated_if m before point good.0 (next_excludes m point next good.1.0), rest.0), rest.1)

-- ---- there is one front

pub rises_above : (x : Sums) (xs : List Sums) → LossesRise (x ∷ xs) → (y : Sums) → Contains xs y → x.loss < y.loss
rises_above x [] r y c = absurd (omega (arith, c.1))
rises_above x (z ∷ zs) r y c = elim (Contains-cases z zs y c) [
  | inl e ↦ subst (λ (s : Sums). x.loss < s.loss) e r.0
  | inr d ↦ let h : z.loss < y.loss = rises_above z zs r.1 y d in omega (arith, r.0)
]

pub rise_tail : (x : Sums) (xs : List Sums) → LossesRise (x ∷ xs) → LossesRise xs
rise_tail x [] r = tt
rise_tail x (y ∷ ys) r = r.1

-- rising lists with the same members are one
same_rising : (xs ys : List Sums) → LossesRise xs → LossesRise ys → ((x : Sums) → Contains xs x → Contains ys x) → ((x : Sums) → Contains ys x → Contains xs x) → xs ≡ ys
same_rising [] [] r s f g = refl
same_rising [] (y ∷ ys) r s f g = let c : Contains [] y = g y (Contains-here y ys) in absurd (omega (arith, c.1))
same_rising (x ∷ xs) [] r s f g = let c : Contains [] x = f x (Contains-here x xs) in absurd (omega (arith, c.1))
same_rising (x ∷ xs) (y ∷ ys) r s f g = ap₂ ◌∷◌ heads (same_rising xs ys (rise_tail x xs r) (rise_tail y ys s) down up)
  where
    heads : x ≡ y
    heads = elim (Contains-cases y ys x (f x (Contains-here x xs))) [
      | inl e ↦ sym e
      | inr d ↦ elim (Contains-cases x xs y (g y (Contains-here y ys))) [
        | inl e ↦ e
        | inr h ↦ absurd (apart (rises_above y ys s x d) (rises_above x xs r y h))
      ]
    ]
      where
        apart : y.loss < x.loss → x.loss < y.loss → ⊥
        apart p q = omega arith

    not_first : (z : Sums) → x.loss < z.loss → z ≡ x → ⊥
    not_first z p e = let h : z.loss ≡ x.loss = ap (λ (s : Sums). s.loss) e in omega arith

    down : (z : Sums) → Contains xs z → Contains ys z
    down z c = elim (Contains-cases y ys z (f z (Contains-later x xs z c))) [
      | inl e ↦ absurd (not_first z (rises_above x xs r z c) (sym e ∙ sym heads))
      | inr d ↦ d
    ]

    up : (z : Sums) → Contains ys z → Contains xs z
    up z c = elim (Contains-cases x xs z (g z (Contains-later y ys z c))) [
      | inl e ↦ absurd (not_first z (let h : y.loss < z.loss = rises_above y ys s z c in let k : x.loss ≡ y.loss = ap (λ (s : Sums). s.loss) heads in omega arith) (sym e))
      | inr d ↦ d
    ]

pub one_front : (m : Mill) (xs ys : List Sums) → IsFront m xs → IsFront m ys → xs ≡ ys
one_front m xs ys f g = same_rising xs ys f.rise g.rise (λ x c. (g.exact x).1 ((f.exact x).0 c)) (λ x c. (f.exact x).1 ((g.exact x).0 c))
