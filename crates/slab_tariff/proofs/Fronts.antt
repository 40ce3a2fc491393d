-- What a tariff says of all plans.
use Rattle.std.proofs.Common.{◌≡◌, ◌⊎◌, ℕ, zero, suc, ◌+◌, ◌-◌, ◌*◌, ◌<◌, ◌≤◌, List, [], ◌∷◌, ◌++◌, map, length, get_or, length-append, All, Contains, refl, arith, ap, sym, subst, ◌∙◌, inl, inr}
use Rattle.std.proofs.lemmas.Bool.{cases_lt}
use Rattle.std.specs.Prelude.{AllPairs}
use Prim.Native.Nat.{◌∣◌}
use Rattle.std.proofs.lemmas.Nat.Gcd.{dvd-zero, le_of_dvd}
use Rattle.std.proofs.lemmas.List.{get_or_append_left, get_or-append-add, get_or-map, length-map}
use Rattle.std.proofs.Math.Seq.{get_or-append_seam}
use Rattle.std.proofs.Math.Nat.{mul-le-mul_left}
use Rattle.std.proofs.lemmas.List.Elements.{All-contains, All-filter, Contains-append_cases, Contains-get_or}
use Rattle.mill_model.specs.declared.sums.Sums.{Sums}
use Rattle.mill_model.specs.Mill.{Mill}
use Rattle.mill_model.specs.Plans.{Plan, IsLegal, sums_of}
use Rattle.mill_model.specs.Fronts.{LossesRise, IsFront, Covers}
use Rattle.mill_model.proofs.Gap.{Contains-later, Contains-cases}
use Rattle.slab_tariff.specs.declared.span.Span.{Span}
use Rattle.slab_tariff.specs.Ratios.{Ratio, IsAtMost, IsLowest}
use Rattle.slab_tariff.specs.Tariffs.{cost_of, ratio, is_wide, IsBefore, IsStaircase, IsSpan, AreSpans, IsFirstCheapest}
use Rattle.slab_tariff.proofs.Order.{trans}
use Rattle.mill_model.proofs.Covering.{covered}

-- what is at most another in both numbers costs at most as much
cost_at_most : (a b : ℕ) (x y : Sums) → x.loss ≤ y.loss → x.count ≤ y.count → cost_of a b x ≤ cost_of a b y
cost_at_most a b x y h k = omega (arith, mul-le-mul_left a h, mul-le-mul_left b k)

-- a member of points is one before a point, the point, or one after it
pub where_it_stands : (points before after : List Sums) (x y : Sums) → points ≡ before ++ x ∷ after → Contains points y → Contains before y ⊎ ((x ≡ y) ⊎ Contains after y)
where_it_stands points before after x y e c = elim (Contains-append_cases before (x ∷ after) y (subst (λ ps. Contains ps y) e c)) [
  | inl h ↦ inl h
  | inr h ↦ inr (Contains-cases x after y h)
]

pub cheapest_least : (points : List Sums) (a b v : ℕ) (x y : Sums) → IsFirstCheapest points a b (v, x) → Contains points y → v ≤ cost_of a b y
cheapest_least points a b v x y h c = elim (where_it_stands points h.before h.after x y h.stands c) [
  | inl k ↦ omega (arith, All-contains (λ z. v < cost_of a b z) h.before y h.first k)
  | inr rest ↦ elim rest [
    | inl e ↦ subst (λ z. v ≤ cost_of a b z) e (omega (arith, h.costs))
    | inr k ↦ All-contains (λ z. v ≤ cost_of a b z) h.after y h.least k
  ]
]

pub cheapest_plan : (m : Mill) (points : List Sums) (a b v : ℕ) (x : Sums) (p : Plan) → IsFront m points → IsFirstCheapest points a b (v, x) → IsLegal m p → v ≤ cost_of a b (sums_of m p)
cheapest_plan m points a b v x p front best legal =
    let c : Covers points (sums_of m p) = covered m points (sums_of m p) front (p, legal, refl) in
    let low : v ≤ cost_of a b c.0 = cheapest_least points a b v x c.0 best c.1 in
    omega (arith, low, cost_at_most a b c.0 (sums_of m p) c.2 c.3)

-- of a point and a later one, the later costs no more where the prices' ratio is at least theirs
later_costs : (a b : ℕ) (x y : Sums) → IsBefore x y → IsAtMost (ratio x y) (b, a) → cost_of a b y ≤ cost_of a b x
later_costs a b x y p h = by (y.loss - x.loss) (x.count - y.count) (omega arith) (omega (arith, p.1)) h
  where
    by : (d e : ℕ) → y.loss ≤ x.loss + d → x.count ≡ y.count + e → d * a ≤ b * e → cost_of a b y ≤ cost_of a b x
    by d e u v w =
        let more : a * y.loss ≤ a * (x.loss + d) = mul-le-mul_left a u in
        let split : a * (x.loss + d) ≡ a * x.loss + d * a = omega arith in
        let fewer : b * x.count ≡ b * y.count + b * e = ap (λ (k : ℕ). b * k) v ∙ (omega arith) in
        omega (arith, more, split, fewer, w)

-- and the earlier costs no more where it is at most theirs
earlier_costs : (a b : ℕ) (x y : Sums) → IsBefore x y → IsAtMost (b, a) (ratio x y) → cost_of a b x ≤ cost_of a b y
earlier_costs a b x y p h = by (y.loss - x.loss) (x.count - y.count) (omega (arith, p.0)) (omega arith) h
  where
    by : (d e : ℕ) → y.loss ≡ x.loss + d → x.count ≤ y.count + e → b * e ≤ d * a → cost_of a b x ≤ cost_of a b y
    by d e u v w =
        let more : b * x.count ≤ b * (y.count + e) = mul-le-mul_left b v in
        let split : b * (y.count + e) ≡ b * y.count + b * e = omega arith in
        let less : a * y.loss ≡ a * x.loss + d * a = ap (λ (k : ℕ). a * k) u ∙ (omega arith) in
        omega (arith, more, split, less, w)

-- points stand before one another as the list has them
module _ (before after : List Sums) (x : Sums) (steps : AllPairs IsBefore (before ++ x ∷ after)) where
  pub before_it : (z : Sums) → Contains before z → IsBefore z x
  before_it z c =
      let e : get_or (before ++ x ∷ after) c.0 z ≡ z = get_or_append_left before (x ∷ after) z c.0 c.1 ∙ c.2 in
      let f : get_or (before ++ x ∷ after) (length before) z ≡ x = get_or-append_seam before x after z in
      let inside : length before < length (before ++ x ∷ after) = omega (arith, length-append before (x ∷ after)) in
      subst (λ u. IsBefore u x) e (subst (IsBefore (get_or (before ++ x ∷ after) c.0 z)) f (steps c.0 (length before) z c.1 inside))

  pub after_it : (y : Sums) → Contains after y → IsBefore x y
  after_it y c =
      let f : get_or (before ++ x ∷ after) (length before) y ≡ x = get_or-append_seam before x after y in
      let e : get_or (before ++ x ∷ after) (length before + suc c.0) y ≡ y = get_or-append-add before (x ∷ after) (suc c.0) y ∙ c.2 in
      let inside : length before + suc c.0 < length (before ++ x ∷ after) = omega (arith, length-append before (x ∷ after), c.1) in
      let above : length before < length before + suc c.0 = omega arith in
      subst (IsBefore x) e (subst (λ u. IsBefore u (get_or (before ++ x ∷ after) (length before + suc c.0) y)) f (steps (length before) (length before + suc c.0) y above inside))

-- a ratio in lowest terms isn't 0 over 0
pub lowest_proper : (r : Ratio) → IsLowest r → 0 < r.0 + r.1
lowest_proper (zero, zero) h = absurd (two (h.2 2 (dvd-zero 2) (dvd-zero 2)))
  where
    two : 2 ∣ 1 → ⊥
    two d = let k : 2 ≤ 1 = le_of_dvd (omega arith) d in omega (arith, k)
lowest_proper (suc a, b) h = omega arith
lowest_proper (zero, suc b) h = omega arith

pub mapped : (f : Sums → Ratio) (first : Ratio) (xs : List Sums) (z : Sums) → Contains xs z → Contains (first ∷ map f xs) (f z)
mapped f first xs z c = Contains-later first (map f xs) (f z) (c.0, omega (arith, c.1, length-map xs f), get_or-map f xs c.0 z (f z) c.1 ∙ ap f c.2)

-- no point costs less than that of a span
span_least : (points : List Sums) (s : Span) (a b : ℕ) (y : Sums) → AllPairs IsBefore points → IsSpan points s → IsAtMost s.from (b, a) → IsAtMost (b, a) s.to → Contains points y → cost_of a b s.sums ≤ cost_of a b y
span_least points s a b y steps span low high c =
    let stands : AllPairs IsBefore (span.before ++ s.sums ∷ span.after) = subst (AllPairs IsBefore) span.stands steps in
    elim (where_it_stands points span.before span.after s.sums y span.stands c) [
      | inl k ↦
          let above : IsAtMost (ratio y s.sums) s.from = All-contains (λ r. IsAtMost r s.from) ((0, 1) ∷ map (λ x. ratio x s.sums) span.before) (ratio y s.sums) span.from.greatest (mapped (λ x. ratio x s.sums) (0, 1) span.before y k) in
          later_costs a b y s.sums (before_it span.before span.after s.sums stands y k) (trans (ratio y s.sums) s.from (b, a) (lowest_proper s.from span.from.lowest) above low)
      | inr rest ↦ elim rest [
        | inl e ↦ subst (λ z. cost_of a b s.sums ≤ cost_of a b z) e (omega arith)
        | inr k ↦
            let above : IsAtMost s.to (ratio s.sums y) = All-contains (IsAtMost s.to) ((1, 0) ∷ map (λ z. ratio s.sums z) span.after) (ratio s.sums y) span.to.least (mapped (λ z. ratio s.sums z) (1, 0) span.after y k) in
            earlier_costs a b s.sums y (after_it span.before span.after s.sums stands y k) (trans (b, a) s.to (ratio s.sums y) (lowest_proper s.to span.to.lowest) high above)
      ]
    ]

-- ---- a front is a staircase

losses_rise : (xs : List Sums) → LossesRise xs → (i j : ℕ) (d : Sums) → i < j → j < length xs → (get_or xs i d).loss < (get_or xs j d).loss
losses_rise [] rise i j d p q = absurd (omega (arith, q))
losses_rise (x ∷ []) rise i zero d p q = absurd (omega (arith, p))
losses_rise (x ∷ []) rise i (suc j) d p q = absurd (omega (arith, q))
losses_rise (x ∷ y ∷ ys) rise i zero d p q = absurd (omega (arith, p))
losses_rise (x ∷ y ∷ ys) rise zero (suc zero) d p q = rise.0
losses_rise (x ∷ y ∷ ys) rise zero (suc (suc j)) d p q = omega (arith, rise.0, losses_rise (y ∷ ys) rise.1 zero (suc j) d (omega arith) (omega (arith, q)))
losses_rise (x ∷ y ∷ ys) rise (suc i) (suc j) d p q = losses_rise (y ∷ ys) rise.1 i j d (omega (arith, p)) (omega (arith, q))

pub front_stairs : (m : Mill) (xs : List Sums) → IsFront m xs → IsStaircase xs
front_stairs m xs front i j d p q =
    let x : Sums = get_or xs i d in
    let y : Sums = get_or xs j d in
    let less : x.loss < y.loss = losses_rise xs front.rise i j d p q in
    let inside : i < length xs = omega (arith, p, q) in
    let first = (front.exact x).0 (Contains-get_or xs i d inside) in
    let second = (front.exact y).0 (Contains-get_or xs j d q) in (
      less,
      elim (cases_lt y.count x.count) [
        | inl h ↦ h
        | inr h ↦ absurd (second.1 x first.0 (omega (arith, less), h, λ e. unequal x y less (ap (λ s. s.loss) e)))
      ],
    )
  where
    unequal : (x y : Sums) → x.loss < y.loss → x.loss ≡ y.loss → ⊥
    unequal x y h e = omega (arith, h, e)

pub span_plan : (m : Mill) (points : List Sums) (spans : List Span) (s : Span) (a b : ℕ) (p : Plan) → IsFront m points → AreSpans points spans → Contains spans s → IsAtMost s.from (b, a) → IsAtMost (b, a) s.to → IsLegal m p → cost_of a b s.sums ≤ cost_of a b (sums_of m p)
span_plan m points spans s a b p front are c low high legal =
    let covers : Covers points (sums_of m p) = covered m points (sums_of m p) front (p, legal, refl) in
    let span : IsSpan points s = All-contains (IsSpan points) spans s (subst (λ ss. All (IsSpan points) ss) (sym are.wide) (All-filter is_wide (IsSpan points) are.all are.ends)) c in
    let least : cost_of a b s.sums ≤ cost_of a b covers.0 = span_least points s a b covers.0 (front_stairs m points front) span low high covers.1 in
    omega (arith, least, cost_at_most a b covers.0 (sums_of m p) covers.2 covers.3)
