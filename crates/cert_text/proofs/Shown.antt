-- What good certificates show.
use Rattle.std.proofs.Common.{◌≡◌, ◌<◌, List, [], ◌∷◌, length, inl, inr, refl, ap, arith, ◌⊎◌}
use Rattle.mill_model.specs.Mill.{Mill}
use Rattle.mill_model.specs.Plans.{Plan, IsLegal}
use Rattle.mill_model.specs.Fronts.{Point, IsFront, IsGoodHead, sums_list}
use Rattle.mill_model.proofs.Gap.{gap_law, no_plan}
use Rattle.cert_text.specs.Certificates.{Ending, IsGoodEnded, IsWhole, IsCut}
use Rattle.cert_text.specs.Certificates.Ending.{Whole, Cut}
use Rattle.cert_text.specs.Laws.{EachShowsOne, WhatIsShownHolds}

no_both : (ending : Ending) → IsWhole ending → IsCut ending → ⊥
no_both (Whole last) whole cut = cut
no_both (Cut outline) whole cut = whole

-- an ending is of one of two kinds
ends_somehow : (ending : Ending) → IsWhole ending ⊎ IsCut ending
ends_somehow (Whole last) = inl tt
ends_somehow (Cut outline) = inr tt

some_or_none : (points : List Point) → (0 < length points) ⊎ (points ≡ [])
some_or_none [] = inr refl
some_or_none (point ∷ points) = inl (omega arith)

pub each_shows_one : EachShowsOne
each_shows_one m c = (
  λ good. elim (ends_somehow c.ending) [
    | inl whole ↦ elim (some_or_none c.points) [
      | inl some ↦ inl (record { good = good; whole = whole; some = some })
      | inr none ↦ inr (inl (record { good = good; whole = whole; none = none }))
    ]
    | inr cut ↦ inr (inr (record { good = good; cut = cut }))
  ],
  λ front none. let some : 0 < length c.points = front.some in absurd (omega (arith, some, ap length none.none)),
  λ front cut. no_both c.ending front.whole cut.cut,
  λ none cut. no_both c.ending none.whole cut.cut,
)

head_is : (m : Mill) (points : List Point) (ending : Ending) → IsGoodEnded m points ending → IsGoodHead m points
head_is m points (Whole last) good = good.head
head_is m points (Cut outline) good = good.head

front_is : (m : Mill) (points : List Point) (ending : Ending) → IsGoodEnded m points ending → IsWhole ending → IsFront m (sums_list points)
front_is m points (Whole last) good whole = gap_law m points last good
front_is m points (Cut outline) good whole = absurd whole

none_is : (m : Mill) (points : List Point) (ending : Ending) (p : Plan) → points ≡ [] → IsGoodEnded m points ending → IsWhole ending → IsLegal m p → ⊥
none_is m [] (Whole last) p none good whole legal = no_plan m last good p legal
none_is m (point ∷ points) (Whole last) p none good whole legal = cc
none_is m points (Cut outline) p none good whole legal = whole

pub what_is_shown_holds : WhatIsShownHolds
what_is_shown_holds m c = (
  λ front. front_is m c.points c.ending front.good.ended front.whole,
  λ none p legal. none_is m c.points c.ending p none.none none.good.ended none.whole legal,
  λ good. head_is m c.points c.ending good.ended,
)
