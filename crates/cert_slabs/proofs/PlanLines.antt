-- The rules of a plan's lines, from what is tested.
use Rattle.std.proofs.Common.{◌≡◌, ◌⊎◌, ◌↔◌, ℕ, ◌+◌, ◌-◌, ◌<◌, ◌≤◌, ℤ, Bool, true, false, ◌||◌, eqb, inl, inr, List, [], ◌∷◌, ◌++◌, drop, length, get_or, slice_get, Some, refl, sym, ap, ap₂, ◌∙◌, subst, arith}
use Rattle.std.specs.List.{AllByRecursion, list_any, sum_by, count_by}
use Rattle.std.proofs.lemmas.List.{length-map, length-append, map-append}
use Rattle.std.proofs.lemmas.Bool.{cases_lt}
use Rattle.std.proofs.lemmas.List.Folds.{list_any-append}
use Rattle.mill_model.specs.declared.kind.Kind.{Kind}
use Rattle.mill_model.specs.declared.kind.Kind.TheVariants.{New, Old}
use Rattle.mill_model.specs.declared.sums.Sums.{Sums}
use Rattle.mill_model.specs.Mill.{Mill}
use Rattle.mill_model.specs.Columns.{Column, Rises, has, size_of}
use Rattle.mill_model.specs.Judging.{is_among}
use Rattle.mill_model.specs.Plans.{is_new}
use Rattle.cert_rules.specs.declared.why.Why.{Why}
use Rattle.cert_rules.specs.declared.why.Why.TheVariants as why
use Rattle.cert_rules.specs.Rules.{AllKept, FirstBroken}
use Rattle.cert_rules.specs.Numbers.{Names, index, natural, number_at}
use Rattle.cert_rules.specs.Slabs.{IsListed, IsPlaced, ArePlaceable, AreAllPlaced, kinds_of, new_rules, old_slab, old_rules, orders_on, plan_rules}
use Rattle.cert_rules.specs.Spreads.{AreNamed}
use Rattle.cert_rules.proofs.Slabs.{has_below, head_has}
use Rattle.cert_rules.proofs.SlabLines.{each_has, has_each}
use Rattle.cert_slabs.specs.Answers.{slab_rules}
use Rattle.cert_slabs.specs.Drafts.{Draft, IsDraft, IsOpenDraft, AreNext, ArePut, IsNextFree}
use Rattle.cert_slabs.proofs.Rising.{rises_at, all_at}

-- a list that has an element
pub front_of : (numbers : List ℤ) → 1 ≤ length numbers → numbers ≡ number_at numbers 0 ∷ drop 1 numbers
front_of [] h = absurd (omega (arith, h))
front_of (x ∷ numbers) h = refl

-- ---- the rules in their order

module _ (m : Mill) (slabs : List Column) (numbers : List ℤ) (some : 1 ≤ length numbers) where
  abbrev first : ℤ
  first = number_at numbers 0

  abbrev others : List ℤ
  others = drop 1 numbers

  new_broken : (broken : Why) → FirstBroken (new_rules m slabs (first ∷ others)) broken → FirstBroken (new_rules m slabs numbers) broken
  new_broken broken = subst (λ ns. FirstBroken (new_rules m slabs ns) broken) (sym (front_of numbers some))

  pub new_size_broken : (IsListed m first → ⊥) → FirstBroken (new_rules m slabs numbers) why.Size
  new_size_broken h = new_broken why.Size (inl (h, refl))

  pub new_place_broken : IsListed m first → (ArePlaceable m slabs others → ⊥) → FirstBroken (new_rules m slabs numbers) why.Place
  new_place_broken size h = new_broken why.Place (inr (size, inl (h, refl)))

  abbrev new_column : Column
  new_column = record { kind = New (natural first); orders = orders_on others }

  pub new_slab_broken : (broken : Why) → IsListed m first → ArePlaceable m slabs others → FirstBroken (slab_rules m new_column) broken → FirstBroken (new_rules m slabs numbers) broken
  new_slab_broken broken size place h = new_broken broken (inr (size, inr (place, h)))

  pub new_kept : IsListed m first → ArePlaceable m slabs others → AllKept (slab_rules m new_column) → AllKept (new_rules m slabs numbers)
  new_kept size place h = subst (λ ns. AllKept (new_rules m slabs ns)) (sym (front_of numbers some)) (size, (place, h))

  old_broken : (broken : Why) → FirstBroken (old_rules m slabs (first ∷ others)) broken → FirstBroken (old_rules m slabs numbers) broken
  old_broken broken = subst (λ ns. FirstBroken (old_rules m slabs ns) broken) (sym (front_of numbers some))

  abbrev IsUnused : Type 0
  IsUnused = is_among (kinds_of slabs) (Old (index first)) ≡ false

  pub old_yard_broken : (Names (length m.yard) first → ⊥) → FirstBroken (old_rules m slabs numbers) why.Yard
  old_yard_broken h = old_broken why.Yard (inl (h, refl))

  pub old_twice_broken : Names (length m.yard) first → (IsUnused → ⊥) → FirstBroken (old_rules m slabs numbers) why.Twice
  old_twice_broken yard h = old_broken why.Twice (inr (yard, inl (h, refl)))

  pub old_place_broken : Names (length m.yard) first → IsUnused → (ArePlaceable m slabs others → ⊥) → FirstBroken (old_rules m slabs numbers) why.Place
  old_place_broken yard unused h = old_broken why.Place (inr (yard, inr (unused, inl (h, refl))))

  abbrev old_column : Column
  old_column = record { kind = Old (index first); orders = orders_on others }

  pub old_slab_broken : (broken : Why) → Names (length m.yard) first → IsUnused → ArePlaceable m slabs others → FirstBroken (slab_rules m old_column) broken → FirstBroken (old_rules m slabs numbers) broken
  old_slab_broken broken yard unused place h = old_broken broken (inr (yard, inr (unused, inr (place, h))))

  pub old_kept : Names (length m.yard) first → IsUnused → ArePlaceable m slabs others → AllKept (slab_rules m old_column) → AllKept (old_rules m slabs numbers)
  old_kept yard unused place h = subst (λ ns. AllKept (old_rules m slabs ns)) (sym (front_of numbers some)) (yard, (unused, (place, h)))

-- ---- the draft

module _ (m : Mill) (slabs : List Column) (draft : Draft) (is : IsDraft m slabs draft) where
  -- orders that are free in the draft lie on no slab
  pub placeable_from : (numbers : List ℤ) → AreNamed m numbers → AreNext draft.placed (orders_on numbers) → ArePlaceable m slabs numbers
  placeable_from numbers named next = record {
    named = named.0;
    rise = named.1;
    new = each_has (λ o. IsPlaced slabs o → ⊥) (orders_on numbers) (λ o there placed. false_is_not_true (sym (has_each (λ x. get_or draft.placed x false ≡ false) (orders_on numbers) next.free o there) ∙ is.placed o (has_below 0 (length m.orders) (orders_on numbers) o named.1 there) ∙ placed));
    least = λ o below. sym (is.placed o (omega (arith, below, least_within))) ∙ next.least o below;
  }
    where
      false_is_not_true : false ≡ true → ⊥
      false_is_not_true e = cc

      least_within : get_or (orders_on numbers) 0 0 < length m.orders
      least_within = has_below 0 (length m.orders) (orders_on numbers) (get_or (orders_on numbers) 0 0) named.1 (head_has (orders_on numbers) next.some)

  pub next_from : (numbers : List ℤ) → 0 < length numbers → ArePlaceable m slabs numbers → AreNamed m numbers × AreNext draft.placed (orders_on numbers)
  next_from numbers some place = (
    (place.named, place.rise),
    record {
      some = omega (arith, some, length-map numbers index);
      rise = subst (λ n. Rises 0 n (orders_on numbers)) (sym is.orders) place.rise;
      free = each_has (λ o. get_or draft.placed o false ≡ false) (orders_on numbers) (λ o there. free_at o there);
      least = λ o below. is.placed o (omega (arith, below, least_within)) ∙ place.least o below;
    },
  )
    where
      free_at : (o : ℕ) → has (orders_on numbers) o ≡ true → get_or draft.placed o false ≡ false
      free_at o there = not_true (get_or draft.placed o false) (λ e. has_each (λ x. IsPlaced slabs x → ⊥) (orders_on numbers) place.new o there (sym (is.placed o (has_below 0 (length m.orders) (orders_on numbers) o place.rise there)) ∙ e))
        where
          not_true : (b : Bool) → (b ≡ true → ⊥) → b ≡ false
          not_true true h = absurd (h refl)
          not_true false h = refl

      least_within : get_or (orders_on numbers) 0 0 < length m.orders
      least_within = has_below 0 (length m.orders) (orders_on numbers) (get_or (orders_on numbers) 0 0) place.rise (head_has (orders_on numbers) (omega (arith, some, length-map numbers index)))

  -- the draft with one slab more
  pub next_draft : (c : Column) (new : Draft) → new.kinds ≡ draft.kinds ++ c.kind ∷ [] → ArePut draft.placed new.placed c.orders → IsDraft m (slabs ++ c ∷ []) new
  next_draft c new kinds put = record {
    kinds = kinds ∙ ap (λ ks. ks ++ c.kind ∷ []) is.kinds ∙ sym (map-append (λ (x : Column). x.kind) slabs (c ∷ []));
    orders = put.length_stays ∙ is.orders;
    placed = λ o l. put.put o (omega (arith, l, is.orders)) ∙ ap (λ b. b || has c.orders o) (is.placed o l) ∙ sym (list_any-append (λ (x : Column). has x.orders o) slabs (c ∷ []) ∙ ap (λ b. list_any (λ (x : Column). has x.orders o) slabs || b) (or_false (has c.orders o)));
  }
    where
      or_false : (b : Bool) → (b || false) ≡ b
      or_false true = refl
      or_false false = refl

  pub unused_is : (s : ℕ) → is_among draft.kinds (Old s) ≡ is_among (kinds_of slabs) (Old s)
  unused_is s = ap (λ ks. is_among ks (Old s)) is.kinds

  -- ---- the end

  pub all_placed : (next : ℕ) → length draft.placed ≤ next → ((o : ℕ) → o < next → get_or draft.placed o false ≡ true) → AreAllPlaced m slabs
  all_placed next most below o l = sym (is.placed o l) ∙ below o (omega (arith, l, most, is.orders))

  pub one_unplaced : (next : ℕ) → next < length draft.placed → get_or draft.placed next false ≡ false → AreAllPlaced m slabs → ⊥
  one_unplaced next l free all = not_both (sym free ∙ is.placed next (omega (arith, l, is.orders)) ∙ all next (omega (arith, l, is.orders)))
    where
      not_both : false ≡ true → ⊥
      not_both e = cc

  abbrev drafted_sums : Sums
  drafted_sums = record { loss = sum_by (size_of m) draft.kinds - sum_by (λ order. order.weight) m.orders; count = count_by is_new draft.kinds }

  pub sums_broken : (sums : Sums) → AreAllPlaced m slabs → (drafted_sums ≡ sums → ⊥) → FirstBroken (plan_rules m sums slabs) why.Sums
  sums_broken sums all h = inr (all, inl (subst (λ ks. (record { loss = sum_by (size_of m) ks - sum_by (λ order. order.weight) m.orders; count = count_by is_new ks }) ≡ sums → ⊥) is.kinds h, refl))

  pub plan_kept : (sums : Sums) → AreAllPlaced m slabs → drafted_sums ≡ sums → AllKept (plan_rules m sums slabs)
  plan_kept sums all h = (all, (subst (λ ks. (record { loss = sum_by (size_of m) ks - sum_by (λ order. order.weight) m.orders; count = count_by is_new ks }) ≡ sums) is.kinds h, tt))

-- ---- a slab more

next_low : (placed : List Bool) (next head : ℕ) → ((o : ℕ) → o < next → get_or placed o false ≡ true) → get_or placed head false ≡ false → next ≤ head
next_low placed next head below free = elim (cases_lt head next) [
  | inl l ↦ let e : false ≡ true = sym free ∙ below head l in absurd cc
  | inr l ↦ l
]

-- the first order of the next slab is the least that isn't placed
pub head_is_next : (kinds : List Kind) (placed : List Bool) (next room : ℕ) (orders : List ℕ) → IsOpenDraft kinds placed next room → AreNext placed orders → (next ≡ get_or orders 0 0) × (next < length placed)
head_is_next kinds placed next room orders draft is =
    let within = (rises_at 0 (length placed) orders 0 is.rise is.some).1 in
    let low : next ≤ get_or orders 0 0 = next_low placed next (get_or orders 0 0) draft.below (all_at (λ o. get_or placed o false ≡ false) orders 0 is.free is.some) in
    let inside : next < length placed = omega (arith, low, within) in (
      elim (cases_lt next (get_or orders 0 0)) [
        | inl l ↦ let e : false ≡ true = sym (draft.free inside) ∙ is.least next l in absurd cc
        | inr l ↦ omega (arith, low, l)
      ],
      inside,
    )

pub open_more : (kinds all : List Kind) (kind : Kind) (placed new : List Bool) (next after room : ℕ) (orders : List ℕ) → IsOpenDraft kinds placed next room → AreNext placed orders → all ≡ kinds ++ kind ∷ [] → ArePut placed new orders → IsNextFree new next after → IsOpenDraft all new after room
open_more kinds all kind placed new next after room orders draft is all_is put free = record {
  few = omega (arith, draft.few, put.length_stays);
  within = free.within;
  below = λ o l. elim (cases_lt o next) [
    | inl low ↦ put.put o (omega (arith, low, draft.within)) ∙ ap (λ b. b || has orders o) (draft.below o low)
    | inr high ↦ free.below o high l
  ];
  free = free.free;
  slabs = omega (arith, draft.slabs, raised, ap length all_is, length-append kinds (kind ∷ []));
  room_fits = draft.room_fits;
}
  where
    head : (next ≡ get_or orders 0 0) × (next < length placed)
    head = head_is_next kinds placed next room orders draft is

    or_true : (b : Bool) → (b || true) ≡ true
    or_true true = refl
    or_true false = refl

    put_there : get_or new next false ≡ true
    put_there = put.put next head.1 ∙ ap (λ b. get_or placed next false || b) (subst (λ o. has orders o ≡ true) (sym head.0) (head_has orders is.some)) ∙ or_true (get_or placed next false)

    raised : next < after
    raised = elim (cases_lt next after) [
      | inl l ↦ l
      | inr l ↦ let same : after ≡ next = omega (arith, l, free.after) in
          let e : false ≡ true = sym (free.free (omega (arith, same, head.1, put.length_stays))) ∙ ap (λ o. get_or new o false) same ∙ put_there in absurd cc
    ]

-- ---- numbers

pub number_is : (numbers : List ℤ) (n : ℤ) → slice_get numbers 0 ≡ Some n → number_at numbers 0 ≡ n
number_is [] n e = absurd cc
number_is (x ∷ numbers) n e = cc

pub surplus_is : (m : Mill) (slabs : List Column) (kinds : List Kind) (first : ℤ) (s : ℕ) (b : Bool) → kinds ≡ kinds_of slabs → index first ≡ s → b ≡ is_among kinds (Old s) → is_among (kinds_of slabs) (Old (index first)) ≡ b
surplus_is m slabs kinds first s b e i h = sym (h ∙ ap₂ (λ ks t. is_among ks (Old t)) e (sym i))

-- the draft with one surplus slab more
pub old_more : (m : Mill) (slabs : List Column) (draft new : Draft) (numbers : List ℤ) (s : ℕ) (orders : List ℕ) → 1 ≤ length numbers → IsDraft m slabs draft → index (number_at numbers 0) ≡ s → orders ≡ orders_on (drop 1 numbers)
    → new.kinds ≡ draft.kinds ++ Old s ∷ [] → ArePut draft.placed new.placed orders → IsDraft m (slabs ++ old_slab numbers ∷ []) new
old_more m slabs draft new numbers s orders some is i os kinds put =
    let column : Column = record { kind = Old s; orders = orders } in
    let same : old_slab numbers ≡ column = ap old_slab (front_of numbers some) ∙ ap₂ (λ t xs. let x : Column = record { kind = Old t; orders = xs } in x) i (sym os) in
    subst (λ (x : Column). IsDraft m (slabs ++ x ∷ []) new) (sym same) (next_draft m slabs draft is column new kinds put)
