-- The ways to place an order, one by one, and the one that is drawn.
use Rattle.std.proofs.Common.{◌≡◌, ℕ, ◌+◌, ◌<◌, ℤ, Bool, true, false, cond, List, [], ◌∷◌, ◌++◌, length, get_or, map, All, Option, Some, refl, sym, ap, ap₂, ◌∙◌, subst, arith, append-nil}
use Rattle.std.specs.List.{filter, range_with_len}
use Rattle.std.proofs.lemmas.List.{map_push}
use Rattle.std.proofs.lemmas.Option.{slice_get-get_or}
use Rattle.std.proofs.lemmas.List.Elements.{filter-append, All-append, All-map, All-filter}
use Rattle.mill_model.specs.declared.kind.Kind.{Kind}
use Rattle.mill_model.specs.declared.kind.Kind.TheVariants.{Old}
use Rattle.mill_model.specs.Mill.{Mill}
use Rattle.mill_model.specs.Columns.{Column}
use Rattle.number_draws.specs.Draws.{next_draw}
use Rattle.slab_filling.specs.Slabs.{takes, takes_alone}
use Rattle.slab_filling.specs.Placing.{kinds_to_open}
use Rattle.slab_lns.specs.declared.ways.Way.{Way}
use Rattle.slab_lns.specs.declared.ways.Way.TheVariants.{On, Open}
use Rattle.slab_lns.specs.Drawn.{draw_from}
use Rattle.number_draws.specs.Draws.{among}
use Rattle.slab_lns.specs.Neighbourhoods.{slab_at}
use Rattle.slab_lns.specs.Options.{ways, ways_on_open, ways_to_open, placed, place_one}
use Rattle.slab_lns.proofs.Ranges.{All-range, map_passed, map_failed}

abbrev pub to_surplus : (ℕ → Bool) → (Kind → Bool) → ℕ → List Way
to_surplus free test s = map Open (filter test (map Old (filter free (range_with_len 0 s))))

pub surplus_taken : (free : ℕ → Bool) (test : Kind → Bool) (s : ℕ) → free s ≡ true → test (Old s) ≡ true → to_surplus free test (s + 1) ≡ to_surplus free test s ++ Open (Old s) ∷ []
surplus_taken free test s f t =
    ap (λ ks. map Open (filter test ks)) (map_passed Old free s f)
    ∙ ap (map Open) (filter-append test (map Old (filter free (range_with_len 0 s))) (Old s ∷ []) ∙ ap (λ b. filter test (map Old (filter free (range_with_len 0 s))) ++ cond b (Old s ∷ []) []) t)
    ∙ map_push Open (filter test (map Old (filter free (range_with_len 0 s)))) (Old s)

pub surplus_open : (free : ℕ → Bool) (test : Kind → Bool) (s : ℕ) → free s ≡ false → to_surplus free test (s + 1) ≡ to_surplus free test s
surplus_open free test s f = ap (λ ks. map Open (filter test ks)) (map_failed Old free s f)

pub surplus_refused : (free : ℕ → Bool) (test : Kind → Bool) (s : ℕ) → test (Old s) ≡ false → to_surplus free test (s + 1) ≡ to_surplus free test s
surplus_refused free test s t = by_free (free s) refl
  where
    by_free : (b : Bool) → free s ≡ b → to_surplus free test (s + 1) ≡ to_surplus free test s
    by_free false f = surplus_open free test s f
    by_free true f =
        ap (λ ks. map Open (filter test ks)) (map_passed Old free s f)
        ∙ ap (map Open) (filter-append test (map Old (filter free (range_with_len 0 s))) (Old s ∷ []) ∙ ap (λ b. filter test (map Old (filter free (range_with_len 0 s))) ++ cond b (Old s ∷ []) []) t ∙ append-nil (filter test (map Old (filter free (range_with_len 0 s)))))

-- ---- each way on an open slab is on one of them

abbrev pub IsOnOne : ℕ → Way → Type 0
IsOnOne count (On k) = k < count
IsOnOne count (Open kind) = Unit {0}

opens : (count : ℕ) (kinds : List Kind) → All (IsOnOne count) (map Open kinds)
opens count kinds = All-map (IsOnOne count) Open kinds (λ k d h. tt)

pub on_one_of : (m : Mill) (limit : Option ℤ) (o : ℕ) (slabs : List Column) → All (IsOnOne (length slabs)) (ways m limit o slabs)
on_one_of m limit o slabs =
    All-append (IsOnOne (length slabs)) (ways_on_open m o slabs) (ways_to_open m o (kinds_to_open m limit slabs))
    (All-map (IsOnOne (length slabs)) On (filter (λ k. takes m o (slab_at slabs k)) (range_with_len 0 (length slabs)))
    (All-filter (λ k. takes m o (slab_at slabs k)) (λ k. k < length slabs) (range_with_len 0 (length slabs)) (All-range (λ k. k < length slabs) (length slabs) (λ k h. h))))
    (opens (length slabs) (filter (takes_alone m o) (kinds_to_open m limit slabs)))

-- ---- the way that is drawn

pub draw_is : {X : Type 0} (xs : List X) (last : ℕ) (d : X) → 0 < length xs → draw_from xs last ≡ record { found = Some (get_or xs (among (length xs) (next_draw last)) d); last = next_draw last }
draw_is [] last d h = absurd (omega arith)
draw_is (x ∷ xs) last d h =
    ap (λ (found : Option _). record { found = found; last = next_draw last }) (slice_get-get_or (x ∷ xs) (among (length (x ∷ xs)) (next_draw last)) d (within (length (x ∷ xs)) (next_draw last) h))
  where
    within : (k y : ℕ) → 0 < k → among k y < k
    within k y l = omega arith

pub placed_is : (m : Mill) (limit : Option ℤ) (o : ℕ) (slabs : List Column) (last : ℕ) (d : Way) → 0 < length (ways m limit o slabs)
    → place_one m limit o slabs last ≡ record { found = Some (placed o slabs (get_or (ways m limit o slabs) (among (length (ways m limit o slabs)) (next_draw last)) d)); last = next_draw last }
placed_is m limit o slabs last d h = rw (draw_is (ways m limit o slabs) last d h) refl

module _ (m : Mill) (limit : Option ℤ) (o : ℕ) (slabs : List Column) (last : ℕ) (listed : List Way) (count next j : ℕ) (way : Way)
    (e : listed ≡ ways m limit o slabs) (n : count ≡ length listed) (some : count ≡ 0 → ⊥) (number : next ≡ next_draw last) (drawn : j ≡ among count next) (at : way ≡ get_or listed j way) where
  all_of : length (ways m limit o slabs) ≡ count
  all_of = sym (n ∙ ap (λ (ws : List Way). length ws) e)

  way_is : get_or (ways m limit o slabs) j way ≡ way
  way_is = ap (λ (ws : List Way). get_or ws j way) (sym e) ∙ sym at

  within_all : 0 < count → j < count
  within_all h = omega (arith, drawn)

  above : 0 < count
  above = omega (arith, some)

  pub placed_by : place_one m limit o slabs last ≡ record { found = Some (placed o slabs way); last = next }
  placed_by =
      let here : among (length (ways m limit o slabs)) (next_draw last) ≡ j = ap₂ among all_of (sym number) ∙ sym drawn in
      placed_is m limit o slabs last way (omega (arith, all_of, above))
      ∙ ap₂ (λ (ss : List Column) (l : ℕ). record { found = Some ss; last = l }) (ap (λ i. placed o slabs (get_or (ways m limit o slabs) i way)) here ∙ ap (placed o slabs) way_is) (sym number)

  pub on_within : (k : ℕ) → way ≡ On k → k < length slabs
  on_within k q = subst (IsOnOne (length slabs)) (way_is ∙ q) (on_one_of m limit o slabs j way (omega (arith, all_of, within_all above)))
