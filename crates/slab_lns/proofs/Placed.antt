-- Placing released orders keeps a filling.
use Rattle.std.proofs.Common.{◌≡◌, ℕ, ◌<◌, ℤ, Bool, true, List, [], ◌∷◌, ◌++◌, length, get_or, set, All, Option, Some, None, refl, subst}
use Rattle.std.specs.Option.{option_map}
use Rattle.std.specs.List.{filter, range_with_len}
use Rattle.std.proofs.lemmas.Option.{same_Some, slice_get_within, get_or_from_slice_get}
use Rattle.std.proofs.lemmas.List.Elements.{All-append, All-map, All-filter, filter_passes}
use Rattle.mill_model.specs.declared.kind.Kind.TheVariants.{New}
use Rattle.mill_model.specs.Mill.{Mill}
use Rattle.mill_model.specs.Columns.{Column}
use Rattle.number_draws.specs.Draws.{next_draw}
use Rattle.slab_filling.specs.Slabs.{empty, takes, with_order}
use Rattle.slab_filling.specs.Placing.{kinds_to_open}
use Rattle.slab_filling.proofs.Filled.{AreFilled, IsOpenable, all_openable, put_at, put_opened}
use Rattle.slab_lns.specs.declared.ways.Way.{Way}
use Rattle.slab_lns.specs.declared.ways.Way.TheVariants.{On, Open}
use Rattle.slab_lns.specs.Drawn.{draw_from, go_on}
use Rattle.number_draws.specs.Draws.{among}
use Rattle.slab_lns.specs.Neighbourhoods.{slab_at}
use Rattle.slab_lns.specs.Options.{ways_on_open, ways_to_open, ways, placed, place_one, place_all}
use Rattle.slab_lns.proofs.Ranges.{All-range}

-- what each has, the one that is drawn has
pub drawn_has : {X : Type 0} (P : X → Type 0) (xs : List X) (last : ℕ) (x : X) → All P xs → (draw_from xs last).found ≡ Some x → P x
drawn_has P [] last x all e = cc
drawn_has P (y ∷ ys) last x all e =
    let k : ℕ = among (length (y ∷ ys)) (next_draw last) in
    subst P (get_or_from_slice_get (y ∷ ys) k x y e) (all k y (slice_get_within (y ∷ ys) k x e))

module _ (m : Mill) (limit : Option ℤ) (o : ℕ) (left : List ℕ) (slabs : List Column) (f : AreFilled m limit (o ∷ left) slabs) where
  both_filter : {X : Type 0} (P : X → Type 0) (Q : X → Type 0) (test : X → Bool) (xs : List X) → All P xs → ((x : X) → P x → test x ≡ true → Q x) → All Q (filter test xs)
  both_filter P Q test xs all h = λ k d l. h (get_or (filter test xs) k d) (All-filter test P xs all k d l) (filter_passes test xs k d l)

  pub ways_filled : All (λ way. AreFilled m limit left (placed o slabs way)) (ways m limit o slabs)
  ways_filled =
      All-append (λ way. AreFilled m limit left (placed o slabs way)) (ways_on_open m o slabs) (ways_to_open m o (kinds_to_open m limit slabs))
      (All-map (λ way. AreFilled m limit left (placed o slabs way)) On (filter (λ k. takes m o (slab_at slabs k)) (range_with_len 0 (length slabs)))
      (both_filter (λ k. k < length slabs) (λ k. AreFilled m limit left (set slabs k (with_order o (get_or slabs k (empty (New 0)))))) (λ k. takes m o (slab_at slabs k)) (range_with_len 0 (length slabs)) (All-range (λ k. k < length slabs) (length slabs) (λ k h. h)) (put_at m limit o left slabs f)))
      (All-map (λ way. AreFilled m limit left (placed o slabs way)) Open (filter (λ kind. takes m o (empty kind)) (kinds_to_open m limit slabs))
      (both_filter (IsOpenable m limit slabs) (λ kind. AreFilled m limit left (slabs ++ with_order o (empty kind) ∷ [])) (λ kind. takes m o (empty kind)) (kinds_to_open m limit slabs) (all_openable m limit slabs) (put_opened m limit o left slabs f)))

  pub one_filled : (last : ℕ) (next : List Column) → (place_one m limit o slabs last).found ≡ Some next → AreFilled m limit left next
  one_filled last next e = by_way (draw_from (ways m limit o slabs) last).found (λ way. drawn_has (λ w. AreFilled m limit left (placed o slabs w)) (ways m limit o slabs) last way ways_filled) e
    where
      by_way : (found : Option Way) → ((way : Way) → found ≡ Some way → AreFilled m limit left (placed o slabs way)) → option_map (placed o slabs) found ≡ Some next → AreFilled m limit left next
      by_way None h q = cc
      by_way (Some way) h q = subst (AreFilled m limit left) (same_Some (placed o slabs way) next q) (h way refl)

pub all_filled : (m : Mill) (limit : Option ℤ) (orders : List ℕ) (slabs : List Column) (last : ℕ) (filled : List Column) → AreFilled m limit orders slabs → (place_all m limit orders slabs last).found ≡ Some filled → AreFilled m limit [] filled
all_filled m limit [] slabs last filled f e = subst (AreFilled m limit []) (same_Some slabs filled e) f
all_filled m limit (o ∷ orders) slabs last filled f e =
    let one = place_one m limit o slabs last in
    by_found one.found (one_filled m limit o orders slabs f last) (λ next. all_filled m limit orders next one.last filled) e
  where
    by_found : (found : Option (List Column)) → ((next : List Column) → found ≡ Some next → AreFilled m limit orders next)
        → ((next : List Column) → AreFilled m limit orders next → (place_all m limit orders next (place_one m limit o slabs last).last).found ≡ Some filled → AreFilled m limit [] filled)
        → (go_on found (place_one m limit o slabs last).last (place_all m limit orders)).found ≡ Some filled → AreFilled m limit [] filled
    by_found None filled' rest e' = cc
    by_found (Some next) filled' rest e' = rest next (filled' next refl) e'
