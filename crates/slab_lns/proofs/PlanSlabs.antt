-- A plan in order and its slabs tell the same.
use Rattle.std.proofs.Common.{◌≡◌, ℕ, zero, suc, ◌+◌, ◌<◌, ◌≤◌, ℤ, pos, Bool, cond, eqb, ltb, leb, ◌&&◌, List, [], ◌∷◌, length, get_or, slice_index_or, count_by, map, Option, Some, refl, sym, ap, ap₂, ◌∙◌, subst, inl, inr, arith}
use Rattle.std.specs.List.{range_with_len}
use Rattle.std.specs.List.Sorted.{IsNonDecreasingBy}
use Rattle.std.proofs.lemmas.Bool.{eq-eqb, ne_eqb, cases_eq, eqb-true}
use Rattle.std.proofs.lemmas.Bool.Decides.{nat_tests}
use Rattle.std.proofs.lemmas.List.{length-map}
use Rattle.std.proofs.lemmas.List.Elements.{All-from_get_or}
use Rattle.std.proofs.lemmas.List.FromFn.{length-map-range_with_len, get_or-map-range_with_len, fill_by_all}
use Rattle.mill_model.specs.declared.kind.Kind.{Kind}
use Rattle.mill_model.specs.declared.kind.Kind.TheVariants.{New}
use Rattle.mill_model.specs.Mill.{Mill}
use Rattle.mill_model.specs.Limits.{AtMost}
use Rattle.mill_model.specs.Starts.{IsStart}
use Rattle.mill_model.specs.Columns.{Column, IsLegalColumn, has, is_old}
use Rattle.mill_model.specs.Plans.{Plan, slab, first_order, is_new, IsLegal, IsInOrder}
use Rattle.mill_model.proofs.Slabs.{places_rise, has_order, on_a_slab}
use Rattle.slab_filling.specs.Slabs.{empty, least_order}
use Rattle.slab_filling.specs.Closing.{place_in, places_of_orders, plan_of}
use Rattle.slab_filling.specs.Placing.{kinds_of}
use Rattle.slab_filling.proofs.Counts.{one, sum_by-map, count-range, first_is_only}
use Rattle.slab_filling.proofs.Closed.{AreClosed, slab_is, first_place}
use Rattle.slab_filling.proofs.Counts.{sum_by-same}
use Rattle.slab_lns.specs.Neighbourhoods.{slabs_of}

-- ---- from a plan to its slabs

pub length-slabs_of : (p : Plan) → length (slabs_of p) ≡ length p.kinds
length-slabs_of p = length-map-range_with_len (slab p) 0 (length p.kinds)

pub slab_in : (p : Plan) (k : ℕ) (d : Column) → k < length p.kinds → get_or (slabs_of p) k d ≡ slab p k
slab_in p k d h = get_or-map-range_with_len (slab p) 0 (length p.kinds) k k d h (omega arith)

map-map : {X Y Z : Type 0} (f : Y → Z) (g : X → Y) (xs : List X) → map f (map g xs) ≡ map (λ x. f (g x)) xs
map-map f g [] = refl
map-map f g (x ∷ xs) = ap (λ ys. f (g x) ∷ ys) (map-map f g xs)

pub kinds_same : (p : Plan) → kinds_of (slabs_of p) ≡ p.kinds
kinds_same p =
    map-map (λ (c : Column). c.kind) (slab p) (range_with_len 0 (length p.kinds))
    ∙ sym (fill_by_all (λ k. slice_index_or p.kinds k (New 0)) p.kinds (length p.kinds) (New 0) refl (λ k h. refl))

pub counted_kinds : (test : Kind → Bool) (slabs : List Column) → count_by test (kinds_of slabs) ≡ count_by (λ (c : Column). test c.kind) slabs
counted_kinds test slabs = sum_by-map (λ kind. cond (test kind) 1 0) (λ (c : Column). c.kind) slabs

module _ (m : Mill) (p : Plan) (legal : IsLegal m p) where
  alike : (x k : ℕ) → eqb x k ≡ eqb k x
  alike x k = elim (cases_eq x k) [
    | inl e ↦ eq-eqb x k e ∙ sym (eq-eqb k x (sym e))
    | inr e ↦ ne_eqb x k e ∙ sym (ne_eqb k x (λ q. e (sym q)))
  ]

  pub on_one : (o : ℕ) → o < length m.orders → count_by (λ (c : Column). has c.orders o) (slabs_of p) ≡ 1
  on_one o h =
      let x : ℕ = get_or p.place o 0 in
      let n : ℕ = length p.kinds in
      sum_by-map (λ (c : Column). cond (has c.orders o) 1 0) (slab p) (range_with_len 0 n)
      ∙ sum_by-same (λ k. cond (has (slab p k).orders o) 1 0) (λ k. cond (eqb k x) 1 0) (range_with_len 0 n) (λ k. ap (λ (b : Bool). cond b 1 0) (has_order m p legal k o h ∙ alike x k))
      ∙ count-range x 0 n
      ∙ one (leb 0 x && ltb x (0 + n)) (let there = on_a_slab m p legal o h in grind (arith, nat_tests))

  least : (k : ℕ) → k < length p.kinds → least_order (slab p k) ≡ first_order p k
  least k h = first_place k 0 p.place (legal.fits k h).some ∙ omega arith

  rising : IsInOrder p → (i j : ℕ) → i ≤ j → j < length p.kinds → first_order p i ≤ first_order p j
  rising order i zero h l = let e : i ≡ 0 = omega arith in rw e (omega arith)
  rising order i (suc j) h l = elim (cases_eq i (suc j)) [
    | inl e ↦ rw e (omega arith)
    | inr ne ↦ omega (arith, rising order i j (omega arith) (omega arith), order j l)
  ]

  sorted : IsInOrder p → IsNonDecreasingBy least_order (slabs_of p)
  sorted order i j d h l =
      let lj : j < length p.kinds = omega (arith, length-slabs_of p) in
      let li : i < length p.kinds = omega arith in
      omega (arith, ap least_order (slab_in p i d li), ap least_order (slab_in p j d lj), least i li, least j lj, rising order i j h lj)

  pub place_same : places_of_orders (length m.orders) (slabs_of p) ≡ p.place
  place_same = sym (fill_by_all (place_in (slabs_of p)) p.place (length m.orders) 0 legal.places (λ o h. sym (at o h)))
    where
      at : (o : ℕ) → o < length m.orders → place_in (slabs_of p) o ≡ get_or p.place o 0
      at o h =
          let x : ℕ = get_or p.place o 0 in
          let there : x < length p.kinds = on_a_slab m p legal o h in
          let d : Column = empty (New 0) in
          eqb-true (place_in (slabs_of p) o) x
          (first_is_only (λ (c : Column). has c.orders o) (slabs_of p) x d (on_one o h) (omega (arith, length-slabs_of p))
          ∙ ap (λ (c : Column). has c.orders o) (slab_in p x d there) ∙ has_order m p legal x o h ∙ eq-eqb x x refl)

  pub plan_same : plan_of (length m.orders) (slabs_of p) ≡ p
  plan_same = ap₂ (λ (kinds : List Kind) (place : List ℕ). record { kinds = kinds; place = place }) (kinds_same p) place_same

pub start_closed : (m : Mill) (limit : Option ℤ) (p : Plan) → IsStart m limit p → AreClosed m limit (slabs_of p)
start_closed m limit p s = record {
  each = All-from_get_or (IsLegalColumn m) (slabs_of p) (empty (New 0)) (λ k h. let l : k < length p.kinds = omega (arith, length-slabs_of p) in subst (IsLegalColumn m) (sym (slab_in p k (empty (New 0)) l)) (column k l));
  once = λ z. omega (arith, sym (counted_kinds (is_old z) (slabs_of p)) ∙ ap (count_by (is_old z)) (kinds_same p), s.legal.once z);
  news = subst (λ n. AtMost (Some (pos n)) limit) (ap (count_by is_new) (sym (kinds_same p)) ∙ counted_kinds is_new (slabs_of p)) s.count;
  covered = on_one m p s.legal;
  sorted = sorted m p s.legal s.order;
}
  where
    column : (k : ℕ) → k < length p.kinds → IsLegalColumn m (slab p k)
    column k l = record { fits = s.legal.fits k l; rises = places_rise k 0 (length m.orders) p.place (omega (arith, s.legal.places)) }

-- ---- from closed slabs to their plan

pub slabs_same : (m : Mill) (limit : Option ℤ) (slabs : List Column) → AreClosed m limit slabs → slabs_of (plan_of (length m.orders) slabs) ≡ slabs
slabs_same m limit slabs c =
    let n : length (kinds_of slabs) ≡ length slabs = length-map slabs (λ (s : Column). s.kind) in
    rw n (sym (fill_by_all (slab (plan_of (length m.orders) slabs)) slabs (length slabs) (empty (New 0)) refl (λ k h. sym (slab_is m limit slabs c k (empty (New 0)) h))))
