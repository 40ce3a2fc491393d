-- What the filling of slabs keeps, order by order.
use Rattle.std.proofs.Common.{◌≡◌, ℕ, ◌+◌, ◌<◌, ◌≤◌, ℤ, pos, negsuc, Bool, true, false, cond, not, ◌&&◌, eqb, ltb, leb, List, [], ◌∷◌, ◌++◌, length, get_or, set, count_by, All, Option, Some, None, refl, sym, ap, ◌∙◌, subst, inl, inr, arith}
use Rattle.std.specs.Option.{option_map, option_or}
use Rattle.std.specs.List.{filter, find, list_any, position, position_or_len, range_with_len}
use Rattle.std.proofs.lemmas.Bool.{cases_Bool, and_parts, or_parts, eq-eqb, eqb-true, leb-true, ltb-true, not-true, false≢true}
use Rattle.std.proofs.lemmas.Int.{ints}
use Rattle.std.proofs.lemmas.Option.{same_Some, option_and_then_some}
use Rattle.std.proofs.lemmas.List.Edits.{length-insert}
use Rattle.std.proofs.lemmas.List.Sums.{sum_by-set, sum_by_push, prefix_len-le-length}
use Rattle.std.proofs.lemmas.List.Quantifiers.{position-Some}
use Rattle.std.proofs.lemmas.List.Elements.{All-nil, All-cons, All-head, All-tail, All-get_or, All-set, All-push, All-append, All-map, All-filter, filter_passes}
use Rattle.mill_model.specs.declared.kind.Kind.{Kind}
use Rattle.mill_model.specs.declared.kind.Kind.TheVariants.{New, Old}
use Rattle.mill_model.specs.Mill.{Mill}
use Rattle.mill_model.specs.Limits.{AtMost}
use Rattle.mill_model.specs.Plain.{greatest_size}
use Rattle.mill_model.specs.Plans.{is_new}
use Rattle.mill_model.specs.Columns.{Column, Rises, has, has_barred, is_barred, is_old, load, size_of, colours_of}
use Rattle.slab_filling.specs.Slabs.{empty, with_order, takes}
use Rattle.slab_filling.specs.Placing.{is_below, kinds_of, free_kinds, kinds_to_open}
use Rattle.slab_filling.proofs.PutBefore.{any-put, Rises-put}
use Rattle.slab_filling.proofs.Ranges.{length-range, get_or-range}
use Rattle.slab_filling.proofs.Counts.{one, none, sum_by-map, counted-cons, none_passes, find_has}

-- ---- an open slab

abbrev pub IsOpenKind : Mill → Kind → Type 0
IsOpenKind m (New u) = u ≡ greatest_size m
IsOpenKind m (Old s) = s < length m.yard

-- a slab with some orders that it holds; a new one counts with the greatest listed size
pub record IsOpenSlab (m : Mill) (c : Column) : Type 0 where
  pub kind : IsOpenKind m c.kind
  pub some : 0 < length c.orders
  pub weight : load m c.orders ≤ size_of m c.kind
  pub colours : colours_of m c.orders ≤ m.colour_limit
  pub bars : has_barred m c ≡ false
  pub rises : Rises 0 (length m.orders) c.orders

pub open_with : (m : Mill) (o : ℕ) (c : Column) → IsOpenKind m c.kind → has_barred m c ≡ false → Rises 0 (length m.orders) c.orders → o < length m.orders → has c.orders o ≡ false → takes m o c ≡ true → IsOpenSlab m (with_order o c)
open_with m o c kind bars rises h fresh t = record {
  kind = kind;
  some = omega (arith, length-insert c.orders (position_or_len (ltb o) c.orders) o (prefix_len-le-length (λ x. not (ltb o x)) c.orders));
  weight = leb-true (load m (with_order o c).orders) (size_of m c.kind) held.0;
  colours = leb-true (colours_of m (with_order o c).orders) m.colour_limit held.1;
  bars = any-put (λ x. is_barred m x c.kind) (ltb o) o c.orders ∙ rw (not-true (is_barred m o c.kind) both.1, bars) refl;
  rises = Rises-put 0 (length m.orders) o c.orders (omega arith) h fresh rises;
}
  where
    both : (leb (load m (with_order o c).orders) (size_of m c.kind) && leb (colours_of m (with_order o c).orders) m.colour_limit ≡ true) × (not (is_barred m o c.kind) ≡ true)
    both = and_parts (leb (load m (with_order o c).orders) (size_of m c.kind) && leb (colours_of m (with_order o c).orders) m.colour_limit) (not (is_barred m o c.kind)) t

    held : (leb (load m (with_order o c).orders) (size_of m c.kind) ≡ true) × (leb (colours_of m (with_order o c).orders) m.colour_limit ≡ true)
    held = and_parts (leb (load m (with_order o c).orders) (size_of m c.kind)) (leb (colours_of m (with_order o c).orders) m.colour_limit) both.0

-- a slab with one order more has that order too
pub one_more : (o z : ℕ) (c : Column) → has c.orders o ≡ false → ◌≡◌ {A = ℕ} (cond (has (with_order o c).orders z) 1 0) (cond (has c.orders z) 1 0 + cond (eqb o z) 1 0)
one_more o z c fresh = ap (λ (b : Bool). cond b 1 0) (any-put (λ y. eqb y z) (ltb o) o c.orders) ∙ elim (cases_Bool (eqb o z)) [
  | inl e ↦ rw (e, ap (has c.orders) (sym (eqb-true o z e)) ∙ fresh) (omega arith)
  | inr e ↦ rw e (omega arith)
]

-- ---- the slabs, where these orders are left

pub record AreFilled (m : Mill) (limit : Option ℤ) (left : List ℕ) (slabs : List Column) : Type 0 where
  pub each : All (IsOpenSlab m) slabs
  pub once : (s : ℕ) → count_by (λ (c : Column). is_old s c.kind) slabs ≤ 1
  pub news : AtMost (Some (pos (count_by (λ (c : Column). is_new c.kind) slabs))) limit
  pub covered : (o : ℕ) → o < length m.orders → count_by (λ (c : Column). has c.orders o) slabs + count_by (λ k. eqb k o) left ≡ 1
  pub within : All (λ o. o < length m.orders) left

-- the next order is on no slab
pub on_none : (m : Mill) (limit : Option ℤ) (o : ℕ) (left : List ℕ) (slabs : List Column) → AreFilled m limit (o ∷ left) slabs → count_by (λ (c : Column). has c.orders o) slabs ≡ 0
on_none m limit o left slabs f =
    omega (arith, f.covered o (All-head (λ k. k < length m.orders) o left f.within), counted-cons (λ k. eqb k o) o left, one (eqb o o) (eq-eqb o o refl))

module _ (m : Mill) (limit : Option ℤ) (o : ℕ) (left : List ℕ) (slabs : List Column) (f : AreFilled m limit (o ∷ left) slabs) where
  inside : o < length m.orders
  inside = All-head (λ k. k < length m.orders) o left f.within

  -- the order goes on slab k, which takes it
  pub put_at : (k : ℕ) → k < length slabs → takes m o (get_or slabs k (empty (New 0))) ≡ true → AreFilled m limit left (set slabs k (with_order o (get_or slabs k (empty (New 0)))))
  put_at k h t =
      let d : Column = empty (New 0) in
      let c : Column = get_or slabs k d in
      let old : IsOpenSlab m (get_or slabs k (empty (New 0))) = All-get_or (IsOpenSlab m) slabs k (empty (New 0)) h f.each in
      let fresh : has (get_or slabs k (empty (New 0))).orders o ≡ false = none_passes (λ (s : Column). has s.orders o) slabs k (empty (New 0)) (on_none m limit o left slabs f) h in
      record {
        each = All-set (IsOpenSlab m) slabs k (with_order o c) (open_with m o c old.kind old.bars old.rises inside fresh t) f.each;
        once = λ s. omega (arith, sum_by-set (λ (x : Column). cond (is_old s x.kind) 1 0) slabs k (with_order o c) d h, f.once s);
        news = subst (λ n. AtMost (Some (pos n)) limit) (omega (arith, sum_by-set (λ (x : Column). cond (is_new x.kind) 1 0) slabs k (with_order o c) d h)) f.news;
        covered = λ z l. omega (arith, sum_by-set (λ (x : Column). cond (has x.orders z) 1 0) slabs k (with_order o c) d h, one_more o z c fresh, counted-cons (λ i. eqb i z) o left, f.covered z l);
        within = All-tail (λ i. i < length m.orders) o left f.within;
      }

  -- the order goes on the first slab that takes it
  pub put_first : (k : ℕ) → position (takes m o) slabs ≡ Some k → AreFilled m limit left (set slabs k (with_order o (get_or slabs k (empty (New 0)))))
  put_first k e = let at = position-Some (takes m o) slabs k (empty (New 0)) e in put_at k at.0 at.1

-- ---- an order on a slab that is opened for it

pub record IsOpenable (m : Mill) (limit : Option ℤ) (slabs : List Column) (kind : Kind) : Type 0 where
  pub stock : IsOpenKind m kind
  pub once : (s : ℕ) → is_old s kind ≡ true → count_by (is_old s) (kinds_of slabs) ≡ 0
  pub news : is_new kind ≡ true → is_below (count_by is_new (kinds_of slabs)) limit ≡ true

none_counted : {X : Type 0} (test : X → Bool) (xs : List X) → list_any test xs ≡ false → count_by test xs ≡ 0
none_counted test [] e = refl
none_counted test (x ∷ xs) e =
    let parts = or_parts (test x) (list_any test xs) e in
    omega (arith, counted-cons test x xs, none (test x) parts.0, none_counted test xs parts.1)

module _ (m : Mill) (limit : Option ℤ) (slabs : List Column) where
  new_openable : (b : Bool) → (b ≡ true → is_below (count_by is_new (kinds_of slabs)) limit ≡ true) → All (IsOpenable m limit slabs) (cond b (New (greatest_size m) ∷ []) [])
  new_openable true h = All-cons (IsOpenable m limit slabs) (New (greatest_size m)) [] (record { stock = refl; once = λ s e. absurd (false≢true e); news = λ _. h refl }) (All-nil (IsOpenable m limit slabs))
  new_openable false h = All-nil (IsOpenable m limit slabs)

  old_openable : (s : ℕ) → s < length m.yard → not (list_any (is_old s) (kinds_of slabs)) ≡ true → IsOpenable m limit slabs (Old s)
  old_openable s h free = record {
    stock = h;
    once = λ z e. subst (λ i. count_by (is_old i) (kinds_of slabs) ≡ 0) (eqb-true s z e) (none_counted (is_old s) (kinds_of slabs) (not-true (list_any (is_old s) (kinds_of slabs)) free));
    news = λ e. absurd (false≢true e);
  }

  pub all_openable : All (IsOpenable m limit slabs) (kinds_to_open m limit slabs)
  all_openable =
      let free : ℕ → Bool = λ s. not (list_any (is_old s) (kinds_of slabs)) in
      let numbers : List ℕ = range_with_len 0 (length m.yard) in
      All-append (IsOpenable m limit slabs) (cond (is_below (count_by is_new (kinds_of slabs)) limit) (New (greatest_size m) ∷ []) []) (free_kinds m slabs)
      (new_openable (is_below (count_by is_new (kinds_of slabs)) limit) (λ e. e))
      (All-map (IsOpenable m limit slabs) Old (filter free numbers)
      (λ k d h. old_openable (get_or (filter free numbers) k d)
      (All-filter free (λ s. s < length m.yard) numbers (λ i e l. omega (arith, get_or-range 0 (length m.yard) i e (omega (arith, length-range 0 (length m.yard))), length-range 0 (length m.yard))) k d h)
      (filter_passes free numbers k d h)))

below_limit : (n : ℕ) (limit : Option ℤ) → is_below n limit ≡ true → AtMost (Some (pos (n + 1))) limit
below_limit n None e = tt
below_limit n (Some (pos b)) e = omega (arith, ints, ltb-true n b e)
below_limit n (Some (negsuc b)) e = absurd (false≢true e)

module _ (m : Mill) (limit : Option ℤ) (o : ℕ) (left : List ℕ) (slabs : List Column) (f : AreFilled m limit (o ∷ left) slabs) where
  counted_kinds : (test : Kind → Bool) → count_by test (kinds_of slabs) ≡ count_by (λ (c : Column). test c.kind) slabs
  counted_kinds test = sum_by-map (λ kind. cond (test kind) 1 0) (λ (c : Column). c.kind) slabs

  pub put_opened : (kind : Kind) → IsOpenable m limit slabs kind → takes m o (empty kind) ≡ true → AreFilled m limit left (slabs ++ with_order o (empty kind) ∷ [])
  put_opened kind open' t = record {
    each = All-push (IsOpenSlab m) slabs (with_order o (empty kind)) f.each (open_with m o (empty kind) open'.stock refl tt (All-head (λ k. k < length m.orders) o left f.within) refl t);
    once = λ s. elim (cases_Bool (is_old s kind)) [
      | inl e ↦ omega (arith, sum_by_push (λ (c : Column). cond (is_old s c.kind) 1 0) slabs (with_order o (empty kind)), one (is_old s kind) e, open'.once s e, counted_kinds (is_old s))
      | inr e ↦ omega (arith, sum_by_push (λ (c : Column). cond (is_old s c.kind) 1 0) slabs (with_order o (empty kind)), none (is_old s kind) e, f.once s)
    ];
    news = elim (cases_Bool (is_new kind)) [
      | inl e ↦ subst (λ n. AtMost (Some (pos n)) limit) (omega (arith, sum_by_push (λ (c : Column). cond (is_new c.kind) 1 0) slabs (with_order o (empty kind)), one (is_new kind) e, counted_kinds is_new)) (below_limit (count_by is_new (kinds_of slabs)) limit (open'.news e))
      | inr e ↦ subst (λ n. AtMost (Some (pos n)) limit) (omega (arith, sum_by_push (λ (c : Column). cond (is_new c.kind) 1 0) slabs (with_order o (empty kind)), none (is_new kind) e)) f.news
    ];
    covered = λ z h. omega (arith, sum_by_push (λ (c : Column). cond (has c.orders z) 1 0) slabs (with_order o (empty kind)), one_more o z (empty kind) refl, counted-cons (λ i. eqb i z) o left, f.covered z h);
    within = All-tail (λ i. i < length m.orders) o left f.within;
  }
