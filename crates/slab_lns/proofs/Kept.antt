-- The slabs that are kept and the orders that are released make a filling that goes on.
use Rattle.std.proofs.Common.{◌≡◌, ℕ, zero, suc, ◌+◌, ◌<◌, ◌≤◌, ℤ, pos, Bool, cond, not, ◌||◌, eqb, max, List, [], ◌∷◌, length, get_or, count_by, sum_by, Option, Some, None, refl, ap, ◌∙◌, arith}
use Rattle.std.specs.List.{filter, fold, range_with_len, list_any, Contains}
use Rattle.std.proofs.lemmas.Int.{ints}
use Rattle.std.proofs.lemmas.List.Filters.{sum_by-filter_both}
use Rattle.std.proofs.lemmas.List.Elements.{All-filter, All-map, All-get_or, All-contains}
use Rattle.mill_model.specs.declared.kind.Kind.{Kind}
use Rattle.mill_model.specs.declared.kind.Kind.TheVariants.{New, Old}
use Rattle.mill_model.specs.Mill.{Mill}
use Rattle.mill_model.specs.Limits.{AtMost}
use Rattle.mill_model.specs.Plain.{greatest_size}
use Rattle.mill_model.specs.Plans.{is_new}
use Rattle.mill_model.specs.Columns.{Column, IsLegalColumn, IsInStock, has, is_barred, is_old, load, size_of}
use Rattle.slab_filling.specs.Slabs.{empty}
use Rattle.slab_filling.proofs.Counts.{sum_by-map}
use Rattle.slab_filling.proofs.Filled.{IsOpenKind, IsOpenSlab, AreFilled}
use Rattle.slab_filling.proofs.Closed.{AreClosed}
use Rattle.slab_filling.proofs.Counts.{sum_by-same}
use Rattle.slab_lns.specs.Neighbourhoods.{opened_kind, opened, slab_at, is_one_of, kept, released}
use Rattle.slab_lns.proofs.Ranges.{All-range, sum_by-range, sum_by-filter, count-filter, one_of}

-- ---- a slab is opened again

max_left : (a u : ℕ) → a ≤ max a u
max_left a u = omega arith

up : (a : ℕ) (sizes : List ℕ) → a ≤ fold max a sizes
up a [] = omega arith
up a (u ∷ sizes) = omega (arith, up (max a u) sizes)

all_up : (a : ℕ) (sizes : List ℕ) → ((k d : ℕ) → k < length sizes → get_or sizes k d ≤ fold max a sizes)
all_up a [] k d h = absurd (omega arith)
all_up a (u ∷ sizes) zero d h = omega (arith, up (max a u) sizes)
all_up a (u ∷ sizes) (suc k) d h = all_up (max a u) sizes k d (omega arith)

pub listed_at_most : (m : Mill) (u : ℕ) → Contains m.sizes u → u ≤ greatest_size m
listed_at_most m u c = All-contains (λ v. v ≤ greatest_size m) m.sizes u (λ k d h. all_up 0 m.sizes k d h) c

opened_holds : (m : Mill) (kind : Kind) (weight : ℕ) → IsInStock m kind → weight ≤ size_of m kind → IsOpenKind m (opened_kind m kind) × (weight ≤ size_of m (opened_kind m kind))
opened_holds m (New u) weight stock h = (refl, omega (arith, listed_at_most m u stock))
opened_holds m (Old s) weight stock h = (stock, h)

opened_bars : (m : Mill) (kind : Kind) (orders : List ℕ) → list_any (λ o. is_barred m o (opened_kind m kind)) orders ≡ list_any (λ o. is_barred m o kind) orders
opened_bars m (New u) orders = refl
opened_bars m (Old s) orders = refl

opened_old : (m : Mill) (s : ℕ) (kind : Kind) → is_old s (opened_kind m kind) ≡ is_old s kind
opened_old m s (New u) = refl
opened_old m s (Old t) = refl

opened_new : (m : Mill) (kind : Kind) → is_new (opened_kind m kind) ≡ is_new kind
opened_new m (New u) = refl
opened_new m (Old t) = refl

pub opened_open : (m : Mill) (c : Column) → IsLegalColumn m c → IsOpenSlab m (opened m c)
opened_open m c l =
    let it = opened_holds m c.kind (load m c.orders) l.fits.kind l.fits.weight in
    record { kind = it.0; some = l.fits.some; weight = it.1; colours = l.fits.colours; bars = opened_bars m c.kind c.orders ∙ l.fits.bars; rises = l.rises }

-- ---- the others are kept

module _ (m : Mill) (limit : Option ℤ) (slabs : List Column) (a b : ℕ) (la : a < length slabs) (lb : b < length slabs) (c : AreClosed m limit slabs) where
  n : ℕ
  n = length slabs

  -- what is counted of the kept ones and of the two is counted of all
  shared : (f g : Column → ℕ) → ((s : Column) → g (opened m s) ≡ f s)
      → sum_by g (kept m a b slabs) + sum_by (λ k. cond (is_one_of a b k) (f (slab_at slabs k)) 0) (range_with_len 0 (length slabs)) ≡ sum_by f slabs
  shared f g same =
      let mapped : sum_by g (kept m a b slabs) ≡ sum_by (λ k. f (slab_at slabs k)) (filter (λ k. not (is_one_of a b k)) (range_with_len 0 (length slabs))) =
      sum_by-map g (λ k. opened m (slab_at slabs k)) (filter (λ k. not (is_one_of a b k)) (range_with_len 0 (length slabs)))
      ∙ sum_by-same (λ k. g (opened m (slab_at slabs k))) (λ k. f (slab_at slabs k)) (filter (λ k. not (is_one_of a b k)) (range_with_len 0 (length slabs))) (λ k. same (slab_at slabs k)) in
      omega (
        arith,
        mapped,
        sum_by-filter_both (is_one_of a b) (λ k. not (is_one_of a b k)) (λ _. refl) (λ k. f (slab_at slabs k)) (range_with_len 0 (length slabs)),
        sum_by-filter (λ k. f (slab_at slabs k)) (is_one_of a b) (range_with_len 0 (length slabs)),
        sum_by-range f slabs (empty (New 0)),
      )

  lower : (x y : ℕ) (limit' : Option ℤ) → x ≤ y → AtMost (Some (pos y)) limit' → AtMost (Some (pos x)) limit'
  lower x y None h t = tt
  lower x y (Some z) h t = omega (arith, ints, h, t)

  covers : (o : ℕ) → o < length m.orders → count_by (λ (s : Column). has s.orders o) (kept m a b slabs) + count_by (λ k. eqb k o) (released m a b slabs) ≡ 1
  covers o h =
      let test : ℕ → Bool = λ k. has (slab_at slabs k).orders o in
      let total = shared (λ s. cond (has s.orders o) 1 0) (λ s. cond (has s.orders o) 1 0) (λ s. refl) in
      let all : count_by (λ (s : Column). has s.orders o) slabs ≡ 1 = c.covered o h in
      omega (
        arith,
        total,
        all,
        count-filter (λ k. has (slab_at slabs a).orders k || has (slab_at slabs b).orders k) o (length m.orders) h,
        one_of test (length slabs) a b la lb (omega (arith, total, all)),
      )

  pub kept_filled : AreFilled m limit (released m a b slabs) (kept m a b slabs)
  kept_filled = record {
    each = All-map (IsOpenSlab m) (λ k. opened m (slab_at slabs k)) (filter (λ k. not (is_one_of a b k)) (range_with_len 0 (length slabs)))
        (All-filter (λ k. not (is_one_of a b k)) (λ k. IsOpenSlab m (opened m (slab_at slabs k))) (range_with_len 0 (length slabs))
        (All-range (λ k. IsOpenSlab m (opened m (slab_at slabs k))) (length slabs) (λ k h. opened_open m (slab_at slabs k) (All-get_or (IsLegalColumn m) slabs k (empty (New 0)) h c.each))));
    once = λ s. omega (arith, shared (λ x. cond (is_old s x.kind) 1 0) (λ x. cond (is_old s x.kind) 1 0) (λ x. ap (λ (t : Bool). cond t 1 0) (opened_old m s x.kind)), c.once s);
    news = lower (count_by (λ (x : Column). is_new x.kind) (kept m a b slabs)) (count_by (λ (x : Column). is_new x.kind) slabs) limit (omega (arith, shared (λ x. cond (is_new x.kind) 1 0) (λ x. cond (is_new x.kind) 1 0) (λ x. ap (λ (t : Bool). cond t 1 0) (opened_new m x.kind)))) c.news;
    covered = covers;
    within = All-filter (λ k. has (slab_at slabs a).orders k || has (slab_at slabs b).orders k) (λ o. o < length m.orders) (range_with_len 0 (length m.orders)) (All-range (λ o. o < length m.orders) (length m.orders) (λ k h. h));
  }
