-- A legal plan on other slabs that hold the same orders, none larger, is legal too and loses no more.
use Rattle.std.proofs.Common.{◌≡◌, ℕ, suc, ◌<◌, ◌≤◌, true, cond, List, [], ◌∷◌, length, get_or, slice_index_or, sum_by, refl, arith}
use Rattle.std.proofs.lemmas.List.Sums.{sum_by-cons}
use Rattle.mill_model.specs.declared.kind.Kind.{Kind}
use Rattle.mill_model.specs.declared.kind.Kind.TheVariants.{New, Old}
use Rattle.mill_model.specs.Mill.{Mill}
use Rattle.mill_model.specs.Plans.{Plan, IsLegal, is_new, slab, sums_of}
use Rattle.mill_model.specs.Columns.{Fits, IsInStock, size_of, is_old, load}
use Rattle.mill_model.proofs.Bars.{new_bars_none}

pub sum_by-le_at : {X Y : Type 0} (f : X → ℕ) (g : Y → ℕ) (d : X) (e : Y) (xs : List X) (ys : List Y) → length xs ≡ length ys → ((k : ℕ) → k < length ys → f (get_or xs k d) ≤ g (get_or ys k e)) → sum_by f xs ≤ sum_by g ys
sum_by-le_at f g d e [] [] l h = omega arith
sum_by-le_at f g d e [] (y ∷ ys) l h = absurd (omega arith)
sum_by-le_at f g d e (x ∷ xs) [] l h = absurd (omega arith)
sum_by-le_at f g d e (x ∷ xs) (y ∷ ys) l h = omega (arith, sum_by-cons f x xs, sum_by-cons g y ys, h 0 (omega arith), sum_by-le_at f g d e xs ys (omega arith) (λ k b. h (suc k) (omega arith)))

-- a new slab that holds what slab k holds, and is no larger
pub record IsNoLarger (m : Mill) (p : Plan) (k : ℕ) (kind : Kind) : Type 0 where
  pub fresh : is_new kind ≡ true
  pub stock : IsInStock m kind
  pub holds : load m (slab p k).orders ≤ size_of m kind
  pub smaller : size_of m kind ≤ size_of m (slab p k).kind

module _ (m : Mill) (p : Plan) (legal : IsLegal m p) (kinds : List Kind) (same : length kinds ≡ length p.kinds) (each : (k : ℕ) → k < length p.kinds → IsNoLarger m p k (slice_index_or kinds k (New 0))) where
  abbrev pub resized : Plan
  resized = record { kinds = kinds; place = p.place }

  never_old : (s : ℕ) (kind : Kind) → is_new kind ≡ true → cond (is_old s kind) 1 0 ≤ 0
  never_old s (New u) h = omega arith
  never_old s (Old t) h = cc

  pub resized_legal : IsLegal m resized
  resized_legal = record {
    places = legal.places;
    within = λ o h. omega (arith, legal.within o h, same);
    fits = fits;
    once = λ s. omega (arith, sum_by-le_at (λ (k : Kind). cond (is_old s k) 1 0) (λ (k : Kind). 0) (New 0) (New 0) kinds p.kinds same (λ k h. never_old s (slice_index_or kinds k (New 0)) (each k h).fresh), zeros p.kinds);
  }
    where
      fits : (k : ℕ) → k < length kinds → Fits m (slab resized k)
      fits k h = record { kind = (each k (omega arith)).stock; some = (legal.fits k (omega arith)).some; weight = (each k (omega arith)).holds; colours = (legal.fits k (omega arith)).colours; bars = new_bars_none m (slice_index_or kinds k (New 0)) (slab resized k).orders (each k (omega arith)).fresh }

      zeros : (ks : List Kind) → sum_by (λ (k : Kind). 0) ks ≡ 0
      zeros [] = refl
      zeros (k ∷ ks) = omega (arith, sum_by-cons (λ (x : Kind). 0) k ks, zeros ks)

  pub resized_loss : (sums_of m resized).loss ≤ (sums_of m p).loss
  resized_loss = omega (arith, sum_by-le_at (size_of m) (size_of m) (New 0) (New 0) kinds p.kinds same (λ k h. (each k h).smaller))
