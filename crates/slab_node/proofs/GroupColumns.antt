-- A column that has the orders of a group, beside the group's own slab: the own slab fits where the column does, and loses no more.
use Rattle.std.proofs.Common.{◌≡◌, ℕ, ◌≤◌, Bool, true, false, cond, eqb, List, [], ◌∷◌, refl, sym, ap, ap₂, ◌∙◌, subst, arith, Option, Some, None, ◌&&◌, not}
use Rattle.mill_model.specs.declared.kind.Kind.{Kind}
use Rattle.mill_model.specs.declared.kind.Kind.TheVariants.{New, Old}
use Rattle.mill_model.specs.declared.ask.Ask.{Ask}
use Rattle.mill_model.specs.declared.ask.Ask.TheVariants.{Pair, Put}
use Rattle.mill_model.specs.Mill.{Mill}
use Rattle.mill_model.specs.Columns.{Column, Fits, has, is_old, load, loss_of, size_of}
use Rattle.mill_model.specs.Plans.{is_new}
use Rattle.mill_model.specs.Decisions.{Decision, agrees, column_agrees}
use Rattle.mill_model.specs.LeastSizes.{IsLeastSize}
use Rattle.slab_node.specs.Grouped.{slab_of, slab_at, kind_at, group_of, group_column, IsKindFor, IsOfGroup}

-- ---- two slabs of one group

same_old : (m : Mill) (weight s : ℕ) (slab : Option ℕ) (own other : Kind) → IsKindFor m slab weight own → slab_of other ≡ slab → is_old s own ≡ is_old s other
same_old m weight s None (New u) (New v) is e = refl
same_old m weight s None (New u) (Old t) is e = cc
same_old m weight s None (Old r) other is e = absurd is
same_old m weight s (Some r) own (New v) is e = cc
same_old m weight s (Some r) own (Old t) is e = ap (is_old s) is ∙ ap (λ (z : ℕ). eqb z s) (same e)
  where
    same : Some t ≡ Some r → r ≡ t
    same q = cc

same_new : (m : Mill) (weight : ℕ) (slab : Option ℕ) (own other : Kind) → IsKindFor m slab weight own → slab_of other ≡ slab → is_new own ≡ is_new other
same_new m weight None (New u) (New v) is e = refl
same_new m weight None (New u) (Old t) is e = cc
same_new m weight None (Old r) other is e = absurd is
same_new m weight (Some r) own (New v) is e = cc
same_new m weight (Some r) own (Old t) is e = ap is_new is

-- what fits on one fits on the group's own, which is no larger
abbrev IsBetter : Mill → Kind → Kind → List ℕ → Type 0
IsBetter m own other orders = Fits m (record { kind = own; orders = orders }) × (size_of m own ≤ size_of m other)

better : (m : Mill) (slab : Option ℕ) (own other : Kind) (orders : List ℕ) → IsKindFor m slab (load m orders) own → slab_of other ≡ slab → Fits m (record { kind = other; orders = orders }) → IsBetter m own other orders
better m None (New u) (New v) orders is e fits =
    let least : IsLeastSize m.sizes (load m orders) u = is fits.kind.0 v fits.kind.1 (subst (λ (z : ℕ). load m orders ≤ z) (sym fits.kind.2) fits.weight) in
    let smaller : u ≤ v = subst (λ (z : ℕ). u ≤ z) fits.kind.2 (least.least fits.kind.0 v fits.kind.1 (subst (λ (z : ℕ). load m orders ≤ z) (sym fits.kind.2) fits.weight)) in
    (record { kind = least.listed; some = fits.some; weight = least.holds; colours = fits.colours; bars = fits.bars }, smaller)
better m None (New u) (Old t) orders is e fits = cc
better m None (Old r) other orders is e fits = absurd is
better m (Some r) own (New v) orders is e fits = cc
better m (Some r) own (Old t) orders is e fits =
    let same : own ≡ Old t = is ∙ ap Old (slab e) in
    rw same (fits, omega arith)
  where
    slab : Some t ≡ Some r → r ≡ t
    slab q = cc

-- agreement sees the orders and the surplus slab
agrees_alike : (c d : Column) (ask : Ask) (b : Bool) → c.orders ≡ d.orders → ((s : ℕ) → is_old s c.kind ≡ is_old s d.kind) → agrees c (ask, b) ≡ agrees d (ask, b)
agrees_alike c d (Pair i j) true e f = ap (λ (os : List ℕ). cond (has os i) (has os j) (not (has os j))) e
agrees_alike c d (Pair i j) false e f = ap (λ (os : List ℕ). not (has os i && has os j)) e
agrees_alike c d (Put o s) true e f = ap₂ (λ (os : List ℕ) (on : Bool). cond (has os o) on (not on)) e (f s)
agrees_alike c d (Put o s) false e f = ap₂ (λ (os : List ℕ) (on : Bool). not (has os o && on)) e (f s)

module _ (m : Mill) (heads : List ℕ) (slabs : List (Option ℕ)) (kinds : List Kind) (c : Column) (head : ℕ) (is : IsKindFor m (slab_at slabs head) (load m (group_of heads head)) (kind_at kinds head)) (of : IsOfGroup heads slabs c head) where
  pub group_is_old : (s : ℕ) → is_old s (kind_at kinds head) ≡ is_old s c.kind
  group_is_old s = same_old m (load m (group_of heads head)) s (slab_at slabs head) (kind_at kinds head) c.kind is of.slab

  pub group_is_new : is_new (kind_at kinds head) ≡ is_new c.kind
  group_is_new = same_new m (load m (group_of heads head)) (slab_at slabs head) (kind_at kinds head) c.kind is of.slab

  own : Fits m c → IsBetter m (kind_at kinds head) c.kind (group_of heads head)
  own fits = better m (slab_at slabs head) (kind_at kinds head) c.kind (group_of heads head) is of.slab (subst (λ (os : List ℕ). Fits m (record { kind = c.kind; orders = os })) of.orders fits)

  pub group_fits : Fits m c → Fits m (group_column heads kinds head)
  group_fits fits = (own fits).0

  pub group_loss : Fits m c → loss_of m (group_column heads kinds head) ≤ loss_of m c
  group_loss fits = omega (arith, (own fits).1, ap (load m) of.orders)

  pub group_agrees : (decisions : List Decision) → column_agrees decisions (group_column heads kinds head) ≡ column_agrees decisions c
  group_agrees [] = refl
  group_agrees (d ∷ decisions) = ap₂ (λ x y. x && y) (agrees_alike (group_column heads kinds head) c d.0 d.1 (sym of.orders) group_is_old) (group_agrees decisions)
