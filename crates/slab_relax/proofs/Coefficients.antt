-- A column's numbers in the rows of a master.
use Rattle.std.proofs.Common.{◌≡◌, ℕ, ◌+◌, ◌<◌, ◌≤◌, ℤ, pos, ◌+ℤ◌, Bool, true, false, cond, eqb, List, [], ◌∷◌, ◌++◌, length, sym, refl, ap, ◌∙◌, inl, inr, arith, Option, Some, None}
use Rattle.std.proofs.lemmas.Int.{ints}
use Rattle.std.proofs.lemmas.Bool.{eq-eqb, ne_eqb, cases_eq}
use Rattle.mill_model.specs.declared.kind.Kind.{Kind}
use Rattle.mill_model.specs.declared.kind.Kind.TheVariants.{New, Old}
use Rattle.mill_model.specs.declared.limits.Limits.{Limits}
use Rattle.mill_model.specs.Mill.{Mill}
use Rattle.mill_model.specs.Columns.{Column, IsLegalColumn, IsInStock, Rises, has, is_old, loss_of}
use Rattle.mill_model.specs.Plans.{is_new}
use Rattle.mill_model.proofs.Duality.{not_has}
use Rattle.slab_master.specs.Given.{Entry}
use Rattle.slab_master.specs.Sums.{coefficient}
use Rattle.slab_relax.specs.Rows.{loss_row, count_row, order_entries, slab_entries, loss_entries, count_entries, entries_of}

pub coefficient_append : (a b : List Entry) (i : ℕ) → coefficient (a ++ b) i ≡ coefficient a i +ℤ coefficient b i
coefficient_append [] b i = omega (arith, ints)
coefficient_append (e ∷ a) b i = omega (arith, ints, coefficient_append a b i)

-- one entry
one_here : (k i : ℕ) (z : ℤ) → k ≡ i → coefficient ((k, z) ∷ []) i ≡ z
one_here k i z e = let t : eqb k i ≡ true = eq-eqb k i e in rw t (omega (arith, ints))

one_elsewhere : (k i : ℕ) (z : ℤ) → (k ≡ i → ⊥) → coefficient ((k, z) ∷ []) i ≡ pos 0
one_elsewhere k i z ne = let t : eqb k i ≡ false = ne_eqb k i ne in rw t (omega (arith, ints))

-- ---- the orders

orders_here : (low n : ℕ) (orders : List ℕ) (i : ℕ) → Rises low n orders → coefficient (order_entries orders) i ≡ pos (cond (has orders i) 1 0)
orders_here low n [] i r = refl
orders_here low n (o ∷ orders) i r = elim (cases_eq o i) [
  | inl e ↦
      let t : eqb o i ≡ true = eq-eqb o i e in
      let none : has orders i ≡ false = not_has (o + 1) n orders i r.2 (omega arith) in
      let rest : coefficient (order_entries orders) i ≡ pos 0 = orders_here (o + 1) n orders i r.2 ∙ ap (λ (b : Bool). pos (cond b 1 0)) none in
      rw (t, rest) refl
  | inr ne ↦
      let t : eqb o i ≡ false = ne_eqb o i ne in
      rw t (omega (arith, ints, orders_here (o + 1) n orders i r.2))
]

orders_past : (low n : ℕ) (orders : List ℕ) (i : ℕ) → Rises low n orders → n ≤ i → coefficient (order_entries orders) i ≡ pos 0
orders_past low n [] i r h = refl
orders_past low n (o ∷ orders) i r h =
    let t : eqb o i ≡ false = ne_eqb o i (λ e. omega (arith, r.1)) in
    rw t (omega (arith, ints, orders_past (o + 1) n orders i r.2 h))

-- ---- the slab, the loss and the count

slab_before : (m : Mill) (kind : Kind) (i : ℕ) → i < length m.orders → coefficient (slab_entries m kind) i ≡ pos 0
slab_before m (New size) i h = refl
slab_before m (Old s) i h = one_elsewhere (length m.orders + s) i (pos 1) (λ e. omega arith)

slab_here : (m : Mill) (kind : Kind) (s : ℕ) → coefficient (slab_entries m kind) (length m.orders + s) ≡ pos (cond (is_old s kind) 1 0)
slab_here m (New size) s = refl
slab_here m (Old t) s = elim (cases_eq t s) [
  | inl e ↦ one_here (length m.orders + t) (length m.orders + s) (pos 1) (ap (λ (z : ℕ). length m.orders + z) e) ∙ ap (λ (b : Bool). pos (cond b 1 0)) (sym (eq-eqb t s e))
  | inr ne ↦ one_elsewhere (length m.orders + t) (length m.orders + s) (pos 1) (λ e. ne (omega arith)) ∙ ap (λ (b : Bool). pos (cond b 1 0)) (sym (ne_eqb t s ne))
]

slab_past : (m : Mill) (kind : Kind) (i : ℕ) → IsInStock m kind → loss_row m ≤ i → coefficient (slab_entries m kind) i ≡ pos 0
slab_past m (New size) i h l = refl
slab_past m (Old s) i h l = one_elsewhere (length m.orders + s) i (pos 1) (λ e. omega arith)

loss_elsewhere : (m : Mill) (limit : Option ℤ) (loss i : ℕ) → (loss_row m ≡ i → ⊥) → coefficient (loss_entries m limit loss) i ≡ pos 0
loss_elsewhere m None loss i ne = refl
loss_elsewhere m (Some a) loss i ne = one_elsewhere (loss_row m) i (pos loss) ne

count_elsewhere : (m : Mill) (limit : Option ℤ) (kind : Kind) (i : ℕ) → (count_row m ≡ i → ⊥) → coefficient (count_entries m limit kind) i ≡ pos 0
count_elsewhere m None kind i ne = refl
count_elsewhere m (Some b) (New size) i ne = one_elsewhere (count_row m) i (pos 1) ne
count_elsewhere m (Some b) (Old s) i ne = refl

loss_here : (m : Mill) (a : ℤ) (loss : ℕ) → coefficient (loss_entries m (Some a) loss) (loss_row m) ≡ pos loss
loss_here m a loss = one_here (loss_row m) (loss_row m) (pos loss) refl

count_here : (m : Mill) (b : ℤ) (kind : Kind) → coefficient (count_entries m (Some b) kind) (count_row m) ≡ pos (cond (is_new kind) 1 0)
count_here m b (New size) = one_here (count_row m) (count_row m) (pos 1) refl
count_here m b (Old s) = refl

-- ---- together

split : (m : Mill) (limits : Limits) (c : Column) (i : ℕ) → coefficient (entries_of m limits c) i ≡ coefficient (order_entries c.orders) i +ℤ (coefficient (slab_entries m c.kind) i +ℤ (coefficient (loss_entries m limits.loss (loss_of m c)) i +ℤ coefficient (count_entries m limits.count c.kind) i))
split m limits c i = omega (
  arith,
  ints,
  coefficient_append (order_entries c.orders) (slab_entries m c.kind ++ (loss_entries m limits.loss (loss_of m c) ++ count_entries m limits.count c.kind)) i,
  coefficient_append (slab_entries m c.kind) (loss_entries m limits.loss (loss_of m c) ++ count_entries m limits.count c.kind) i,
  coefficient_append (loss_entries m limits.loss (loss_of m c)) (count_entries m limits.count c.kind) i,
)

pub in_order_row : (m : Mill) (limits : Limits) (c : Column) (o : ℕ) → IsLegalColumn m c → o < length m.orders → coefficient (entries_of m limits c) o ≡ pos (cond (has c.orders o) 1 0)
in_order_row m limits c o legal h = omega (
  arith,
  ints,
  split m limits c o,
  orders_here 0 (length m.orders) c.orders o legal.rises,
  slab_before m c.kind o h,
  loss_elsewhere m limits.loss (loss_of m c) o (λ e. omega arith),
  count_elsewhere m limits.count c.kind o (λ e. omega arith),
)

pub in_slab_row : (m : Mill) (limits : Limits) (c : Column) (s : ℕ) → IsLegalColumn m c → s < length m.yard → coefficient (entries_of m limits c) (length m.orders + s) ≡ pos (cond (is_old s c.kind) 1 0)
in_slab_row m limits c s legal h = omega (
  arith,
  ints,
  split m limits c (length m.orders + s),
  orders_past 0 (length m.orders) c.orders (length m.orders + s) legal.rises (omega arith),
  slab_here m c.kind s,
  loss_elsewhere m limits.loss (loss_of m c) (length m.orders + s) (λ e. omega arith),
  count_elsewhere m limits.count c.kind (length m.orders + s) (λ e. omega arith),
)

pub in_loss_row : (m : Mill) (limits : Limits) (a : ℤ) (c : Column) → IsLegalColumn m c → limits.loss ≡ Some a → coefficient (entries_of m limits c) (loss_row m) ≡ pos (loss_of m c)
in_loss_row m limits a c legal e =
    let here : coefficient (loss_entries m limits.loss (loss_of m c)) (loss_row m) ≡ pos (loss_of m c) = rw e (loss_here m a (loss_of m c)) in
    omega (
      arith,
      ints,
      split m limits c (loss_row m),
      orders_past 0 (length m.orders) c.orders (loss_row m) legal.rises (omega arith),
      slab_past m c.kind (loss_row m) legal.fits.kind (omega arith),
      here,
      count_elsewhere m limits.count c.kind (loss_row m) (λ e. omega arith),
    )

pub in_count_row : (m : Mill) (limits : Limits) (b : ℤ) (c : Column) → IsLegalColumn m c → limits.count ≡ Some b → coefficient (entries_of m limits c) (count_row m) ≡ pos (cond (is_new c.kind) 1 0)
in_count_row m limits b c legal e =
    let here : coefficient (count_entries m limits.count c.kind) (count_row m) ≡ pos (cond (is_new c.kind) 1 0) = rw e (count_here m b c.kind) in
    omega (
      arith,
      ints,
      split m limits c (count_row m),
      orders_past 0 (length m.orders) c.orders (count_row m) legal.rises (omega arith),
      slab_past m c.kind (count_row m) legal.fits.kind (omega arith),
      loss_elsewhere m limits.loss (loss_of m c) (count_row m) (λ e. omega arith),
      here,
    )
