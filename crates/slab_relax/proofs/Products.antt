-- The product of a master's numbers with a column is the column's excess at their prices.
use Rattle.std.proofs.Common.{◌≡◌, ℕ, zero, suc, ◌+◌, ◌<◌, ℤ, pos, ◌+ℤ◌, ◌*ℤ◌, List, [], ◌∷◌, ◌++◌, length, map, take, drop, refl, ap, ◌∙◌, arith, Option, Some, None}
use Rattle.std.proofs.lemmas.Int.{ints}
use Rattle.std.proofs.lemmas.List.{get_or-take, get_or-drop}
use Rattle.std.proofs.Math.IntN.{*ℤ_comm, zero-*ℤ}
use Rattle.mill_model.specs.declared.kind.Kind.{Kind}
use Rattle.mill_model.specs.declared.kind.Kind.TheVariants.{New, Old}
use Rattle.mill_model.specs.declared.limits.Limits.{Limits}
use Rattle.mill_model.specs.Mill.{Mill}
use Rattle.mill_model.specs.SignedSums.{total_by}
use Rattle.mill_model.specs.Columns.{Column, IsLegalColumn, IsInStock, Rises, loss_of}
use Rattle.mill_model.specs.Prices.{price_at, charge}
use Rattle.slab_frac.proofs.Ring.{dist_sub_right_int}
use Rattle.slab_master.specs.Given.{Entry}
use Rattle.slab_master.specs.Sums.{number_at, product_of}
use Rattle.pricing_laws.specs.Problems.{excess}
use Rattle.slab_relax.specs.Rows.{loss_row, count_row, order_entries, slab_entries, loss_entries, count_entries, entries_of}
use Rattle.slab_relax.specs.Duals.{turned, price_of, prices_of}

pub product_append : (ys : List ℤ) (a b : List Entry) → product_of ys (a ++ b) ≡ product_of ys a +ℤ product_of ys b
product_append ys [] b = omega (arith, ints)
product_append ys (e ∷ a) b = omega (arith, ints, product_append ys a b)

one_times : (z : ℤ) → z *ℤ pos 1 ≡ z
one_times z = *ℤ_comm z (pos 1) ∙ omega (arith, ints)

pub turned_times : (y z : ℤ) → turned y *ℤ z ≡ turned (y *ℤ z)
turned_times y z = omega (arith, ints, dist_sub_right_int (pos 0) y z, zero-*ℤ z)

pub turned_at : (ys : List ℤ) (i : ℕ) → price_at (map turned ys) i ≡ turned (price_at ys i)
turned_at [] i = refl
turned_at (y ∷ ys) zero = refl
turned_at (y ∷ ys) (suc i) = turned_at ys i

product_orders : (ys : List ℤ) (n low : ℕ) (orders : List ℕ) → Rises low n orders → product_of ys (order_entries orders) ≡ total_by (price_at (take n ys)) orders
product_orders ys n low [] r = refl
product_orders ys n low (o ∷ orders) r =
    let here : price_at (take n ys) o ≡ number_at ys o = get_or-take n ys o (pos 0) r.1 in
    omega (arith, ints, product_orders ys n (o + 1) orders r.2, here, one_times (number_at ys o))

-- the price of a surplus slab
pub slab_price : (m : Mill) (limits : Limits) (ys : List ℤ) (s : ℕ) → s < length m.yard → price_at (prices_of m limits ys).sigma s ≡ turned (number_at ys (length m.orders + s))
slab_price m limits ys s h =
    turned_at (take (length m.yard) (drop (length m.orders) ys)) s
    ∙ ap turned (get_or-take (length m.yard) (drop (length m.orders) ys) s (pos 0) h ∙ get_or-drop (length m.orders) ys s (pos 0))

loss_term : (m : Mill) (ys : List ℤ) (limit : Option ℤ) (loss : ℕ) → product_of ys (loss_entries m limit loss) ≡ turned (price_of limit (number_at ys (loss_row m)) *ℤ pos loss)
loss_term m ys None loss = omega (arith, ints, zero-*ℤ (pos loss))
loss_term m ys (Some a) loss = omega (arith, ints, turned_times (number_at ys (loss_row m)) (pos loss))

slab_term : (m : Mill) (limits : Limits) (ys : List ℤ) (kind : Kind) → IsInStock m kind
    → (product_of ys (slab_entries m kind) +ℤ product_of ys (count_entries m limits.count kind)) ≡ turned (charge (prices_of m limits ys) kind)
slab_term m limits ys (New size) h = new limits.count
  where
    new : (limit : Option ℤ) → (pos 0 +ℤ product_of ys (count_entries m limit (New size))) ≡ turned (price_of limit (number_at ys (count_row m)))
    new None = refl
    new (Some b) = omega (arith, ints, one_times (number_at ys (count_row m)))
slab_term m limits ys (Old s) h = old limits.count
  where
    old : (limit : Option ℤ) → (product_of ys (slab_entries m (Old s)) +ℤ product_of ys (count_entries m limit (Old s))) ≡ turned (price_at (prices_of m limits ys).sigma s)
    old None = omega (arith, ints, one_times (number_at ys (length m.orders + s)), slab_price m limits ys s h)
    old (Some b) = omega (arith, ints, one_times (number_at ys (length m.orders + s)), slab_price m limits ys s h)

-- the product with a legal column
pub product_is_excess : (m : Mill) (limits : Limits) (ys : List ℤ) (c : Column) → IsLegalColumn m c → product_of ys (entries_of m limits c) ≡ excess m (prices_of m limits ys) c
product_is_excess m limits ys c legal =
    omega (
      arith,
      ints,
      product_append ys (order_entries c.orders) (slab_entries m c.kind ++ (loss_entries m limits.loss (loss_of m c) ++ count_entries m limits.count c.kind)),
      product_append ys (slab_entries m c.kind) (loss_entries m limits.loss (loss_of m c) ++ count_entries m limits.count c.kind),
      product_append ys (loss_entries m limits.loss (loss_of m c)) (count_entries m limits.count c.kind),
      product_orders ys (length m.orders) 0 c.orders legal.rises,
      loss_term m ys limits.loss (loss_of m c),
      slab_term m limits ys c.kind legal.fits.kind,
    )
