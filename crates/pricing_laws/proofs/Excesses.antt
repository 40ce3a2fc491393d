-- What the excess has to do with prices, gains and costs.
use Rattle.std.proofs.Common.{◌≡◌, ℕ, ◌-◌, ◌≤◌, pos, ◌+ℤ◌, ◌≤ℤ◌, ℤ, List, ap, ◌∙◌, arith}
use Rattle.std.specs.Prelude.{◌-ℤ◌, ◌*ℤ◌}
use Rattle.std.proofs.lemmas.Int.{ints}
use Rattle.mill_model.specs.declared.kind.Kind.TheVariants.{New}
use Rattle.mill_model.specs.Mill.{Mill}
use Rattle.mill_model.specs.SignedSums.{total_by}
use Rattle.mill_model.specs.Columns.{Column, loss_of, load, order_at, size_of}
use Rattle.mill_model.specs.Prices.{Prices, IsPriced, price_at, charge}
use Rattle.mill_model.proofs.Signed.{mul_add, mul_le, total_by-add, total_by-pos, total_by-scale}
use Rattle.pricing_laws.specs.Problems.{excess}
use Rattle.pricing_laws.specs.Gains.{gains_of, cost_of}

-- a column is priced exactly where its excess is at most 0
pub priced_from_excess : (m : Mill) (p : Prices) (c : Column) → excess m p c ≤ℤ pos 0 → IsPriced m p c
priced_from_excess m p c h = record { priced = turn (total_by (price_at p.pi) c.orders) (p.lambda *ℤ pos (loss_of m c)) (charge p c.kind) h }
  where
    turn : (a b d : ℤ) → ((a -ℤ b) -ℤ d) ≤ℤ pos 0 → a ≤ℤ (b +ℤ d)
    turn a b d g = omega (arith, ints)

pub excess_from_priced : (m : Mill) (p : Prices) (c : Column) → IsPriced m p c → excess m p c ≤ℤ pos 0
excess_from_priced m p c h = turn (total_by (price_at p.pi) c.orders) (p.lambda *ℤ pos (loss_of m c)) (charge p c.kind) h.priced
  where
    turn : (a b d : ℤ) → a ≤ℤ (b +ℤ d) → ((a -ℤ b) -ℤ d) ≤ℤ pos 0
    turn a b d g = omega (arith, ints)

-- ---- gains and costs

pub gains_split : (m : Mill) (p : Prices) (orders : List ℕ) → gains_of m p orders ≡ total_by (price_at p.pi) orders +ℤ p.lambda *ℤ pos (load m orders)
gains_split m p orders =
    total_by-add (price_at p.pi) (λ o. p.lambda *ℤ pos (order_at m o).weight) orders
    ∙ ap (λ z. total_by (price_at p.pi) orders +ℤ z) (total_by-scale p.lambda (λ o. pos (order_at m o).weight) orders ∙ ap (λ z. p.lambda *ℤ z) (total_by-pos (λ o. (order_at m o).weight) orders))

size_split : (each : ℤ) (size weight : ℕ) → weight ≤ size → each *ℤ pos size ≡ each *ℤ pos (size - weight) +ℤ each *ℤ pos weight
size_split each size weight le =
    let parts : pos size ≡ pos (size - weight) +ℤ pos weight = omega (arith, ints) in
    ap (λ z. each *ℤ z) parts ∙ mul_add each (pos (size - weight)) (pos weight)

-- the excess of a column that fits is what its orders gain, less what its slab costs
pub excess_split : (m : Mill) (p : Prices) (c : Column) → load m c.orders ≤ size_of m c.kind → excess m p c ≡ gains_of m p c.orders -ℤ cost_of m p c.kind
excess_split m p c le = omega (arith, ints, gains_split m p c.orders, size_split p.lambda (size_of m c.kind) (load m c.orders) le)

-- a larger new slab costs no less
pub cost_rises : (m : Mill) (p : Prices) (small large : ℕ) → pos 0 ≤ℤ p.lambda → small ≤ large → cost_of m p (New small) ≤ℤ cost_of m p (New large)
cost_rises m p small large sign le = omega (arith, ints, mul_le p.lambda (pos small) (pos large) sign (omega (arith, ints)))
