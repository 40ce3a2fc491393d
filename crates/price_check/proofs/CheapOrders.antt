-- Orders that together are worth no more than any slab costs.
use Rattle.std.proofs.Common.{inl, inr, ◌≡◌, ℕ, ◌+◌, ◌-◌, ◌*◌, ◌<◌, ◌≤◌, ℤ, pos, ◌+ℤ◌, ◌≤ℤ◌, List, [], ◌∷◌, length, subst, ap, arith}
use Rattle.std.specs.Prelude.{◌*ℤ◌, unsigned_abs}
use Rattle.std.proofs.lemmas.Int.{ints}
use Rattle.std.proofs.lemmas.Bool.{cases_eq}
use Rattle.std.proofs.lemmas.List.Sums.{sum_by-cons}
use Rattle.mill_model.specs.declared.kind.Kind.{Kind}
use Rattle.mill_model.specs.Mill.{Mill}
use Rattle.mill_model.specs.SignedSums.{total_by}
use Rattle.mill_model.specs.Columns.{IsInStock, Rises, load, loss_of, order_at, size_of}
use Rattle.mill_model.specs.Decisions.{Decision}
use Rattle.mill_model.specs.Prices.{NoneExceeds, Prices, charge, most_price, price_at}
use Rattle.mill_model.proofs.Signed.{mul_le, mul_zero}
use Rattle.pricing_laws.specs.Worths.{IsFloor}

-- orders from a number on, no heavier than this together, are worth at most this together
pub record AreWorthAtMost (m : Mill) (p : Prices) (room low : ℕ) (worth : ℤ) : Type 0 where
  pub sign : pos 0 ≤ℤ worth
  pub small : unsigned_abs worth ≤ (length m.orders - low) * most_price
  pub most : (orders : List ℕ) → Rises low (length m.orders) orders → load m orders ≤ room → total_by (price_at p.pi) orders ≤ℤ worth

pub worth_none : (m : Mill) (p : Prices) (room : ℕ) → AreWorthAtMost m p room (length m.orders) (pos 0)
worth_none m p room = record { sign = omega (arith, ints); small = omega arith; most = most }
  where
    most : (orders : List ℕ) → Rises (length m.orders) (length m.orders) orders → load m orders ≤ room → total_by (price_at p.pi) orders ≤ℤ pos 0
    most [] r h = omega (arith, ints)
    most (x ∷ xs) r h = absurd (omega (arith, r.0, r.1))

-- one order more
pub worth_more : (m : Mill) (p : Prices) (room at : ℕ) (worth more : ℤ) → at < length m.orders → pos 0 ≤ℤ more → unsigned_abs more ≤ most_price → ((order_at m at).weight ≤ room → price_at p.pi at ≤ℤ more)
    → AreWorthAtMost m p room (at + 1) worth → AreWorthAtMost m p room at (worth +ℤ more)
worth_more m p room at worth more lt sign little covers a = record {
  sign = omega (arith, ints, a.sign, sign);
  small = omega (arith, ints, little, lt, a.small);
  most = most;
}
  where
    most : (orders : List ℕ) → Rises at (length m.orders) orders → load m orders ≤ room → total_by (price_at p.pi) orders ≤ℤ (worth +ℤ more)
    most [] r h = omega (arith, ints, a.sign, sign)
    most (x ∷ xs) r h =
        let split : load m (x ∷ xs) ≡ (order_at m x).weight + load m xs = sum_by-cons (λ o. (order_at m o).weight) x xs in
        elim (cases_eq x at) [
          | inl e ↦
              let rest : total_by (price_at p.pi) xs ≤ℤ worth = a.most xs (subst (λ (y : ℕ). Rises (y + 1) (length m.orders) xs) e r.2) (omega (arith, split)) in
              let here : price_at p.pi at ≤ℤ more = covers (subst (λ (y : ℕ). (order_at m y).weight ≤ room) e (omega (arith, split))) in
              omega (arith, ints, rest, here, ap (price_at p.pi) e)
          | inr n ↦ omega (arith, ints, sign, a.most (x ∷ xs) (omega (arith, r.0), r.1, r.2) h)
        ]

-- where all orders together are worth no more than any slab charges, no column exceeds
pub none_exceeds : (m : Mill) (p : Prices) (decisions : List Decision) (room : ℕ) (worth floor : ℤ) → ((kind : Kind) → IsInStock m kind → size_of m kind ≤ room) → pos 0 ≤ℤ p.lambda → IsFloor m p floor → worth ≤ℤ floor
    → AreWorthAtMost m p room 0 worth → NoneExceeds m decisions p
none_exceeds m p decisions room worth floor holds sign least cheap a c legal agrees =
    let few : total_by (price_at p.pi) c.orders ≤ℤ worth = a.most c.orders legal.rises (omega (arith, legal.fits.weight, holds c.kind legal.fits.kind)) in
    let loss : (p.lambda *ℤ pos 0) ≤ℤ (p.lambda *ℤ pos (loss_of m c)) = mul_le p.lambda (pos 0) (pos (loss_of m c)) sign (omega (arith, ints)) in
    let none : p.lambda *ℤ pos 0 ≡ pos 0 = mul_zero p.lambda in
    let most : floor ≤ℤ charge p c.kind = least c.kind legal.fits.kind in
    record { priced = omega (arith, ints, few, loss, none, most, cheap) }
