-- Numbers that name rising orders, one after another.
use Rattle.std.proofs.Common.{◌≡◌, ◌↔◌, ℕ, ◌+◌, ◌-◌, ◌<◌, ◌≤◌, ℤ, pos, negsuc, ◌≤ℤ◌, ◌<ℤ◌, List, [], ◌∷◌, map, length, refl, sym, ap, subst, arith}
use Rattle.std.specs.List.{AllByRecursion}
use Rattle.std.proofs.lemmas.Int.{ints}
use Rattle.std.proofs.lemmas.List.{length-map}
use Rattle.mill_model.specs.Columns.{Rises}
use Rattle.cert_rules.specs.Numbers.{Names, index, natural}
use Rattle.cert_rules.specs.Slabs.{orders_on}
use Rattle.cert_slabs.specs.Roster.{AreListed}

-- so many rising numbers fit below high
pub rising_few : (low high : ℕ) (xs : List ℕ) → Rises low high xs → low ≤ high → length xs + low ≤ high
rising_few low high [] r h = omega arith
rising_few low high (x ∷ xs) r h = omega (arith, r.0, rising_few (x + 1) high xs r.2 (omega (arith, r.1)))

-- more numbers than orders can't be listed
pub too_many : (count : ℕ) (numbers : List ℤ) → count < length numbers → AreListed count 0 numbers → ⊥
too_many count numbers h l = omega (arith, h, rising_few 0 count (orders_on numbers) l.rise (omega arith), length-map numbers index)

-- a number that names an order from low on
pub listed_step : (count low : ℕ) (n : ℤ) (rest : List ℤ) → Names count n → low ≤ index n → AreListed count low (n ∷ rest) ↔ AreListed count (index n + 1) rest
listed_step count low n rest named l = (
  λ a. record { named = a.named.1; rise = a.rise.2 },
  λ a. record { named = (named, a.named); rise = (l, below n named, a.rise) },
)
  where
    below : (n : ℤ) → Names count n → index n < count
    below (pos n) h = omega (arith, ints, h.0, h.1)
    below (negsuc n) h = absurd (omega (arith, ints, h.0))

-- the first of listed numbers
pub listed_first : (count low : ℕ) (n : ℤ) (rest : List ℤ) → AreListed count low (n ∷ rest) → Names count n × (low ≤ index n)
listed_first count low n rest a = (a.named.0, a.rise.0)

pub names_below : (count : ℕ) (n : ℤ) → Names count n → index n < count
names_below count (pos n) h = omega (arith, ints, h.0, h.1)
names_below count (negsuc n) h = absurd (omega (arith, ints, h.0))
