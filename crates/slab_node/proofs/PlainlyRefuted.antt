-- Plain prices refute where the limits say so.
use Rattle.std.proofs.Common.{◌≡◌, ℤ, pos, ◌+ℤ◌, ◌*ℤ◌, ◌<ℤ◌, sum, refl, List, Option, Some, None}
use Rattle.std.specs.Prelude.{IsSomeAnd}
use Rattle.mill_model.specs.declared.limits.Limits.{Limits}
use Rattle.mill_model.specs.Mill.{Mill, IsInLimits}
use Rattle.mill_model.specs.Decisions.{Decision}
use Rattle.mill_model.specs.Plain.{IsLossRefuted, IsCountRefuted, IsWeightRefuted, loss_prices, count_prices, weight_prices, greatest_size, total_weight}
use Rattle.mill_model.specs.Prices.{Refutes}
use Rattle.mill_model.proofs.PlainPrices.{loss_refutes, count_refutes, weight_refutes}

pub plain_loss : (m : Mill) (limits : Limits) → IsLossRefuted limits → (decisions : List Decision) → Refutes m limits decisions (loss_prices m)
plain_loss m limits h decisions = by limits.loss refl h
  where
    by : (a : Option ℤ) → limits.loss ≡ a → IsSomeAnd a (λ z. z <ℤ pos 0) → Refutes m limits decisions (loss_prices m)
    by None e q = absurd q
    by (Some a) e q = loss_refutes m limits decisions a e q

pub plain_count : (m : Mill) (limits : Limits) → IsCountRefuted limits → (decisions : List Decision) → Refutes m limits decisions (count_prices m)
plain_count m limits h decisions = by limits.count refl h
  where
    by : (b : Option ℤ) → limits.count ≡ b → IsSomeAnd b (λ z. z <ℤ pos 0) → Refutes m limits decisions (count_prices m)
    by None e q = absurd q
    by (Some b) e q = count_refutes m limits decisions b e q

pub plain_weight : (m : Mill) (limits : Limits) → IsInLimits m → IsWeightRefuted m limits → (decisions : List Decision) → Refutes m limits decisions (weight_prices m)
plain_weight m limits limited h decisions = by limits.count refl h
  where
    by : (b : Option ℤ) → limits.count ≡ b → IsSomeAnd b (λ z. (z *ℤ pos (greatest_size m) +ℤ pos (sum m.yard)) <ℤ pos (total_weight m)) → Refutes m limits decisions (weight_prices m)
    by None e q = absurd q
    by (Some b) e q = weight_refutes m limits decisions b limited e q
