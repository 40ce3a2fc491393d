use Rattle.std.proofs.Common.{◌≡◌, ℤ, pos, ◌<ℤ◌, ◌+ℤ◌, ◌*ℤ◌, sum, inl, inr, List, Option, Some, None, refl}
use Rattle.std.specs.Prelude.{IsSomeAnd}
use Rattle.mill_model.specs.declared.limits.Limits.{Limits}
use Rattle.mill_model.specs.Mill.{Mill, IsInLimits}
use Rattle.mill_model.specs.Decisions.{Decision}
use Rattle.mill_model.specs.Plain.{loss_prices, count_prices, weight_prices, greatest_size, total_weight}
use Rattle.mill_model.specs.Prices.{Refutes}
use Rattle.mill_model.proofs.PlainPrices.{loss_refutes, count_refutes, weight_refutes}
use Rattle.mill_model.proofs.laws.plainly_refuted_limits_are_refuted.Goals as goal

by_loss : (m : Mill) (limits : Limits) (decisions : List Decision) (a : Option ℤ) → limits.loss ≡ a → IsSomeAnd a (λ z. z <ℤ pos 0) → Refutes m limits decisions (loss_prices m)
by_loss m limits decisions (Some a) e h = loss_refutes m limits decisions a e h
by_loss m limits decisions None e h = absurd h

by_count : (m : Mill) (limits : Limits) (decisions : List Decision) (b : Option ℤ) → limits.count ≡ b → IsSomeAnd b (λ z. z <ℤ pos 0) → Refutes m limits decisions (count_prices m)
by_count m limits decisions (Some b) e h = count_refutes m limits decisions b e h
by_count m limits decisions None e h = absurd h

by_weight : (m : Mill) (limits : Limits) (decisions : List Decision) (b : Option ℤ) → IsInLimits m → limits.count ≡ b → IsSomeAnd b (λ z. (z *ℤ pos (greatest_size m) +ℤ pos (sum m.yard)) <ℤ pos (total_weight m)) → Refutes m limits decisions (weight_prices m)
by_weight m limits decisions (Some b) limited e h = weight_refutes m limits decisions b limited e h
by_weight m limits decisions None limited e h = absurd h

pub returns : goal.returns
returns c m limits decisions limited (inl h) = (loss_prices m, by_loss m limits decisions limits.loss refl h)
returns c m limits decisions limited (inr (inl h)) = (count_prices m, by_count m limits decisions limits.count refl h)
returns c m limits decisions limited (inr (inr h)) = (weight_prices m, by_weight m limits decisions limits.count limited refl h)
