-- No plan is within limits that are plainly refuted.
use Rattle.std.proofs.Common.{◌≡◌, ℤ, pos, ◌+ℤ◌, ◌*ℤ◌, ◌<ℤ◌, [], refl, inl, inr, Option, Some, None}
use Rattle.std.specs.Prelude.{IsSomeAnd}
use Rattle.std.specs.List.{sum}
use Rattle.mill_model.specs.declared.limits.Limits.{Limits}
use Rattle.mill_model.specs.Mill.{Mill, IsInLimits}
use Rattle.mill_model.specs.Plans.{Plan, IsLegal, sums_of}
use Rattle.mill_model.specs.Prices.{Refutes}
use Rattle.mill_model.specs.Limits.{IsWithin}
use Rattle.mill_model.specs.Plain.{IsPlainlyRefuted, loss_prices, count_prices, weight_prices, greatest_size, total_weight}
use Rattle.mill_model.proofs.PlanCover.{refuted}
use Rattle.mill_model.proofs.PlainPrices.{loss_refutes, count_refutes, weight_refutes}

by_loss : (m : Mill) (limits : Limits) (a : Option ℤ) → limits.loss ≡ a → IsSomeAnd a (λ z. z <ℤ pos 0) → Refutes m limits [] (loss_prices m)
by_loss m limits (Some a) e h = loss_refutes m limits [] a e h
by_loss m limits None e h = absurd h

by_count : (m : Mill) (limits : Limits) (b : Option ℤ) → limits.count ≡ b → IsSomeAnd b (λ z. z <ℤ pos 0) → Refutes m limits [] (count_prices m)
by_count m limits (Some b) e h = count_refutes m limits [] b e h
by_count m limits None e h = absurd h

by_weight : (m : Mill) (limits : Limits) (b : Option ℤ) → IsInLimits m → limits.count ≡ b → IsSomeAnd b (λ z. (z *ℤ pos (greatest_size m) +ℤ pos (sum m.yard)) <ℤ pos (total_weight m)) → Refutes m limits [] (weight_prices m)
by_weight m limits (Some b) limited e h = weight_refutes m limits [] b limited e h
by_weight m limits None limited e h = absurd h

pub none_within : (m : Mill) (limits : Limits) (p : Plan) → IsInLimits m → IsPlainlyRefuted m limits → IsLegal m p → IsWithin (sums_of m p) limits → ⊥
none_within m limits p limited (inl h) legal within = refuted m limits [] (loss_prices m) p tt (by_loss m limits limits.loss refl h) legal tt within
none_within m limits p limited (inr (inl h)) legal within = refuted m limits [] (count_prices m) p tt (by_count m limits limits.count refl h) legal tt within
none_within m limits p limited (inr (inr h)) legal within = refuted m limits [] (weight_prices m) p tt (by_weight m limits limits.count limited refl h) legal tt within
