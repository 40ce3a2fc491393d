-- What a turn hands on: the decisions' questions are the mill's, and the groups of a whole cover make a plan.
use Rattle.std.proofs.Common.{◌≡◌, ℕ, List, length, subst}
use Rattle.std.specs.List.{AllByRecursion}
use Rattle.mill_model.specs.Mill.{Mill}
use Rattle.mill_model.specs.Decisions.{Decision, IsAskAmong, AreAsks}
use Rattle.slab_decide.specs.Decided.{Decisions, AreDecisions}

each_ask : (n k n' k' : ℕ) (list : List Decision) → n ≡ n' → k ≡ k' → AllByRecursion (λ (d : Decision). IsAskAmong n k d.0) list → AllByRecursion (λ (d : Decision). IsAskAmong n' k' d.0) list
each_ask n k n' k' list e f h = subst (λ (i : ℕ). AllByRecursion (λ (d : Decision). IsAskAmong i k' d.0) list) e (subst (λ (j : ℕ). AllByRecursion (λ (d : Decision). IsAskAmong n j d.0) list) f h)

pub are_asks : (m : Mill) (v : Decisions) → v.orders ≡ length m.orders → v.yard ≡ length m.yard → AreDecisions v → AreAsks m v.list
are_asks m v orders yard are = each_ask v.orders v.yard (length m.orders) (length m.yard) v.list orders yard are.asks
