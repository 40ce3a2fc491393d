use Rattle.std.proofs.Common.{rules, ◌≡◌, ℕ, ◌+◌, ◌-◌, ◌^◌, ◌<◌, ◌≤◌, pos, List, [], ◌∷◌, ◌++◌, length, get_or, ap, sym, subst, ◌∙◌, arith, to_z, of_z}
use Rattle.std.specs.Prelude.{◌-ℤ◌, unsigned_abs}
use Rattle.std.specs.Int.{w128}
use Rattle.std.proofs.lemmas.Int.{ints}
use Rattle.std.proofs.lemmas.List.{get_or_default}
use Rattle.pricing_laws.specs.Parts.{left_of}
use Rattle.pricing_laws.specs.Problems.{ExceedAtMost}
use Rattle.pricing_laws.proofs.Parts.{popped}
use Rattle.pricing_laws.proofs.Tables.{most_weaker}
use Rattle.price_check.specs.Finds.{IsAnswer}
use Rattle.pricing_laws.specs.Hunts.{AreTakenIn, IsChoiceIn, IsChoiceWith, IsMostIn}
use Rattle.price_check.specs.Leaves.{problem_of}
use Rattle.pricing_laws.proofs.Hunting.{next_choice, next_left, queue_short, taken_bounded, taken_small}
use Rattle.price_check.proofs.Answering.{answer_both, answer_empty, answer_found, answer_none}
use Rattle.price_check.proofs.Options.{none_at, none_weaker}
use Rattle.price_check.specs.Hunts.{hunt_of}
use Rattle.price_check.proofs.hunt.Hunt.+walk.Goals as goal

pub is_hopeless-requires-clause-small : goal.is_hopeless-requires-clause-small
is_hopeless-requires-clause-small t c =
    let small : unsigned_abs c.args.gain ≤ 2 ^ 92 = taken_small (hunt_of c.args.self.now) c.args.left c.args.picks.now.chosen.items c.args.weight c.args.gain c.requires.taken in
    omega (arith, ints, small)

pub returns-then-is_hopeless-clause-answer : goal.returns-then-is_hopeless-clause-answer
returns-then-is_hopeless-clause-answer t c =
    let h = c.args.self.now in
    let chosen = c.args.picks.now.chosen.items in
    let small : unsigned_abs c.args.gain ≤ 2 ^ 92 = taken_small (hunt_of h) c.args.left chosen c.args.weight c.args.gain c.requires.taken in
    let bound : IsMostIn (hunt_of h) c.args.left c.args.weight (pos 0 -ℤ c.args.gain) = most_weaker h.search.leaf.mill.now h.search.leaf.quote.now h.search.frame.now.groups (left_of h.queue.now.heads.items c.args.left) c.args.weight
    (pos 0 -ℤ to_z w128 (of_z w128 c.args.gain)) (pos 0 -ℤ c.args.gain) (omega (arith, ints, small)) c.if-is_hopeless.ensures in
    answer_none (problem_of h.search.leaf) c.args.picks.now.orders.items (IsChoiceIn (hunt_of h) chosen c.args.left) (taken_bounded (hunt_of h) c.args.left chosen c.args.weight c.args.gain c.requires.taken (pos 0) bound)

pub walk-requires : goal.walk-requires
walk-requires t c =
    let h = c.args.self.now in
    let chosen = c.args.picks.now.chosen.items in
    let next : c.args.left ≡ c.args.left - 1 + 1 = omega (arith, c.if-left-eq0.false) in
    let taken : AreTakenIn (hunt_of h) (c.args.left - 1 + 1) chosen c.args.weight c.args.gain = subst (λ (k : ℕ). AreTakenIn (hunt_of h) k chosen c.args.weight c.args.gain) next c.requires.taken in
    let back : to_z w128 (of_z w128 c.args.gain) ≡ c.args.gain = omega (arith, ints, taken_small (hunt_of h) c.args.left chosen c.args.weight c.args.gain c.requires.taken) in
    (search rules, (c.requires.light, subst (AreTakenIn (hunt_of h) (c.args.left - 1) chosen c.args.weight) (sym back) (next_left (hunt_of h) (c.args.left - 1) chosen c.args.weight c.args.gain taken)))

pub returns-in_default-clause-answer : goal.returns-in_default-clause-answer
returns-in_default-clause-answer t c =
    let h = c.args.self.now in
    let chosen = c.args.picks.now.chosen.items in
    let q = problem_of h.search.leaf in
    answer_both q c.walk.new.picks.orders.items c.walk.result (IsChoiceWith (hunt_of h) chosen (c.args.left - 1)) (IsChoiceIn (hunt_of h) chosen (c.args.left - 1)) (IsChoiceIn (hunt_of h) chosen c.args.left) (next_choice (hunt_of h) chosen c.args.left c.if-left-eq0.false)
    (subst (λ (os : List ℕ). ExceedAtMost q (pos 0) (IsChoiceWith (hunt_of h) os (c.args.left - 1))) c.deref.ensures.value (c.in_default.ensures.none (pos 0))) c.walk.ensures.answer

pub push_reserved-requires : goal.push_reserved-requires
push_reserved-requires t c =
    let h = c.args.self.now in
    omega (arith, c.requires.taken.count, c.if-left-eq0.false, queue_short (hunt_of h), c.args.picks.now.chosen.ok.0, c.args.picks.now.chosen_room)

pub returns-then-is_some-clause-answer : goal.returns-then-is_some-clause-answer
returns-then-is_some-clause-answer t c =
    let h = c.args.self.now in
    answer_found (problem_of h.search.leaf) c.walk-found.new.picks.orders.items c.walk-found.result _ (IsChoiceIn (hunt_of h) c.args.picks.now.chosen.items c.args.left) (sym c.is_some.ensures ∙ c.if-is_some.true) c.walk-found.ensures.answer

pub walk-requires-2 : goal.walk-requires-2
walk-requires-2 t c =
    let h = c.args.self.now in
    let chosen = c.args.picks.now.chosen.items in
    let next : c.args.left ≡ c.args.left - 1 + 1 = omega (arith, c.if-left-eq0.false) in
    let taken : AreTakenIn (hunt_of h) (c.args.left - 1 + 1) chosen c.args.weight c.args.gain = subst (λ (k : ℕ). AreTakenIn (hunt_of h) k chosen c.args.weight c.args.gain) next c.requires.taken in
    let back : to_z w128 (of_z w128 c.args.gain) ≡ c.args.gain = omega (arith, ints, taken_small (hunt_of h) c.args.left chosen c.args.weight c.args.gain c.requires.taken) in
    let kept = none_at c.walk-found.result _ (sym c.is_some.ensures ∙ c.if-is_some.false) c.walk-found.ensures.chosen in
    let same : c.pop.new.self.items ≡ chosen = popped chosen c.walk-found.new.picks.chosen.items c.pop.new.self.items c.index.result.now _ (kept ∙ c.push_reserved.ensures.items) c.walk-found.new.picks.chosen.ok.0 c.pop.ensures.rest in
    (search rules, (c.requires.light, subst (λ (os : List ℕ). AreTakenIn (hunt_of h) (c.args.left - 1) os c.args.weight (to_z w128 (of_z w128 c.args.gain))) (sym same) (subst (AreTakenIn (hunt_of h) (c.args.left - 1) chosen c.args.weight) (sym back) (next_left (hunt_of h) (c.args.left - 1) chosen c.args.weight c.args.gain taken))))

pub returns-clause-chosen : goal.returns-clause-chosen
returns-clause-chosen t c =
    let chosen = c.args.picks.now.chosen.items in
    let kept = none_at c.walk-found.result _ (sym c.is_some.ensures ∙ c.if-is_some.false) c.walk-found.ensures.chosen in
    let same : c.pop.new.self.items ≡ chosen = popped chosen c.walk-found.new.picks.chosen.items c.pop.new.self.items c.index.result.now _ (kept ∙ c.push_reserved.ensures.items) c.walk-found.new.picks.chosen.ok.0 c.pop.ensures.rest in
    none_weaker c.walk-2.result _ _ (λ e. e ∙ same) c.walk-2.ensures.chosen

pub returns-clause-answer : goal.returns-clause-answer
returns-clause-answer t c =
    let h = c.args.self.now in
    let chosen = c.args.picks.now.chosen.items in
    let heads = h.queue.now.heads.items in
    let q = problem_of h.search.leaf in
    let at : ℕ = c.args.left - 1 in
    let lt : at < length heads = omega (arith, c.if-left-eq0.false, c.requires.taken.count) in
    let head : c.index.result.now ≡ get_or heads at 0 = c.index.ensures ∙ get_or_default heads at c.index.result.now 0 lt in
    let pushed : c.push_reserved.new.self.items ≡ chosen ++ get_or heads at 0 ∷ [] = c.push_reserved.ensures.items ∙ ap (λ (x : ℕ). chosen ++ x ∷ []) head in
    let kept = none_at c.walk-found.result _ (sym c.is_some.ensures ∙ c.if-is_some.false) c.walk-found.ensures.chosen in
    let same : c.pop.new.self.items ≡ chosen = popped chosen c.walk-found.new.picks.chosen.items c.pop.new.self.items c.index.result.now _ (kept ∙ c.push_reserved.ensures.items) c.walk-found.new.picks.chosen.ok.0 c.pop.ensures.rest in
    let first : ExceedAtMost q (pos 0) (IsChoiceWith (hunt_of h) chosen at) = subst (λ (os : List ℕ). ExceedAtMost q (pos 0) (IsChoiceIn (hunt_of h) os at)) pushed (answer_empty q c.walk-found.new.picks.orders.items c.walk-found.result _ (sym c.is_some.ensures ∙ c.if-is_some.false) c.walk-found.ensures.answer) in
    let second : IsAnswer q c.walk-2.new.picks.orders.items c.walk-2.result (IsChoiceIn (hunt_of h) chosen at) = subst (λ (os : List ℕ). IsAnswer q c.walk-2.new.picks.orders.items c.walk-2.result (IsChoiceIn (hunt_of h) os at)) same c.walk-2.ensures.answer in
    answer_both q c.walk-2.new.picks.orders.items c.walk-2.result (IsChoiceWith (hunt_of h) chosen at) (IsChoiceIn (hunt_of h) chosen at) (IsChoiceIn (hunt_of h) chosen c.args.left) (next_choice (hunt_of h) chosen c.args.left c.if-left-eq0.false) first second
