use Rattle.std.proofs.Common.{rules, ◌≡◌, ℕ, ◌+◌, ◌-◌, ◌^◌, ◌<◌, ◌≤◌, List, [], ◌∷◌, ◌++◌, length, get_or, ap, sym, subst, ◌∙◌, arith, to_z, of_z}
use Rattle.std.specs.Prelude.{◌-ℤ◌, unsigned_abs}
use Rattle.std.specs.Int.{w128}
use Rattle.std.proofs.lemmas.Int.{ints}
use Rattle.std.proofs.lemmas.List.{get_or_default}
use Rattle.pricing_laws.specs.Parts.{left_of}
use Rattle.pricing_laws.specs.Problems.{ExceedAtMost}
use Rattle.pricing_laws.proofs.Parts.{popped}
use Rattle.pricing_laws.proofs.Problems.{exceed_both}
use Rattle.pricing_laws.proofs.Tables.{most_weaker}
use Rattle.slab_price.specs.Bests.{IsImproved}
use Rattle.pricing_laws.specs.Hunts.{AreTakenIn, IsChoiceIn, IsChoiceWith, IsMostIn}
use Rattle.slab_price.specs.Tasks.{problem_of}
use Rattle.pricing_laws.proofs.Hunting.{next_choice, next_left, queue_short, taken_bounded, taken_small}
use Rattle.slab_price.proofs.Improving.{improved_both, improved_same}
use Rattle.slab_price.specs.Hunts.{hunt_of}
use Rattle.slab_price.proofs.hunt.Hunt.+walk.Goals as goal

pub is_hopeless-requires-clause-small : goal.is_hopeless-requires-clause-small
is_hopeless-requires-clause-small t c =
    let small : unsigned_abs c.args.gain ≤ 2 ^ 92 = taken_small (hunt_of c.args.self.now) c.args.left c.args.picks.now.chosen.items c.args.weight c.args.gain c.requires.taken in
    omega (arith, ints, small)

pub returns-then-is_hopeless-clause-improved : goal.returns-then-is_hopeless-clause-improved
returns-then-is_hopeless-clause-improved t c =
    let h = c.args.self.now in
    let chosen = c.args.picks.now.chosen.items in
    let most = c.args.picks.now.best.excess in
    let small : unsigned_abs c.args.gain ≤ 2 ^ 92 = taken_small (hunt_of h) c.args.left chosen c.args.weight c.args.gain c.requires.taken in
    let bound : IsMostIn (hunt_of h) c.args.left c.args.weight (most -ℤ c.args.gain) = most_weaker h.search.task.mill.now h.search.task.prices.now h.search.frame.now.groups (left_of h.queue.now.heads.items c.args.left) c.args.weight
    (to_z w128 (of_z w128 most) -ℤ to_z w128 (of_z w128 c.args.gain)) (most -ℤ c.args.gain) (omega (arith, ints, small)) c.if-is_hopeless.ensures in
    improved_same (problem_of h.search.task) c.args.picks.now.best (IsChoiceIn (hunt_of h) chosen c.args.left) (taken_bounded (hunt_of h) c.args.left chosen c.args.weight c.args.gain c.requires.taken most bound)

pub walk-requires : goal.walk-requires
walk-requires t c =
    let h = c.args.self.now in
    let chosen = c.args.picks.now.chosen.items in
    let next : c.args.left ≡ c.args.left - 1 + 1 = omega (arith, c.if-left-eq0.false) in
    let taken : AreTakenIn (hunt_of h) (c.args.left - 1 + 1) chosen c.args.weight c.args.gain = subst (λ (k : ℕ). AreTakenIn (hunt_of h) k chosen c.args.weight c.args.gain) next c.requires.taken in
    let back : to_z w128 (of_z w128 c.args.gain) ≡ c.args.gain = omega (arith, ints, taken_small (hunt_of h) c.args.left chosen c.args.weight c.args.gain c.requires.taken) in
    (search rules, (c.requires.light, subst (AreTakenIn (hunt_of h) (c.args.left - 1) chosen c.args.weight) (sym back) (next_left (hunt_of h) (c.args.left - 1) chosen c.args.weight c.args.gain taken)))

pub returns-in_default-clause-improved : goal.returns-in_default-clause-improved
returns-in_default-clause-improved t c =
    let h = c.args.self.now in
    let chosen = c.args.picks.now.chosen.items in
    let q = problem_of h.search.task in
    record {
      kept = c.walk.ensures.improved.kept;
      grows = c.walk.ensures.improved.grows;
      most = exceed_both q c.walk.new.picks.best.excess c.walk.new.picks.best.excess (IsChoiceWith (hunt_of h) chosen (c.args.left - 1)) (IsChoiceIn (hunt_of h) chosen (c.args.left - 1)) (IsChoiceIn (hunt_of h) chosen c.args.left) (omega (arith, ints)) (next_choice (hunt_of h) chosen c.args.left c.if-left-eq0.false)
          (subst (λ (os : List ℕ). ExceedAtMost q c.walk.new.picks.best.excess (IsChoiceWith (hunt_of h) os (c.args.left - 1))) c.deref.ensures.value (c.in_default.ensures.none c.walk.new.picks.best.excess)) c.walk.ensures.improved.most;
    }

pub push_reserved-requires : goal.push_reserved-requires
push_reserved-requires t c =
    let h = c.args.self.now in
    omega (arith, c.requires.taken.count, c.if-left-eq0.false, queue_short (hunt_of h), c.args.picks.now.chosen.ok.0, c.args.picks.now.chosen_room)

pub walk-requires-3 : goal.walk-requires-3
walk-requires-3 t c =
    let h = c.args.self.now in
    let chosen = c.args.picks.now.chosen.items in
    let next : c.args.left ≡ c.args.left - 1 + 1 = omega (arith, c.if-left-eq0.false) in
    let taken : AreTakenIn (hunt_of h) (c.args.left - 1 + 1) chosen c.args.weight c.args.gain = subst (λ (k : ℕ). AreTakenIn (hunt_of h) k chosen c.args.weight c.args.gain) next c.requires.taken in
    let back : to_z w128 (of_z w128 c.args.gain) ≡ c.args.gain = omega (arith, ints, taken_small (hunt_of h) c.args.left chosen c.args.weight c.args.gain c.requires.taken) in
    let same : c.pop.new.self.items ≡ chosen = popped chosen c.walk-2.new.picks.chosen.items c.pop.new.self.items c.index.result.now _ (c.walk-2.ensures.chosen ∙ c.push_reserved.ensures.items) c.walk-2.new.picks.chosen.ok.0 c.pop.ensures.rest in
    (search rules, (c.requires.light, subst (λ (os : List ℕ). AreTakenIn (hunt_of h) (c.args.left - 1) os c.args.weight (to_z w128 (of_z w128 c.args.gain))) (sym same) (subst (AreTakenIn (hunt_of h) (c.args.left - 1) chosen c.args.weight) (sym back) (next_left (hunt_of h) (c.args.left - 1) chosen c.args.weight c.args.gain taken))))

pub returns-clause-improved : goal.returns-clause-improved
returns-clause-improved t c =
    let h = c.args.self.now in
    let chosen = c.args.picks.now.chosen.items in
    let heads = h.queue.now.heads.items in
    let q = problem_of h.search.task in
    let at : ℕ = c.args.left - 1 in
    let lt : at < length heads = omega (arith, c.if-left-eq0.false, c.requires.taken.count) in
    let head : c.index.result.now ≡ get_or heads at 0 = c.index.ensures ∙ get_or_default heads at c.index.result.now 0 lt in
    let pushed : c.push_reserved.new.self.items ≡ chosen ++ get_or heads at 0 ∷ [] = c.push_reserved.ensures.items ∙ ap (λ (x : ℕ). chosen ++ x ∷ []) head in
    let same : c.pop.new.self.items ≡ chosen = popped chosen c.walk-2.new.picks.chosen.items c.pop.new.self.items c.index.result.now _ (c.walk-2.ensures.chosen ∙ c.push_reserved.ensures.items) c.walk-2.new.picks.chosen.ok.0 c.pop.ensures.rest in
    let first : IsImproved q c.args.picks.now.best c.walk-2.new.picks.best (IsChoiceWith (hunt_of h) chosen at) = subst (λ (os : List ℕ). IsImproved q c.args.picks.now.best c.walk-2.new.picks.best (IsChoiceIn (hunt_of h) os at)) pushed c.walk-2.ensures.improved in
    let second : IsImproved q c.walk-2.new.picks.best c.walk-3.new.picks.best (IsChoiceIn (hunt_of h) chosen at) = subst (λ (os : List ℕ). IsImproved q c.walk-2.new.picks.best c.walk-3.new.picks.best (IsChoiceIn (hunt_of h) os at)) same c.walk-3.ensures.improved in
    improved_both q c.args.picks.now.best c.walk-2.new.picks.best c.walk-3.new.picks.best (IsChoiceWith (hunt_of h) chosen at) (IsChoiceIn (hunt_of h) chosen at) (IsChoiceIn (hunt_of h) chosen c.args.left) (next_choice (hunt_of h) chosen c.args.left c.if-left-eq0.false) first second
