use Rattle.std.proofs.Common.{◌≡◌, ◌∙◌, ◌∷◌, ◌++◌, [], ap, arith}
use Rattle.mill_model.specs.declared.sums.Sums.{Sums}
use Rattle.mill_model.specs.Fronts.{Point}
use Rattle.slab_sweep.proofs.Heads.{placed_same, placed_other}
use Rattle.slab_sweep.proofs.points.place.Goals as goal

pub returns-then-sums : goal.returns-then-sums
returns-then-sums c =
    let last : c.sums.result.loss ≡ c.in-Some.last.sums.loss = ap (λ (s : Sums). s.loss) c.sums.ensures in
    let next : c.sums-in-Some.result.loss ≡ c.args.point.sums.loss = ap (λ (s : Sums). s.loss) c.sums-in-Some.ensures in
    placed_same c.args.points.now.items c.pop.new.self.items c.push_reserved.new.self.items c.in-Some.last c.args.point
    c.in-Some.ensures.items
    (omega arith)
    (c.push_reserved.ensures.items ∙ ap (λ (p : Point). c.pop.new.self.items ++ p ∷ []) c.with_plan_of.ensures)

pub returns-in_ok-push-in-Some : goal.returns-in_ok-push-in-Some
returns-in_ok-push-in-Some c =
    let last : c.sums.result.loss ≡ c.in-Some.last.sums.loss = ap (λ (s : Sums). s.loss) c.sums.ensures in
    let next : c.sums-in-Some.result.loss ≡ c.args.point.sums.loss = ap (λ (s : Sums). s.loss) c.sums-in-Some.ensures in
    placed_other c.args.points.now.items c.pop.new.self.items c.push_reserved-in-Some.new.self.items c.push-in-Some.new.self.items c.in-Some.last c.args.point
    c.in-Some.ensures.items
    (λ same. omega arith)
    c.push_reserved-in-Some.ensures.items
    c.in_ok-push-in-Some.ensures.items
