use Rattle.std.proofs.Common.{◌≡◌, ◌+◌, ◌^◌, ◌≤◌, pos, ◌≤ℤ◌, ℤ, List, ◌∷◌, [], ◌++◌, length, arith, ap, ◌∙◌, to_z, of_z}
use Rattle.std.specs.Prelude.{◌-ℤ◌, unsigned_abs}
use Rattle.std.specs.Int.{w128}
use Rattle.std.proofs.lemmas.Int.{ints}
use Rattle.std.proofs.lemmas.List.{length_push}
use Rattle.mill_model.specs.declared.kind.Kind.{Kind}
use Rattle.mill_model.specs.Columns.{IsInStock, size_of}
use Rattle.pricing_laws.specs.Gains.{cost_of}
use Rattle.pricing_laws.proofs.Numbers.{each_push}
use Rattle.slab_price.proofs.task.Task.ends.Goals as goal

pub loop-load-preserved : goal.loop-load-preserved
loop-load-preserved c =
    let same : to_z w128 (of_z w128 c.end.result) ≡ c.end.result = omega (arith, ints, c.end.ensures.small) in
    let pushed : c.push.new.self.items ≡ c.loop-load.ends.items ++ (to_z w128 (of_z w128 c.end.result)) ∷ [] = c.in_ok-push.ensures.items in
    record {
      size = ap (λ (xs : List ℤ). length xs) pushed ∙ length_push c.loop-load.ends.items (to_z w128 (of_z w128 c.end.result)) ∙ ap (λ n. n + 1) c.loop-load.invariant.size;
      least = λ k kind h stock holds. each_push (λ n z. (other : Kind) → IsInStock c.args.self.now.mill.now other → n ≤ size_of c.args.self.now.mill.now other → (pos 0 -ℤ cost_of c.args.self.now.mill.now c.args.self.now.prices.now other) ≤ℤ z)
          c.loop-load.ends.items c.push.new.self.items (to_z w128 (of_z w128 c.end.result)) c.loop-load.load pushed c.loop-load.invariant.size
          (λ n below other s l. c.loop-load.invariant.least n other below s l)
          (λ other s l. omega (arith, ints, same, c.end.ensures.most other s l)) k h kind stock holds;
      small = each_push (λ n z. unsigned_abs z ≤ 2 ^ 90)
          c.loop-load.ends.items c.push.new.self.items (to_z w128 (of_z w128 c.end.result)) c.loop-load.load pushed c.loop-load.invariant.size
          c.loop-load.invariant.small
          (omega (arith, ints, same, c.end.ensures.small));
    }
