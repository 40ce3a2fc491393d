use Rattle.std.proofs.Common.{◌≡◌, ◌≤ℤ◌, ◌+ℤ◌, true, arith, to_z, of_z}
use Rattle.std.specs.Prelude.{◌-ℤ◌}
use Rattle.std.specs.Int.{w128}
use lib.Signed.{le_z}
use Rattle.std.proofs.lemmas.Int.{ints}
use Rattle.std.proofs.lemmas.Bool.{OnTrue_from}
use Rattle.pricing_laws.specs.Parts.{left_of}
use Rattle.pricing_laws.proofs.Numbers.{le_true}
use Rattle.pricing_laws.proofs.Tables.{most_weaker}
use Rattle.slab_price.proofs.hunt.Hunt.is_hopeless.Goals as goal

pub returns : goal.returns
returns c =
    let h = c.args.self.now in
    OnTrue_from _ _ (λ e. most_weaker h.search.task.mill.now h.search.task.prices.now h.search.frame.now.groups (left_of h.queue.now.heads.items c.args.left) c.args.load c.most.result (c.args.best -ℤ c.args.gain) (low e) c.most.ensures.most)
  where
    low : le_z (to_z w128 (of_z w128 (to_z w128 (of_z w128 c.args.gain) +ℤ to_z w128 (of_z w128 c.most.result)))) (to_z w128 (of_z w128 c.args.best)) ≡ true → c.most.result ≤ℤ (c.args.best -ℤ c.args.gain)
    low e = omega (arith, ints, le_true (to_z w128 (of_z w128 (to_z w128 (of_z w128 c.args.gain) +ℤ to_z w128 (of_z w128 c.most.result)))) (to_z w128 (of_z w128 c.args.best)) e, c.requires.small, c.most.ensures.small, c.ranges.best)
