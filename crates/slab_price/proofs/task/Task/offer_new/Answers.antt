use Rattle.std.proofs.Common.{ℕ, List, subst}
use Rattle.mill_model.specs.LeastSizes.{IsLeastSize}
use Rattle.slab_price.specs.Tasks.{problem_of}
use Rattle.pricing_laws.proofs.Packs.{pack_new}
use Rattle.slab_price.proofs.task.Task.offer_new.Goals as goal

pub returns-in-Some : goal.returns-in-Some
returns-in-Some c =
    let t = c.args.self.now in
    let least : IsLeastSize t.mill.now.sizes c.args.weight c.in-Some.size = subst (λ (xs : List ℕ). IsLeastSize xs c.args.weight c.in-Some.size) t.asked.together.sizes c.in-Some.ensures.some in
    record {
      kept = c.offer_on.ensures.kept;
      grows = c.offer_on.ensures.grows;
      most = pack_new (problem_of t) c.args.orders.now c.args.weight c.args.gain c.requires c.in-Some.size c.offer_on.new.best.excess t.asked.sign least c.offer_on.ensures.most;
    }
