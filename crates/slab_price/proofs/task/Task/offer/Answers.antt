use Rattle.std.proofs.Common.{◌≡◌, length}
use Rattle.pricing_laws.specs.Packs.{IsOnNew, IsOnYard}
use Rattle.slab_price.specs.Tasks.{problem_of}
use Rattle.slab_price.proofs.Improving.{improved_both}
use Rattle.pricing_laws.proofs.Packs.{on_some_slab}
use Rattle.slab_price.proofs.task.Task.offer.Goals as goal

pub returns : goal.returns
returns c =
    let q = problem_of c.args.self.now in
    let orders = c.args.orders.now in
    improved_both q c.args.best.now c.offer_new.new.best c.offer_yard.new.best (IsOnNew orders) (IsOnYard (length q.mill.yard) orders) (λ d. d.orders ≡ orders) (on_some_slab q orders) c.offer_new.ensures c.offer_yard.ensures
