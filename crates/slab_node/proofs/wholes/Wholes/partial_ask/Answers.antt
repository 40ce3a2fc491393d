use Rattle.std.proofs.Common.{ℕ, ◌<◌, length, Option, Some, None}
use Rattle.std.specs.Prelude.{IfNone}
use Rattle.std.proofs.lemmas.Result.{IfOk-weaker}
use Rattle.mill_model.specs.declared.ask.Ask.{Ask}
use Rattle.mill_model.specs.declared.ask.Ask.TheVariants.{Pair, Put}
use Rattle.slab_relax.specs.PoolCovers.{parts_of}
use Rattle.slab_node.specs.Shares.{IsFractional, IsWhole}
use Rattle.slab_node.proofs.TimesOfCover.{is_whole}
use Rattle.slab_node.proofs.wholes.Wholes.partial_ask.Goals as goal

weaker : {P Q : Type 0} (found : Option Ask) → (P → Q) → IfNone found P → IfNone found Q
weaker None f h = f h
weaker (Some ask) f h = tt

pub returns-in-None-clause-none : goal.returns-in-None-clause-none
returns-in-None-clause-none c =
    let pairs : (i j : ℕ) → i < j → j < length c.args.self.now.node.mill.now.orders → IsFractional c.args.self.now.whole (parts_of c.args.self.now.pool.now.columns c.args.self.now.cover.now c.args.self.now.times.now) (Pair i j) → ⊥ = rw c.in-None.is at c.in_ok-ask.ensures.none in
    IfOk-weaker c.partial_put.result
    (λ found. IfNone found ((o s : ℕ) → o < length c.args.self.now.node.mill.now.orders → s < length c.args.self.now.node.mill.now.yard → IsFractional c.args.self.now.whole (parts_of c.args.self.now.pool.now.columns c.args.self.now.cover.now c.args.self.now.times.now) (Put o s) → ⊥))
    (λ found. IfNone found (IsWhole c.args.self.now.node.mill.now c.args.self.now.whole (parts_of c.args.self.now.pool.now.columns c.args.self.now.cover.now c.args.self.now.times.now)))
    (λ found none. weaker found (is_whole c.args.self.now.node.mill.now c.args.self.now.whole (parts_of c.args.self.now.pool.now.columns c.args.self.now.cover.now c.args.self.now.times.now) c.args.self.now.covers pairs) none)
    c.partial_put.ensures.none
