use Rattle.std.proofs.Common.{ℕ, pos, ◌<ℤ◌, Some, subst}
use Rattle.std.specs.Prelude.{IsSomeAnd}
use Rattle.mill_model.specs.declared.sums.Sums.{Sums}
use Rattle.mill_model.specs.Limits.{AtMost, IsWithin}
use Rattle.slab_node.specs.Settlements.{sums_by}
use Rattle.slab_node.proofs.Settling.{in_box}
use Rattle.slab_node.proofs.FirstStated.{by_loss, by_count}
use Rattle.slab_node.proofs.settle.limited.Goals as goal

pub returns-clause-in_box : goal.returns-clause-in_box
returns-clause-in_box c =
    let within : IsWithin c.args.sums c.args.node.now.limits = record { loss = c.if-exceeds.ensures.within; count = subst (λ (n : ℕ). AtMost (Some (pos n)) c.args.node.now.limits.count) c.from.ensures c.if-exceeds-2.ensures.within } in
    in_box c.args.node.now c.args.settlement c.requires.settlement c.requires.legal (subst (λ (x : Sums). IsWithin x c.args.node.now.limits) c.requires.sums within)

pub returns-then-exceeds-clause-stated : goal.returns-then-exceeds-clause-stated
returns-then-exceeds-clause-stated c =
    let above : IsSomeAnd c.args.node.now.limits.loss (λ a. a <ℤ pos (sums_by c.args.node.now c.args.settlement).loss) = subst (λ (x : Sums). IsSomeAnd c.args.node.now.limits.loss (λ a. a <ℤ pos x.loss)) c.requires.sums c.if-exceeds.ensures.above in
    by_loss c.args.node.now c.args.settlement c.requires.settlement c.in_ok-loss_prices.field-0 c.requires.legal above c.in_ok-loss_prices.ensures.stated

pub returns-then-exceeds-2-clause-stated : goal.returns-then-exceeds-2-clause-stated
returns-then-exceeds-2-clause-stated c =
    let within : AtMost (Some (pos (sums_by c.args.node.now c.args.settlement).loss)) c.args.node.now.limits.loss = subst (λ (x : Sums). AtMost (Some (pos x.loss)) c.args.node.now.limits.loss) c.requires.sums c.if-exceeds.ensures.within in
    by_count c.args.node.now c.args.settlement c.requires.settlement c.in_ok-count_prices.field-0 c.requires.legal within c.in_ok-count_prices.ensures.stated
