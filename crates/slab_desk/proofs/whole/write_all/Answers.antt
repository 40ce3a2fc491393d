use Rattle.std.proofs.Common.{◌≡◌, ◌<◌, ◌∙◌, length, take, arith}
use Rattle.std.proofs.lemmas.Grind.{common_steps}
use Rattle.std.proofs.lemmas.List.{take_rest, length-take}
use Rattle.slab_desk.specs.Desk.{AppendsAll}
use Rattle.slab_desk.proofs.Pieces.{sent_more, stopped_more, stopped_at_end, appends_join, appends_some}
use Rattle.slab_desk.proofs.Steps.{steps_weaker}
use Rattle.slab_desk.proofs.whole.write_all.Goals as goal

pub loop-rest-preserved : goal.loop-rest-preserved
loop-rest-preserved g c =
    let left : 0 < length c.loop-rest.rest.now = grind (arith, common_steps) in
    let some : 0 < length (take c.in_ok-count.count c.loop-rest.rest.now) = grind (arith, common_steps, length-take) in
    record {
      sent = rw take_rest (sent_more {step = AppendsAll} c.in_ok-count.count _ _ _ _ _ appends_join c.loop-rest.invariant.sent (steps_weaker _ _ (λ x y. appends_some _ x y some) c.in_ok-count.ensures.writes));
      named = c.in_ok-count.ensures.named ∙ c.loop-rest.invariant.named;
      kept = c.in_ok-count.ensures.cause.kept ∙ c.loop-rest.invariant.kept;
      stopped = rw take_rest (stopped_more c.in_ok-count.count _ _ _ _ _ c.in_ok-count.ensures.some c.in_ok-count.ensures.bound c.in_ok-count.ensures.stopped c.loop-rest.invariant.stopped);
    }

pub returns-clause-cause : goal.returns-clause-cause
returns-clause-cause g c = record { later = omega (arith, c.loop-rest.invariant.kept); failed = tt; kept = c.loop-rest.invariant.kept }

pub returns-clause-stopped : goal.returns-clause-stopped
returns-clause-stopped g c =
    let none : length c.loop-rest.rest.now ≡ 0 = grind (arith, common_steps) in
    stopped_at_end _ _ _ _ none c.loop-rest.invariant.stopped
