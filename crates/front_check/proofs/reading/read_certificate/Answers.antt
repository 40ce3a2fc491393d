use Rattle.std.proofs.Common.{◌∙◌, ◌<◌, ◌≤◌, ℕ, length, take, sym, arith}
use Rattle.std.proofs.lemmas.Grind.{common_steps}
use Rattle.cert_check.specs.Verdicts.{said_of}
use Rattle.front_check.specs.Owed.{most_piece}
use Rattle.front_check.proofs.Pieces.{fed_nothing, fed_more, is_bad, room_falls, verdict_bad, verdict_whole, stops_soon, stops_at_end}
use Rattle.front_check.proofs.Failing.{read_failed, fault_is}
use Rattle.front_check.proofs.reading.read_certificate.Goals as goal

pub pieces-init : goal.pieces-init
pieces-init g c = record {
  fed = fed_nothing _ c.args.name.now _ _ c.in_ok-checker.ensures.stands c.in_ok-open_file.ensures.opens;
  mill = c.in_ok-checker.ensures.mill;
  within = c.colours-within_limits.ensures.limits;
  kept = c.in_ok-open_file.ensures.cause.kept;
  stopped = c.in_ok-open_file.ensures.stopped;
  named = c.in_ok-open_file.ensures.named;
}

pub pieces-preserved : goal.pieces-preserved
pieces-preserved g c =
    let k : ℕ = c.in_ok-count.count in
    let fits : length (take k c.read.new.buf) ≤ most_piece = grind (arith, common_steps) in
    record {
      fed = fed_more _ _ c.args.name.now c.read.new.buf k c.failed.result _ _ _ c.pieces.invariant.fed c.failed.ensures.exact c.if-failed.false c.in_ok-count.ensures.reads fits c.feed.ensures.stands c.feed.ensures.mill;
      mill = c.feed.ensures.mill ∙ c.pieces.invariant.mill;
      within = c.pieces.invariant.within;
      kept = c.in_ok-count.ensures.cause.kept ∙ c.pieces.invariant.kept;
      stopped = c.in_ok-count.ensures.stopped;
      named = c.in_ok-count.ensures.named ∙ c.pieces.invariant.named;
    }

pub pieces-smaller : goal.pieces-smaller
pieces-smaller g c =
    room_falls c.pieces.checker c.feed.new.self (length (take c.in_ok-count.count c.read.new.buf)) (sym c.failed.ensures.value ∙ c.if-failed.false) (grind (arith, common_steps)) (c.feed.ensures.room _ c.pieces.invariant.fed.stands)

pub returns-then-failed-clause-verdict : goal.returns-then-failed-clause-verdict
returns-then-failed-clause-verdict g c =
    let fed = c.pieces.invariant.fed in
    verdict_bad _ c.args.mill.now c.args.name.now (said_of c.end.result) _ _ c.pieces.invariant.within c.pieces.invariant.mill fed
    (is_bad _ _ c.failed.result c.failed.ensures.exact c.if-failed.true fed.stands) (c.end.ensures.verdict _ fed.stands)

pub returns-then-failed-clause-soon : goal.returns-then-failed-clause-soon
returns-then-failed-clause-soon g c =
    let fed = c.pieces.invariant.fed in
    stops_soon _ c.args.mill.now c.args.name.now _ _ c.pieces.invariant.mill fed (is_bad _ _ c.failed.result c.failed.ensures.exact c.if-failed.true fed.stands)

pub returns-then-count-eq0-clause-verdict : goal.returns-then-count-eq0-clause-verdict
returns-then-count-eq0-clause-verdict g c =
    let fed = c.pieces.invariant.fed in
    let some : 0 < length c.read.new.buf = grind (arith, common_steps) in
    verdict_whole _ c.args.mill.now c.args.name.now c.read.new.buf c.in_ok-count.count (said_of c.end-then-count-eq0.result) _ _ _ c.pieces.invariant.mill c.if-count-eq0.true some fed
    (c.end-then-count-eq0.ensures.verdict _ fed.stands) c.in_ok-count.ensures.reads

pub returns-then-count-eq0-clause-soon : goal.returns-then-count-eq0-clause-soon
returns-then-count-eq0-clause-soon g c =
    let some : 0 < length c.read.new.buf = grind (arith, common_steps) in
    stops_at_end _ c.args.mill.now c.args.name.now c.read.new.buf c.in_ok-count.count _ _ _ c.pieces.invariant.mill c.if-count-eq0.true some c.pieces.invariant.fed c.in_ok-count.ensures.reads

pub returns-in_err-count-clause-reads : goal.returns-in_err-count-clause-reads
returns-in_err-count-clause-reads g c =
    read_failed _ c.args.name.now c.from_residual-in_err-count.result _ (g.D.Desk.told c.pieces.desk) _ _ (g.D.Desk.faults c.pieces.desk) _ c.pieces.invariant.fed c.pieces.invariant.kept c.in_err-count.ensures.cause.later c.in_err-count.ensures.cause.failed c.in_err-count.ensures.reads c.from_residual-in_err-count.ensures

pub returns-in_err-count-clause-stopped : goal.returns-in_err-count-clause-stopped
returns-in_err-count-clause-stopped g c = c.in_err-count.ensures.stopped ∙ sym (fault_is c.from_residual-in_err-count.result c.from_residual-in_err-count.ensures)
