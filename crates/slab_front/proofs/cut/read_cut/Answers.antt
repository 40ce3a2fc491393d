use Rattle.std.proofs.Common.{◌∙◌, ◌<◌, length, take, sym, subst, arith}
use Rattle.std.proofs.lemmas.Grind.{common_steps}
use Rattle.mill_model.specs.Mill.{Mill}
use Rattle.cert_rules.specs.States.Wanted.{Cuts}
use Rattle.cert_check.specs.Readings.{HasBadLine}
use Rattle.cert_keep.specs.Reads.{IsCutRead}
use Rattle.slab_front.specs.Endings.{IsReadCut}
use Rattle.slab_front.proofs.Pieces.{fed_nothing, fed_more, is_bad, room_falls, there_bad, there_whole}
use Rattle.slab_front.proofs.Cuts.{was_read, good_head, bad_stays}
use Rattle.slab_front.proofs.Failing.{read_failed, memory_ran_out, fault_is}
use Rattle.slab_front.proofs.cut.read_cut.Goals as goal

pub pieces-init : goal.pieces-init
pieces-init g c = record {
  fed = fed_nothing _ c.args.name.now _ _ c.in_ok-reader.ensures.stands c.in_ok-open_file.ensures.opens;
  mill = c.in_ok-reader.ensures.mill;
  within = c.colours-within_limits.ensures.limits;
  kept = c.in_ok-open_file.ensures.cause.kept;
  named = c.in_ok-open_file.ensures.named;
  stopped = c.in_ok-open_file.ensures.stopped;
}

pub pieces-preserved : goal.pieces-preserved
pieces-preserved g c = record {
  fed = fed_more _ _ c.args.name.now c.read.new.buf c.in_ok-count.count _ _ _ c.pieces.invariant.fed c.in_ok-count.ensures.reads c.in_ok-reader-2.ensures.stands;
  mill = c.in_ok-reader-2.ensures.mill ∙ c.pieces.invariant.mill;
  within = c.pieces.invariant.within;
  kept = c.in_ok-count.ensures.cause.kept ∙ c.pieces.invariant.kept;
  named = c.in_ok-count.ensures.named ∙ c.pieces.invariant.named;
  stopped = c.in_ok-count.ensures.stopped;
}

pub pieces-smaller : goal.pieces-smaller
pieces-smaller g c =
    room_falls c.pieces.reader c.in_ok-reader-2.reader (length (take c.in_ok-count.count c.read.new.buf)) (sym c.failed.ensures.value ∙ c.if-failed.false) (grind (arith, common_steps)) (c.in_ok-reader-2.ensures.room _ c.pieces.invariant.fed.stands)

pub returns-then-failed-clause-read : goal.returns-then-failed-clause-read
returns-then-failed-clause-read g c =
    let m : Mill = c.args.mill.now in
    let fed = c.pieces.invariant.fed in
    let bad : HasBadLine Cuts m fed.bytes = subst (λ (x : Mill). HasBadLine Cuts x fed.bytes) c.pieces.invariant.mill (is_bad _ _ c.failed.result c.failed.ensures.exact c.if-failed.true fed.stands) in
    let read : IsReadCut m c.end.result fed.bytes = was_read m fed.bytes c.end.result (subst (λ (x : Mill). IsCutRead x fed.bytes c.end.result) c.pieces.invariant.mill (c.end.ensures.read fed.bytes fed.stands)) in
    there_bad (IsReadCut m c.end.result) c.args.name.now fed.bytes _ _ (λ more. bad_stays m fed.bytes more c.end.result c.pieces.invariant.within bad read) fed.reads

pub returns-then-failed-clause-good : goal.returns-then-failed-clause-good
returns-then-failed-clause-good g c =
    let m : Mill = c.args.mill.now in
    let fed = c.pieces.invariant.fed in
    good_head m fed.bytes c.end.result (was_read m fed.bytes c.end.result (subst (λ (x : Mill). IsCutRead x fed.bytes c.end.result) c.pieces.invariant.mill (c.end.ensures.read fed.bytes fed.stands)))

pub returns-then-count-eq0-clause-read : goal.returns-then-count-eq0-clause-read
returns-then-count-eq0-clause-read g c =
    let m : Mill = c.args.mill.now in
    let fed = c.pieces.invariant.fed in
    let some : 0 < length c.read.new.buf = grind (arith, common_steps) in
    let read : IsReadCut m c.end-then-count-eq0.result fed.bytes = was_read m fed.bytes c.end-then-count-eq0.result (subst (λ (x : Mill). IsCutRead x fed.bytes c.end-then-count-eq0.result) c.pieces.invariant.mill (c.end-then-count-eq0.ensures.read fed.bytes fed.stands)) in
    there_whole (IsReadCut m c.end-then-count-eq0.result) c.args.name.now fed.bytes c.read.new.buf c.in_ok-count.count _ _ _ c.if-count-eq0.true some read fed.reads c.in_ok-count.ensures.reads

pub returns-then-count-eq0-clause-good : goal.returns-then-count-eq0-clause-good
returns-then-count-eq0-clause-good g c =
    let m : Mill = c.args.mill.now in
    let fed = c.pieces.invariant.fed in
    good_head m fed.bytes c.end-then-count-eq0.result (was_read m fed.bytes c.end-then-count-eq0.result (subst (λ (x : Mill). IsCutRead x fed.bytes c.end-then-count-eq0.result) c.pieces.invariant.mill (c.end-then-count-eq0.ensures.read fed.bytes fed.stands)))

pub returns-in_err-count-clause-reads : goal.returns-in_err-count-clause-reads
returns-in_err-count-clause-reads g c =
    read_failed _ c.args.name.now c.from_residual-in_err-count.result _ (g.D.Desk.told c.pieces.desk) _ _ (g.D.Desk.faults c.pieces.desk) _ c.pieces.invariant.fed c.pieces.invariant.kept c.in_err-count.ensures.cause.later c.in_err-count.ensures.cause.failed c.in_err-count.ensures.reads c.from_residual-in_err-count.ensures

pub returns-in_err-count-clause-stopped : goal.returns-in_err-count-clause-stopped
returns-in_err-count-clause-stopped g c = c.in_err-count.ensures.stopped ∙ sym (fault_is c.from_residual-in_err-count.result c.from_residual-in_err-count.ensures)

pub returns-in_err-reader-2-clause-reads : goal.returns-in_err-reader-2-clause-reads
returns-in_err-reader-2-clause-reads g c =
    memory_ran_out _ c.args.name.now c.read.new.buf c.in_ok-count.count c.from_residual-in_err-reader-2.result _ (g.D.Desk.told c.pieces.desk) _ _ (g.D.Desk.faults c.pieces.desk) _ c.pieces.invariant.fed c.pieces.invariant.kept c.in_ok-count.ensures.cause.kept c.in_ok-count.ensures.reads c.from_residual-in_err-reader-2.ensures
