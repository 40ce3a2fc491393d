use Rattle.std.proofs.Common.{◌≡◌, ◌≤◌, ◌+◌, ◌-◌, ◌++◌, ℕ, List, length, take, drop, inr, sym, ap, subst, ◌∙◌, arith}
use Rattle.std.proofs.Math.Seq.{take-length}
use Rattle.std.proofs.lemmas.List.{length-drop}
use Rattle.cert_keep.specs.Gathering.{Gathers}
use Rattle.cert_keep.specs.Parts.{gathered}
use Rattle.cert_keep.proofs.Gathering.{gathered_more, gathered_all}
use Rattle.cert_keep.proofs.gatherer.Gatherer.feed.Goals as goal

pub loop-at-preserved : goal.loop-at-preserved
loop-at-preserved c =
    let piece : List ℕ = c.args.piece.now in
    let at : ℕ = c.loop-at.at in
    let rest : take (length piece - at) (drop at piece) ≡ drop at piece = subst (λ (n : ℕ). take n (drop at piece) ≡ drop at piece) (length-drop at piece) (take-length (drop at piece)) in
    let within : at + c.in-Ok.taken ≤ length piece = omega (arith, c.in-Ok.ensures.within, ap length rest, length-drop at piece, c.loop-at-test.true) in
    record {
      stays = λ was. cc (c.loop-at.invariant.stays was, c.failed.ensures.value, c.if-not-failed.true);
      to = gathered_more (gathered c.args.self.now) (gathered c.loop-at.self) (gathered c.take.new.self) piece at c.in-Ok.taken c.loop-at.invariant.to (sym c.failed.ensures.value ∙ c.if-not-failed.true) within
          (λ bytes h. subst (λ (xs : List ℕ). Gathers c.loop-at.self.reader.reading.wanted (gathered c.take.new.self) (bytes ++ take c.in-Ok.taken xs)) rest (c.in-Ok.ensures.stands bytes h))
          c.in-Ok.ensures.room c.take.ensures.mill c.take.ensures.wanted;
    }

pub returns-else-not-failed-clause-stands : goal.returns-else-not-failed-clause-stands
returns-else-not-failed-clause-stands c = (gathered_all (gathered c.args.self.now) (gathered c.loop-at.self) c.args.piece.now c.loop-at.at c.loop-at.invariant.to (inr (sym c.failed.ensures.value ∙ c.if-not-failed.false))).stands
