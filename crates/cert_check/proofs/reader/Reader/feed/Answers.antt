use Rattle.std.proofs.Common.{◌≡◌, ◌≤◌, ◌+◌, ◌-◌, ◌++◌, ℕ, List, length, take, drop, inr, sym, ap, subst, ◌∙◌, arith}
use Rattle.std.proofs.Math.Seq.{take-length}
use Rattle.std.proofs.lemmas.List.{length-drop}
use Rattle.cert_check.specs.Readings.{Stands}
use Rattle.cert_check.proofs.Taking.{taken_more, taken_all}
use Rattle.cert_check.proofs.reader.Reader.feed.Goals as goal

pub loop-at-preserved : goal.loop-at-preserved
loop-at-preserved c =
    let piece : List ℕ = c.args.piece.now in
    let at : ℕ = c.loop-at.at in
    let rest : take (length piece - at) (drop at piece) ≡ drop at piece = subst (λ (n : ℕ). take n (drop at piece) ≡ drop at piece) (length-drop at piece) (take-length (drop at piece)) in
    let within : at + c.take-at.result ≤ length piece = omega (arith, c.take-at.ensures.within, ap length rest, length-drop at piece, c.loop-at-test.true) in
    taken_more c.args.self.now.reading c.loop-at.self.reading c.take-at.new.self.reading piece at c.take-at.result c.loop-at.invariant (sym c.failed.ensures.value ∙ c.if-not-failed.true) within
    (λ bytes h. subst (λ (xs : List ℕ). Stands c.take-at.new.self.reading (bytes ++ take c.take-at.result xs)) rest (c.take-at.ensures.stands bytes h))
    c.take-at.ensures.room c.take-at.ensures.mill c.take-at.ensures.wanted

pub returns-else-not-failed-clause-stands : goal.returns-else-not-failed-clause-stands
returns-else-not-failed-clause-stands c = (taken_all c.args.self.now.reading c.loop-at.self.reading c.args.piece.now c.loop-at.at c.loop-at.invariant (inr (sym c.failed.ensures.value ∙ c.if-not-failed.false))).stands
