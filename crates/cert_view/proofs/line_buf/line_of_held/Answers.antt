use Rattle.std.proofs.Common.{◌≡◌, true, false, inl, inr, refl, ap, sym, arith}
use Rattle.std.proofs.lemmas.Bool.Decides.{nat_tests}
use Rattle.cert_view.specs.Line.{is_feed}
use Rattle.cert_view.proofs.Buffers.{ends_in_feed, ends_otherwise, read-ended, read-unended}
use Rattle.cert_view.proofs.line_buf.line_of_held.Goals as goal

pub returns-then-last-eq10-clause-part : goal.returns-then-last-eq10-clause-part
returns-then-last-eq10-clause-part c =
    let feed : is_feed c.in-Some.last.now ≡ true = ap is_feed c.if-last-eq10.true in
    let ends = ends_in_feed c.args.held.now c.in-Some.text.now c.in-Some.last.now c.in-Some.ensures.cases feed c.requires.one_line in
    (λ e. cc, λ part. absurd (omega (arith, ends.place, part.no_feed)))

pub returns-then-last-eq10-clause-line : goal.returns-then-last-eq10-clause-line
returns-then-last-eq10-clause-line c =
    let feed : is_feed c.in-Some.last.now ≡ true = ap is_feed c.if-last-eq10.true in
    let ends = ends_in_feed c.args.held.now c.in-Some.text.now c.in-Some.last.now c.in-Some.ensures.cases feed c.requires.one_line in
    rw c.read_line.ensures.line (sym (read-ended c.args.held.now c.in-Some.text.now ends c.requires.within))

pub returns-then-last-eq10-clause-whole : goal.returns-then-last-eq10-clause-whole
returns-then-last-eq10-clause-whole c =
    let feed : is_feed c.in-Some.last.now ≡ true = ap is_feed c.if-last-eq10.true in
    inl (ends_in_feed c.args.held.now c.in-Some.text.now c.in-Some.last.now c.in-Some.ensures.cases feed c.requires.one_line).place

pub returns-then-held-eq-LONGEST-clause-line : goal.returns-then-held-eq-LONGEST-clause-line
returns-then-held-eq-LONGEST-clause-line c =
    let other : is_feed c.in-Some.last.now ≡ false = grind (arith, nat_tests, c.if-last-eq10.false) in
    let none = ends_otherwise c.args.held.now c.in-Some.text.now c.in-Some.last.now c.in-Some.ensures.cases other c.requires.one_line in
    sym (read-unended c.args.held.now (omega arith) (omega (arith, none)))

pub returns-then-held-eq-LONGEST-clause-whole : goal.returns-then-held-eq-LONGEST-clause-whole
returns-then-held-eq-LONGEST-clause-whole c =
    let other : is_feed c.in-Some.last.now ≡ false = grind (arith, nat_tests, c.if-last-eq10.false) in
    inr (ends_otherwise c.args.held.now c.in-Some.text.now c.in-Some.last.now c.in-Some.ensures.cases other c.requires.one_line, omega arith)

pub returns-else-held-eq-LONGEST-clause-part : goal.returns-else-held-eq-LONGEST-clause-part
returns-else-held-eq-LONGEST-clause-part c =
    let other : is_feed c.in-Some.last.now ≡ false = grind (arith, nat_tests, c.if-last-eq10.false) in (
      λ e. record {
        no_feed = ends_otherwise c.args.held.now c.in-Some.text.now c.in-Some.last.now c.in-Some.ensures.cases other c.requires.one_line;
        few = omega arith;
      },
      λ part. refl,
    )
