use Rattle.std.proofs.Common.{◌≡◌, rules}
use Rattle.std.proofs.lemmas.Fmt.{parse-decimal}
use Rattle.slab_front.proofs.words.spelled.Goals as goal

pub returns-in_default-clause-none : goal.returns-in_default-clause-none
returns-in_default-clause-none c = λ n fits is.
    let read = parse-decimal 64 n _ _ fits fits is c.parse.ensures.value.0 in
    let same : c.in-Ok.number ≡ n = cc read in
    let text : c.format.result.now ≡ c.args.word.now = cc (same, is, c.format.ensures.text) in
    absurd (search (rules, text, c.if-eq.false, c.eq.ensures))

pub returns-in_default-2-clause-none : goal.returns-in_default-2-clause-none
returns-in_default-2-clause-none c = λ n fits is. absurd (cc (parse-decimal 64 n _ _ fits fits is c.parse.ensures.value.0))
