use Rattle.std.proofs.Common.{inl, inr, sym}
use Rattle.run_words.proofs.Numbers.{named_within, named_beyond}
use Rattle.front_check.proofs.words.number_in.Goals as goal

pub returns-in-Some-clause-named : goal.returns-in-Some-clause-named
returns-in-Some-clause-named c =
    sym (named_within c.args.least c.args.most c.in-Some.number c.args.word.now c.in-Some.ensures.fits c.in-Some.ensures.some c.if-least-number.true c.if-number-most.true)

pub returns-in_default-clause-named : goal.returns-in_default-clause-named
returns-in_default-clause-named c =
    sym (named_beyond c.args.least c.args.most c.in-Some.number c.args.word.now c.in-Some.ensures.fits c.in-Some.ensures.some (inr c.if-number-most.false))

pub returns-in_default-2-clause-named : goal.returns-in_default-2-clause-named
returns-in_default-2-clause-named c =
    sym (named_beyond c.args.least c.args.most c.in-Some.number c.args.word.now c.in-Some.ensures.fits c.in-Some.ensures.some (inl c.if-least-number.false))
