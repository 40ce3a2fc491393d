use Rattle.std.proofs.Common.{Some, rules, sym, ap, ◌∙◌}
use Rattle.std.proofs.lemmas.Int.{to_z-of_z}
use mir.Val.{SFits}
use mir.Syntax.{w64}
use Rattle.cert_view.proofs.Words.{IsNext-spelled, next-none, next-beyond, next-within}
use Rattle.cert_view.proofs.nums.next_number.Goals as goal

pub unreachable-requires : goal.unreachable-requires
unreachable-requires c =
    next-none c.args.bytes.now (IsNext-spelled c.args.bytes.now c.requires.spelled c.requires.some) c.in_default.ensures.number

pub unreachable-requires-in-Beyond : goal.unreachable-requires-in-Beyond
unreachable-requires-in-Beyond c =
    next-beyond c.args.bytes.now (IsNext-spelled c.args.bytes.now c.requires.spelled c.requires.some) (sym (ap Some c.in-Beyond.is) ∙ c.in-Some.ensures.number)

pub returns-clause-numbers : goal.returns-clause-numbers
returns-clause-numbers c =
    let next = IsNext-spelled c.args.bytes.now c.requires.spelled c.requires.some in
    let value = next-within c.args.bytes.now c.in-Within.value next (sym (ap Some c.in-Within.is) ∙ c.in-Some.ensures.number) in
    let fits : SFits w64 c.in-Within.value = search rules in
    rw to_z-of_z (rw (value, c.in-Some.ensures.after) next.numbers)

pub returns-clause-spelled : goal.returns-clause-spelled
returns-clause-spelled c =
    rw c.in-Some.ensures.after (IsNext-spelled c.args.bytes.now c.requires.spelled c.requires.some).spelled
