use Rattle.std.proofs.Common.{sym, ◌∙◌, arith, length}
use Rattle.std.specs.Char.{is_ascii_digit}
use Rattle.std.proofs.lemmas.List.Sums.{prefix_len_is}
use Rattle.cert_view.proofs.number.front_digits.Goals as goal

pub returns-then-not-is_ascii_digit-clause-len : goal.returns-then-not-is_ascii_digit-clause-len
returns-then-not-is_ascii_digit-clause-len c =
    sym (prefix_len_is is_ascii_digit c.args.bytes.now c.loop-i.i 0 (omega arith) c.loop-i.invariant.1
    (λ h. sym c.is_ascii_digit.ensures.value ∙ c.if-not-is_ascii_digit.true))

pub returns-clause-len : goal.returns-clause-len
returns-clause-len c =
    sym (prefix_len_is is_ascii_digit c.args.bytes.now (length c.args.bytes.now) 0 (omega arith)
    (λ k h. c.loop-i.invariant.1 k (omega arith)) (λ h. absurd (omega arith)))
