use Rattle.std.proofs.Common.{◌==◌, length, sym, arith}
use Rattle.std.proofs.lemmas.Bool.Decides.{nat_tests}
use Rattle.std.proofs.lemmas.List.Sums.{position_or_len_is}
use Rattle.cert_view.proofs.line.position_or_len.Goals as goal

pub returns-clause-value : goal.returns-clause-value
returns-clause-value c =
    sym (position_or_len_is (λ b. b == c.args.byte) c.args.bytes.now (length c.args.bytes.now) 0 (omega arith)
    (λ k h. grind (arith, nat_tests, c.loop-i.invariant k)) (λ h. absurd (omega arith)))
