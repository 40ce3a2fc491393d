use Rattle.std.proofs.Common.{ℕ, ◌*◌, ◌%◌, ◌^◌, arith, sym, subst, inl, inr}
use Rattle.std.specs.Int.{IsGcd}
use Rattle.slab_frac.proofs.Twos.{gcd_of_one, parts_fit}
use Rattle.slab_frac.proofs.divisor.word_divisor.Goals as goal

pub returns-then-a-eq1 : goal.returns-then-a-eq1
returns-then-a-eq1 c = gcd_of_one c.args.a c.args.b (elim c.then-a-eq1.either [ inl first ↦ inl first | inr second ↦ inr second.1 ])

pub returns : goal.returns
returns c =
    subst (λ (k : ℕ). IsGcd c.args.a c.args.b (c.odd_divisor.result * 2 ^ k % 2 ^ 64)) (sym c.min.ensures)
    (parts_fit c.args.a c.args.b c.twos-first.result c.twos-second.result _ _ c.odd_divisor.result (2 ^ 64) (omega (arith, c.if-a-eq0.false)) (omega (arith, c.ranges.a)) c.twos-first.ensures.odd c.twos-second.ensures.odd c.odd_divisor.ensures)
