use Rattle.std.proofs.Common.{arith}
use Rattle.std.specs.Int.{w64}
use Rattle.std.proofs.lemmas.Nat.Bits.{bit_at-trailing_zeros}
use Rattle.slab_frac.proofs.Twos.{odd_part}
use Rattle.slab_frac.proofs.divisor.twos.Goals as goal

pub returns-clause-odd : goal.returns-clause-odd
returns-clause-odd c =
    let place = bit_at-trailing_zeros w64 c.args.n c.requires (omega (arith, c.ranges.n)) in odd_part c.args.n _ place.2 place.1
