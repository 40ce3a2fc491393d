use Rattle.slab_frac.proofs.Gcd.{IsLcm-parts}
use Rattle.slab_frac.proofs.Reducing.{gcd_pos}
use Rattle.slab_frac.proofs.scale.least_multiple.Goals as goal

pub word_quotient-rest-requires : goal.word_quotient-rest-requires
word_quotient-rest-requires c = gcd_pos _ _ _ c.requires c.word_divisor.ensures

pub returns : goal.returns
returns c =
    rw c.word_quotient-rest.ensures
    (IsLcm-parts c.args.a c.args.b c.word_divisor.result (gcd_pos _ _ _ c.requires c.word_divisor.ensures) c.word_divisor.ensures)
