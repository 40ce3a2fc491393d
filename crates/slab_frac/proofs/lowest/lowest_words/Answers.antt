use Rattle.slab_frac.proofs.Reducing.{gcd_pos, lowest_by}
use Rattle.slab_frac.proofs.lowest.lowest_words.Goals as goal

pub word_quotient-requires : goal.word_quotient-requires
word_quotient-requires c = gcd_pos _ _ _ c.requires c.word_divisor-shared.ensures

pub word_quotient-requires-2 : goal.word_quotient-requires-2
word_quotient-requires-2 c = gcd_pos _ _ _ c.requires c.word_divisor-shared.ensures

pub returns : goal.returns
returns c =
    rw (c.word_quotient.ensures, c.word_quotient-2.ensures)
    (lowest_by c.args.size c.args.den c.word_divisor-shared.result c.word_divisor-shared.ensures)
