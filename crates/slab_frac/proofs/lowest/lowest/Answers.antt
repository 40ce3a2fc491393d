use Rattle.slab_frac.proofs.Reducing.{gcd_pos, lowest_by}
use Rattle.slab_frac.proofs.lowest.lowest.Goals as goal

pub nonzero_div-result : goal.nonzero_div-result
nonzero_div-result c = gcd_pos _ _ _ c.requires c.wide_divisor-shared.ensures

pub nonzero_div-result-2 : goal.nonzero_div-result-2
nonzero_div-result-2 c = gcd_pos _ _ _ c.requires c.wide_divisor-shared.ensures

pub returns : goal.returns
returns c = lowest_by _ _ _ c.wide_divisor-shared.ensures
