use Rattle.slab_frac.proofs.Twos.{step, least_is_odd, gcd_of_same}
use Rattle.slab_frac.proofs.divisor.odd_divisor.Goals as goal

pub loop-x-preserved : goal.loop-x-preserved
loop-x-preserved c =
    let known = c.loop-x.invariant in
    record {
      first = least_is_odd c.loop-x.x c.loop-x.y c.min-x.result known.first known.second c.min-x.ensures;
      second = c.twos.ensures.odd.odd;
      same = λ g h. known.same g
          (step c.loop-x.x c.loop-x.y c.min-x.result c.abs_diff-rest.result c.twos.result _ g known.first known.second c.min-x.ensures c.abs_diff-rest.ensures c.twos.ensures.odd h);
    }

pub returns : goal.returns
returns c = c.loop-x.invariant.same _ (gcd_of_same _ _ c.loop-x-test.false)
