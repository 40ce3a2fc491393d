use Rattle.slab_front.proofs.Cuts.{never_both}
use Rattle.slab_front.proofs.laws.good_cuts_have_no_bad_line.Goals as goal

pub returns : goal.returns
returns c = never_both
