use Rattle.slab_price.proofs.hunt.Hunt.+walk.Given as goal

abbrev pub decreases-walk : goal.decreases-walk
decreases-walk l = l.left
