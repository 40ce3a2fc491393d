use Rattle.std.proofs.Common.{◌≡◌, length}
use Rattle.slab_relax.proofs.recent.places_of.Given as goal

abbrev pub invariant-loop-place : goal.invariant-loop-place
invariant-loop-place l = length l.places.items ≡ l.count
