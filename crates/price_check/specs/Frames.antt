-- What stands through the test of a leaf, as the laws of pricing see it.
use Rattle.std.specs.Prelude.{Bool, List, length}
use Rattle.price_check.specs.declared.leaf.Leaf.{Leaf}
use Rattle.price_check.specs.Apartness.{AreMarkedApart}
use Rattle.pricing_laws.specs.Chains as chains
use Rattle.pricing_laws.specs.Frames as frames
use Rattle.price_check.specs.declared.chains.Chains.{Chains}
use Rattle.price_check.specs.declared.frame.Frame.{Frame}

abbrev pub chains_of : Chains → chains.Chains
chains_of c = record { first = c.first.items; next = c.next.items }

abbrev pub frame_of : Frame → frames.Frame
frame_of f = record { groups = f.groups; by_colour = chains_of f.by_colour; by_head = chains_of f.by_head; ends = f.ends.items; worths = f.worths.items; ranking = f.ranking.items; floor = f.floor }

-- a mark for each two orders that no column that agrees has both of
abbrev pub AreMarkedIn : Leaf → List Bool → Type 0
AreMarkedIn t apart = AreMarkedApart t.trail.now.decisions (length t.mill.now.orders) apart
