-- What stands through a call of pricing, as the laws of pricing see it.
use Rattle.pricing_laws.specs.Chains as chains
use Rattle.pricing_laws.specs.Frames as frames
use Rattle.slab_price.specs.declared.chains.Chains.{Chains}
use Rattle.slab_price.specs.declared.frame.Frame.{Frame}

abbrev pub chains_of : Chains → chains.Chains
chains_of c = record { first = c.first.items; next = c.next.items }

abbrev pub frame_of : Frame → frames.Frame
frame_of f = record { groups = f.groups; by_colour = chains_of f.by_colour; by_head = chains_of f.by_head; ends = f.ends.items; worths = f.worths.items; ranking = f.ranking.items; floor = f.floor }
