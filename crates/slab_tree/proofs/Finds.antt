-- Plans that a search finds.
use Rattle.std.proofs.Common.{List}
use Rattle.mill_model.specs.declared.limits.Limits.{Limits}
use Rattle.mill_model.specs.Mill.{Mill}
use Rattle.mill_model.specs.Decisions.{Decision}
use Rattle.mill_model.specs.Plans.{Plan}
use Rattle.slab_node.specs.Turns.{IsInBox}
use Rattle.slab_repack.specs.FoundPlans.{IsFoundPlan}

pub box_found : (m : Mill) (limits : Limits) (path : List Decision) (p : Plan) → IsInBox m limits path p → IsFoundPlan m limits p
box_found m limits path p h = record { legal = h.legal; order = h.order; within = h.within }
