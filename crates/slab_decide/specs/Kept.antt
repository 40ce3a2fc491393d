-- What the relations of nodes have to do with the decisions that they were made by.
use Rattle.std.specs.Prelude.{◌≡◌, ℕ, ◌+◌, ◌-◌, if◌then◌else◌, nat_lt}
use Rattle.std.specs.List.{AllByRecursion}
use Rattle.mill_model.specs.Decisions.{Decision}
use Rattle.mill_model.specs.Assignments.{Group, Assignment, Agrees}
use Rattle.mill_model.specs.Assignments.Group.{On}
use Rattle.slab_closure.specs.Relations.{Table, Relations, IsRelations, relation_at}
use Rattle.slab_closure.specs.Labels.{AllHold}
use Rattle.slab_decide.specs.Decided.{Decisions, AreDecisions}
use Rattle.slab_decide.specs.Nodes.{first_node, second_node, relation_of}

-- the group of a node: a surplus slab's own, or that of an order
abbrev pub group_at : ℕ → Assignment → ℕ → Group
group_at yard a x = if nat_lt x yard then On x else a (x - yard)

-- the table has the answer of a decision
abbrev pub IsRecorded : ℕ → Table → Decision → Type 0
IsRecorded yard at d = at (first_node yard d.0) (second_node yard d.0) ≡ relation_of d.1

-- the relations have each decision, and say nothing that an agreeing assignment doesn't
pub record IsKept (v : Decisions) (r : Relations) : Type 0 where
  pub decisions : AreDecisions v
  pub relations : IsRelations r
  pub slabs : r.slabs ≡ v.yard
  pub count : r.count ≡ v.yard + v.orders
  pub recorded : AllByRecursion (IsRecorded v.yard (relation_at r)) v.list
  pub sound : (a : Assignment) → Agrees v.list a → AllHold r.count (relation_at r) (group_at v.yard a)
