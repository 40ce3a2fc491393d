use Rattle.std.proofs.Common.{◌≡◌, List, map, sym, subst, ◌∙◌, ap}
use Rattle.mill_model.specs.declared.steps.Step.{Step}
use Rattle.mill_model.specs.Marks.{MarkedSteps}
use Rattle.slab_tree.specs.Steps.{step_of_node, IsLeanRefutation, IsTightRefutation}
use Rattle.slab_tree.specs.Unfinished.{marks_in}
use Rattle.slab_tree.proofs.StepLists.{one_mark_each, lean_refutation, tight_refutation}
use Rattle.slab_tree.proofs.tree.Tree.steps.Goals as goal

pub new-requires : goal.new-requires
new-requires c = rw (c.in_ok-steps.ensures.steps, c.in_ok-steps.ensures.marks) (one_mark_each c.args.self.nodes)

pub returns-clause-lean : goal.returns-clause-lean
returns-clause-lean c = λ m opening limits whole.
    subst (λ (l : List Step). IsLeanRefutation m limits l) (sym (ap (λ (s : MarkedSteps). s.steps) c.new.ensures ∙ c.in_ok-steps.ensures.steps)) (lean_refutation m opening limits c.args.self.nodes whole)

pub returns-clause-tight : goal.returns-clause-tight
returns-clause-tight c = λ m limits whole.
    let same : c.new.result ≡ record { steps = map step_of_node c.args.self.nodes; marks = marks_in c.args.self.nodes } = c.new.ensures ∙ (λ i. record { steps = c.in_ok-steps.ensures.steps i; marks = c.in_ok-steps.ensures.marks i }) in
    subst (λ (s : MarkedSteps). IsTightRefutation m limits s) (sym same) (tight_refutation m limits c.args.self.nodes whole)
