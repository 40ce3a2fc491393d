use Rattle.std.proofs.Common.{◌≡◌, ℕ, List, [], ◌∷◌, length, sym, ap, subst, ◌∙◌, arith}
use Rattle.std.proofs.lemmas.List.{nil_from_length}
use Rattle.mill_model.specs.Decisions.{IsAskAmong}
use Rattle.tree_nodes.specs.declared.node.Node.{Node}
use Rattle.cert_trim.specs.Walks.{AreTrimmedNodes, IsGoing}
use Rattle.cert_trim.proofs.Moves.{is_asked, ends}
use Rattle.cert_trim.proofs.walk.Walk.trim_tree.Goals as goal

pub split-requires : goal.split-requires
split-requires c = record {
  asked = λ none.
      let next = c.in-Some.ensures.steps.0 ∙ ap (λ (n : Node). n ∷ c.next.new.self.rest.items) c.in-Branched.is in
      let going = subst (λ (ns : List Node). IsGoing c.args.mill.now c.args.limits c.requires.tree.tree c.loop-node.self ns) next (c.loop-node.invariant.going c.requires.tree.tree c.requires.tree.refutes c.requires.tree.right c.requires.tree.nodes_are) in
      subst (λ (s : ℕ). IsAskAmong c.loop-node.self.path.orders s c.in-Branched.ask) (sym c.loop-node.invariant.same.slabs)
      (subst (λ (n : ℕ). IsAskAmong n (length c.args.mill.now.yard) c.in-Branched.ask) (sym c.loop-node.invariant.same.orders)
      (is_asked c.args.mill.now c.args.limits c.requires.tree.tree c.loop-node.self c.in-Branched.mark c.in-Branched.ask c.next.new.self.rest.items c.requires.tree.refutes none going));
}

pub returns-clause-trimmed : goal.returns-clause-trimmed
returns-clause-trimmed c whole refutes right e =
    let nothing : c.loop-node.node-iterator.rest.items ≡ [] = nil_from_length c.loop-node.node-iterator.rest.items (omega (arith, c.in-None.ensures.steps.0, c.loop-node.node-iterator.rest.ok.0)) in
    let going : IsGoing c.args.mill.now c.args.limits whole c.loop-node.self [] = subst (IsGoing c.args.mill.now c.args.limits whole c.loop-node.self) nothing (c.loop-node.invariant.going whole refutes right e) in
    subst (AreTrimmedNodes c.args.mill.now c.args.limits whole) (sym c.take_written.ensures.written) (ends c.args.mill.now c.args.limits whole c.loop-node.self going)
