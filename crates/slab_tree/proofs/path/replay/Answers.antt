use Rattle.std.proofs.Common.{◌≡◌, ℕ, ◌+◌, ◌∷◌, ◌++◌, [], List, take, drop, reverse, get_or, false, sym, ap, subst, ◌∙◌, length, ◌<◌}
use Rattle.std.proofs.lemmas.List.{reverse-append, take-append-drop, take_more}
use Rattle.mill_model.specs.declared.ask.Ask.TheVariants.{Pair}
use Rattle.mill_model.specs.Decisions.{Decision, IsAskAmong}
use Rattle.slab_decide.specs.Decided.{Decisions}
use Rattle.slab_tree.specs.Standing.{IsOpenPath}
use Rattle.slab_node.specs.Turns.{IsUndecided}
use Rattle.slab_tree.proofs.Standing.{open_path_rest}
use Rattle.slab_tree.proofs.path.replay.Goals as goal

-- the decisions up to one, of which the latest is that one, are open
upto : (orders slabs : ℕ) (path : List Decision) (i : ℕ) (d : Decision) → i < length path → IsOpenPath orders slabs (reverse path) → IsOpenPath orders slabs (get_or path i d ∷ reverse (take i path))
upto orders slabs path i d lt h =
    let whole : reverse path ≡ reverse (drop (i + 1) path) ++ (get_or path i d ∷ reverse (take i path)) =
    ap (λ (ds : List Decision). reverse ds) (sym (take-append-drop (i + 1) path)) ∙ reverse-append (take (i + 1) path) (drop (i + 1) path)
    ∙ ap (λ (ds : List Decision). reverse (drop (i + 1) path) ++ ds) (ap (λ (ds : List Decision). reverse ds) (take_more path i d lt) ∙ reverse-append (take i path) (get_or path i d ∷ [])) in
    open_path_rest orders slabs (reverse (drop (i + 1) path)) (get_or path i d ∷ reverse (take i path)) (subst (λ (ds : List Decision). IsOpenPath orders slabs ds) whole h)

pub decide-requires-clause-asked : goal.decide-requires-clause-asked
decide-requires-clause-asked c =
    let at = upto c.args.decisions.now.orders c.args.decisions.now.yard c.args.path.now c.loop-ask.ask-index (Pair 0 0, false) c.loop-ask-test.true c.requires in
    subst (λ (d : Decisions). IsAskAmong d.orders d.yard (get_or c.args.path.now c.loop-ask.ask-index (Pair 0 0, false)).0) (sym c.loop-ask.invariant) at.0

pub decide-requires-clause-undecided : goal.decide-requires-clause-undecided
decide-requires-clause-undecided c =
    let at = upto c.args.decisions.now.orders c.args.decisions.now.yard c.args.path.now c.loop-ask.ask-index (Pair 0 0, false) c.loop-ask-test.true c.requires in
    subst (λ (d : Decisions). IsUndecided d.list (get_or c.args.path.now c.loop-ask.ask-index (Pair 0 0, false)).0) (sym c.loop-ask.invariant) at.1
