use Rattle.std.proofs.Common.{◌≡◌, ℕ, List, [], ◌∷◌, ◌++◌, Option, Some, None, refl, sym, ap, subst}
use Rattle.std.specs.Prelude.{IsSome}
use Rattle.mill_model.specs.Decisions.{Decision}
use Rattle.mill_model.specs.Paths.{next_branch}
use Rattle.mill_model.specs.Prices.{Prices}
use Rattle.slab_tree.specs.declared.node.Node.TheVariants.{Closed}
use Rattle.slab_tree.specs.Searches.{Search}
use Rattle.slab_tree.specs.Standing.{IsOpenPath}
use Rattle.slab_tree.specs.Stepping.{after_leaf}
use Rattle.slab_tree.proofs.Standing.{open_branch}
use Rattle.slab_tree.proofs.tree.Tree.turn_back.Goals as goal

opens : (orders slabs : ℕ) (p : Prices) (old new : Search) (next : Option (List Decision)) → IsOpenPath orders slabs old.path → next_branch old.path ≡ next → IsSome next → after_leaf next (record old { nodes = old.nodes ++ Closed p ∷ [] }) new → IsOpenPath orders slabs new.path
opens orders slabs p old new None h e some w = absurd (never None refl some)
  where
    never : (o : Option (List Decision)) → o ≡ None → IsSome o → ⊥
    never None e x = cc
    never (Some b) e x = cc
opens orders slabs p old new (Some branch) h e some w = subst (λ (path : List Decision). IsOpenPath orders slabs path) (sym (ap (λ (t : Search). t.path) w)) (open_branch orders slabs old.path branch e h)

pub tell-requires : goal.tell-requires
tell-requires c = opens c.args.decisions.now.orders c.args.decisions.now.yard c.args.prices c.args.self.now c.close.new.self (next_branch c.args.self.now.path) c.requires refl (c.in_ok-on.ensures.on.0 c.if-on.true) c.in_ok-on.ensures.ok
