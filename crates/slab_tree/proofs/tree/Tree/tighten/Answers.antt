use Rattle.std.proofs.Common.{◌≡◌, ◌+◌, ◌≤◌, ◌∷◌, [], List, length, refl, sym, ap, subst, ◌∙◌, arith, inl}
use Rattle.mill_model.specs.Mill.{Mill}
use Rattle.slab_tree.specs.declared.node.Node.{Node}
use Rattle.slab_tree.specs.Rewriting.{IsRewriting, IsRewritten, IsWalk, IsTallied}
use Rattle.slab_tree.specs.Searches.{Search, IsFinished, HasLimitsBelow, bare_count}
use Rattle.slab_tree.specs.Counts.{Counts}
use Rattle.slab_tree.specs.Tightening.{IsSameTree, HasRoom, MayCountBare, AreBareCounted, covered_count}
use Rattle.slab_tree.specs.declared.tree.Phase.TheVariants.{Running}
use Rattle.slab_tree.proofs.BareMarks.{tallied_trans, kept_trans}
use Rattle.slab_tree.proofs.Rewriting.{begins_anew, walks_on, ends_anew, same_trans, same_limits, tightened}
use Rattle.slab_relax.proofs.Counting.{no_less_same, no_less_trans, causes_same, causes_trans}
use Rattle.slab_tree.proofs.tree.Tree.tighten.Goals as goal

-- the tree to be written anew, and the nodes that the old one had
begun : (m : Mill) (old new : Search) (rest : List Node) (n : Counts) → IsFinished m old → MayCountBare n old → new ≡ record old { nodes = []; path = []; opened = 0; phase = Running } → rest ≡ old.nodes
    → IsSameTree old new × HasLimitsBelow new × (length new.nodes + length rest ≤ length old.nodes) × HasRoom n rest × IsTallied n n [] new.nodes old.nodes rest × (bare_count new.nodes ≡ 0)
begun m old new rest n done room e f = (
  same,
  same_limits old new same done.limits,
  omega (arith, ap length f, ap (λ (t : Search). length t.nodes) e),
  subst (λ (ns : List Node). HasRoom n ns) (sym f) room,
  record { no_more = omega (arith, none); once = omega (arith, ap covered_count f); counted = inl (omega (arith, none, ap bare_count f)) },
  none,
)
  where
    same : IsSameTree old new
    same = record { count = ap (λ (t : Search). t.count) e; opening = ap (λ (t : Search). t.opening) e; loss = ap (λ (t : Search). t.loss) e; best = ap (λ (t : Search). t.best) e }

    none : bare_count new.nodes ≡ 0
    none = ap (λ (t : Search). bare_count t.nodes) e

pub loop-node-init : goal.loop-node-init
loop-node-init c =
    let h = begun c.args.mill.now c.args.self c.begin_again-tree.result.0 c.begin_again-tree.result.1 c.args.nodes.now c.requires.tree c.requires.room c.begin_again-tree.ensures.tree c.begin_again-tree.ensures.rest in
    record {
      same = h.0;
      limits = h.1;
      walk = begins_anew c.args.mill.now c.args.self c.begin_again-tree.result.0 c.begin_again-tree.result.1 c.requires.tree c.begin_again-tree.ensures.tree c.begin_again-tree.ensures.rest;
      place = λ _. record {
        sizes = c.requires.sizes;
        pool = c.requires.pool;
        orders = ap (λ d. d.orders) c.in_ok-decisions.ensures ∙ ap (λ os. length os) c.orders.ensures.value;
        yard = ap (λ d. d.yard) c.in_ok-decisions.ensures ∙ ap (λ ys. length ys) c.yard.ensures.value;
        list = ap (λ d. d.list) c.in_ok-decisions.ensures ∙ sym (ap (λ (t : Search). t.path) c.begin_again-tree.ensures.tree);
      };
      mill = c.requires.pool;
      fewer = h.2;
      kept = record { limit = refl; opened = refl; rises = omega arith };
      room = h.3;
      tallied = h.4;
      causes = causes_same 0 (bare_count c.begin_again-tree.result.0.nodes) c.args.tally.now c.args.tally.now h.5 (no_less_same c.args.tally.now);
      bare = causes_same c.args.nodes.now.bare c.args.nodes.now.bare c.args.tally.now c.args.tally.now refl (no_less_same c.args.tally.now);
      counters = no_less_same c.args.tally.now;
    }

pub rewrite-requires-clause-walk : goal.rewrite-requires-clause-walk
rewrite-requires-clause-walk c = walks_on c.args.mill.now c.loop-node.tree c.loop-node.rest c.next.new.self c.in-Some.node c.in-Some.ensures.some c.loop-node.invariant.walk

pub loop-node-preserved : goal.loop-node-preserved
loop-node-preserved c =
    let before : c.loop-node.rest ≡ c.in-Some.node ∷ c.next.new.self = c.in-Some.ensures.some in
    let room : HasRoom c.loop-node.nodes (c.in-Some.node ∷ c.next.new.self) = subst (λ (ns : List Node). HasRoom c.loop-node.nodes ns) before c.loop-node.invariant.room in
    let tallied : IsTallied c.args.nodes.now c.loop-node.nodes [] c.loop-node.tree.nodes c.args.self.nodes (c.in-Some.node ∷ c.next.new.self) = subst (λ (ns : List Node). IsTallied c.args.nodes.now c.loop-node.nodes [] c.loop-node.tree.nodes c.args.self.nodes ns) before c.loop-node.invariant.tallied in
    record {
      same = same_trans c.args.self c.loop-node.tree c.rewrite.new.self c.loop-node.invariant.same c.in_ok-rewrite.ensures.moves.same;
      limits = same_limits c.loop-node.tree c.rewrite.new.self c.in_ok-rewrite.ensures.moves.same c.loop-node.invariant.limits;
      walk = c.in_ok-rewrite.ensures.moves.walk;
      place = c.in_ok-rewrite.ensures.place;
      mill = c.in_ok-rewrite.ensures.mill;
      fewer = omega (arith, c.in_ok-rewrite.ensures.moves.fewer, c.loop-node.invariant.fewer, ap length before);
      kept = kept_trans c.args.nodes.now c.loop-node.nodes c.rewrite.new.nodes c.loop-node.invariant.kept c.in_ok-rewrite.ensures.kept;
      room = c.in_ok-rewrite.ensures.room room;
      tallied = tallied_trans c.args.nodes.now c.loop-node.nodes c.rewrite.new.nodes [] c.loop-node.tree.nodes c.rewrite.new.self.nodes c.args.self.nodes (c.in-Some.node ∷ c.next.new.self) c.rewrite.new.rest c.in_ok-rewrite.ensures.kept.rises tallied (c.in_ok-rewrite.ensures.tallied room);
      causes = causes_trans 0 (bare_count c.loop-node.tree.nodes) (bare_count c.rewrite.new.self.nodes) c.args.tally.now c.loop-node.tally c.rewrite.new.tally c.in_ok-rewrite.ensures.counters c.loop-node.invariant.causes c.in_ok-rewrite.ensures.causes;
      bare = causes_trans c.args.nodes.now.bare c.loop-node.nodes.bare c.rewrite.new.nodes.bare c.args.tally.now c.loop-node.tally c.rewrite.new.tally c.in_ok-rewrite.ensures.counters c.loop-node.invariant.bare c.in_ok-rewrite.ensures.bare;
      counters = no_less_trans c.args.tally.now c.loop-node.tally c.rewrite.new.tally c.loop-node.invariant.counters c.in_ok-rewrite.ensures.counters;
    }

pub returns-clause-tree : goal.returns-clause-tree
returns-clause-tree c =
    let none : c.loop-node.rest ≡ [] = c.in_default.ensures.none.0 in
    tightened c.args.mill.now c.args.self c.loop-node.tree c.recount.new.self c.loop-node.rest c.loop-node.invariant.same c.loop-node.invariant.limits (omega (arith, c.loop-node.invariant.fewer)) (ends_anew c.args.mill.now c.loop-node.tree c.loop-node.rest none c.loop-node.invariant.walk) c.recount.ensures
