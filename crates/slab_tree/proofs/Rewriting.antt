-- How the walk through an old tree goes on.
use Rattle.std.proofs.Common.{◌≡◌, ℕ, suc, ◌+◌, ◌≤◌, Bool, true, false, List, [], ◌∷◌, ◌++◌, length, Option, Some, None, refl, sym, ap, subst, ◌∙◌, append_assoc, arith, inl, inr, length-append, append-nil, ℤ}
use Rattle.std.specs.Prelude.{IsSome}
use Rattle.mill_model.specs.declared.ask.Ask.{Ask}
use Rattle.mill_model.specs.declared.limits.Limits.{Limits}
use Rattle.mill_model.specs.declared.mark.Mark.{Mark}
use Rattle.mill_model.specs.Mill.{Mill}
use Rattle.mill_model.specs.Plans.{Plan}
use Rattle.mill_model.specs.Prices.{Prices, Refutes}
use Rattle.mill_model.specs.Decisions.{Decision}
use Rattle.mill_model.specs.Paths.{next_branch}
use Rattle.mill_model.specs.Trees.{Tree}
use Rattle.mill_model.specs.Trees.Tree.{End, Split}
use Rattle.mill_model.proofs.Preorder.{heads, tails}
use Rattle.mill_model.proofs.TreeLaws.{tree_refutes}
use Rattle.mill_model.specs.Limits.{AreSmaller, number_of}
use Rattle.slab_master.specs.Given.{IsSmall}
use Rattle.slab_node.specs.Turns.{IsInBox, IsOpenAsk}
use Rattle.slab_tree.specs.declared.node.Node.{Node}
use Rattle.slab_tree.specs.declared.node.Node.TheVariants.{Closed, Branched}
use Rattle.slab_tree.specs.declared.tree.Phase.TheVariants.{Running, Done}
use Rattle.slab_tree.specs.Marking.{MarkRule, HoldsCover, ShowsCoverUnlessBare}
use Rattle.slab_tree.specs.Remainders.{after_trees}
use Rattle.slab_tree.specs.Rewriting.{AreToCome, IsAtTree, IsRewriting, IsRewritten, IsWalk, MovesOn}
use Rattle.slab_tree.specs.Searches.{Search, limits_of, opening_of, IsFinished, HasLimitsBelow}
use Rattle.slab_tree.specs.Tightening.{IsSameTree, IsTightened}
use Rattle.slab_tree.specs.Standing.{IsDone, IsWhole, GoesOn, Stands, nodes_of}
use Rattle.slab_tree.specs.Stepping.{after_leaf, IsClosed, IsBranched}
use Rattle.slab_tree.proofs.Remainders.{after_two}
use Rattle.slab_tree.proofs.Standing.{closes_leaf, splits_at, path_open, path_asks}

-- ---- what comes next

none_to_come : (m : Mill) (Rule : MarkRule) (limits : Limits) (path : List Decision) (nodes : List Node) → next_branch path ≡ None → AreToCome m Rule limits path nodes → nodes ≡ []
none_to_come m Rule limits [] nodes e h = h
none_to_come m Rule limits ((ask, true) ∷ path) nodes e h = cc
none_to_come m Rule limits ((ask, false) ∷ path) nodes e h = none_to_come m Rule limits path nodes e h

comes_next : (m : Mill) (Rule : MarkRule) (limits : Limits) (path branch : List Decision) (nodes : List Node) → next_branch path ≡ Some branch → AreToCome m Rule limits path nodes → IsAtTree m Rule limits branch nodes
comes_next m Rule limits [] branch nodes e h = cc
comes_next m Rule limits ((ask, true) ∷ path) branch nodes e h =
    subst (λ (b : List Decision). IsAtTree m Rule limits b nodes) (same e) (record { tree = h.if_no; more = h.more; done = h.done; nodes_are = h.nodes_are; to_come = h.later })
  where
    same : Some ((ask, false) ∷ path) ≡ Some branch → (ask, false) ∷ path ≡ branch
    same w = cc
comes_next m Rule limits ((ask, false) ∷ path) branch nodes e h = comes_next m Rule limits path branch nodes e h

-- ---- the next node of the old tree

-- a leaf
pub record IsAtLeaf (m : Mill) (t : Search) (p : Prices) (rest : List Node) : Type 0 where
  pub refutes : Refutes m (limits_of t) t.path p
  pub to_come : AreToCome m (HoldsCover m (opening_of t)) (limits_of t) t.path rest

-- an inner node
pub record IsAtSplit (m : Mill) (t : Search) (ask : Ask) (mark : Mark) (rest : List Node) : Type 0 where
  pub left : Tree Mark Prices
  pub right : Tree Mark Prices
  pub more : List Node
  pub done : IsDone m (HoldsCover m (opening_of t)) (limits_of t) (Split mark ask left right) t.path
  pub rest_is : rest ≡ (nodes_of left ++ nodes_of right) ++ more
  pub to_come : AreToCome m (HoldsCover m (opening_of t)) (limits_of t) t.path more

no_split : (p : Prices) (ask : Ask) (mark : Mark) → Closed p ≡ Branched ask mark → ⊥
no_split p ask mark e = cc

pub at_leaf : (m : Mill) (t : Search) (p : Prices) (rest : List Node) → IsAtTree m (HoldsCover m (opening_of t)) (limits_of t) t.path (Closed p ∷ rest) → IsAtLeaf m t p rest
at_leaf m t p rest h = by h.tree h.done h.nodes_are
  where
    by : (tree : Tree Mark Prices) → IsDone m (HoldsCover m (opening_of t)) (limits_of t) tree t.path → Closed p ∷ rest ≡ nodes_of tree ++ h.more → IsAtLeaf m t p rest
    by (End q) done e = record {
      refutes = subst (λ (x : Prices). Refutes m (limits_of t) t.path x) (same (sym (heads (Closed p) (Closed q) rest h.more e))) done.refutes;
      to_come = subst (λ (ns : List Node). AreToCome m (HoldsCover m (opening_of t)) (limits_of t) t.path ns) (sym (tails (Closed p) (Closed q) rest h.more e)) h.to_come;
    }
      where
        same : Closed q ≡ Closed p → q ≡ p
        same w = cc
    by (Split mark ask left right) done e = absurd (no_split p ask mark (heads (Closed p) (Branched ask mark) rest ((nodes_of left ++ nodes_of right) ++ h.more) e))

pub at_split : (m : Mill) (t : Search) (ask : Ask) (mark : Mark) (rest : List Node) → IsAtTree m (HoldsCover m (opening_of t)) (limits_of t) t.path (Branched ask mark ∷ rest) → IsAtSplit m t ask mark rest
at_split m t ask mark rest h = by h.tree h.done h.nodes_are
  where
    by : (tree : Tree Mark Prices) → IsDone m (HoldsCover m (opening_of t)) (limits_of t) tree t.path → Branched ask mark ∷ rest ≡ nodes_of tree ++ h.more → IsAtSplit m t ask mark rest
    by (End q) done e = absurd (no_split q ask mark (sym (heads (Branched ask mark) (Closed q) rest h.more e)))
    by (Split other asked left right) done e = record {
      left = left;
      right = right;
      more = h.more;
      done = subst (λ (x : Mark × Ask). IsDone m (HoldsCover m (opening_of t)) (limits_of t) (Split x.0 x.1 left right) t.path) (λ i. (mark_is i, ask_is i)) done;
      rest_is = tails (Branched ask mark) (Branched asked other) rest ((nodes_of left ++ nodes_of right) ++ h.more) e;
      to_come = h.to_come;
    }
      where
        head : Branched asked other ≡ Branched ask mark
        head = sym (heads (Branched ask mark) (Branched asked other) rest ((nodes_of left ++ nodes_of right) ++ h.more) e)

        mark_is : other ≡ mark
        mark_is = cc head

        ask_is : asked ≡ ask
        ask_is = cc head

-- ---- the moves

module _ (m : Mill) (old new : Search) where
  -- the new tree's next node is closed, and the branches that wait come next
  pub closes_walk : (p : Prices) (rest : List Node) → IsClosed p old new → Stands m (ShowsCoverUnlessBare m (limits_of old)) (limits_of old) old.path old.nodes → old.phase ≡ Running → Refutes m (limits_of old) old.path p
      → AreToCome m (HoldsCover m (opening_of old)) (limits_of old) old.path rest → IsWalk m new rest × IsSameTree old new × (new.nodes ≡ old.nodes ++ Closed p ∷ [])
  closes_walk p rest closed stands running refutes to_come = by (next_branch old.path) refl closed (closes_leaf m (ShowsCoverUnlessBare m (limits_of old)) (limits_of old) old.path old.nodes p stands refutes)
    where
      by : (next : Option (List Decision)) → next_branch old.path ≡ next → after_leaf next (record old { nodes = old.nodes ++ Closed p ∷ [] }) new → GoesOn m (ShowsCoverUnlessBare m (limits_of old)) (limits_of old) next (old.nodes ++ Closed p ∷ []) → IsWalk m new rest × IsSameTree old new × (new.nodes ≡ old.nodes ++ Closed p ∷ [])
      by None e h goes =
          subst (λ (t : Search). IsWalk m t rest × IsSameTree old t × (t.nodes ≡ old.nodes ++ Closed p ∷ [])) (sym h) (
            inr (record { finished = refl; whole = goes; nothing_left = none_to_come m (HoldsCover m (opening_of old)) (limits_of old) old.path rest e to_come }),
            record { count = refl; opening = refl; loss = refl; best = refl },
            refl,
          )
      by (Some branch) e h goes =
          subst (λ (t : Search). IsWalk m t rest × IsSameTree old t × (t.nodes ≡ old.nodes ++ Closed p ∷ [])) (sym h) (
            inl (record { running = running; stands = goes; at_tree = comes_next m (HoldsCover m (opening_of old)) (limits_of old) old.path branch rest e to_come }),
            record { count = refl; opening = refl; loss = refl; best = refl },
            refl,
          )

  -- a leaf stays
  pub leaf_moves : (p : Prices) (rest : List Node) → IsRewriting m old (Closed p ∷ rest) → IsClosed p old new → MovesOn m old new (Closed p) rest rest
  leaf_moves p rest h closed =
      let leaf : IsAtLeaf m old p rest = at_leaf m old p rest h.at_tree in
      let w = closes_walk p rest closed h.stands h.running leaf.refutes leaf.to_come in
      record { same = w.1; walk = w.0; shorter = omega arith; fewer = omega (arith, ap length w.2, length-append old.nodes (Closed p ∷ [])) }

  -- one leaf stands for all that was below
  pub refuted_moves : (ask : Ask) (mark : Mark) (before after : List Node) (p : Prices) → IsRewriting m old (Branched ask mark ∷ before) → Refutes m (limits_of old) old.path p → after ≡ after_trees 2 before → IsClosed p old new → MovesOn m old new (Branched ask mark) before after
  refuted_moves ask mark before after p h refutes passed closed =
      let split : IsAtSplit m old ask mark before = at_split m old ask mark before h.at_tree in
      let more : after ≡ split.more = passed ∙ ap (λ ns. after_trees 2 ns) split.rest_is ∙ after_two split.left split.right split.more in
      let w = closes_walk p after closed h.stands h.running refutes (subst (λ (ns : List Node). AreToCome m (HoldsCover m (opening_of old)) (limits_of old) old.path ns) (sym more) split.to_come) in
      let shorter : length after ≤ length before = omega (arith, ap length more, ap length split.rest_is, length-append (nodes_of split.left ++ nodes_of split.right) split.more) in
      record { same = w.1; walk = w.0; shorter = shorter; fewer = omega (arith, ap length w.2, length-append old.nodes (Closed p ∷ []), shorter) }

  -- a split stays, with a mark that is right now
  pub kept_moves : (ask : Ask) (mark shown : Mark) (rest : List Node) → IsRewriting m old (Branched ask mark ∷ rest) → ShowsCoverUnlessBare m (limits_of old) shown old.path → IsBranched ask shown old new → MovesOn m old new (Branched ask mark) rest rest
  kept_moves ask mark shown rest h right h_new =
      let split : IsAtSplit m old ask mark rest = at_split m old ask mark rest h.at_tree in
      subst (λ (t : Search). MovesOn m old t (Branched ask mark) rest rest) (sym h_new) (record {
        same = record { count = refl; opening = refl; loss = refl; best = refl };
        walk = inl (record {
          running = h.running;
          stands = splits_at m (ShowsCoverUnlessBare m (limits_of old)) (limits_of old) old.path old.nodes ask shown h.stands (record { opened = split.done.splits.0.opened; marked = right });
          at_tree = record {
            tree = split.left;
            more = nodes_of split.right ++ split.more;
            done = record { refutes = split.done.refutes.2; splits = split.done.splits.1 };
            nodes_are = split.rest_is ∙ append_assoc (nodes_of split.left) (nodes_of split.right) split.more;
            to_come = record { if_no = split.right; more = split.more; done = record { refutes = split.done.refutes.3; splits = split.done.splits.2 }; nodes_are = refl; later = split.to_come };
          };
        });
        shorter = omega arith;
        fewer = omega (arith, length-append old.nodes (Branched ask shown ∷ []));
      })

-- its question is open
pub split_asks : (m : Mill) (t : Search) (ask : Ask) (mark : Mark) (rest : List Node) → IsRewriting m t (Branched ask mark ∷ rest) → IsOpenAsk m t.path ask
split_asks m t ask mark rest h = (at_split m t ask mark rest h.at_tree).done.splits.0.opened

-- its mark holds for the opening limits
pub marked_at : (m : Mill) (t : Search) (ask : Ask) (mark : Mark) (rest : List Node) → IsRewriting m t (Branched ask mark ∷ rest) → HoldsCover m (opening_of t) mark t.path
marked_at m t ask mark rest h = (at_split m t ask mark rest h.at_tree).done.splits.0.marked

-- no plan is left within the limits
pub no_plan_left : (m : Mill) (t : Search) (rest : List Node) (p : Plan) → IsRewriting m t rest → IsInBox m (limits_of t) t.path p → ⊥
no_plan_left m t rest p h inside =
    tree_refutes m (limits_of t) h.at_tree.tree t.path p (path_asks m t.path (path_open m (ShowsCoverUnlessBare m (limits_of t)) (limits_of t) t.path t.nodes h.stands)) h.at_tree.done.refutes inside.legal inside.agrees inside.within

-- ---- the walk

pub begins_anew : (m : Mill) (old new : Search) (rest : List Node) → IsFinished m old → new ≡ record old { nodes = []; path = []; opened = 0; phase = Running } → rest ≡ old.nodes → IsWalk m new rest
begins_anew m old new rest done e f =
    subst (λ (t : Search). IsWalk m t rest) (sym e) (subst (λ (ns : List Node). IsWalk m (record old { nodes = []; path = []; opened = 0; phase = Running }) ns) (sym f) (inl (record {
      running = refl;
      stands = refl;
      at_tree = record { tree = done.whole.tree; more = []; done = done.whole.done; nodes_are = done.whole.nodes_are ∙ sym (append-nil (nodes_of done.whole.tree)); to_come = refl };
    })))

pub walks_on : (m : Mill) (t : Search) (before rest : List Node) (node : Node) → before ≡ node ∷ rest → IsWalk m t before → IsRewriting m t (node ∷ rest)
walks_on m t before rest node e (inl h) = record {
  running = h.running;
  stands = h.stands;
  at_tree = subst (λ (ns : List Node). IsAtTree m (HoldsCover m (opening_of t)) (limits_of t) t.path ns) e h.at_tree;
}
walks_on m t before rest node e (inr h) = absurd (none (sym e ∙ h.nothing_left))
  where
    none : node ∷ rest ≡ [] → ⊥
    none w = cc

some_node : (t : Tree Mark Prices) → 1 ≤ length (nodes_of t)
some_node (End p) = omega arith
some_node (Split mark ask left right) = omega arith

pub ends_anew : (m : Mill) (t : Search) (rest : List Node) → rest ≡ [] → IsWalk m t rest → IsRewritten m t rest
ends_anew m t rest e (inr h) = h
ends_anew m t rest e (inl h) = absurd (omega (arith, ap length e, ap length h.at_tree.nodes_are, length-append (nodes_of h.at_tree.tree) h.at_tree.more, some_node h.at_tree.tree))

pub same_trans : (a b c : Search) → IsSameTree a b → IsSameTree b c → IsSameTree a c
same_trans a b c h k = record { count = k.count ∙ h.count; opening = k.opening ∙ h.opening; loss = k.loss ∙ h.loss; best = k.best ∙ h.best }

pub same_limits : (a b : Search) → IsSameTree a b → HasLimitsBelow a → HasLimitsBelow b
same_limits a b h k = record {
  falls = subst (λ (l : Limits × Limits). AreSmaller l.0 l.1) (λ i. (record { loss = sym h.loss i; count = sym h.count i }, record { loss = sym h.opening i; count = sym h.count i })) k.falls;
  loss = subst (λ (l : Option ℤ). IsSmall (number_of l)) (sym h.loss) k.loss;
  count = subst (λ (l : Option ℤ). IsSmall (number_of l)) (sym h.count) k.count;
}

pub tightened : (m : Mill) (first t new : Search) (rest : List Node) → IsSameTree first t → HasLimitsBelow t → length t.nodes ≤ length first.nodes → IsRewritten m t rest → new ≡ record t { opened = length t.nodes } → IsTightened m first new
tightened m first t new rest same limits fewer h e = subst (λ (x : Search). IsTightened m first x) (sym e) (record {
  tight = record {
    limits = record { falls = limits.falls; loss = limits.loss; count = limits.count };
    finished = h.finished;
    whole = h.whole;
    opened = refl;
  };
  same = record { count = same.count; opening = same.opening; loss = same.loss; best = same.best };
  fewer = fewer;
})
