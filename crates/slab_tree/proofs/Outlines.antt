-- The unfinished tree of a walk: its decided nodes, with ends for the next node and for the waiting branches.
use Rattle.std.proofs.Common.{◌≡◌, ℕ, suc, ◌+◌, ◌<◌, Bool, true, false, List, [], ◌∷◌, ◌++◌, map, replicate, length, Option, Some, None, refl, sym, ap, ap₂, subst, ◌∙◌, append_assoc, append-nil, arith, length-append, inl, inr}
use Rattle.std.proofs.lemmas.List.{map-append, length-map, length-replicate}
use Rattle.mill_model.specs.declared.ask.Ask.{Ask}
use Rattle.mill_model.specs.declared.limits.Limits.{Limits}
use Rattle.mill_model.specs.declared.mark.Mark.{Mark}
use Rattle.mill_model.specs.Mill.{Mill}
use Rattle.mill_model.specs.Prices.{Prices, Refutes}
use Rattle.mill_model.specs.Decisions.{Decision}
use Rattle.mill_model.specs.Assignments.{IsLean}
use Rattle.mill_model.specs.Trees.{Tree, Unmarked, IsTree, EverySplit, IsOpenTree, outline, preorder, step_of, marks_of, most_nodes, nodes as tree_nodes}
use Rattle.mill_model.specs.Trees.Tree.{End, Split}
use Rattle.mill_model.proofs.Preorder.{length-listing}
use Rattle.mill_model.proofs.NodeBound.{nodes_most}
use Rattle.slab_tree.specs.declared.node.Node.{Node}
use Rattle.slab_tree.specs.declared.node.Node.TheVariants.{Closed, Branched}
use Rattle.slab_tree.specs.Marking.{MarkRule}
use Rattle.slab_tree.specs.Standing.{IsSplit, Stands, nodes_of, waiting}
use Rattle.slab_tree.specs.Unfinished.{Outlined, IsUnfinished, HasEnd, ask_of, marks_in}
use Rattle.slab_tree.proofs.Gains.{marks_in-append}
use Rattle.slab_tree.proofs.Standing.{open_fresh}

-- ---- without marks, and without prices

pub unmarked : {E : Type 0} → Tree Mark E → Unmarked E
unmarked (End e) = End e
unmarked (Split mark ask left right) = Split tt ask (unmarked left) (unmarked right)

pub unmarked_tree : {E : Type 0} (m : Mill) (H : E → List Decision → Type 0) (t : Tree Mark E) (path : List Decision) → IsTree m H t path → IsTree m H (unmarked t) path
unfolding unmarked
unmarked_tree m H (End e) path h = h
unmarked_tree m H (Split mark ask left right) path h = (h.0, h.1, unmarked_tree m H left ((ask, true) ∷ path) h.2, unmarked_tree m H right ((ask, false) ∷ path) h.3)

unmarked_outline : {E : Type 0} (t : Tree Mark E) → outline t ≡ outline (unmarked t)
unfolding unmarked
unmarked_outline (End e) = refl
unmarked_outline (Split mark ask left right) = ap (λ ss. Some ask ∷ ss) (ap₂ (λ xs ys. xs ++ ys) (unmarked_outline left) (unmarked_outline right))

pub unmarked_preorder : (t : Tree Mark Prices) → preorder t ≡ preorder (unmarked t)
unfolding unmarked
unmarked_preorder (End p) = refl
unmarked_preorder (Split mark ask left right) = ap (λ ss. step_of ask ∷ ss) (ap₂ (λ xs ys. xs ++ ys) (unmarked_preorder left) (unmarked_preorder right))

pub unmarked_lean : {E : Type 0} (t : Tree Mark E) (path : List Decision) → IsLean t path → IsLean (unmarked t) path
unfolding unmarked
unmarked_lean (End e) path h = h
unmarked_lean (Split mark ask left right) path h = (h.0, unmarked_lean left ((ask, true) ∷ path) h.1, unmarked_lean right ((ask, false) ∷ path) h.2)

hollow : Tree Mark Prices → Outlined
hollow (End p) = End tt
hollow (Split mark ask left right) = Split mark ask (hollow left) (hollow right)

hollow_outline : (t : Tree Mark Prices) → outline (hollow t) ≡ map ask_of (nodes_of t)
unfolding hollow
hollow_outline (End p) = refl
hollow_outline (Split mark ask left right) = ap (λ ss. Some ask ∷ ss) (ap₂ (λ xs ys. xs ++ ys) (hollow_outline left) (hollow_outline right) ∙ sym (map-append ask_of (nodes_of left) (nodes_of right)))

hollow_marks : (t : Tree Mark Prices) → marks_of (hollow t) ≡ marks_in (nodes_of t)
unfolding hollow
hollow_marks (End p) = refl
hollow_marks (Split mark ask left right) = ap (λ ms. mark ∷ ms) (ap₂ (λ xs ys. xs ++ ys) (hollow_marks left) (hollow_marks right) ∙ sym (marks_in-append (nodes_of left) (nodes_of right)))

seam_yes : {X : Type 0} (before after within rest : List X) (x e : X) → after ≡ before ++ x ∷ [] → before ++ ((x ∷ (within ++ e ∷ [])) ++ rest) ≡ after ++ (within ++ e ∷ rest)
seam_yes before after within rest x e h = ap (λ zs. before ++ (x ∷ zs)) (append_assoc within (e ∷ []) rest) ∙ sym (ap (λ zs. zs ++ (within ++ e ∷ rest)) h ∙ append_assoc before (x ∷ []) (within ++ e ∷ rest))

seam_no : {X : Type 0} (before after within rest left : List X) (x : X) → after ≡ before ++ (x ∷ left) → before ++ ((x ∷ (left ++ within)) ++ rest) ≡ after ++ (within ++ rest)
seam_no before after within rest left x h = ap (λ zs. before ++ (x ∷ zs)) (append_assoc left within rest) ∙ sym (ap (λ zs. zs ++ (within ++ rest)) h ∙ append_assoc before (x ∷ left) (within ++ rest))

-- ---- the whole outline

-- a tree with a part at the path, whose nodes before it are these and whose branches behind it are ends
pub record IsOutlineAt (m : Mill) (Rule : MarkRule) (path : List Decision) (before : List Node) (t : Outlined) : Type 0 where
  pub tree : Outlined
  pub unfinished : IsUnfinished m Rule tree []
  pub outline_is : outline tree ≡ map ask_of before ++ (outline t ++ replicate (waiting path) None)
  pub marks_are : marks_of tree ≡ marks_in before ++ marks_of t
  pub ends : (q : List Decision) → HasEnd t path q → HasEnd tree [] q

module _ (m : Mill) (Rule : MarkRule) where
  hollow_tree : (H : Prices → List Decision → Type 0) (t : Tree Mark Prices) (path : List Decision) → IsTree m H t path → EverySplit (IsSplit m Rule) t path → IsUnfinished m Rule (hollow t) path
  unfolding hollow
  hollow_tree H (End p) path h s = record { fresh = tt; splits = tt }
  hollow_tree H (Split mark ask left right) path h s =
      let y : IsUnfinished m Rule (hollow left) ((ask, true) ∷ path) = hollow_tree H left ((ask, true) ∷ path) h.2 s.1 in
      let n : IsUnfinished m Rule (hollow right) ((ask, false) ∷ path) = hollow_tree H right ((ask, false) ∷ path) h.3 s.2 in
      record { fresh = (h.0, h.1, y.fresh, n.fresh); splits = (s.0, y.splits, n.splits) }

  pub graft : (mark : Mark) (ask : Ask) (left right : Outlined) (path : List Decision) → IsSplit m Rule mark ask path → IsUnfinished m Rule left ((ask, true) ∷ path) → IsUnfinished m Rule right ((ask, false) ∷ path) → IsUnfinished m Rule (Split mark ask left right) path
  graft mark ask left right path s y n = record { fresh = (s.opened.asked, open_fresh m path ask s.opened, y.fresh, n.fresh); splits = (s, y.splits, n.splits) }

  pub opens : (limits : Limits) (path : List Decision) (before : List Node) (t : Outlined) → Stands m Rule limits path before → IsUnfinished m Rule t path → IsOutlineAt m Rule path before t
  opens limits [] before t h u = record {
    tree = t;
    unfinished = u;
    outline_is = sym (ap (λ ns. map ask_of ns ++ (outline t ++ [])) h ∙ append-nil (outline t));
    marks_are = sym (ap (λ ns. marks_in ns ++ marks_of t) h);
    ends = λ q e. e;
  }
  opens limits ((ask, true) ∷ path) before t h u =
      let up : IsOutlineAt m Rule path h.before (Split h.mark ask t (End tt)) =
      opens limits path h.before (Split h.mark ask t (End tt)) h.stands (graft h.mark ask t (End tt) path h.split u (record { fresh = tt; splits = tt })) in
      record {
        tree = up.tree;
        unfinished = up.unfinished;
        outline_is = up.outline_is ∙ seam_yes (map ask_of h.before) (map ask_of before) (outline t) (replicate (waiting path) None) (Some ask) None (ap (λ ns. map ask_of ns) h.nodes_are ∙ map-append ask_of h.before (Branched ask h.mark ∷ []));
        marks_are = up.marks_are ∙ ap (λ ms. marks_in h.before ++ (h.mark ∷ ms)) (append-nil (marks_of t))
            ∙ sym (ap (λ ms. ms ++ marks_of t) (ap marks_in h.nodes_are ∙ marks_in-append h.before (Branched ask h.mark ∷ [])) ∙ append_assoc (marks_in h.before) (h.mark ∷ []) (marks_of t));
        ends = λ q e. up.ends q (inl e);
      }
  opens limits ((ask, false) ∷ path) before t h u =
      let y : IsUnfinished m Rule (hollow h.if_yes) ((ask, true) ∷ path) = hollow_tree (λ p ds. Refutes m limits ds p) h.if_yes ((ask, true) ∷ path) h.done.refutes h.done.splits in
      let up : IsOutlineAt m Rule path h.before (Split h.mark ask (hollow h.if_yes) t) =
      opens limits path h.before (Split h.mark ask (hollow h.if_yes) t) h.stands (graft h.mark ask (hollow h.if_yes) t path h.split y u) in
      record {
        tree = up.tree;
        unfinished = up.unfinished;
        outline_is = up.outline_is ∙ seam_no (map ask_of h.before) (map ask_of before) (outline t) (replicate (waiting path) None) (outline (hollow h.if_yes)) (Some ask)
            (ap (λ ns. map ask_of ns) h.nodes_are ∙ map-append ask_of h.before (Branched ask h.mark ∷ nodes_of h.if_yes) ∙ ap (λ zs. map ask_of h.before ++ (Some ask ∷ zs)) (sym (hollow_outline h.if_yes)));
        marks_are = up.marks_are ∙ ap (λ ms. marks_in h.before ++ (h.mark ∷ (ms ++ marks_of t))) (hollow_marks h.if_yes)
            ∙ sym (ap (λ ms. ms ++ marks_of t) (ap marks_in h.nodes_are ∙ marks_in-append h.before (Branched ask h.mark ∷ nodes_of h.if_yes)) ∙ append_assoc (marks_in h.before) (h.mark ∷ marks_in (nodes_of h.if_yes)) (marks_of t));
        ends = λ q e. up.ends q (inr e);
      }

  -- as many nodes as there are before the part, in it and behind it
  pub outline_count : (path : List Decision) (before : List Node) (t : Outlined) (o : IsOutlineAt m Rule path before t) → tree_nodes o.tree ≡ length before + tree_nodes t + waiting path
  outline_count path before t o = omega (
    arith,
    length-listing {Y = Option Ask} (λ (e : Unit {0}). None) (λ (b : Mark) ask. Some ask) o.tree,
    length-listing {Y = Option Ask} (λ (e : Unit {0}). None) (λ (b : Mark) ask. Some ask) t,
    ap length o.outline_is,
    length-append (map ask_of before) (outline t ++ replicate (waiting path) None),
    length-append (outline t) (replicate (waiting path) None),
    length-map before ask_of,
    length-replicate {A = Option Ask} (waiting path) None,
  )

  -- and so fewer than the most nodes of a tree
  pub few_outlined : (limits : Limits) (path : List Decision) (before : List Node) (t : Outlined) → Stands m Rule limits path before → IsUnfinished m Rule t path → length before + tree_nodes t + waiting path < most_nodes m
  few_outlined limits path before t h u =
      let o : IsOutlineAt m Rule path before t = opens limits path before t h u in
      subst (λ (n : ℕ). n < most_nodes m) (outline_count path before t o) (nodes_most m (λ _ _. Unit {0}) o.tree o.unfinished.fresh)

  -- the outline is that of an open tree
  pub open_tree_of : (t : Outlined) → IsUnfinished m Rule t [] → IsOpenTree m [] (outline t)
  open_tree_of t u = record {
    tree = unmarked t;
    steps_are = unmarked_outline t;
    fresh = unmarked_tree m (λ _ _. Unit {0}) t [] u.fresh;
  }
