-- A whole tree as steps with marks.
use Rattle.std.proofs.Common.{◌≡◌, ℕ, ◌+◌, Bool, true, false, List, [], ◌∷◌, ◌++◌, map, length, refl, sym, ap, ap₂, subst, ◌∙◌, arith, cond, append-nil}
use Rattle.std.proofs.lemmas.List.{map-append}
use Rattle.std.proofs.lemmas.List.Sums.{sum_by-cons}
use Rattle.mill_model.specs.declared.ask.Ask.{Ask}
use Rattle.mill_model.specs.declared.ask.Ask.TheVariants.{Pair, Put}
use Rattle.mill_model.specs.declared.limits.Limits.{Limits}
use Rattle.mill_model.specs.declared.mark.Mark.{Mark}
use Rattle.mill_model.specs.declared.mark.Mark.TheVariants.{Spread, Bare, Plain}
use Rattle.mill_model.specs.declared.steps.Step.{Step}
use Rattle.mill_model.specs.Mill.{Mill}
use Rattle.mill_model.specs.Prices.{Prices, Refutes}
use Rattle.mill_model.specs.Decisions.{Decision}
use Rattle.mill_model.specs.Assignments.{IsLean}
use Rattle.mill_model.specs.Marks.{MarkedSteps, is_question, question_count, HasOneMarkEach, IsRight, HasRightMarks}
use Rattle.mill_model.specs.Trees.{Tree, Unmarked, IsTree, EverySplit, preorder, marks_of, step_of}
use Rattle.mill_model.specs.Trees.Tree.{End, Split}
use Rattle.slab_tree.specs.declared.node.Node.{Node}
use Rattle.slab_tree.specs.declared.node.Node.TheVariants.{Closed, Branched}
use Rattle.slab_tree.specs.Marking.{MarkRule, HoldsCover, ShowsCoverUnlessBare}
use Rattle.slab_tree.specs.Standing.{IsSplit, IsWhole, nodes_of}
use Rattle.slab_tree.specs.Steps.{step_of_node, IsLeanRefutation, IsTightRefutation}
use Rattle.slab_tree.specs.Unfinished.{marks_in}
use Rattle.slab_tree.proofs.Gains.{marks_in-append}
use Rattle.slab_tree.proofs.Outlines.{unmarked, unmarked_tree, unmarked_preorder, unmarked_lean}
use Rattle.slab_tree.proofs.Standing.{lean}

-- ---- lists of steps

asks_question : (ask : Ask) → is_question (step_of ask) ≡ true
asks_question (Pair i j) = refl
asks_question (Put o s) = refl

pub one_mark_each : (ns : List Node) → HasOneMarkEach (record { steps = map step_of_node ns; marks = marks_in ns })
one_mark_each [] = refl
one_mark_each (Closed p ∷ ns) = omega (arith, one_mark_each ns, sum_by-cons (λ s. cond (is_question s) 1 0) (step_of_node (Closed p)) (map step_of_node ns))
one_mark_each (Branched ask mark ∷ ns) =
    omega (arith, one_mark_each ns, sum_by-cons (λ s. cond (is_question s) 1 0) (step_of ask) (map step_of_node ns), ap (λ b. cond {A = ℕ} b 1 0) (asks_question ask))

preorder_nodes : (t : Tree Mark Prices) → map step_of_node (nodes_of t) ≡ preorder t
preorder_nodes (End p) = refl
preorder_nodes (Split mark ask left right) = ap (λ ss. step_of ask ∷ ss) (map-append step_of_node (nodes_of left) (nodes_of right) ∙ ap₂ (λ xs ys. xs ++ ys) (preorder_nodes left) (preorder_nodes right))

marks_nodes : (t : Tree Mark Prices) → marks_in (nodes_of t) ≡ marks_of t
marks_nodes (End p) = refl
marks_nodes (Split mark ask left right) = ap (λ ms. mark ∷ ms) (marks_in-append (nodes_of left) (nodes_of right) ∙ ap₂ (λ xs ys. xs ++ ys) (marks_nodes left) (marks_nodes right))

-- one node more
pub one_step_more : (steps new : List Step) (done : List Node) (n : Node) (s : Step) → steps ≡ map step_of_node done → s ≡ step_of_node n → new ≡ steps ++ s ∷ [] → new ≡ map step_of_node (done ++ n ∷ [])
one_step_more steps new done n s e f h = h ∙ ap₂ (λ xs x. xs ++ x ∷ []) e f ∙ sym (map-append step_of_node done (n ∷ []))

pub no_mark_more : (marks : List Mark) (done : List Node) (n : Node) (p : Prices) → marks ≡ marks_in done → n ≡ Closed p → marks ≡ marks_in (done ++ n ∷ [])
no_mark_more marks done n p e f = e ∙ sym (marks_in-append done (n ∷ []) ∙ ap (λ x. marks_in done ++ marks_in (x ∷ [])) f ∙ append-nil (marks_in done))

pub one_mark_more : (marks new : List Mark) (done : List Node) (n : Node) (ask : Ask) (mark : Mark) → marks ≡ marks_in done → n ≡ Branched ask mark → new ≡ marks ++ mark ∷ [] → new ≡ marks_in (done ++ n ∷ [])
one_mark_more marks new done n ask mark e f h = h ∙ ap (λ ms. ms ++ mark ∷ []) e ∙ sym (marks_in-append done (n ∷ []) ∙ ap (λ x. marks_in done ++ marks_in (x ∷ [])) f)

-- ---- what the steps show

pub lean_refutation : (m : Mill) (opening limits : Limits) (ns : List Node) → IsWhole m (HoldsCover m opening) limits ns → IsLeanRefutation m limits (map step_of_node ns)
lean_refutation m opening limits ns h = record {
  refutation = record {
    tree = unmarked h.tree;
    steps_are = ap (λ xs. map step_of_node xs) h.nodes_are ∙ preorder_nodes h.tree ∙ unmarked_preorder h.tree;
    refutes = unmarked_tree m (λ p ds. Refutes m limits ds p) h.tree [] h.done.refutes;
  };
  lean = unmarked_lean h.tree [] (lean m (HoldsCover m opening) h.tree [] h.done.splits);
}

right : (m : Mill) (limits : Limits) (mark : Mark) (path : List Decision) → ShowsCoverUnlessBare m limits mark path → IsRight m limits mark path
right m limits (Spread shown) path h = h
right m limits Bare path h = tt
right m limits Plain path h = tt

right_marks : {E : Type 0} (m : Mill) (limits : Limits) (t : Tree Mark E) (path : List Decision) → EverySplit (IsSplit m (ShowsCoverUnlessBare m limits)) t path → HasRightMarks m limits t path
right_marks m limits (End e) path h = tt
right_marks m limits (Split mark ask left right_tree) path h = (right m limits mark path h.0.marked, right_marks m limits left ((ask, true) ∷ path) h.1, right_marks m limits right_tree ((ask, false) ∷ path) h.2)

shown_marks : {E : Type 0} (m : Mill) (limits : Limits) (t : Tree Mark E) (path : List Decision) → EverySplit (IsSplit m (ShowsCoverUnlessBare m limits)) t path → EverySplit (λ mark _ decisions. ShowsCoverUnlessBare m limits mark decisions) t path
shown_marks m limits (End e) path h = tt
shown_marks m limits (Split mark ask left right_tree) path h = (h.0.marked, shown_marks m limits left ((ask, true) ∷ path) h.1, shown_marks m limits right_tree ((ask, false) ∷ path) h.2)

pub tight_refutation : (m : Mill) (limits : Limits) (ns : List Node) → IsWhole m (ShowsCoverUnlessBare m limits) limits ns → IsTightRefutation m limits (record { steps = map step_of_node ns; marks = marks_in ns })
tight_refutation m limits ns h = record {
  refutation = record {
    tree = h.tree;
    steps_are = ap (λ xs. map step_of_node xs) h.nodes_are ∙ preorder_nodes h.tree;
    marks_are = ap marks_in h.nodes_are ∙ marks_nodes h.tree;
    refutes = h.done.refutes;
    right = right_marks m limits h.tree [] h.done.splits;
  };
  lean = lean m (ShowsCoverUnlessBare m limits) h.tree [] h.done.splits;
  shown = shown_marks m limits h.tree [] h.done.splits;
}
