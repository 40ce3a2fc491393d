-- Nodes as steps with marks, and back.
use Rattle.std.proofs.Common.{◌≡◌, ℕ, ◌+◌, true, List, [], ◌∷◌, ◌++◌, map, length, refl, sym, ap, ap₂, ◌∙◌, arith, cond, drop, append-nil, append_assoc}
use Rattle.std.proofs.lemmas.List.{map-append}
use Rattle.std.proofs.lemmas.List.Sums.{sum_by-cons}
use Rattle.mill_model.specs.declared.ask.Ask.{Ask}
use Rattle.mill_model.specs.declared.ask.Ask.TheVariants.{Pair, Put}
use Rattle.mill_model.specs.declared.mark.Mark.{Mark}
use Rattle.mill_model.specs.declared.steps.Step.{Step}
use Rattle.mill_model.specs.declared.steps.Step.TheVariants as steps
use Rattle.mill_model.specs.Prices.{Prices}
use Rattle.mill_model.specs.Marks.{MarkedSteps, is_question, question_count, HasOneMarkEach}
use Rattle.mill_model.specs.Trees.{Tree, preorder, marks_of, step_of}
use Rattle.mill_model.specs.Trees.Tree.{End, Split}
use Rattle.tree_nodes.specs.declared.node.Node.{Node}
use Rattle.tree_nodes.specs.declared.node.Node.TheVariants.{Closed, Branched}
use Rattle.tree_nodes.specs.Nodes.{nodes_of, step_of_node, marks_in, steps_in, joined}

pub marks_in-append : (xs ys : List Node) → marks_in (xs ++ ys) ≡ marks_in xs ++ marks_in ys
marks_in-append [] ys = refl
marks_in-append (Closed p ∷ xs) ys = marks_in-append xs ys
marks_in-append (Branched ask mark ∷ xs) ys = ap (λ ms. mark ∷ ms) (marks_in-append xs ys)

-- ---- lists of steps

asks_question : (ask : Ask) → is_question (step_of ask) ≡ true
asks_question (Pair i j) = refl
asks_question (Put o s) = refl

pub one_mark_each : (ns : List Node) → HasOneMarkEach (record { steps = map step_of_node ns; marks = marks_in ns })
one_mark_each [] = refl
one_mark_each (Closed p ∷ ns) = omega (arith, one_mark_each ns, sum_by-cons (λ s. cond (is_question s) 1 0) (step_of_node (Closed p)) (map step_of_node ns))
one_mark_each (Branched ask mark ∷ ns) =
    omega (arith, one_mark_each ns, sum_by-cons (λ s. cond (is_question s) 1 0) (step_of ask) (map step_of_node ns), ap (λ b. cond {A = ℕ} b 1 0) (asks_question ask))

pub preorder_nodes : (t : Tree Mark Prices) → map step_of_node (nodes_of t) ≡ preorder t
preorder_nodes (End p) = refl
preorder_nodes (Split mark ask left right) = ap (λ ss. step_of ask ∷ ss) (map-append step_of_node (nodes_of left) (nodes_of right) ∙ ap₂ (λ xs ys. xs ++ ys) (preorder_nodes left) (preorder_nodes right))

pub marks_nodes : (t : Tree Mark Prices) → marks_in (nodes_of t) ≡ marks_of t
marks_nodes (End p) = refl
marks_nodes (Split mark ask left right) = ap (λ ms. mark ∷ ms) (marks_in-append (nodes_of left) (nodes_of right) ∙ ap₂ (λ xs ys. xs ++ ys) (marks_nodes left) (marks_nodes right))

-- one node more
pub one_step_more : (steps new : List Step) (done : List Node) (n : Node) (s : Step) → steps ≡ map step_of_node done → s ≡ step_of_node n → new ≡ steps ++ s ∷ [] → new ≡ map step_of_node (done ++ n ∷ [])
one_step_more steps new done n s e f h = h ∙ ap₂ (λ xs x. xs ++ x ∷ []) e f ∙ sym (map-append step_of_node done (n ∷ []))

pub no_mark_more : (marks : List Mark) (done : List Node) (n : Node) (p : Prices) → marks ≡ marks_in done → n ≡ Closed p → marks ≡ marks_in (done ++ n ∷ [])
no_mark_more marks done n p e f = e ∙ sym (marks_in-append done (n ∷ []) ∙ ap (λ x. marks_in done ++ marks_in (x ∷ [])) f ∙ append-nil (marks_in done))

pub one_mark_more : (marks new : List Mark) (done : List Node) (n : Node) (ask : Ask) (mark : Mark) → marks ≡ marks_in done → n ≡ Branched ask mark → new ≡ marks ++ mark ∷ [] → new ≡ marks_in (done ++ n ∷ [])
one_mark_more marks new done n ask mark e f h = h ∙ ap (λ ms. ms ++ mark ∷ []) e ∙ sym (marks_in-append done (n ∷ []) ∙ ap (λ x. marks_in done ++ marks_in (x ∷ [])) f)

joined_two : (y n : Tree Mark Prices) (steps : List Step) (marks : List Mark) → joined (preorder y ++ (preorder n ++ steps)) (marks_of y ++ (marks_of n ++ marks)) ≡ nodes_of y ++ joined (preorder n ++ steps) (marks_of n ++ marks) → joined (preorder n ++ steps) (marks_of n ++ marks) ≡ nodes_of n ++ joined steps marks
    → joined ((preorder y ++ preorder n) ++ steps) ((marks_of y ++ marks_of n) ++ marks) ≡ (nodes_of y ++ nodes_of n) ++ joined steps marks
joined_two y n steps marks e f =
    ap₂ joined (append_assoc (preorder y) (preorder n) steps) (append_assoc (marks_of y) (marks_of n) marks) ∙ e ∙ ap (λ ns. nodes_of y ++ ns) f ∙ sym (append_assoc (nodes_of y) (nodes_of n) (joined steps marks))

-- the nodes of a tree's steps and marks
joined_tree : (t : Tree Mark Prices) (steps : List Step) (marks : List Mark) → joined (preorder t ++ steps) (marks_of t ++ marks) ≡ nodes_of t ++ joined steps marks
joined_tree (End p) steps marks = refl
joined_tree (Split mark (Pair i j) if_yes if_no) steps marks = ap (λ ns. Branched (Pair i j) mark ∷ ns) (joined_two if_yes if_no steps marks (joined_tree if_yes (preorder if_no ++ steps) (marks_of if_no ++ marks)) (joined_tree if_no steps marks))
joined_tree (Split mark (Put o s) if_yes if_no) steps marks = ap (λ ns. Branched (Put o s) mark ∷ ns) (joined_two if_yes if_no steps marks (joined_tree if_yes (preorder if_no ++ steps) (marks_of if_no ++ marks)) (joined_tree if_no steps marks))

pub joined_whole : (t : Tree Mark Prices) → joined (preorder t) (marks_of t) ≡ nodes_of t
joined_whole t = ap₂ joined (sym (append-nil (preorder t))) (sym (append-nil (marks_of t))) ∙ joined_tree t [] [] ∙ append-nil (nodes_of t)

pub steps_whole : (t : Tree Mark Prices) → steps_in (nodes_of t) ≡ record { steps = preorder t; marks = marks_of t }
steps_whole t = λ i. record { steps = preorder_nodes t i; marks = marks_nodes t i }

-- nodes come back
pub joined_nodes : (ns : List Node) → joined (map step_of_node ns) (marks_in ns) ≡ ns
joined_nodes [] = refl
joined_nodes (Closed p ∷ ns) = ap (λ rest. Closed p ∷ rest) (joined_nodes ns)
joined_nodes (Branched (Pair i j) mark ∷ ns) = ap (λ rest. Branched (Pair i j) mark ∷ rest) (joined_nodes ns)
joined_nodes (Branched (Put o s) mark ∷ ns) = ap (λ rest. Branched (Put o s) mark ∷ rest) (joined_nodes ns)

one_more : (s : Step) (ss : List Step) → question_count (s ∷ ss) ≡ cond (is_question s) 1 0 + question_count ss
one_more s ss = sum_by-cons (λ x. cond (is_question x) 1 0) s ss

back : (s : Step) (ss : List Step) (mark : Mark) (marks : List Mark) (ns : List Node) → steps_in ns ≡ record { steps = ss; marks = marks }
    → ◌≡◌ {A = MarkedSteps} (record { steps = s ∷ (steps_in ns).steps; marks = mark ∷ (steps_in ns).marks }) (record { steps = s ∷ ss; marks = mark ∷ marks })
back s ss mark marks ns e = ap (λ (x : MarkedSteps). record { steps = s ∷ x.steps; marks = mark ∷ x.marks }) e

-- steps and marks come back
pub steps_joined : (ss : List Step) (marks : List Mark) → length marks ≡ question_count ss → steps_in (joined ss marks) ≡ record { steps = ss; marks = marks }
steps_joined [] [] h = refl
steps_joined [] (mark ∷ marks) h = absurd (omega (arith, h))
steps_joined (steps.Leaf p ∷ ss) marks h = ap (λ (x : MarkedSteps). record { steps = steps.Leaf p ∷ x.steps; marks = x.marks }) (steps_joined ss marks (omega (arith, h, one_more (steps.Leaf p) ss)))
steps_joined (steps.Pair i j ∷ ss) [] h = absurd (omega (arith, h, one_more (steps.Pair i j) ss))
steps_joined (steps.Pair i j ∷ ss) (mark ∷ marks) h = back (steps.Pair i j) ss mark marks (joined ss marks) (steps_joined ss marks (omega (arith, h, one_more (steps.Pair i j) ss)))
steps_joined (steps.Put o s ∷ ss) [] h = absurd (omega (arith, h, one_more (steps.Put o s) ss))
steps_joined (steps.Put o s ∷ ss) (mark ∷ marks) h = back (steps.Put o s) ss mark marks (joined ss marks) (steps_joined ss marks (omega (arith, h, one_more (steps.Put o s) ss)))
