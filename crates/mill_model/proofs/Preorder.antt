-- A list of steps begins with at most one tree, and with its marks with at most one marked tree.
use Rattle.std.proofs.Common.{◌≡◌, List, ◌∷◌, ◌++◌, length, refl, sym, ap, ◌∙◌, append_assoc, length-append, arith}
use Rattle.mill_model.specs.declared.ask.Ask.{Ask}
use Rattle.mill_model.specs.declared.ask.Ask.TheVariants.{Pair, Put}
use Rattle.mill_model.specs.declared.steps.Step.{Step}
use Rattle.mill_model.specs.declared.steps.Step.TheVariants.{Leaf}
use Rattle.mill_model.specs.declared.mark.Mark.{Mark}
use Rattle.mill_model.specs.Prices.{Prices}
use Rattle.mill_model.specs.Trees.{Tree, Unmarked, listing, step_of, preorder, marks_of, nodes}
use Rattle.mill_model.specs.Trees.Tree.{End, Split}

same_step : (a b : Ask) → step_of a ≡ step_of b → a ≡ b
same_step (Pair i j) (Pair k l) e = cc
same_step (Pair i j) (Put o s) e = cc
same_step (Put o s) (Pair k l) e = cc
same_step (Put o s) (Put q t) e = cc

no_leaf : (a : Ask) (p : Prices) → step_of a ≡ Leaf p → ⊥
no_leaf (Pair i j) p e = cc
no_leaf (Put o s) p e = cc

pub heads : {X : Type 0} (x y : X) (xs ys : List X) → x ∷ xs ≡ y ∷ ys → x ≡ y
heads x y xs ys e = cc

pub tails : {X : Type 0} (x y : X) (xs ys : List X) → x ∷ xs ≡ y ∷ ys → xs ≡ ys
tails x y xs ys e = cc

-- both sides grouped to the right
regrouped : {X : Type 0} (a b c d e f : List X) → (a ++ b) ++ c ≡ (d ++ e) ++ f → a ++ (b ++ c) ≡ d ++ (e ++ f)
regrouped a b c d e f h = sym (append_assoc a b c) ∙ h ∙ append_assoc d e f

pub one_tree : (t u : Unmarked Prices) (xs ys : List Step) → preorder t ++ xs ≡ preorder u ++ ys → (t ≡ u) × (xs ≡ ys)
one_tree (End p) (End q) xs ys e = (ap End (leaf_is (heads (Leaf p) (Leaf q) xs ys e)), tails (Leaf p) (Leaf q) xs ys e)
  where
    leaf_is : Leaf p ≡ Leaf q → p ≡ q
    leaf_is h = cc
one_tree (End p) (Split mark b y n) xs ys e = absurd (no_leaf b p (sym (heads (Leaf p) (step_of b) xs ((preorder y ++ preorder n) ++ ys) e)))
one_tree (Split mark a y n) (End q) xs ys e = absurd (no_leaf a q (heads (step_of a) (Leaf q) ((preorder y ++ preorder n) ++ xs) ys e))
one_tree (Split mark a y n) (Split other b z w) xs ys e =
    let whole : preorder y ++ (preorder n ++ xs) ≡ preorder z ++ (preorder w ++ ys) = regrouped (preorder y) (preorder n) xs (preorder z) (preorder w) ys (tails (step_of a) (step_of b) ((preorder y ++ preorder n) ++ xs) ((preorder z ++ preorder w) ++ ys) e) in
    let first : (y ≡ z) × (preorder n ++ xs ≡ preorder w ++ ys) = one_tree y z (preorder n ++ xs) (preorder w ++ ys) whole in
    let second : (n ≡ w) × (xs ≡ ys) = one_tree n w xs ys first.1 in
    let asks : a ≡ b = same_step a b (heads (step_of a) (step_of b) ((preorder y ++ preorder n) ++ xs) ((preorder z ++ preorder w) ++ ys) e) in
    (λ i. Split tt (asks i) (first.0 i) (second.0 i), second.1)

pub one_marked_tree : (t u : Tree Mark Prices) (xs ys : List Step) (marks others : List Mark) → preorder t ++ xs ≡ preorder u ++ ys → marks_of t ++ marks ≡ marks_of u ++ others → (t ≡ u) × (xs ≡ ys) × (marks ≡ others)
one_marked_tree (End p) (End q) xs ys marks others e f = (ap End (leaf_is (heads (Leaf p) (Leaf q) xs ys e)), tails (Leaf p) (Leaf q) xs ys e, f)
  where
    leaf_is : Leaf p ≡ Leaf q → p ≡ q
    leaf_is h = cc
one_marked_tree (End p) (Split mark b y n) xs ys marks others e f = absurd (no_leaf b p (sym (heads (Leaf p) (step_of b) xs ((preorder y ++ preorder n) ++ ys) e)))
one_marked_tree (Split mark a y n) (End q) xs ys marks others e f = absurd (no_leaf a q (heads (step_of a) (Leaf q) ((preorder y ++ preorder n) ++ xs) ys e))
one_marked_tree (Split mark a y n) (Split other b z w) xs ys marks others e f =
    let steps : preorder y ++ (preorder n ++ xs) ≡ preorder z ++ (preorder w ++ ys) = regrouped (preorder y) (preorder n) xs (preorder z) (preorder w) ys (tails (step_of a) (step_of b) ((preorder y ++ preorder n) ++ xs) ((preorder z ++ preorder w) ++ ys) e) in
    let below : marks_of y ++ (marks_of n ++ marks) ≡ marks_of z ++ (marks_of w ++ others) = regrouped (marks_of y) (marks_of n) marks (marks_of z) (marks_of w) others (tails mark other ((marks_of y ++ marks_of n) ++ marks) ((marks_of z ++ marks_of w) ++ others) f) in
    let first : (y ≡ z) × (preorder n ++ xs ≡ preorder w ++ ys) × (marks_of n ++ marks ≡ marks_of w ++ others) = one_marked_tree y z (preorder n ++ xs) (preorder w ++ ys) (marks_of n ++ marks) (marks_of w ++ others) steps below in
    let second : (n ≡ w) × (xs ≡ ys) × (marks ≡ others) = one_marked_tree n w xs ys marks others first.1 first.2 in
    let asks : a ≡ b = same_step a b (heads (step_of a) (step_of b) ((preorder y ++ preorder n) ++ xs) ((preorder z ++ preorder w) ++ ys) e) in
    let same : mark ≡ other = heads mark other ((marks_of y ++ marks_of n) ++ marks) ((marks_of z ++ marks_of w) ++ others) f in
    (λ i. Split (same i) (asks i) (first.0 i) (second.0 i), second.1, second.2)

pub length-listing : {M E Y : Type 0} (ending : E → Y) (asking : M → Ask → Y) (t : Tree M E) → length (listing ending asking t) ≡ nodes t
length-listing ending asking (End p) = refl
length-listing ending asking (Split mark a y n) = omega (arith, length-append (listing ending asking y) (listing ending asking n), length-listing ending asking y, length-listing ending asking n)
