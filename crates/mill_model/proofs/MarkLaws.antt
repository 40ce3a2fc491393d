-- Marks of a tree: what they show, how many there are, and that they can be left out.
use Rattle.std.proofs.Common.{◌≡◌, ℕ, ◌+◌, ℤ, pos, cond, true, false, List, [], ◌∷◌, ◌++◌, length, refl, sym, ap, ap₂, ◌∙◌, subst, arith, length-append, Option, Some, None}
use Rattle.std.specs.Prelude.{unsigned_abs, map}
use Rattle.std.proofs.lemmas.Int.{ints}
use Rattle.std.proofs.lemmas.List.Sums.{sum_by-cons, sum_by-append}
use Rattle.mill_model.specs.declared.ask.Ask.{Ask}
use Rattle.mill_model.specs.declared.ask.Ask.TheVariants.{Pair, Put}
use Rattle.mill_model.specs.declared.steps.Step.{Step}
use Rattle.mill_model.specs.declared.mark.Mark.{Mark}
use Rattle.mill_model.specs.declared.mark.Mark.TheVariants as marks
use Rattle.mill_model.specs.declared.limits.Limits.{Limits}
use Rattle.mill_model.specs.Mill.{Mill}
use Rattle.mill_model.specs.Prices.{Prices, Refutes}
use Rattle.mill_model.specs.Decisions.{Decision}
use Rattle.mill_model.specs.Limits.{AtMost, AreSmaller}
use Rattle.mill_model.specs.Covers.{Part, times, IsCover}
use Rattle.mill_model.specs.Shares.{Shown, part_of, IsShown}
use Rattle.mill_model.specs.Trees.{Tree, Unmarked, IsTree, EverySplit, step_of, preorder, marks_of, RefutingTree, IsRefutation}
use Rattle.mill_model.specs.Trees.Tree.{End, Split}
use Rattle.mill_model.specs.Marks.{MarkedSteps, is_question, question_count, HasOneMarkEach, IsRight, HasRightMarks, IsMarkedRefutation, AreAllPlain}
use Rattle.mill_model.proofs.Signed.{mul_le}
use Rattle.mill_model.proofs.Duality.{no_cover_and_prices}

-- ---- covers

-- a cover within limits is one within greater limits
pub cover_greater : (m : Mill) (limits greater : Limits) (decisions : List Decision) (d : ℕ) (parts : List Part) → AreSmaller limits greater → IsCover m limits decisions d parts → IsCover m greater decisions d parts
cover_greater m limits greater decisions d parts h c = record {
  denominator = c.denominator;
  legal = c.legal;
  orders = c.orders;
  yard = c.yard;
  loss = within _ limits.loss greater.loss h.loss c.loss;
  count = within _ limits.count greater.count h.count c.count;
}
  where
    within : (x : ℕ) (a b : Option ℤ) → AtMost a b → AtMost (Some (pos x)) (times d a) → AtMost (Some (pos x)) (times d b)
    within x a None h w = tt
    within x None (Some b) h w = absurd h
    within x (Some a) (Some b) h w = omega (arith, ints, mul_le (pos d) a b (omega (arith, ints)) h)

-- where a cover is shown, no prices refute
pub no_prices_where_shown : (m : Mill) (limits : Limits) (decisions : List Decision) (shown : Shown) (prices : Prices) → IsShown m limits decisions shown → Refutes m limits decisions prices → ⊥
no_prices_where_shown m limits decisions shown prices h r = no_cover_and_prices m limits decisions prices (unsigned_abs shown.d) (map part_of shown.shares) r h.covers

-- ---- splits

-- the rule of the splits may be weakened
pub splits_weaker : {M E : Type 0} (H K : M → Ask → List Decision → Type 0) → ((mark : M) (ask : Ask) (decisions : List Decision) → H mark ask decisions → K mark ask decisions) → (t : Tree M E) (decisions : List Decision) → EverySplit H t decisions → EverySplit K t decisions
splits_weaker H K f (End e) decisions h = tt
splits_weaker H K f (Split mark ask if_yes if_no) decisions h =
    (f mark ask decisions h.0, splits_weaker H K f if_yes ((ask, true) ∷ decisions) h.1, splits_weaker H K f if_no ((ask, false) ∷ decisions) h.2)

excluded : (m : Mill) (limits : Limits) (x : Mark) (decisions : List Decision) → IsRight m limits x decisions → (shown : Shown) (prices : Prices) → x ≡ marks.Spread shown → Refutes m limits decisions prices → ⊥
excluded m limits x decisions right shown prices e r = no_prices_where_shown m limits decisions shown prices (subst (λ y. IsRight m limits y decisions) e right) r

pub shown_excludes_prices : (m : Mill) (limits : Limits) (decisions : List Decision) (s : MarkedSteps) (refutation : IsMarkedRefutation m limits decisions s) →
    EverySplit (λ x _ above. (shown : Shown) (prices : Prices) → x ≡ marks.Spread shown → Refutes m limits above prices → ⊥) refutation.tree decisions
shown_excludes_prices m limits decisions s refutation =
    splits_weaker (λ x _ above. IsRight m limits x above) (λ x _ above. (shown : Shown) (prices : Prices) → x ≡ marks.Spread shown → Refutes m limits above prices → ⊥)
    (λ x ask above right. excluded m limits x above right) refutation.tree decisions refutation.right

-- ---- a tree without its marks

unmarked : {M E : Type 0} → Tree M E → Unmarked E
unmarked (End e) = End e
unmarked (Split mark ask if_yes if_no) = Split tt ask (unmarked if_yes) (unmarked if_no)

unmarked_preorder : {M : Type 0} (t : Tree M Prices) → preorder t ≡ preorder (unmarked t)
unfolding unmarked
unmarked_preorder (End p) = refl
unmarked_preorder (Split mark ask if_yes if_no) = ap₂ (λ (xs ys : List Step). step_of ask ∷ (xs ++ ys)) (unmarked_preorder if_yes) (unmarked_preorder if_no)

unmarked_tree : {M E : Type 0} (m : Mill) (Holds : E → List Decision → Type 0) (t : Tree M E) (decisions : List Decision) → IsTree m Holds t decisions → IsTree m Holds (unmarked t) decisions
unfolding unmarked
unmarked_tree m Holds (End e) decisions tree = tree
unmarked_tree m Holds (Split mark ask if_yes if_no) decisions tree =
    (tree.0, tree.1, unmarked_tree m Holds if_yes ((ask, true) ∷ decisions) tree.2, unmarked_tree m Holds if_no ((ask, false) ∷ decisions) tree.3)

-- the steps of any tree that refutes are a refutation
pub refutation_of : {M : Type 0} (m : Mill) (limits : Limits) (t : Tree M Prices) (decisions : List Decision) → RefutingTree m limits t decisions → IsRefutation m limits decisions (preorder t)
refutation_of m limits t decisions refutes = record {
  tree = unmarked t;
  steps_are = unmarked_preorder t;
  refutes = unmarked_tree m (λ p above. Refutes m limits above p) t decisions refutes;
}

-- a marked tree's steps are a refutation
pub marked_refutation : (m : Mill) (limits : Limits) (decisions : List Decision) (s : MarkedSteps) → IsMarkedRefutation m limits decisions s → IsRefutation m limits decisions s.steps
marked_refutation m limits decisions s h = subst (λ steps. IsRefutation m limits decisions steps) (sym h.steps_are) (refutation_of m limits h.tree decisions h.refutes)

-- ---- as many marks as questions

question_cons : (ask : Ask) (steps : List Step) → question_count (step_of ask ∷ steps) ≡ 1 + question_count steps
question_cons (Pair i j) steps = sum_by-cons (λ x. cond (is_question x) 1 0) (step_of (Pair i j)) steps
question_cons (Put o s) steps = sum_by-cons (λ x. cond (is_question x) 1 0) (step_of (Put o s)) steps

pub question_count-append : (xs ys : List Step) → question_count (xs ++ ys) ≡ question_count xs + question_count ys
question_count-append xs ys = sum_by-append (λ x. cond (is_question x) 1 0) xs ys

-- a tree has as many marks as questions among its steps
pub length-marks_of : {M : Type 0} (t : Tree M Prices) → length (marks_of t) ≡ question_count (preorder t)
length-marks_of (End p) = refl
length-marks_of (Split mark ask if_yes if_no) =
    omega (arith, question_cons ask (preorder if_yes ++ preorder if_no), question_count-append (preorder if_yes) (preorder if_no), length-append (marks_of if_yes) (marks_of if_no), length-marks_of if_yes, length-marks_of if_no)

pub one_mark_each : (m : Mill) (limits : Limits) (decisions : List Decision) (s : MarkedSteps) → IsMarkedRefutation m limits decisions s → HasOneMarkEach s
one_mark_each m limits decisions s h = ap length h.marks_are ∙ length-marks_of h.tree ∙ ap question_count (sym h.steps_are)

-- ---- plain marks

-- the tree with plain marks
pub plainly : {E : Type 0} → Unmarked E → Tree Mark E
plainly (End e) = End e
plainly (Split none ask if_yes if_no) = Split marks.Plain ask (plainly if_yes) (plainly if_no)

plain_preorder : (t : Unmarked Prices) → preorder (plainly t) ≡ preorder t
unfolding plainly
plain_preorder (End p) = refl
plain_preorder (Split mark ask if_yes if_no) = ap₂ (λ (xs ys : List Step). step_of ask ∷ (xs ++ ys)) (plain_preorder if_yes) (plain_preorder if_no)

plain_tree : {E : Type 0} (m : Mill) (Holds : E → List Decision → Type 0) (t : Unmarked E) (decisions : List Decision) → IsTree m Holds t decisions → IsTree m Holds (plainly t) decisions
unfolding plainly
plain_tree m Holds (End e) decisions tree = tree
plain_tree m Holds (Split mark ask if_yes if_no) decisions tree =
    (tree.0, tree.1, plain_tree m Holds if_yes ((ask, true) ∷ decisions) tree.2, plain_tree m Holds if_no ((ask, false) ∷ decisions) tree.3)

plain_marks : {E : Type 0} (t : Unmarked E) → AreAllPlain (marks_of (plainly t))
unfolding plainly
plain_marks (End e) = tt
plain_marks (Split mark ask if_yes if_no) = (refl, all_append (marks_of (plainly if_yes)) (marks_of (plainly if_no)) (plain_marks if_yes) (plain_marks if_no))
  where
    all_append : (xs ys : List Mark) → AreAllPlain xs → AreAllPlain ys → AreAllPlain (xs ++ ys)
    all_append [] ys h k = k
    all_append (x ∷ xs) ys h k = (h.0, all_append xs ys h.1 k)

-- plain marks are right for any limits
pub plain_right : {E : Type 0} (m : Mill) (limits : Limits) (t : Unmarked E) (decisions : List Decision) → HasRightMarks m limits (plainly t) decisions
unfolding plainly
plain_right m limits (End e) decisions = tt
plain_right m limits (Split mark ask if_yes if_no) decisions = (tt, plain_right m limits if_yes ((ask, true) ∷ decisions), plain_right m limits if_no ((ask, false) ∷ decisions))

same_plain : (xs ys : List Mark) → length xs ≡ length ys → AreAllPlain xs → AreAllPlain ys → xs ≡ ys
same_plain [] [] e h k = refl
same_plain [] (y ∷ ys) e h k = absurd (omega (arith, e))
same_plain (x ∷ xs) [] e h k = absurd (omega (arith, e))
same_plain (x ∷ xs) (y ∷ ys) e h k = ap₂ (λ (z : Mark) (zs : List Mark). z ∷ zs) (h.0 ∙ sym k.0) (same_plain xs ys (omega (arith, e)) h.1 k.1)

-- with plain marks the steps of a tree are those of a marked tree
pub plain_refutation : (m : Mill) (limits : Limits) (decisions : List Decision) (s : MarkedSteps) → HasOneMarkEach s → AreAllPlain s.marks → IsRefutation m limits decisions s.steps → IsMarkedRefutation m limits decisions s
plain_refutation m limits decisions s each plain h = record {
  tree = plainly h.tree;
  steps_are = h.steps_are ∙ sym (plain_preorder h.tree);
  marks_are = same_plain s.marks (marks_of (plainly h.tree)) (each ∙ ap question_count (h.steps_are ∙ sym (plain_preorder h.tree)) ∙ sym (length-marks_of (plainly h.tree))) plain (plain_marks h.tree);
  refutes = plain_tree m (λ p above. Refutes m limits above p) h.tree decisions h.refutes;
  right = plain_right m limits h.tree decisions;
}
