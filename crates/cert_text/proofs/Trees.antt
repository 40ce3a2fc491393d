-- Lines begin with one tree at most, finished or not.
use Rattle.std.proofs.Common.{◌≡◌, true, false, List, [], ◌∷◌, ◌++◌, map, Option, Some, refl, sym, ap, ap₂, ◌∙◌, subst, append_assoc}
use Rattle.std.specs.List.{AllByRecursion}
use Rattle.std.proofs.lemmas.List.{map-append}
use Rattle.std.proofs.lemmas.Bool.{both_ways}
use Rattle.mill_model.proofs.Preorder.{heads, tails}
use Rattle.mill_model.specs.declared.ask.Ask.{Ask}
use Rattle.mill_model.specs.declared.mark.Mark.{Mark}
use Rattle.mill_model.specs.declared.mark.Mark.TheVariants.{Spread, Bare, Plain}
use Rattle.mill_model.specs.declared.limits.Limits.{Limits}
use Rattle.mill_model.specs.declared.version.Version.{Version}
use Rattle.mill_model.specs.declared.version.Version.TheVariants.{One, Two}
use Rattle.mill_model.specs.Mill.{Mill}
use Rattle.mill_model.specs.Decisions.{Decision}
use Rattle.mill_model.specs.Prices.{Prices}
use Rattle.mill_model.specs.Shares.{Share, Shown}
use Rattle.mill_model.specs.Trees.{Tree, Unmarked, RefutingTree, IsOpenTree, preorder, marks_of, outline}
use Rattle.mill_model.specs.Trees.Tree.{End, Split}
use Rattle.mill_model.specs.Marks.{MarkedSteps, IsMarkedRefutation}
use Rattle.cert_view.specs.declared.line.Line.{Line}
use Rattle.cert_view.specs.declared.line.Line.TheVariants as lines
use Rattle.cert_text.specs.Certificates.{AreMarksOf}
use Rattle.cert_text.specs.Lines.{ask_line, leaf_line, share_line, mark_lines, marked_lines, steps_lines, tree_lines, outline_line}
use Rattle.cert_text.proofs.Listing.{trees_are_listed}
use Rattle.cert_text.proofs.Said.{same_ask, same_leaf, same_share, is_share, share_is, ask_no_share, ask_no_leaf, ask_no_end}

-- both sides grouped to the right
regrouped : (a b c d e f : List Line) → (a ++ b) ++ c ≡ (d ++ e) ++ f → a ++ (b ++ c) ≡ d ++ (e ++ f)
regrouped a b c d e f h = sym (append_assoc a b c) ∙ h ∙ append_assoc d e f

-- ---- a mark and its question

one_cover : (xs ys : List Share) (a b : Ask) (rest more : List Line) → map share_line xs ++ (ask_line a ∷ rest) ≡ map share_line ys ++ (ask_line b ∷ more) → (xs ≡ ys) × (a ≡ b) × (rest ≡ more)
one_cover [] [] a b rest more e = (refl, same_ask a b (heads (ask_line a) (ask_line b) rest more e), tails (ask_line a) (ask_line b) rest more e)
one_cover [] (y ∷ ys) a b rest more e =
    absurd (both_ways (is_share (ask_line a)) (ask_no_share a) (ap is_share (heads (ask_line a) (share_line y) rest (map share_line ys ++ (ask_line b ∷ more)) e) ∙ share_is y))
one_cover (x ∷ xs) [] a b rest more e =
    absurd (both_ways (is_share (ask_line b)) (ask_no_share b) (ap is_share (sym (heads (share_line x) (ask_line b) (map share_line xs ++ (ask_line a ∷ rest)) more e)) ∙ share_is x))
one_cover (x ∷ xs) (y ∷ ys) a b rest more e =
    let first : x ≡ y = same_share x y (heads (share_line x) (share_line y) (map share_line xs ++ (ask_line a ∷ rest)) (map share_line ys ++ (ask_line b ∷ more)) e) in
    let others = one_cover xs ys a b rest more (tails (share_line x) (share_line y) (map share_line xs ++ (ask_line a ∷ rest)) (map share_line ys ++ (ask_line b ∷ more)) e) in
    (ap₂ (λ (s : Share) (ss : List Share). s ∷ ss) first others.0, others.1, others.2)

same_spread : (x y : Shown) (a b : Ask) (rest more : List Line) → mark_lines Two (Spread x) ++ (ask_line a ∷ rest) ≡ mark_lines Two (Spread y) ++ (ask_line b ∷ more) → (Spread x ≡ Spread y) × (a ≡ b) × (rest ≡ more)
same_spread x y a b rest more e = (ap Spread shown, others.1, others.2)
  where
    others : (x.shares ≡ y.shares) × (a ≡ b) × (rest ≡ more)
    others = one_cover x.shares y.shares a b rest more (tails (lines.Spread (x.d ∷ [])) (lines.Spread (y.d ∷ [])) (map share_line x.shares ++ (ask_line a ∷ rest)) (map share_line y.shares ++ (ask_line b ∷ more)) e)

    first : lines.Spread (x.d ∷ []) ≡ lines.Spread (y.d ∷ [])
    first = heads (lines.Spread (x.d ∷ [])) (lines.Spread (y.d ∷ [])) (map share_line x.shares ++ (ask_line a ∷ rest)) (map share_line y.shares ++ (ask_line b ∷ more)) e

    denominator : x.d ≡ y.d
    denominator = cc

    shown : x ≡ y
    shown = λ i. record { d = denominator i; shares = others.0 i }

-- marks of one line differ by it
same_bare : (line : Line) (a b : Ask) (rest more : List Line) → line ∷ (ask_line a ∷ rest) ≡ line ∷ (ask_line b ∷ more) → (a ≡ b) × (rest ≡ more)
same_bare line a b rest more e =
    let after : ask_line a ∷ rest ≡ ask_line b ∷ more = tails line line (ask_line a ∷ rest) (ask_line b ∷ more) e in
    (same_ask a b (heads (ask_line a) (ask_line b) rest more after), tails (ask_line a) (ask_line b) rest more after)

one_mark : (x y : Mark) (a b : Ask) (rest more : List Line) → mark_lines Two x ++ (ask_line a ∷ rest) ≡ mark_lines Two y ++ (ask_line b ∷ more) → (x ≡ y) × (a ≡ b) × (rest ≡ more)
one_mark (Spread x) (Spread y) a b rest more e = same_spread x y a b rest more e
one_mark (Spread x) Bare a b rest more e = cc
one_mark (Spread x) Plain a b rest more e = cc
one_mark Bare (Spread y) a b rest more e = cc
one_mark Bare Bare a b rest more e = let same = same_bare lines.Bare a b rest more e in (refl, same.0, same.1)
one_mark Bare Plain a b rest more e = cc
one_mark Plain (Spread y) a b rest more e = cc
one_mark Plain Bare a b rest more e = cc
one_mark Plain Plain a b rest more e = let same = same_bare lines.Plain a b rest more e in (refl, same.0, same.1)

one_split : (version : Version) (x y : Mark) (a b : Ask) (rest more : List Line) → AreMarksOf version (x ∷ []) → AreMarksOf version (y ∷ []) → mark_lines version x ++ (ask_line a ∷ rest) ≡ mark_lines version y ++ (ask_line b ∷ more) → (x ≡ y) × (a ≡ b) × (rest ≡ more)
one_split One x y a b rest more first second e = (first.0 ∙ sym second.0, same_ask a b (heads (ask_line a) (ask_line b) rest more e), tails (ask_line a) (ask_line b) rest more e)
one_split Two x y a b rest more first second e = one_mark x y a b rest more e

leaf_or_split : (version : Version) (p : Prices) (mark : Mark) (a : Ask) (rest more : List Line) → leaf_line p ∷ rest ≡ mark_lines version mark ++ (ask_line a ∷ more) → ⊥
leaf_or_split One p mark a rest more e = ask_no_leaf a p (sym (heads (leaf_line p) (ask_line a) rest more e))
leaf_or_split Two p (Spread x) a rest more e = cc
leaf_or_split Two p Bare a rest more e = cc
leaf_or_split Two p Plain a rest more e = cc

-- ---- finished trees

marks_split : (version : Version) (mark : Mark) (xs ys : List Mark) → AreMarksOf version (mark ∷ (xs ++ ys)) → AreMarksOf version (mark ∷ []) × AreMarksOf version xs × AreMarksOf version ys
marks_split Two mark xs ys h = (tt, tt, tt)
marks_split One mark xs ys h = let others = go xs h.1 in ((h.0, tt), others.0, others.1)
  where
    go : (zs : List Mark) → AllByRecursion (λ x. x ≡ Plain) (zs ++ ys) → AllByRecursion (λ x. x ≡ Plain) zs × AllByRecursion (λ x. x ≡ Plain) ys
    go [] all = (tt, all)
    go (z ∷ zs) all = let others = go zs all.1 in ((all.0, others.0), others.1)

module _ (m : Mill) (version : Version) (limits other : Limits) where
  one_tree : (t u : Tree Mark Prices) (path away : List Decision) (xs ys : List Line) → RefutingTree m limits t path → RefutingTree m other u away → AreMarksOf version (marks_of t) → AreMarksOf version (marks_of u) → marked_lines version t ++ xs ≡ marked_lines version u ++ ys → (t ≡ u) × (xs ≡ ys)
  one_tree (End p) (End q) path away xs ys r s v w e =
      (ap End (same_leaf p q (r.pi_length ∙ sym s.pi_length) (heads (leaf_line p) (leaf_line q) xs ys e)), tails (leaf_line p) (leaf_line q) xs ys e)
  one_tree (End p) (Split mark b z k) path away xs ys r s v w e =
      absurd (leaf_or_split version p mark b xs ((marked_lines version z ++ marked_lines version k) ++ ys) (e ∙ append_assoc (mark_lines version mark) (ask_line b ∷ (marked_lines version z ++ marked_lines version k)) ys))
  one_tree (Split mark a y n) (End q) path away xs ys r s v w e =
      absurd (leaf_or_split version q mark a ys ((marked_lines version y ++ marked_lines version n) ++ xs) (sym e ∙ append_assoc (mark_lines version mark) (ask_line a ∷ (marked_lines version y ++ marked_lines version n)) xs))
  one_tree (Split mark a y n) (Split mark2 b z k) path away xs ys r s v w e =
      let here = marks_split version mark (marks_of y) (marks_of n) v in
      let there = marks_split version mark2 (marks_of z) (marks_of k) w in
      let split = one_split version mark mark2 a b ((marked_lines version y ++ marked_lines version n) ++ xs) ((marked_lines version z ++ marked_lines version k) ++ ys) here.0 there.0
      (sym (append_assoc (mark_lines version mark) (ask_line a ∷ (marked_lines version y ++ marked_lines version n)) xs) ∙ e ∙ append_assoc (mark_lines version mark2) (ask_line b ∷ (marked_lines version z ++ marked_lines version k)) ys) in
      let first : (y ≡ z) × (marked_lines version n ++ xs ≡ marked_lines version k ++ ys) = one_tree y z ((a, true) ∷ path) ((b, true) ∷ away) (marked_lines version n ++ xs) (marked_lines version k ++ ys) r.2 s.2 here.1 there.1 (regrouped (marked_lines version y) (marked_lines version n) xs (marked_lines version z) (marked_lines version k) ys split.2) in
      let second : (n ≡ k) × (xs ≡ ys) = one_tree n k ((a, false) ∷ path) ((b, false) ∷ away) xs ys r.3 s.3 here.2 there.2 first.1 in
      (λ i. Split (split.0 i) (split.1 i) (first.0 i) (second.0 i), second.1)

pub tree_is : (m : Mill) (version : Version) (limits : Limits) (s : MarkedSteps) (r : IsMarkedRefutation m limits [] s) → tree_lines version s ≡ marked_lines version r.tree
tree_is m version limits s r = ap₂ (steps_lines version) r.steps_are r.marks_are ∙ trees_are_listed version r.tree

-- steps and marks of a tree are known by their lines
pub one_refutation : (m : Mill) (version : Version) (limits other : Limits) (s z : MarkedSteps) (xs ys : List Line) → IsMarkedRefutation m limits [] s → IsMarkedRefutation m other [] z → AreMarksOf version s.marks → AreMarksOf version z.marks → tree_lines version s ++ xs ≡ tree_lines version z ++ ys → (s ≡ z) × (xs ≡ ys)
one_refutation m version limits other s z xs ys r q v w e = (same, found.1)
  where
    found : (r.tree ≡ q.tree) × (xs ≡ ys)
    found =
        one_tree m version limits other r.tree q.tree [] [] xs ys r.refutes q.refutes (subst (AreMarksOf version) r.marks_are v) (subst (AreMarksOf version) q.marks_are w)
        (ap (λ zs. zs ++ xs) (sym (tree_is m version limits s r)) ∙ e ∙ ap (λ zs. zs ++ ys) (tree_is m version other z q))

    steps : s.steps ≡ z.steps
    steps = r.steps_are ∙ ap preorder found.0 ∙ sym q.steps_are

    marks : s.marks ≡ z.marks
    marks = r.marks_are ∙ ap marks_of found.0 ∙ sym q.marks_are

    same : s ≡ z
    same = λ i. record { steps = steps i; marks = marks i }

-- ---- unfinished trees

open_lines : {E : Type 0} → Unmarked E → List Line
open_lines t = map outline_line (outline t)

-- the lines of a question and its two trees
asked_lines : (ask : Ask) (y n : Unmarked (Unit {0})) (xs : List Line) → open_lines (Split tt ask y n) ++ xs ≡ ask_line ask ∷ (open_lines y ++ (open_lines n ++ xs))
unfolding open_lines
asked_lines ask y n xs =
    ap (λ zs. ask_line ask ∷ (zs ++ xs)) (map-append outline_line (outline y) (outline n)) ∙ ap (λ zs. ask_line ask ∷ zs) (append_assoc (open_lines y) (open_lines n) xs)

end_lines : (e : Unit {0}) (xs : List Line) → open_lines (End e) ++ xs ≡ lines.Open ∷ xs
unfolding open_lines
end_lines e xs = refl

-- an outline is known by its lines
one_outline_tree : (t u : Unmarked (Unit {0})) (xs ys : List Line) → open_lines t ++ xs ≡ open_lines u ++ ys → (outline t ≡ outline u) × (xs ≡ ys)
one_outline_tree (End d) (End e) xs ys h = (refl, tails lines.Open lines.Open xs ys (sym (end_lines d xs) ∙ h ∙ end_lines e ys))
one_outline_tree (End d) (Split mark b z k) xs ys h =
    absurd (ask_no_end b (sym (heads lines.Open (ask_line b) xs (open_lines z ++ (open_lines k ++ ys)) (sym (end_lines d xs) ∙ h ∙ asked_lines b z k ys))))
one_outline_tree (Split mark a y n) (End e) xs ys h =
    absurd (ask_no_end a (heads (ask_line a) lines.Open (open_lines y ++ (open_lines n ++ xs)) ys (sym (asked_lines a y n xs) ∙ h ∙ end_lines e ys)))
one_outline_tree (Split mark a y n) (Split mark2 b z k) xs ys h =
    let whole : ask_line a ∷ (open_lines y ++ (open_lines n ++ xs)) ≡ ask_line b ∷ (open_lines z ++ (open_lines k ++ ys)) = sym (asked_lines a y n xs) ∙ h ∙ asked_lines b z k ys in
    let ask : a ≡ b = same_ask a b (heads (ask_line a) (ask_line b) (open_lines y ++ (open_lines n ++ xs)) (open_lines z ++ (open_lines k ++ ys)) whole) in
    let first = one_outline_tree y z (open_lines n ++ xs) (open_lines k ++ ys) (tails (ask_line a) (ask_line b) (open_lines y ++ (open_lines n ++ xs)) (open_lines z ++ (open_lines k ++ ys)) whole) in
    let second = one_outline_tree n k xs ys first.1 in
    (λ i. Some (ask i) ∷ (first.0 i ++ second.0 i), second.1)

pub one_outline : (m : Mill) (a b : List (Option Ask)) (xs ys : List Line) → IsOpenTree m [] a → IsOpenTree m [] b → map outline_line a ++ xs ≡ map outline_line b ++ ys → (a ≡ b) × (xs ≡ ys)
unfolding open_lines
one_outline m a b xs ys t u e =
    let found = one_outline_tree t.tree u.tree xs ys (ap (λ zs. map outline_line zs ++ xs) (sym t.steps_are) ∙ e ∙ ap (λ zs. map outline_line zs ++ ys) u.steps_are) in
    (t.steps_are ∙ found.0 ∙ sym u.steps_are, found.1)
