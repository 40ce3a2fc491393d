-- Lines begin with one good certificate at most.
use Rattle.std.proofs.Common.{◌≡◌, List, [], ◌∷◌, ◌++◌, map, Option, Some, None, refl, sym, ap, ap₂, ◌∙◌, subst, append_assoc}
use Rattle.std.specs.List.{flat_map, AllByRecursion}
use Rattle.mill_model.proofs.Preorder.{heads, tails}
use Rattle.mill_model.specs.declared.mark.Mark.{Mark}
use Rattle.mill_model.specs.declared.mark.Mark.TheVariants.{Spread, Bare, Plain}
use Rattle.mill_model.specs.declared.limits.Limits.{Limits}
use Rattle.mill_model.specs.declared.sums.Sums.{Sums}
use Rattle.mill_model.specs.declared.version.Version.{Version}
use Rattle.mill_model.specs.declared.version.Version.TheVariants.{One, Two}
use Rattle.mill_model.specs.Mill.{Mill}
use Rattle.mill_model.specs.Prices.{Prices}
use Rattle.mill_model.specs.Trees.{Tree, IsOpenTree}
use Rattle.mill_model.specs.Trees.Tree.{End, Split}
use Rattle.mill_model.specs.Marks.{MarkedSteps, IsMarkedRefutation}
use Rattle.mill_model.specs.Fronts.{Point, IsGoodPoint, IsGoodFrom}
use Rattle.cert_view.specs.declared.line.Line.{Line}
use Rattle.cert_view.specs.declared.line.Line.TheVariants as lines
use Rattle.cert_text.specs.Certificates.{Ending, Certificate, AreMarksOf, IsGood, IsGoodEnded, last_tree}
use Rattle.cert_text.specs.Certificates.Ending.{Whole, Cut}
use Rattle.cert_text.specs.Lines.{header_line, ask_line, leaf_line, marked_lines, tree_lines, sums_line, slab_line, columns_of, point_lines, ending_lines, certificate_lines}
use Rattle.cert_text.proofs.Said.{same_version, same_sums, ask_no_slab, leaf_no_slab, bare_no_slab, plain_no_slab, spread_no_slab}
use Rattle.cert_text.proofs.Trees.{tree_is, one_refutation, one_outline}
use Rattle.cert_text.proofs.Plans.{PlanIsOver, one_list, same_plan}

-- ---- points

marked_over : (version : Version) (t : Tree Mark Prices) (xs : List Line) → PlanIsOver (marked_lines version t ++ xs)
marked_over version (End p) xs = (leaf_line p, xs, refl, leaf_no_slab p)
marked_over One (Split mark ask y n) xs = (ask_line ask, (marked_lines One y ++ marked_lines One n) ++ xs, refl, ask_no_slab ask)
marked_over Two (Split (Spread shown) ask y n) xs = (lines.Spread (shown.d ∷ []), _, refl, spread_no_slab (shown.d ∷ []))
marked_over Two (Split Bare ask y n) xs = (lines.Bare, _, refl, bare_no_slab)
marked_over Two (Split Plain ask y n) xs = (lines.Plain, _, refl, plain_no_slab)

over : (m : Mill) (version : Version) (limits : Limits) (s : MarkedSteps) (xs : List Line) → IsMarkedRefutation m limits [] s → PlanIsOver (tree_lines version s ++ xs)
over m version limits s xs r = subst (λ ys. PlanIsOver (ys ++ xs)) (sym (tree_is m version limits s r)) (marked_over version r.tree xs)

one_point : (m : Mill) (version : Version) (before other : Option Sums) (p q : Point) (xs ys : List Line) → IsGoodPoint m before p → IsGoodPoint m other q → AreMarksOf version p.steps.marks → AreMarksOf version q.steps.marks → point_lines version p ++ xs ≡ point_lines version q ++ ys → (p ≡ q) × (xs ≡ ys)
one_point m version before other p q xs ys g h v w e = (same, tree.1)
  where
    sums : p.sums ≡ q.sums
    sums = same_sums p.sums q.sums (heads (sums_line p.sums) (sums_line q.sums) _ _ e)

    rest : map slab_line (columns_of p.plan) ++ (tree_lines version p.steps ++ xs) ≡ map slab_line (columns_of q.plan) ++ (tree_lines version q.steps ++ ys)
    rest = sym (append_assoc (map slab_line (columns_of p.plan)) (tree_lines version p.steps) xs) ∙ tails (sums_line p.sums) (sums_line q.sums) _ _ e ∙ append_assoc (map slab_line (columns_of q.plan)) (tree_lines version q.steps) ys

    slabs : (columns_of p.plan ≡ columns_of q.plan) × (tree_lines version p.steps ++ xs ≡ tree_lines version q.steps ++ ys)
    slabs = one_list (columns_of p.plan) (columns_of q.plan) (tree_lines version p.steps ++ xs) (tree_lines version q.steps ++ ys) (over m version _ p.steps xs g.steps) (over m version _ q.steps ys h.steps) rest

    tree : (p.steps ≡ q.steps) × (xs ≡ ys)
    tree = one_refutation m version _ _ p.steps q.steps xs ys g.steps h.steps v w slabs.1

    plan : p.plan ≡ q.plan
    plan = same_plan m p.plan q.plan g.legal h.legal slabs.0

    same : p ≡ q
    same = λ i. record { sums = sums i; plan = plan i; steps = tree.0 i }

-- ---- endings

EndsWell : Mill → Ending → Type 0
EndsWell m (Whole last) = (limits : Limits) × IsMarkedRefutation m limits [] last
EndsWell m (Cut outline) = IsOpenTree m [] outline

done_or_cut : (xs ys : List Line) → lines.Done ∷ xs ≡ lines.Cut ∷ ys → ⊥
done_or_cut xs ys e = cc

one_ending : (m : Mill) (version : Version) (a b : Ending) (xs ys : List Line) → EndsWell m a → EndsWell m b → AllByRecursion (λ (s : MarkedSteps). AreMarksOf version s.marks) (last_tree a) → AllByRecursion (λ (s : MarkedSteps). AreMarksOf version s.marks) (last_tree b) → ending_lines version a ++ xs ≡ ending_lines version b ++ ys → (a ≡ b) × (xs ≡ ys)
unfolding EndsWell
one_ending m version (Whole s) (Whole z) xs ys g h v w e =
    let found = one_refutation m version g.0 h.0 s z xs ys g.1 h.1 v.0 w.0 (tails lines.Done lines.Done (tree_lines version s ++ xs) (tree_lines version z ++ ys) e) in
    (ap Whole found.0, found.1)
one_ending m version (Whole s) (Cut o) xs ys g h v w e = absurd (done_or_cut _ _ e)
one_ending m version (Cut o) (Whole z) xs ys g h v w e = absurd (done_or_cut _ _ (sym e))
one_ending m version (Cut o) (Cut u) xs ys g h v w e =
    let found = one_outline m o u xs ys g h (tails lines.Cut lines.Cut _ _ e) in
    (ap Cut found.0, found.1)

-- an ending's first line is no point's
ends : (version : Version) (a : Ending) (p : Point) (xs ys : List Line) → ending_lines version a ++ xs ≡ point_lines version p ++ ys → ⊥
ends version (Whole s) p xs ys e = cc
ends version (Cut o) p xs ys e = cc

-- ---- certificates

-- points and an ending
body_lines : Version → List Point → Ending → List Line → List Line
body_lines version points ending xs = (flat_map (point_lines version) points ++ ending_lines version ending) ++ xs

body_more : (version : Version) (p : Point) (ps : List Point) (a : Ending) (xs : List Line) → body_lines version (p ∷ ps) a xs ≡ point_lines version p ++ body_lines version ps a xs
unfolding body_lines
body_more version p ps a xs =
    ap (λ ys. ys ++ xs) (append_assoc (point_lines version p) (flat_map (point_lines version) ps) (ending_lines version a)) ∙ append_assoc (point_lines version p) (flat_map (point_lines version) ps ++ ending_lines version a) xs

HaveMarks : Version → List Point → Ending → Type 0
HaveMarks version points ending = AllByRecursion (λ (s : MarkedSteps). AreMarksOf version s.marks) (map (λ (p : Point). p.steps) points ++ last_tree ending)

one_body : (m : Mill) (version : Version) (before other : Option Sums) (ps qs : List Point) (a b : Ending) (xs ys : List Line) → IsGoodFrom m before ps → IsGoodFrom m other qs → EndsWell m a → EndsWell m b → HaveMarks version ps a → HaveMarks version qs b → body_lines version ps a xs ≡ body_lines version qs b ys → (ps ≡ qs) × (a ≡ b) × (xs ≡ ys)
unfolding HaveMarks body_lines
one_body m version before other [] [] a b xs ys g h c d v w e = let found = one_ending m version a b xs ys c d v w e in (refl, found.0, found.1)
one_body m version before other [] (q ∷ qs) a b xs ys g h c d v w e = absurd (ends version a q xs (body_lines version qs b ys) (e ∙ body_more version q qs b ys))
one_body m version before other (p ∷ ps) [] a b xs ys g h c d v w e = absurd (ends version b p ys (body_lines version ps a xs) (sym e ∙ body_more version p ps a xs))
one_body m version before other (p ∷ ps) (q ∷ qs) a b xs ys g h c d v w e =
    let first = one_point m version before other p q (body_lines version ps a xs) (body_lines version qs b ys) g.0 h.0 v.0 w.0 (sym (body_more version p ps a xs) ∙ e ∙ body_more version q qs b ys) in
    let rest = one_body m version (Some p.sums) (Some q.sums) ps qs a b xs ys g.1 h.1 c d v.1 w.1 first.1 in
    (ap₂ (λ (x : Point) (zs : List Point). x ∷ zs) first.0 rest.0, rest.1, rest.2)

-- what is good of a certificate's parts
record Parts (m : Mill) (points : List Point) (ending : Ending) : Type 0 where
  head : IsGoodFrom m None points
  ends : EndsWell m ending

parts : (m : Mill) (points : List Point) (ending : Ending) → IsGoodEnded m points ending → Parts m points ending
unfolding EndsWell
parts m points (Whole last) good = record { head = good.head; ends = (_, good.rest) }
parts m points (Cut outline) good = record { head = good.head; ends = good.rest }

-- the lines of one good certificate are at the front at most
pub one_whole : (m : Mill) (c d : Certificate) (xs ys : List Line) → IsGood m c → IsGood m d → certificate_lines c ++ xs ≡ certificate_lines d ++ ys → (c ≡ d) × (xs ≡ ys)
unfolding HaveMarks body_lines
one_whole m c d xs ys g h e = (same, found.2)
  where
    version : c.version ≡ d.version
    version = same_version c.version d.version (heads (header_line c.version) (header_line d.version) _ _ e)

    bodies : body_lines c.version c.points c.ending xs ≡ body_lines c.version d.points d.ending ys
    bodies = tails (header_line c.version) (header_line d.version) _ _ e ∙ ap (λ v. body_lines v d.points d.ending ys) (sym version)

    found : (c.points ≡ d.points) × (c.ending ≡ d.ending) × (xs ≡ ys)
    found =
        one_body m c.version None None c.points d.points c.ending d.ending xs ys (parts m c.points c.ending g.ended).head (parts m d.points d.ending h.ended).head (parts m c.points c.ending g.ended).ends (parts m d.points d.ending h.ended).ends
        g.marks (subst (λ v. HaveMarks v d.points d.ending) (sym version) h.marks) bodies

    same : c ≡ d
    same = λ i. record { version = version i; points = found.0 i; ending = found.1 i }
