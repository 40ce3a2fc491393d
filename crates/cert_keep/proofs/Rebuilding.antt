-- The lines of a good certificate build it back.
use Rattle.std.proofs.Common.{◌≡◌, ℕ, suc, ◌+◌, ◌<◌, ◌≤◌, ℤ, pos, true, false, List, [], ◌∷◌, ◌++◌, map, length, take, drop, Option, Some, None, refl, sym, ap, ap₂, ◌∙◌, subst, arith, append_assoc, append-nil}
use Rattle.std.specs.List.{flat_map, AllByRecursion}
use Rattle.std.proofs.lemmas.List.{map-append}
use Rattle.std.proofs.lemmas.List.FromFn.{length-map-range_with_len}
use Rattle.std.proofs.lemmas.List.Elements.{All-from_get_or, recursion_from_All}
use Rattle.std.proofs.Math.Seq.{take-append_seam, drop-append_seam}
use Rattle.mill_model.specs.declared.ask.Ask.{Ask}
use Rattle.mill_model.specs.declared.ask.Ask.TheVariants.{Pair, Put}
use Rattle.mill_model.specs.declared.kind.Kind.{Kind}
use Rattle.mill_model.specs.declared.kind.Kind.TheVariants.{New, Old}
use Rattle.mill_model.specs.declared.limits.Limits.{Limits}
use Rattle.mill_model.specs.declared.mark.Mark.{Mark}
use Rattle.mill_model.specs.declared.mark.Mark.TheVariants as marks
use Rattle.mill_model.specs.declared.steps.Step.{Step}
use Rattle.mill_model.specs.declared.steps.Step.TheVariants as step
use Rattle.mill_model.specs.declared.sums.Sums.{Sums}
use Rattle.mill_model.specs.declared.version.Version.{Version}
use Rattle.mill_model.specs.declared.version.Version.TheVariants.{One, Two}
use Rattle.mill_model.specs.Mill.{Mill, IsInLimits}
use Rattle.mill_model.specs.Columns.{Column, Rises, IsInStock, IsLegalColumn}
use Rattle.mill_model.specs.Covers.{Part}
use Rattle.mill_model.specs.Decisions.{Decision, IsAsk, column_agrees}
use Rattle.mill_model.specs.Fronts.{Point, IsGoodPoint, IsGoodFrom}
use Rattle.mill_model.specs.Marks.{MarkedSteps, HasRightMarks, IsRight, IsMarkedRefutation}
use Rattle.mill_model.specs.Plans.{Plan, IsLegal, slab, sums_of}
use Rattle.mill_model.specs.Prices.{Prices, Refutes, prices_of}
use Rattle.mill_model.specs.Shares.{Share, part_of}
use Rattle.mill_model.specs.Trees.{Tree, Unmarked, IsTree, RefutingTree, preorder, marks_of, step_of, outline}
use Rattle.mill_model.specs.Trees.Tree.{End, Split}
use Rattle.mill_model.proofs.Slabs.{places_rise}
use Rattle.mill_model.proofs.Judging.{slabs_with_orders}
use Rattle.cert_view.specs.declared.line.Line.{Line}
use Rattle.cert_text.specs.Certificates.{Ending, IsGoodEnded, AreMarksOf, last_tree}
use Rattle.cert_text.specs.Certificates.Ending.{Whole, Cut}
use Rattle.cert_text.specs.Lines.{header_line, ask_line, leaf_line, share_line, share_line_on, mark_lines, tree_lines, marked_lines, outline_line, slab_line, slab_line_on, columns_of, point_lines, ending_lines}
use Rattle.cert_text.proofs.Trees.{tree_is}
use Rattle.cert_text.proofs.Plans.{nothing, column_at}
use Rattle.cert_rules.proofs.LeafLines.{numbers_of}
use Rattle.cert_rules.proofs.SumLines.{few_new, small_loss}
use Rattle.cert_keep.specs.Building.{Built, Current, seedling, nothing_built, empty_plan, add_slab, built_sums, closed, build, build_all}
use Rattle.cert_keep.specs.Rebuilt.{LinesBuildBack, built_of}
use Rattle.cert_keep.proofs.Slabbing.{index16_number, natural16_small, loss_small, orders16_rising, size_small, add_slabs, slabs_make_plan}

-- ---- lists

pub build_append : (n : ℕ) (b : Built) (xs ys : List Line) → build_all n b (xs ++ ys) ≡ build_all n (build_all n b xs) ys
build_append n b [] ys = refl
build_append n b (x ∷ xs) ys = build_append n (build n b x) xs ys

all_split : {X : Type 0} (P : X → Type 0) (xs ys : List X) → AllByRecursion P (xs ++ ys) → AllByRecursion P xs × AllByRecursion P ys
all_split P [] ys h = (tt, h)
all_split P (x ∷ xs) ys h = let more = all_split P xs ys h.1 in ((h.0, more.0), more.1)

marks_split : (version : Version) (xs ys : List Mark) → AreMarksOf version (xs ++ ys) → AreMarksOf version xs × AreMarksOf version ys
marks_split One xs ys h = all_split (λ x. x ≡ marks.Plain) xs ys h
marks_split Two xs ys h = (tt, tt)

-- the prices that their numbers are
prices_back : (n : ℕ) (p : Prices) → length p.pi ≡ n → prices_of n (numbers_of p) ≡ p
prices_back n p e =
    let two : 2 + n ≡ suc (suc n) = omega arith in
    let first : take n (p.pi ++ p.sigma) ≡ p.pi = subst (λ k. take k (p.pi ++ p.sigma) ≡ p.pi) e (take-append_seam p.pi p.sigma) in
    let second : drop n (p.pi ++ p.sigma) ≡ p.sigma = subst (λ k. drop k (p.pi ++ p.sigma) ≡ p.sigma) e (drop-append_seam p.pi p.sigma) in
    rw two (λ i. record { lambda = p.lambda; mu = p.mu; pi = first i; sigma = second i })

module _ (m : Mill) (limited : IsInLimits m) where
  abbrev orders : ℕ
  orders = length m.orders

  -- ---- trees

  module _ (version : Version) (points : List Point) (current : Current) where
    abbrev in_tree : List Step → List Mark → Mark → Built
    in_tree steps marks next = record { version = version; points = points; current = current; tree = record { steps = steps; marks = marks; next = next }; outline = None }

    ask_builds : (ask : Ask) (steps : List Step) (marks_before : List Mark) (next : Mark) → IsAsk m ask → build orders (in_tree steps marks_before next) (ask_line ask) ≡ in_tree (steps ++ step_of ask ∷ []) (marks_before ++ next ∷ []) marks.Plain
    ask_builds (Pair i j) steps before next h =
        let first = index16_number i (omega (arith, limited.order_count, h.0, h.1)) in
        let second = index16_number j (omega (arith, limited.order_count, h.1)) in
        λ k. in_tree (steps ++ step_of (Pair (first k) (second k)) ∷ []) (before ++ next ∷ []) marks.Plain
    ask_builds (Put o s) steps before next h =
        let first = index16_number o (omega (arith, limited.order_count, h.0)) in
        let second = index16_number s (omega (arith, limited.yard.count, h.1)) in
        λ k. in_tree (steps ++ step_of (Put (first k) (second k)) ∷ []) (before ++ next ∷ []) marks.Plain

    leaf_builds : (limits : Limits) (path : List Decision) (p : Prices) (steps : List Step) (before : List Mark) (next : Mark) → Refutes m limits path p → build orders (in_tree steps before next) (leaf_line p) ≡ in_tree (steps ++ step.Leaf p ∷ []) before next
    leaf_builds limits path p steps before next r = ap (λ (q : Prices). in_tree (steps ++ step.Leaf q ∷ []) before next) (prices_back orders p r.pi_length)

    share_builds : (steps : List Step) (before : List Mark) (d times : ℤ) (shares : List Share) (kind : Kind) (os : List ℕ) → IsInStock m kind → Rises 0 orders os
        → build orders (in_tree steps before (marks.Spread (record { d = d; shares = shares }))) (share_line_on times kind os) ≡ in_tree steps before (marks.Spread (record { d = d; shares = shares ++ (record { times = times; kind = kind; orders = os }) ∷ [] }))
    share_builds steps before d times shares (New size) os stock rises =
        let first = natural16_small size (size_small m size limited stock) in
        let second = orders16_rising 0 orders os limited.order_count rises in
        λ i. in_tree steps before (marks.Spread (record { d = d; shares = shares ++ (record { times = times; kind = New (first i); orders = second i }) ∷ [] }))
    share_builds steps before d times shares (Old s) os stock rises =
        let first = index16_number s (omega (arith, limited.yard.count, stock)) in
        let second = orders16_rising 0 orders os limited.order_count rises in
        λ i. in_tree steps before (marks.Spread (record { d = d; shares = shares ++ (record { times = times; kind = Old (first i); orders = second i }) ∷ [] }))

    shares_build : (steps : List Step) (before : List Mark) (path : List Decision) (d : ℤ) (more shares : List Share) → AllByRecursion (λ (part : Part). IsLegalColumn m part.0 × (column_agrees path part.0 ≡ true)) (map part_of more)
        → build_all orders (in_tree steps before (marks.Spread (record { d = d; shares = shares }))) (map share_line more) ≡ in_tree steps before (marks.Spread (record { d = d; shares = shares ++ more }))
    shares_build steps before path d [] shares h = ap (λ (xs : List Share). in_tree steps before (marks.Spread (record { d = d; shares = xs }))) (sym (append-nil shares))
    shares_build steps before path d (share ∷ more) shares h =
        ap (λ (b : Built). build_all orders b (map share_line more)) (share_builds steps before d share.times shares share.kind share.orders h.0.0.fits.kind h.0.0.rises)
        ∙ (shares_build steps before path d more (shares ++ share ∷ []) h.1 ∙ ap (λ (xs : List Share). in_tree steps before (marks.Spread (record { d = d; shares = xs }))) (append_assoc shares (share ∷ []) more))

    mark_builds : (v : Version) (limits : Limits) (path : List Decision) (mark : Mark) (steps : List Step) (before : List Mark) → IsRight m limits mark path → AreMarksOf v (mark ∷ []) → build_all orders (in_tree steps before marks.Plain) (mark_lines v mark) ≡ in_tree steps before mark
    mark_builds One limits path mark steps before right of = ap (λ (x : Mark). in_tree steps before x) (sym of.0)
    mark_builds Two limits path (marks.Spread shown) steps before right of = shares_build steps before path shown.d shown.shares [] right.covers.legal
    mark_builds Two limits path marks.Bare steps before right of = refl
    mark_builds Two limits path marks.Plain steps before right of = refl

    -- a question between what is before it and its two trees
    regrouped : {X : Type 0} (xs ys zs : List X) (x : X) → ((xs ++ x ∷ []) ++ ys) ++ zs ≡ xs ++ (x ∷ (ys ++ zs))
    regrouped xs ys zs x = append_assoc (xs ++ x ∷ []) ys zs ∙ append_assoc xs (x ∷ []) (ys ++ zs)

    first_mark : (v : Version) (mark : Mark) (xs ys : List Mark) → AreMarksOf v (mark ∷ (xs ++ ys)) → AreMarksOf v (mark ∷ []) × (AreMarksOf v xs × AreMarksOf v ys)
    first_mark One mark xs ys h = ((h.0, tt), marks_split One xs ys h.1)
    first_mark Two mark xs ys h = (tt, (tt, tt))

    tree_builds : (limits : Limits) (t : Tree Mark Prices) (path : List Decision) (steps : List Step) (before : List Mark) → RefutingTree m limits t path → HasRightMarks m limits t path → AreMarksOf version (marks_of t)
        → build_all orders (in_tree steps before marks.Plain) (marked_lines version t) ≡ in_tree (steps ++ preorder t) (before ++ marks_of t) marks.Plain
    tree_builds limits (End p) path steps before r right of =
        leaf_builds limits path p steps before marks.Plain r ∙ ap (λ (xs : List Mark). in_tree (steps ++ step.Leaf p ∷ []) xs marks.Plain) (sym (append-nil before))
    tree_builds limits (Split mark ask y n) path steps before r right of =
        let parts = first_mark version mark (marks_of y) (marks_of n) of in
        let asked : Built = in_tree (steps ++ step_of ask ∷ []) (before ++ mark ∷ []) marks.Plain in
        let with_yes : Built = in_tree ((steps ++ step_of ask ∷ []) ++ preorder y) ((before ++ mark ∷ []) ++ marks_of y) marks.Plain in
        let marked = build_append orders (in_tree steps before marks.Plain) (mark_lines version mark) (ask_line ask ∷ (marked_lines version y ++ marked_lines version n)) ∙ ap (λ (b : Built). build_all orders b (ask_line ask ∷ (marked_lines version y ++ marked_lines version n))) (mark_builds version limits path mark steps before right.0 parts.0) in
        let question = ap (λ (b : Built). build_all orders b (marked_lines version y ++ marked_lines version n)) (ask_builds ask steps before mark r.0) in
        let yes = build_append orders asked (marked_lines version y) (marked_lines version n) ∙ ap (λ (b : Built). build_all orders b (marked_lines version n)) (tree_builds limits y ((ask, true) ∷ path) (steps ++ step_of ask ∷ []) (before ++ mark ∷ []) r.2 right.1 parts.1.0) in
        let no = tree_builds limits n ((ask, false) ∷ path) ((steps ++ step_of ask ∷ []) ++ preorder y) ((before ++ mark ∷ []) ++ marks_of y) r.3 right.2 parts.1.1 in
        marked ∙ (question ∙ (yes ∙ (no ∙ ap₂ (λ (a : List Step) (b : List Mark). in_tree a b marks.Plain) (regrouped steps (preorder y) (preorder n) (step_of ask)) (regrouped before (marks_of y) (marks_of n) mark))))

    steps_build : (limits : Limits) (s : MarkedSteps) → IsMarkedRefutation m limits [] s → AreMarksOf version s.marks → build_all orders (in_tree [] [] marks.Plain) (tree_lines version s) ≡ in_tree s.steps s.marks marks.Plain
    steps_build limits s r of =
        ap (λ (xs : List Line). build_all orders (in_tree [] [] marks.Plain) xs) (tree_is m version limits s r)
        ∙ (tree_builds limits r.tree [] [] [] r.refutes r.right (subst (AreMarksOf version) r.marks_are of) ∙ ap₂ (λ (a : List Step) (b : List Mark). in_tree a b marks.Plain) (sym r.steps_are) (sym r.marks_are))

  -- ---- plans

  module _ (version : Version) (points : List Point) (sums : Sums) where
    abbrev in_plan : Plan → Built
    in_plan q = record { version = version; points = points; current = Some (sums, q); tree = seedling; outline = None }

    slab_builds : (q : Plan) (kind : Kind) (os : List ℕ) → IsInStock m kind → Rises 0 orders os → build orders (in_plan q) (slab_line_on kind os) ≡ in_plan (add_slab q kind os)
    slab_builds q (New size) os stock rises =
        let first = natural16_small size (size_small m size limited stock) in
        let second = orders16_rising 0 orders os limited.order_count rises in
        λ i. in_plan (add_slab q (New (first i)) (second i))
    slab_builds q (Old s) os stock rises =
        let first = index16_number s (omega (arith, limited.yard.count, stock)) in
        let second = orders16_rising 0 orders os limited.order_count rises in
        λ i. in_plan (add_slab q (Old (first i)) (second i))

    abbrev IsBuilt : Column → Type 0
    IsBuilt c = IsInStock m c.kind × Rises 0 orders c.orders

    slabs_build : (cs : List Column) (q : Plan) → AllByRecursion IsBuilt cs → build_all orders (in_plan q) (map slab_line cs) ≡ in_plan (add_slabs q cs)
    slabs_build [] q h = refl
    slabs_build (c ∷ cs) q h = ap (λ (b : Built). build_all orders b (map slab_line cs)) (slab_builds q c.kind c.orders h.0.0 h.0.1) ∙ slabs_build cs (add_slab q c.kind c.orders) h.1

  -- ---- points

  slabs_are : (p : Plan) → IsLegal m p → AllByRecursion (λ (c : Column). IsInStock m c.kind × Rises 0 orders c.orders) (columns_of p)
  slabs_are p legal =
      recursion_from_All (λ (c : Column). IsInStock m c.kind × Rises 0 orders c.orders) (columns_of p)
      (All-from_get_or (λ (c : Column). IsInStock m c.kind × Rises 0 orders c.orders) (columns_of p) nothing
      (λ k l. let h : k < length p.kinds = omega (arith, l, length-map-range_with_len (slab p) 0 (length p.kinds)) in
      subst (λ (c : Column). IsInStock m c.kind × Rises 0 orders c.orders) (sym (column_at p k h)) ((legal.fits k h).kind, places_rise k 0 orders p.place (omega (arith, legal.places)))))

  module _ (version : Version) where
    -- nothing is begun after these points
    abbrev base : List Point → Built
    base points = record { version = version; points = points; current = None; tree = seedling; outline = None }

    few_slabs : (p : Plan) → IsLegal m p → length p.kinds ≤ 10000
    few_slabs p legal = omega (arith, slabs_with_orders (length p.kinds) p.place (λ k l. (legal.fits k l).some), legal.places, limited.order_count)

    sums_build : (p : Plan) (sums : Sums) → IsLegal m p → sums_of m p ≡ sums → built_sums (pos sums.loss ∷ pos sums.count ∷ []) ≡ sums
    sums_build p sums legal e =
        let loss = loss_small sums.loss (subst (λ (s : Sums). s.loss ≤ 2500000) e (small_loss m limited p legal)) in
        let few : sums.count ≤ 250 = subst (λ (s : Sums). s.count ≤ 250) e (few_new m limited p legal) in
        let count = natural16_small sums.count (omega (arith, few)) in
        λ i. record { loss = loss i; count = count i }

    point_builds : (before : Option Sums) (point : Point) (points : List Point) → IsGoodPoint m before point → AreMarksOf version point.steps.marks
        → closed (build_all orders (record (base points) { current = Some (built_sums (pos point.sums.loss ∷ pos point.sums.count ∷ []), empty_plan orders) }) (map slab_line (columns_of point.plan) ++ tree_lines version point.steps)) ≡ base (points ++ point ∷ [])
    point_builds before point points good of =
        let sums = ap (λ (s : Sums). closed (build_all orders (in_plan version points s (empty_plan orders)) (map slab_line (columns_of point.plan) ++ tree_lines version point.steps))) (sums_build point.plan point.sums good.legal good.sums) in
        let parts = ap closed (build_append orders (in_plan version points point.sums (empty_plan orders)) (map slab_line (columns_of point.plan)) (tree_lines version point.steps)) in
        let slabs = ap (λ (b : Built). closed (build_all orders b (tree_lines version point.steps))) (slabs_build version points point.sums (columns_of point.plan) (empty_plan orders) (slabs_are point.plan good.legal)) in
        let plan = ap (λ (q : Plan). closed (build_all orders (in_plan version points point.sums q) (tree_lines version point.steps))) (slabs_make_plan m limited point.plan good.legal good.order (few_slabs point.plan good.legal)) in
        let tree = ap closed (steps_build version points (Some (point.sums, point.plan)) _ point.steps good.steps of) in
        sums ∙ (parts ∙ (slabs ∙ (plan ∙ tree)))

    abbrev HaveMarks : List MarkedSteps → Type 0
    HaveMarks trees = AllByRecursion (λ (s : MarkedSteps). AreMarksOf version s.marks) trees

    points_build : (more : List Point) (before : Option Sums) (points : List Point) (b : Built) (others : List MarkedSteps) → closed b ≡ base points → IsGoodFrom m before more → HaveMarks (map (λ (point : Point). point.steps) more ++ others)
        → (closed (build_all orders b (flat_map (point_lines version) more)) ≡ base (points ++ more)) × HaveMarks others
    points_build [] before points b others e good of = (e ∙ ap base (sym (append-nil points)), of)
    points_build (point ∷ more) before points b others e good of =
        let after : Built = build_all orders b (point_lines version point) in
        let here : closed after ≡ base (points ++ point ∷ []) = ap (λ (x : Built). closed (build_all orders (record x { current = Some (built_sums (pos point.sums.loss ∷ pos point.sums.count ∷ []), empty_plan orders) }) (map slab_line (columns_of point.plan) ++ tree_lines version point.steps))) e ∙ point_builds before point points good.0 of.0 in
        let next = points_build more (Some point.sums) (points ++ point ∷ []) after others here good.1 of.1 in
        (ap closed (build_append orders b (point_lines version point) (flat_map (point_lines version) more)) ∙ (next.0 ∙ ap base (append_assoc points (point ∷ []) more)), next.1)

    -- ---- how it ends

    abbrev in_outline : List Point → List (Option Ask) → Built
    in_outline points done = record (base points) { outline = Some done }

    outline_ask_builds : (points : List Point) (ask : Ask) (done : List (Option Ask)) → IsAsk m ask → build orders (in_outline points done) (ask_line ask) ≡ in_outline points (done ++ Some ask ∷ [])
    outline_ask_builds points (Pair i j) done h =
        let first = index16_number i (omega (arith, limited.order_count, h.0, h.1)) in
        let second = index16_number j (omega (arith, limited.order_count, h.1)) in
        λ k. in_outline points (done ++ Some (Pair (first k) (second k)) ∷ [])
    outline_ask_builds points (Put o s) done h =
        let first = index16_number o (omega (arith, limited.order_count, h.0)) in
        let second = index16_number s (omega (arith, limited.yard.count, h.1)) in
        λ k. in_outline points (done ++ Some (Put (first k) (second k)) ∷ [])

    outline_builds : (points : List Point) (t : Unmarked (Unit {0})) (path : List Decision) (done : List (Option Ask)) → IsTree m (λ _ _. Unit {0}) t path → build_all orders (in_outline points done) (map outline_line (outline t)) ≡ in_outline points (done ++ outline t)
    outline_builds points (End e) path done h = refl
    outline_builds points (Split mark ask y n) path done h =
        let lines_are = ap (λ (xs : List Line). build_all orders (build orders (in_outline points done) (ask_line ask)) xs) (map-append outline_line (outline y) (outline n)) in
        let asked : List (Option Ask) = done ++ Some ask ∷ [] in
        let question = ap (λ (b : Built). build_all orders b (map outline_line (outline y) ++ map outline_line (outline n))) (outline_ask_builds points ask done h.0) in
        let yes = build_append orders (in_outline points asked) (map outline_line (outline y)) (map outline_line (outline n)) ∙ ap (λ (b : Built). build_all orders b (map outline_line (outline n))) (outline_builds points y ((ask, true) ∷ path) asked h.2) in
        let no = outline_builds points n ((ask, false) ∷ path) (asked ++ outline y) h.3 in
        lines_are ∙ (question ∙ (yes ∙ (no ∙ ap (in_outline points) (append_assoc asked (outline y) (outline n) ∙ append_assoc done (Some ask ∷ []) (outline y ++ outline n)))))

    ending_builds : (points : List Point) (ending : Ending) (b : Built) → closed b ≡ base points → IsGoodEnded m points ending → HaveMarks (last_tree ending) → build_all orders b (ending_lines version ending) ≡ built_of (record { version = version; points = points; ending = ending })
    ending_builds points (Whole last) b e good of =
        ap (λ (x : Built). build_all orders x (tree_lines version last)) e ∙ steps_build version points None _ last good.rest of.0
    ending_builds points (Cut steps) b e good of =
        ap (λ (x : Built). build_all orders (record x { outline = Some [] }) (map outline_line steps)) e
        ∙ (ap (λ (xs : List (Option Ask)). build_all orders (in_outline points []) (map outline_line xs)) good.rest.steps_are ∙ (outline_builds points good.rest.tree [] [] good.rest.fresh ∙ ap (in_outline points) (sym good.rest.steps_are)))

    head_of : (points : List Point) (ending : Ending) → IsGoodEnded m points ending → IsGoodFrom m None points
    head_of points (Whole last) h = h.head
    head_of points (Cut outline) h = h.head

    body_builds : (points : List Point) (ending : Ending) → IsGoodEnded m points ending → HaveMarks (map (λ (point : Point). point.steps) points ++ last_tree ending)
        → build_all orders (base []) (flat_map (point_lines version) points ++ ending_lines version ending) ≡ built_of (record { version = version; points = points; ending = ending })
    body_builds points ending good of =
        let head = points_build points None [] (base []) (last_tree ending) refl (head_of points ending good) of in
        build_append orders (base []) (flat_map (point_lines version) points) (ending_lines version ending) ∙ ending_builds points ending (build_all orders (base []) (flat_map (point_lines version) points)) head.0 good head.1

  header_builds : (version : Version) → build orders nothing_built (header_line version) ≡ base version []
  header_builds One = refl
  header_builds Two = refl

pub lines_build_back : LinesBuildBack
lines_build_back m c limited good =
    ap (λ (b : Built). build_all (length m.orders) b (flat_map (point_lines c.version) c.points ++ ending_lines c.version c.ending)) (header_builds m limited c.version)
    ∙ body_builds m limited c.version c.points c.ending good.ended good.marks
