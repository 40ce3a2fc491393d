-- The lines of a good certificate are read.
use Rattle.std.proofs.Common.{◌≡◌, ℕ, suc, ◌+◌, ◌*◌, ◌<◌, ◌≤◌, ℤ, pos, negsuc, Bool, true, false, cond, List, [], ◌∷◌, ◌++◌, map, length, get_or, Option, Some, None, refl, sym, subst, arith, length-append}
use Rattle.std.specs.List.{sum_by, flat_map, AllByRecursion}
use Rattle.std.proofs.lemmas.Int.{ints}
use Rattle.std.proofs.lemmas.List.{length-map, map-append}
use Rattle.std.proofs.lemmas.List.FromFn.{length-map-range_with_len}
use Rattle.std.proofs.lemmas.List.Sums.{sum_by-cons}
use Rattle.std.proofs.lemmas.List.Elements.{All-from_get_or, All-from_recursion, recursion_from_All, All-get_or}
use Rattle.mill_model.specs.declared.ask.Ask.{Ask}
use Rattle.mill_model.specs.declared.ask.Ask.TheVariants.{Pair, Put}
use Rattle.mill_model.specs.declared.kind.Kind.{Kind}
use Rattle.mill_model.specs.declared.kind.Kind.TheVariants.{New, Old}
use Rattle.mill_model.specs.declared.limits.Limits.{Limits}
use Rattle.mill_model.specs.declared.mark.Mark.{Mark}
use Rattle.mill_model.specs.declared.mark.Mark.TheVariants.{Spread, Bare, Plain}
use Rattle.mill_model.specs.declared.sums.Sums.{Sums}
use Rattle.mill_model.specs.declared.version.Version.{Version}
use Rattle.mill_model.specs.declared.version.Version.TheVariants.{One, Two}
use Rattle.mill_model.specs.Mill.{Mill, IsInLimits, IsBetween}
use Rattle.mill_model.specs.Columns.{Rises, IsInStock, IsLegalColumn, size_of}
use Rattle.mill_model.specs.Plans.{Plan, IsLegal, slab, is_new, sums_of}
use Rattle.mill_model.specs.Decisions.{Decision, IsAsk, column_agrees}
use Rattle.mill_model.specs.Prices.{Prices, IsPrice, Refutes}
use Rattle.mill_model.specs.Covers.{Part}
use Rattle.mill_model.specs.Shares.{Share, IsMultiplier, part_of}
use Rattle.mill_model.specs.Trees.{Tree, Unmarked, IsTree, RefutingTree, outline}
use Rattle.mill_model.specs.Trees.Tree.{End, Split}
use Rattle.mill_model.specs.Marks.{MarkedSteps, HasRightMarks, IsRight, IsMarkedRefutation}
use Rattle.mill_model.specs.Fronts.{Point, IsGoodFrom}
use Rattle.mill_model.proofs.Judging.{slabs_with_orders}
use Rattle.mill_model.proofs.Slabs.{places_rise}
use Rattle.cert_view.specs.declared.line.Line.{Line}
use Rattle.cert_view.specs.declared.line.Line.TheVariants as lines
use Rattle.cert_view.specs.Number.{IsWithin}
use Rattle.cert_view.specs.Text.{line_numbers, IsLine}
use Rattle.cert_view.proofs.Feeds.{text_is_short}
use Rattle.cert_text.specs.Certificates.{Ending, IsGoodEnded}
use Rattle.cert_text.specs.Certificates.Ending.{Whole, Cut}
use Rattle.cert_text.specs.Lines.{number, header_line, ask_line, leaf_line, share_line, share_line_on, mark_lines, tree_lines, marked_lines, outline_line, sums_line, slab_line, slab_line_on, columns_of, point_lines, ending_lines}
use Rattle.cert_text.specs.Texts.{IsReadable}
use Rattle.cert_text.specs.Laws.{GoodLinesAreRead}
use Rattle.cert_text.proofs.Trees.{tree_is}
use Rattle.cert_text.proofs.Plans.{nothing, column_at}

-- ---- lists

all_append : {X : Type 0} (P : X → Type 0) (xs ys : List X) → AllByRecursion P xs → AllByRecursion P ys → AllByRecursion P (xs ++ ys)
all_append P [] ys h k = k
all_append P (x ∷ xs) ys h k = (h.0, all_append P xs ys h.1 k)

all_map : {X Y : Type 0} (P : Y → Type 0) (f : X → Y) (xs : List X) → AllByRecursion (λ x. P (f x)) xs → AllByRecursion P (map f xs)
all_map P f [] h = tt
all_map P f (x ∷ xs) h = (h.0, all_map P f xs h.1)

sum_most : {X : Type 0} (f : X → ℕ) (b : ℕ) (xs : List X) (d : X) → ((k : ℕ) → k < length xs → f (get_or xs k d) ≤ b) → sum_by f xs ≤ length xs * b
sum_most f b [] d h = omega arith
sum_most f b (x ∷ xs) d h = omega (arith, sum_by-cons f x xs, h 0 (omega arith), sum_most f b xs d (λ k l. h (suc k) (omega (arith, l))))

-- ---- numbers

-- a line of so few numbers is short enough
readable : (line : Line) → IsLine line → length (line_numbers line) ≤ 300 → IsReadable line
readable line good few = record { good = good; short = omega (arith, text_is_short line good, few) }

small : (n : ℕ) → n ≤ 2500000 → IsWithin (pos n)
small n l = omega (arith, ints, l)

multiplier_within : (q : ℤ) → IsMultiplier q → IsWithin q
multiplier_within (pos n) h = omega (arith, ints, h.1)
multiplier_within (negsuc n) h = absurd (omega (arith, ints, h.0))

price_within : (q : ℤ) → IsPrice q → IsWithin q
price_within q h = omega (arith, ints, h.0, h.1)

module _ (m : Mill) (limited : IsInLimits m) where
  order_within : (o : ℕ) → o < length m.orders → IsWithin (number o)
  order_within o h = small (suc o) (omega (arith, h, limited.order_count))

  slab_within : (s : ℕ) → s < length m.yard → IsWithin (number s)
  slab_within s h = small (suc s) (omega (arith, h, limited.yard.count))

  size_small : (kind : Kind) → IsInStock m kind → size_of m kind ≤ 10000
  size_small (New size) h = subst (λ n. n ≤ 10000) h.2 (All-get_or (IsBetween 1 10000) m.sizes h.0 size h.1 limited.sizes).1
  size_small (Old s) h = (All-get_or (IsBetween 1 10000) m.yard s 0 h limited.yard.sizes).1

  orders_within : (low : ℕ) (os : List ℕ) → Rises low (length m.orders) os → AllByRecursion IsWithin (map number os)
  orders_within low [] h = tt
  orders_within low (o ∷ os) h = (order_within o h.1, orders_within (o + 1) os h.2)

  few_orders : (low : ℕ) (os : List ℕ) → low ≤ length m.orders → Rises low (length m.orders) os → length os + low ≤ length m.orders
  few_orders low [] l h = omega (arith, l)
  few_orders low (o ∷ os) l h = omega (arith, h.0, few_orders (o + 1) os (omega (arith, h.1)) h.2)

  at_most : (os : List ℕ) → Rises 0 (length m.orders) os → length (map number os) ≤ 250
  at_most os h = omega (arith, length-map os number, few_orders 0 os (omega arith) h, limited.order_count)

  -- ---- points

  slab_read : (kind : Kind) (os : List ℕ) → IsInStock m kind → 0 < length os → Rises 0 (length m.orders) os → IsReadable (slab_line_on kind os)
  slab_read (New size) os stock some rises =
      readable (lines.New (pos size ∷ map number os)) (record { count = omega (arith, length-map os number, some); within = All-from_recursion IsWithin (pos size ∷ map number os) (small size (omega (arith, size_small (New size) stock)), orders_within 0 os rises) })
      (omega (arith, at_most os rises))
  slab_read (Old s) os stock some rises =
      readable (lines.Old (number s ∷ map number os)) (record { count = omega (arith, length-map os number, some); within = All-from_recursion IsWithin (number s ∷ map number os) (slab_within s stock, orders_within 0 os rises) })
      (omega (arith, at_most os rises))

  module _ (p : Plan) (legal : IsLegal m p) where
    few_slabs : length p.kinds ≤ 250
    few_slabs = omega (arith, slabs_with_orders (length p.kinds) p.place (λ k l. (legal.fits k l).some), legal.places, limited.order_count)

    counts_one : (b : Bool) → cond b 1 0 ≤ 1
    counts_one true = omega arith
    counts_one false = omega arith

    few_new : (sums_of m p).count ≤ 250
    few_new = omega (arith, few_slabs, sum_most (λ kind. cond (is_new kind) 1 0) 1 p.kinds (New 0) (λ k l. counts_one (is_new (get_or p.kinds k (New 0)))))

    small_loss : (sums_of m p).loss ≤ 2500000
    small_loss = omega (arith, few_slabs, sum_most (size_of m) 10000 p.kinds (New 0) (λ k l. size_small (get_or p.kinds k (New 0)) (legal.fits k l).kind))

    slab_at : (k : ℕ) → k < length p.kinds → IsReadable (slab_line (slab p k))
    slab_at k l = slab_read (slab p k).kind (slab p k).orders (legal.fits k l).kind (legal.fits k l).some (places_rise k 0 (length m.orders) p.place (omega (arith, legal.places)))

    slabs_read : AllByRecursion IsReadable (map slab_line (columns_of p))
    slabs_read =
        all_map IsReadable slab_line (columns_of p)
        (recursion_from_All (λ c. IsReadable (slab_line c)) (columns_of p) (All-from_get_or (λ c. IsReadable (slab_line c)) (columns_of p) nothing (λ k l. let h : k < length p.kinds = omega (arith, l, length-map-range_with_len (slab p) 0 (length p.kinds)) in subst (λ c. IsReadable (slab_line c)) (sym (column_at p k h)) (slab_at k h))))

    sums_read : (sums : Sums) → sums_of m p ≡ sums → IsReadable (sums_line sums)
    sums_read sums e =
        let loss : sums.loss ≤ 2500000 = subst (λ s. s.loss ≤ 2500000) e small_loss in
        let count : sums.count ≤ 250 = subst (λ s. s.count ≤ 250) e few_new in
        readable (sums_line sums) (record { count = refl; within = All-from_recursion IsWithin (pos sums.loss ∷ pos sums.count ∷ []) (small sums.loss loss, (small sums.count (omega (arith, count)), tt)) }) (omega arith)

  -- ---- trees

  ask_read : (ask : Ask) → IsAsk m ask → IsReadable (ask_line ask)
  ask_read (Pair i j) h =
      readable (lines.Pair (number i ∷ number j ∷ [])) (record { count = refl; within = All-from_recursion IsWithin (number i ∷ number j ∷ []) (order_within i (omega (arith, h.0, h.1)), (order_within j h.1, tt)) }) (omega arith)
  ask_read (Put o s) h =
      readable (lines.Put (number o ∷ number s ∷ [])) (record { count = refl; within = All-from_recursion IsWithin (number o ∷ number s ∷ []) (order_within o h.0, (slab_within s h.1, tt)) }) (omega arith)

  prices_within : (qs : List ℤ) → AllByRecursion IsPrice qs → AllByRecursion IsWithin qs
  prices_within [] h = tt
  prices_within (q ∷ qs) h = (price_within q h.0, prices_within qs h.1)

  leaf_read : (limits : Limits) (path : List Decision) (p : Prices) → Refutes m limits path p → IsReadable (leaf_line p)
  leaf_read limits path p r =
      let counted : length (p.pi ++ p.sigma) ≡ length m.orders + length m.yard = omega (arith, length-append p.pi p.sigma, r.pi_length, r.sigma_length) in
      let others : AllByRecursion IsWithin (p.pi ++ p.sigma) = all_append IsWithin p.pi p.sigma (prices_within p.pi (recursion_from_All IsPrice p.pi r.range.pi)) (prices_within p.sigma (recursion_from_All IsPrice p.sigma r.range.sigma)) in
      readable (leaf_line p) (record { count = omega arith; within = All-from_recursion IsWithin (p.lambda ∷ p.mu ∷ (p.pi ++ p.sigma)) (price_within p.lambda r.range.lambda, (price_within p.mu r.range.mu, others)) })
      (omega (arith, counted, limited.order_count, limited.yard.count))

  share_read : (times : ℤ) (kind : Kind) (os : List ℕ) → IsMultiplier times → IsInStock m kind → 0 < length os → Rises 0 (length m.orders) os → IsReadable (share_line_on times kind os)
  share_read times (New size) os multiplier stock some rises =
      readable (lines.CNew (times ∷ pos size ∷ map number os)) (record { count = omega (arith, length-map os number, some); within = All-from_recursion IsWithin (times ∷ pos size ∷ map number os) (multiplier_within times multiplier, (small size (omega (arith, size_small (New size) stock)), orders_within 0 os rises)) })
      (omega (arith, at_most os rises))
  share_read times (Old s) os multiplier stock some rises =
      readable (lines.COld (times ∷ number s ∷ map number os)) (record { count = omega (arith, length-map os number, some); within = All-from_recursion IsWithin (times ∷ number s ∷ map number os) (multiplier_within times multiplier, (slab_within s stock, orders_within 0 os rises)) })
      (omega (arith, at_most os rises))

  shares_read : (path : List Decision) (shares : List Share) → AllByRecursion (λ (share : Share). IsMultiplier share.times) shares → AllByRecursion (λ (part : Part). IsLegalColumn m part.0 × (column_agrees path part.0 ≡ true)) (map part_of shares) → AllByRecursion IsReadable (map share_line shares)
  shares_read path [] h k = tt
  shares_read path (share ∷ shares) h k =
      (share_read share.times share.kind share.orders h.0 k.0.0.fits.kind k.0.0.fits.some k.0.0.rises, shares_read path shares h.1 k.1)

  mark_read : (version : Version) (limits : Limits) (mark : Mark) (path : List Decision) → IsRight m limits mark path → AllByRecursion IsReadable (mark_lines version mark)
  mark_read One limits mark path h = tt
  mark_read Two limits (Spread shown) path h = (
    readable (lines.Spread (shown.d ∷ [])) (record { count = refl; within = All-from_recursion IsWithin (shown.d ∷ []) (multiplier_within shown.d h.denominator, tt) }) (omega arith),
    shares_read path shown.shares h.multipliers h.covers.legal,
  )
  mark_read Two limits Bare path h = (readable lines.Bare (record { count = tt; within = All-from_recursion IsWithin [] tt }) (omega arith), tt)
  mark_read Two limits Plain path h = (readable lines.Plain (record { count = tt; within = All-from_recursion IsWithin [] tt }) (omega arith), tt)

  marked_read : (version : Version) (limits : Limits) (t : Tree Mark Prices) (path : List Decision) → RefutingTree m limits t path → HasRightMarks m limits t path → AllByRecursion IsReadable (marked_lines version t)
  marked_read version limits (End p) path r h = (leaf_read limits path p r, tt)
  marked_read version limits (Split mark ask y n) path r h =
      all_append IsReadable (mark_lines version mark) (ask_line ask ∷ (marked_lines version y ++ marked_lines version n)) (mark_read version limits mark path h.0)
      (ask_read ask r.0, all_append IsReadable (marked_lines version y) (marked_lines version n) (marked_read version limits y ((ask, true) ∷ path) r.2 h.1) (marked_read version limits n ((ask, false) ∷ path) r.3 h.2))

  tree_read : (version : Version) (limits : Limits) (s : MarkedSteps) → IsMarkedRefutation m limits [] s → AllByRecursion IsReadable (tree_lines version s)
  tree_read version limits s r = subst (λ xs. AllByRecursion IsReadable xs) (sym (tree_is m version limits s r)) (marked_read version limits r.tree [] r.refutes r.right)

  open_read : (t : Unmarked (Unit {0})) (path : List Decision) → IsTree m (λ _ _. Unit {0}) t path → AllByRecursion IsReadable (map outline_line (outline t))
  open_read (End e) path h = (readable lines.Open (record { count = tt; within = All-from_recursion IsWithin [] tt }) (omega arith), tt)
  open_read (Split mark ask y n) path h = (
    ask_read ask h.0,
    subst (λ xs. AllByRecursion IsReadable xs) (sym (map-append outline_line (outline y) (outline n)))
        (all_append IsReadable (map outline_line (outline y)) (map outline_line (outline n)) (open_read y ((ask, true) ∷ path) h.2) (open_read n ((ask, false) ∷ path) h.3)),
  )

  -- ---- certificates

  points_read : (version : Version) (before : Option Sums) (points : List Point) → IsGoodFrom m before points → AllByRecursion IsReadable (flat_map (point_lines version) points)
  points_read version before [] h = tt
  points_read version before (point ∷ points) h =
      all_append IsReadable (point_lines version point) (flat_map (point_lines version) points) (
        sums_read point.plan h.0.legal point.sums h.0.sums,
        all_append IsReadable (map slab_line (columns_of point.plan)) (tree_lines version point.steps) (slabs_read point.plan h.0.legal) (tree_read version _ point.steps h.0.steps),
      ) (points_read version (Some point.sums) points h.1)

  header_read : (version : Version) → IsReadable (header_line version)
  header_read One = readable lines.Header (record { count = tt; within = All-from_recursion IsWithin [] tt }) (omega arith)
  header_read Two = readable lines.Header2 (record { count = tt; within = All-from_recursion IsWithin [] tt }) (omega arith)

  body_read : (version : Version) (points : List Point) (ending : Ending) → IsGoodEnded m points ending → AllByRecursion IsReadable (flat_map (point_lines version) points ++ ending_lines version ending)
  body_read version points (Whole last) h =
      all_append IsReadable (flat_map (point_lines version) points) (ending_lines version (Whole last)) (points_read version None points h.head)
      (readable lines.Done (record { count = tt; within = All-from_recursion IsWithin [] tt }) (omega arith), tree_read version _ last h.rest)
  body_read version points (Cut steps) h =
      all_append IsReadable (flat_map (point_lines version) points) (ending_lines version (Cut steps)) (points_read version None points h.head)
      (readable lines.Cut (record { count = tt; within = All-from_recursion IsWithin [] tt }) (omega arith), subst (λ xs. AllByRecursion IsReadable (map outline_line xs)) (sym h.rest.steps_are) (open_read h.rest.tree [] h.rest.fresh))

pub good_lines_are_read : GoodLinesAreRead
good_lines_are_read m c limited good = (header_read m limited c.version, body_read m limited c.version c.points c.ending good.ended)
