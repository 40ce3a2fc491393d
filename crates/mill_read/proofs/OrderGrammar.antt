-- Order files: what is read is spelled so, and what is spelled so is read.
use Rattle.std.proofs.Common.{◌≡◌, ℕ, List, [], ◌∷◌, ◌++◌, length, Ok, refl, sym, ap, ◌∙◌, subst, append-nil, arith}
use Rattle.std.specs.Prelude.{◌↔◌}
use Rattle.std.proofs.lemmas.List.Elements.{All-from_recursion, All-nil, recursion_from_All}
use Rattle.std.specs.List.{AllZip, flat_map, AllByRecursion}
use Rattle.mill_model.specs.Mill.{Mill, Bar, IsInLimits, IsBetween, bare_mill}
use Rattle.mill_model.specs.declared.order.Order.{Order}
use Rattle.mill_read.specs.WordsLeft.{WordsLeft}
use Rattle.mill_read.specs.Tokens.{Token, Numeral, Spells, numerals}
use Rattle.mill_read.specs.Reading.{Read, ◌>>=◌, number_at, list_at, no_more}
use Rattle.mill_read.specs.OrderFile.{order_at, mill_at, order_file, order_tokens, mill_tokens, IsOrderFile, IsBare}
use Rattle.mill_read.specs.declared.fault.Why.TheVariants.{Range, Colour}
use Rattle.mill_read.proofs.Readers.{Takes, IsReader, ListFits, bind_ok, same_ok, number_reader, list_reader, one_numeral, flat_map-one_numeral, zip_join, zip_parts, whole_join, whole_parts, no_more_ok, last_part}

abbrev pub OrderFits : ℕ → Order → Type 0
OrderFits colours o = IsBetween 1 10000 o.weight × IsBetween 1 colours o.colour

takes_order : (colours : ℕ) (left next : WordsLeft) (o : Order) → order_at colours left ≡ Ok (o, next) → Takes order_tokens (OrderFits colours) left next o
unfolding order_at
takes_order colours left next o h =
    let b = bind_ok (number_at Range 1 10000 left) (λ w. number_at Colour 1 colours w.1 >>= λ c. Ok (record { weight = w.0; colour = c.0 }, c.1)) (o, next) h in
    let d = bind_ok (number_at Colour 1 colours b.0.1) (λ c. Ok (record { weight = b.0.0; colour = c.0 }, c.1)) (o, next) b.2 in
    let t = (number_reader Range 1 10000).takes left b.0.1 b.0.0 b.1 in
    let u = (number_reader Colour 1 colours).takes b.0.1 d.0.1 d.0.0 d.1 in
    subst (λ (p : Order × WordsLeft). Takes order_tokens (OrderFits colours) left p.1 p.0) (same_ok _ _ d.2)
    (record {
      front = t.front ++ u.front;
      whole = whole_join t.front u.front left.words b.0.1.words d.0.1.words t.whole u.whole;
      spells = zip_join t.front u.front (Numeral b.0.0 ∷ []) (Numeral d.0.0 ∷ []) t.spells u.spells;
      fits = (t.fits, u.fits);
    })

again_order : (colours : ℕ) (left : WordsLeft) (front rest : List (List ℕ)) (o : Order) → OrderFits colours o → AllZip Spells front (order_tokens o) → left.words ≡ front ++ rest
    → (n : ℕ) × (order_at colours left ≡ Ok (o, record { number = n; words = rest }))
unfolding order_at
again_order colours left front rest o fits spells whole =
    let parts = zip_parts front (Numeral o.weight ∷ []) (Numeral o.colour ∷ []) spells in
    let first = (number_reader Range 1 10000).again left parts.first (parts.second ++ rest) o.weight fits.0 parts.firsts (whole_parts parts.first parts.second front left.words rest whole parts.whole) in
    let second = (number_reader Colour 1 colours).again (record { number = first.0; words = parts.second ++ rest }) parts.second rest o.colour fits.1 parts.seconds refl in (
      second.0,
      ap (λ (r : Read ℕ). r >>= λ w. number_at Colour 1 colours w.1 >>= λ c. Ok (record { weight = w.0; colour = c.0 }, c.1)) first.1
          ∙ ap (λ (r : Read ℕ). r >>= λ c. Ok (record { weight = o.weight; colour = c.0 }, c.1)) second.1,
    )

pub order_reader : (colours : ℕ) → IsReader (order_at colours) order_tokens (OrderFits colours)
order_reader colours = record { takes = takes_order colours; again = again_order colours }

spelled_so : (left a b d e f : WordsLeft) (k n : ℕ) (sizes : List ℕ) (colours : ℕ) (orders : List Order)
    → Takes one_numeral (IsBetween 1 100) left a k → Takes (λ xs. flat_map one_numeral xs) (ListFits (IsBetween 1 10000) k) a b sizes → Takes one_numeral (IsBetween 1 250) b d colours
    → Takes one_numeral (IsBetween 0 250) d e n → Takes (λ xs. flat_map order_tokens xs) (ListFits (OrderFits colours) n) e f orders → f.words ≡ []
    → AllZip Spells left.words (mill_tokens (bare_mill sizes colours orders))
spelled_so left a b d e f k n sizes colours orders ta tb td te tf none =
    let words : left.words ≡ ta.front ++ (tb.front ++ (td.front ++ (te.front ++ tf.front))) =
    ta.whole ∙ ap (λ (w : List (List ℕ)). ta.front ++ w) (tb.whole ∙ ap (λ (w : List (List ℕ)). tb.front ++ w) (td.whole ∙ ap (λ (w : List (List ℕ)). td.front ++ w)
    (te.whole ∙ ap (λ (w : List (List ℕ)). te.front ++ w) (tf.whole ∙ last_part tf.front f.words none)))) in
    let zipped : AllZip Spells (ta.front ++ (tb.front ++ (td.front ++ (te.front ++ tf.front)))) (Numeral k ∷ (flat_map one_numeral sizes ++ (Numeral colours ∷ Numeral n ∷ flat_map order_tokens orders))) =
    zip_join _ _ (Numeral k ∷ []) _ ta.spells (zip_join _ _ (flat_map one_numeral sizes) _ tb.spells (zip_join _ _ (Numeral colours ∷ []) _ td.spells (zip_join _ _ (Numeral n ∷ []) _ te.spells tf.spells))) in
    subst (λ (w : List (List ℕ)). AllZip Spells w (mill_tokens (bare_mill sizes colours orders))) (sym words)
    (subst (λ (ns : List Token). AllZip Spells (ta.front ++ (tb.front ++ (td.front ++ (te.front ++ tf.front)))) ns)
    (ap (λ (m : ℕ). Numeral m ∷ (flat_map one_numeral sizes ++ (Numeral colours ∷ Numeral n ∷ flat_map order_tokens orders))) (sym tb.fits.length)
    ∙ ap (λ (l : List Token). Numeral (length sizes) ∷ (l ++ (Numeral colours ∷ Numeral n ∷ flat_map order_tokens orders))) (flat_map-one_numeral sizes)
    ∙ ap (λ (m : ℕ). Numeral (length sizes) ∷ (numerals sizes ++ (Numeral colours ∷ Numeral m ∷ flat_map order_tokens orders))) (sym tf.fits.length))
    zipped)

weights_fit : (colours : ℕ) (orders : List Order) → AllByRecursion (OrderFits colours) orders → AllByRecursion (λ o. IsBetween 1 10000 o.weight) orders
weights_fit colours [] h = tt
weights_fit colours (o ∷ orders) h = (h.0.0, weights_fit colours orders h.1)

colours_fit : (colours : ℕ) (orders : List Order) → AllByRecursion (OrderFits colours) orders → AllByRecursion (λ o. IsBetween 1 colours o.colour) orders
colours_fit colours [] h = tt
colours_fit colours (o ∷ orders) h = (h.0.1, colours_fit colours orders h.1)

within : (k n : ℕ) (sizes : List ℕ) (colours : ℕ) (orders : List Order) → IsBetween 1 100 k → ListFits (IsBetween 1 10000) k sizes → IsBetween 1 250 colours → IsBetween 0 250 n → ListFits (OrderFits colours) n orders
    → IsInLimits (bare_mill sizes colours orders)
within k n sizes colours orders hk hs hc hn ho = record {
  size_count = subst (λ (m : ℕ). IsBetween 1 100 m) (sym hs.length) hk;
  sizes = All-from_recursion (IsBetween 1 10000) sizes hs.each;
  colours = hc;
  colour_limit = (omega arith, omega arith);
  order_count = omega (arith, ho.length, hn.1);
  weights = All-from_recursion (λ o. IsBetween 1 10000 o.weight) orders (weights_fit colours orders ho.each);
  order_colours = All-from_recursion (λ o. IsBetween 1 colours o.colour) orders (colours_fit colours orders ho.each);
  yard = record { count = omega arith; sizes = All-nil (IsBetween 1 10000); bar_count = omega arith; bars = All-nil _ };
  bars = All-nil _;
}

abbrev Spelled : WordsLeft → Mill → Type 0
Spelled left mill = AllZip Spells left.words (mill_tokens mill) × IsInLimits mill × IsBare mill

step_end : (left a b d e f : WordsLeft) (k n : ℕ) (sizes : List ℕ) (colours : ℕ) (orders : List Order) (mill : Mill)
    → number_at Range 1 100 left ≡ Ok (k, a) → list_at (number_at Range 1 10000) k a ≡ Ok (sizes, b) → number_at Range 1 250 b ≡ Ok (colours, d)
    → number_at Range 0 250 d ≡ Ok (n, e) → list_at (order_at colours) n e ≡ Ok (orders, f) → no_more (bare_mill sizes colours orders) f.number f.words ≡ Ok mill → Spelled left mill
step_end left a b d e f k n sizes colours orders mill ha hb hd he hf hg =
    let ta = (number_reader Range 1 100).takes left a k ha in
    let tb = (list_reader (number_reader Range 1 10000) k).takes a b sizes hb in
    let td = (number_reader Range 1 250).takes b d colours hd in
    let te = (number_reader Range 0 250).takes d e n he in
    let tf = (list_reader (order_reader colours) n).takes e f orders hf in
    let last = no_more_ok (bare_mill sizes colours orders) mill f.number f.words hg in
    subst (λ (m : Mill). Spelled left m) last.1
    (spelled_so left a b d e f k n sizes colours orders ta tb td te tf last.0, within k n sizes colours orders ta.fits tb.fits td.fits te.fits tf.fits, record { colour_limit = refl; yard = refl; bars = refl })

step_orders : (left a b d e : WordsLeft) (k n : ℕ) (sizes : List ℕ) (colours : ℕ) (mill : Mill)
    → number_at Range 1 100 left ≡ Ok (k, a) → list_at (number_at Range 1 10000) k a ≡ Ok (sizes, b) → number_at Range 1 250 b ≡ Ok (colours, d)
    → number_at Range 0 250 d ≡ Ok (n, e) → (list_at (order_at colours) n e >>= λ orders. no_more (bare_mill sizes colours orders.0) orders.1.number orders.1.words) ≡ Ok mill → Spelled left mill
step_orders left a b d e k n sizes colours mill ha hb hd he h =
    let f = bind_ok (list_at (order_at colours) n e) _ mill h in
    step_end left a b d e f.0.1 k n sizes colours f.0.0 mill ha hb hd he f.1 f.2

step_count : (left a b d : WordsLeft) (k : ℕ) (sizes : List ℕ) (colours : ℕ) (mill : Mill)
    → number_at Range 1 100 left ≡ Ok (k, a) → list_at (number_at Range 1 10000) k a ≡ Ok (sizes, b) → number_at Range 1 250 b ≡ Ok (colours, d)
    → (number_at Range 0 250 d >>= λ n. list_at (order_at colours) n.0 n.1 >>= λ orders. no_more (bare_mill sizes colours orders.0) orders.1.number orders.1.words) ≡ Ok mill → Spelled left mill
step_count left a b d k sizes colours mill ha hb hd h =
    let e = bind_ok (number_at Range 0 250 d) _ mill h in
    step_orders left a b d e.0.1 k e.0.0 sizes colours mill ha hb hd e.1 e.2

step_colours : (left a b : WordsLeft) (k : ℕ) (sizes : List ℕ) (mill : Mill)
    → number_at Range 1 100 left ≡ Ok (k, a) → list_at (number_at Range 1 10000) k a ≡ Ok (sizes, b)
    → (number_at Range 1 250 b >>= λ c. number_at Range 0 250 c.1 >>= λ n. list_at (order_at c.0) n.0 n.1 >>= λ orders. no_more (bare_mill sizes c.0 orders.0) orders.1.number orders.1.words) ≡ Ok mill → Spelled left mill
step_colours left a b k sizes mill ha hb h =
    let d = bind_ok (number_at Range 1 250 b) _ mill h in
    step_count left a b d.0.1 k sizes d.0.0 mill ha hb d.1 d.2

step_sizes : (left a : WordsLeft) (k : ℕ) (mill : Mill)
    → number_at Range 1 100 left ≡ Ok (k, a)
    → (list_at (number_at Range 1 10000) k a >>= λ s. number_at Range 1 250 s.1 >>= λ c. number_at Range 0 250 c.1 >>= λ n. list_at (order_at c.0) n.0 n.1 >>= λ orders. no_more (bare_mill s.0 c.0 orders.0) orders.1.number orders.1.words) ≡ Ok mill → Spelled left mill
step_sizes left a k mill ha h =
    let b = bind_ok (list_at (number_at Range 1 10000) k a) _ mill h in
    step_colours left a b.0.1 k b.0.0 mill ha b.1 b.2

takes_mill : (left : WordsLeft) (mill : Mill) → mill_at left ≡ Ok mill → Spelled left mill
unfolding mill_at
takes_mill left mill h =
    let a = bind_ok (number_at Range 1 100 left) _ mill h in
    step_sizes left a.0.1 a.0.0 mill a.1 a.2

orders_fit : (colours : ℕ) (orders : List Order) → AllByRecursion (λ o. IsBetween 1 10000 o.weight) orders → AllByRecursion (λ o. IsBetween 1 colours o.colour) orders → AllByRecursion (OrderFits colours) orders
orders_fit colours [] h i = tt
orders_fit colours (o ∷ orders) h i = ((h.0, i.0), orders_fit colours orders h.1 i.1)

again_parts : (left : WordsLeft) (fa fb fd fe ff : List (List ℕ)) (sizes : List ℕ) (colours : ℕ) (orders : List Order) → IsInLimits (bare_mill sizes colours orders)
    → left.words ≡ fa ++ (fb ++ (fd ++ (fe ++ (ff ++ [])))) → AllZip Spells fa (Numeral (length sizes) ∷ []) → AllZip Spells fb (flat_map one_numeral sizes) → AllZip Spells fd (Numeral colours ∷ [])
    → AllZip Spells fe (Numeral (length orders) ∷ []) → AllZip Spells ff (flat_map order_tokens orders) → mill_at left ≡ Ok (bare_mill sizes colours orders)
unfolding mill_at
again_parts left fa fb fd fe ff sizes colours orders limits whole sa sb sd se sf =
    let a = (number_reader Range 1 100).again left fa (fb ++ (fd ++ (fe ++ (ff ++ [])))) (length sizes) limits.size_count sa whole in
    let b = (list_reader (number_reader Range 1 10000) (length sizes)).again (record { number = a.0; words = fb ++ (fd ++ (fe ++ (ff ++ []))) }) fb (fd ++ (fe ++ (ff ++ []))) sizes
    (record { length = refl; each = recursion_from_All (IsBetween 1 10000) sizes limits.sizes }) sb refl in
    let d = (number_reader Range 1 250).again (record { number = b.0; words = fd ++ (fe ++ (ff ++ [])) }) fd (fe ++ (ff ++ [])) colours limits.colours sd refl in
    let e = (number_reader Range 0 250).again (record { number = d.0; words = fe ++ (ff ++ []) }) fe (ff ++ []) (length orders) (omega arith, limits.order_count) se refl in
    let f = (list_reader (order_reader colours) (length orders)).again (record { number = e.0; words = ff ++ [] }) ff [] orders
    (record { length = refl; each = orders_fit colours orders (recursion_from_All (λ o. IsBetween 1 10000 o.weight) orders limits.weights) (recursion_from_All (λ o. IsBetween 1 colours o.colour) orders limits.order_colours) }) sf refl in
    ap (λ (r : Read ℕ). r >>= λ k. list_at (number_at Range 1 10000) k.0 k.1 >>= λ s. number_at Range 1 250 s.1 >>= λ c. number_at Range 0 250 c.1 >>= λ n. list_at (order_at c.0) n.0 n.1 >>= λ o. no_more (bare_mill s.0 c.0 o.0) o.1.number o.1.words) a.1
    ∙ ap (λ (r : Read (List ℕ)). r >>= λ s. number_at Range 1 250 s.1 >>= λ c. number_at Range 0 250 c.1 >>= λ n. list_at (order_at c.0) n.0 n.1 >>= λ o. no_more (bare_mill s.0 c.0 o.0) o.1.number o.1.words) b.1
    ∙ ap (λ (r : Read ℕ). r >>= λ c. number_at Range 0 250 c.1 >>= λ n. list_at (order_at c.0) n.0 n.1 >>= λ o. no_more (bare_mill sizes c.0 o.0) o.1.number o.1.words) d.1
    ∙ ap (λ (r : Read ℕ). r >>= λ n. list_at (order_at colours) n.0 n.1 >>= λ o. no_more (bare_mill sizes colours o.0) o.1.number o.1.words) e.1
    ∙ ap (λ (r : Read (List Order)). r >>= λ o. no_more (bare_mill sizes colours o.0) o.1.number o.1.words) f.1

split_five : (left : WordsLeft) (sizes : List ℕ) (colours : ℕ) (orders : List Order)
    → AllZip Spells left.words (Numeral (length sizes) ∷ (flat_map one_numeral sizes ++ (Numeral colours ∷ Numeral (length orders) ∷ flat_map order_tokens orders)))
    → IsInLimits (bare_mill sizes colours orders) → mill_at left ≡ Ok (bare_mill sizes colours orders)
split_five left sizes colours orders spells limits =
    let p = zip_parts left.words (Numeral (length sizes) ∷ []) (flat_map one_numeral sizes ++ (Numeral colours ∷ Numeral (length orders) ∷ flat_map order_tokens orders)) spells in
    let q = zip_parts p.second (flat_map one_numeral sizes) (Numeral colours ∷ Numeral (length orders) ∷ flat_map order_tokens orders) p.seconds in
    let r = zip_parts q.second (Numeral colours ∷ []) (Numeral (length orders) ∷ flat_map order_tokens orders) q.seconds in
    let t = zip_parts r.second (Numeral (length orders) ∷ []) (flat_map order_tokens orders) r.seconds in
    again_parts left p.first q.first r.first t.first t.second sizes colours orders limits
    (p.whole ∙ ap (λ (w : List (List ℕ)). p.first ++ w) (q.whole ∙ ap (λ (w : List (List ℕ)). q.first ++ w) (r.whole ∙ ap (λ (w : List (List ℕ)). r.first ++ w)
    (t.whole ∙ ap (λ (w : List (List ℕ)). t.first ++ w) (sym (append-nil t.second))))))
    p.firsts q.firsts r.firsts t.firsts t.seconds

again_mill : (left : WordsLeft) (mill : Mill) → AllZip Spells left.words (mill_tokens mill) → IsInLimits mill → IsBare mill → mill_at left ≡ Ok mill
again_mill left mill spells limits bare =
    let same : bare_mill mill.sizes mill.colours mill.orders ≡ mill = (
    ap (λ (p : ℕ). record { sizes = mill.sizes; colours = mill.colours; colour_limit = p; orders = mill.orders; yard = []; bars = [] }) (sym bare.colour_limit)
    ∙ ap (λ (y : List ℕ). record { sizes = mill.sizes; colours = mill.colours; colour_limit = mill.colour_limit; orders = mill.orders; yard = y; bars = [] }) (sym bare.yard)
    ∙ ap (λ (bs : List Bar). record { sizes = mill.sizes; colours = mill.colours; colour_limit = mill.colour_limit; orders = mill.orders; yard = mill.yard; bars = bs }) (sym bare.bars)
    ) in
    let tail : List Token = Numeral mill.colours ∷ Numeral (length mill.orders) ∷ flat_map order_tokens mill.orders in
    let spelled : AllZip Spells left.words (Numeral (length mill.sizes) ∷ (flat_map one_numeral mill.sizes ++ tail)) = subst (λ (l : List Token). AllZip Spells left.words (Numeral (length mill.sizes) ∷ (l ++ tail))) (sym (flat_map-one_numeral mill.sizes)) spells in
    split_five left mill.sizes mill.colours mill.orders spelled (subst IsInLimits (sym same) limits) ∙ ap (λ (m : Mill). Ok m) same

pub order_file_is : (bytes : List ℕ) (mill : Mill) → (order_file bytes ≡ Ok mill) ↔ IsOrderFile bytes mill
order_file_is bytes mill = (
  (λ h. let t = takes_mill _ mill h in record { words = t.0; limits = t.1; bare = t.2 }),
  (λ f. again_mill _ mill f.words f.limits f.bare),
)
