-- Yard files: what is read is spelled so, and what is spelled so is read.
use Rattle.std.proofs.Common.{◌≡◌, ℕ, ◌+◌, ◌-◌, ◌<◌, ◌≤◌, List, [], ◌∷◌, ◌++◌, length, Ok, refl, sym, ap, ◌∙◌, subst, append-nil, arith, ◌⊎◌, inl, inr, All}
use Rattle.std.specs.Prelude.{◌↔◌}
use Rattle.std.proofs.lemmas.List.Elements.{All-from_recursion, recursion_from_All}
use Rattle.std.specs.List.{AllZip, AllByRecursion, flat_map}
use Rattle.mill_model.specs.Mill.{Bar, Yard, IsYard, AreBarsAmong, IsBetween, most_weight, most_orders, most_slabs, most_bars}
use Rattle.mill_read.specs.WordsLeft.{WordsLeft}
use Rattle.mill_read.specs.Tokens.{Token, Numeral, Spells}
use Rattle.mill_read.specs.Reading.{Read, ◌>>=◌, number_at, list_at, unless_end, no_more}
use Rattle.mill_read.specs.YardFile.{bar_at, bars_at, yard_at, yard_file, size_tokens, bar_tokens, bar_list_tokens, IsYardFile}
use Rattle.mill_read.specs.declared.fault.Why.TheVariants.{Range}
use Rattle.mill_read.proofs.Readers.{Takes, IsReader, ListFits, bind_ok, same_ok, number_reader, list_reader, one_numeral, flat_map-one_numeral, zip_join, zip_parts, whole_join, whole_parts, no_more_ok, last_part}

-- ---- a bar

abbrev BarFits : ℕ → ℕ → Bar → Type 0
BarFits orders slabs bar = (bar.0 < orders) × (bar.1 < slabs)

from_one : (order slab : ℕ) → 1 ≤ order → 1 ≤ slab → Numeral order ∷ Numeral slab ∷ [] ≡ bar_tokens (order - 1, slab - 1)
from_one order slab h k =
    let e : order ≡ order - 1 + 1 = omega arith in
    let f : slab ≡ slab - 1 + 1 = omega arith in
    ap (λ (n : ℕ). Numeral n ∷ Numeral slab ∷ []) e ∙ ap (λ (n : ℕ). Numeral (order - 1 + 1) ∷ Numeral n ∷ []) f

takes_bar : (orders slabs : ℕ) (left next : WordsLeft) (bar : Bar) → bar_at orders slabs left ≡ Ok (bar, next) → Takes bar_tokens (BarFits orders slabs) left next bar
unfolding bar_at
takes_bar orders slabs left next bar h =
    let b = bind_ok (number_at Range 1 orders left) (λ o. number_at Range 1 slabs o.1 >>= λ s. Ok ((o.0 - 1, s.0 - 1), s.1)) (bar, next) h in
    let d = bind_ok (number_at Range 1 slabs b.0.1) (λ s. Ok ((b.0.0 - 1, s.0 - 1), s.1)) (bar, next) b.2 in
    let t = (number_reader Range 1 orders).takes left b.0.1 b.0.0 b.1 in
    let u = (number_reader Range 1 slabs).takes b.0.1 d.0.1 d.0.0 d.1 in
    subst (λ (p : Bar × WordsLeft). Takes bar_tokens (BarFits orders slabs) left p.1 p.0) (same_ok _ _ d.2)
    (record {
      front = t.front ++ u.front;
      whole = whole_join t.front u.front left.words b.0.1.words d.0.1.words t.whole u.whole;
      spells = subst (λ (ts : List Token). AllZip Spells (t.front ++ u.front) ts) (from_one b.0.0 d.0.0 t.fits.0 u.fits.0)
          (zip_join t.front u.front (Numeral b.0.0 ∷ []) (Numeral d.0.0 ∷ []) t.spells u.spells);
      fits = (omega (arith, t.fits.0, t.fits.1), omega (arith, u.fits.0, u.fits.1));
    })

again_bar : (orders slabs : ℕ) (left : WordsLeft) (front rest : List (List ℕ)) (bar : Bar) → BarFits orders slabs bar → AllZip Spells front (bar_tokens bar) → left.words ≡ front ++ rest
    → (n : ℕ) × (bar_at orders slabs left ≡ Ok (bar, record { number = n; words = rest }))
unfolding bar_at
again_bar orders slabs left front rest bar fits spells whole =
    let parts = zip_parts front (Numeral (bar.0 + 1) ∷ []) (Numeral (bar.1 + 1) ∷ []) spells in
    let first = (number_reader Range 1 orders).again left parts.first (parts.second ++ rest) (bar.0 + 1) (omega arith, omega (arith, fits.0)) parts.firsts (whole_parts parts.first parts.second front left.words rest whole parts.whole) in
    let second = (number_reader Range 1 slabs).again (record { number = first.0; words = parts.second ++ rest }) parts.second rest (bar.1 + 1) (omega arith, omega (arith, fits.1)) parts.seconds refl in
    let e : bar.0 + 1 - 1 ≡ bar.0 = omega arith in
    let f : bar.1 + 1 - 1 ≡ bar.1 = omega arith in (
      second.0,
      ap (λ (r : Read ℕ). r >>= λ o. number_at Range 1 slabs o.1 >>= λ s. Ok ((o.0 - 1, s.0 - 1), s.1)) first.1
          ∙ ap (λ (r : Read ℕ). r >>= λ s. Ok ((bar.0 + 1 - 1, s.0 - 1), s.1)) second.1
          ∙ ap (λ (o : ℕ). Ok ((o, bar.1 + 1 - 1), record { number = second.0; words = rest })) e
          ∙ ap (λ (s : ℕ). Ok ((bar.0, s), record { number = second.0; words = rest })) f,
    )

bar_reader : (orders slabs : ℕ) → IsReader (bar_at orders slabs) bar_tokens (BarFits orders slabs)
bar_reader orders slabs = record { takes = takes_bar orders slabs; again = again_bar orders slabs }

-- ---- the bars with their number

record BarsFit (orders slabs : ℕ) (bars : List Bar) : Type 0 where
  count : length bars ≤ most_bars
  each : AllByRecursion (BarFits orders slabs) bars

takes_bars : (orders slabs : ℕ) (left next : WordsLeft) (bars : List Bar) → bars_at orders slabs left ≡ Ok (bars, next) → Takes bar_list_tokens (BarsFit orders slabs) left next bars
unfolding bars_at
takes_bars orders slabs left next bars h =
    let b = bind_ok (number_at Range 0 most_bars left) (λ n. list_at (bar_at orders slabs) n.0 n.1) (bars, next) h in
    let t = (number_reader Range 0 most_bars).takes left b.0.1 b.0.0 b.1 in
    let u = (list_reader (bar_reader orders slabs) b.0.0).takes b.0.1 next bars b.2 in
    record {
      front = t.front ++ u.front;
      whole = whole_join t.front u.front left.words b.0.1.words next.words t.whole u.whole;
      spells = subst (λ (n : ℕ). AllZip Spells (t.front ++ u.front) (Numeral n ∷ flat_map bar_tokens bars)) (sym u.fits.length)
          (zip_join t.front u.front (Numeral b.0.0 ∷ []) (flat_map bar_tokens bars) t.spells u.spells);
      fits = record { count = omega (arith, t.fits.1, u.fits.length); each = u.fits.each };
    }

again_bars : (orders slabs : ℕ) (left : WordsLeft) (front rest : List (List ℕ)) (bars : List Bar) → BarsFit orders slabs bars → AllZip Spells front (bar_list_tokens bars) → left.words ≡ front ++ rest
    → (n : ℕ) × (bars_at orders slabs left ≡ Ok (bars, record { number = n; words = rest }))
unfolding bars_at
again_bars orders slabs left front rest bars fits spells whole =
    let parts = zip_parts front (Numeral (length bars) ∷ []) (flat_map bar_tokens bars) spells in
    let first = (number_reader Range 0 most_bars).again left parts.first (parts.second ++ rest) (length bars) (omega arith, fits.count) parts.firsts (whole_parts parts.first parts.second front left.words rest whole parts.whole) in
    let second = (list_reader (bar_reader orders slabs) (length bars)).again (record { number = first.0; words = parts.second ++ rest }) parts.second rest bars (record { length = refl; each = fits.each }) parts.seconds refl in
    (second.0, ap (λ (r : Read ℕ). r >>= λ n. list_at (bar_at orders slabs) n.0 n.1) first.1 ∙ second.1)

bars_reader : (orders slabs : ℕ) → IsReader (bars_at orders slabs) bar_list_tokens (BarsFit orders slabs)
bars_reader orders slabs = record { takes = takes_bars orders slabs; again = again_bars orders slabs }

-- ---- the part on bars, or the end

abbrev EndsOrTakes : ℕ → ℕ → WordsLeft → WordsLeft → List Bar → Type 0
EndsOrTakes orders slabs left next bars = ((left.words ≡ []) × (bars ≡ []) × (next.words ≡ [])) ⊎ Takes bar_list_tokens (BarsFit orders slabs) left next bars

ends_or_takes : (orders slabs : ℕ) (left next : WordsLeft) (bars : List Bar) → unless_end [] (bars_at orders slabs) left.number left.words ≡ Ok (bars, next) → EndsOrTakes orders slabs left next bars
ends_or_takes orders slabs left next bars h = by_words left.words refl h
  where
    by_words : (words : List (List ℕ)) → left.words ≡ words → unless_end [] (bars_at orders slabs) left.number words ≡ Ok (bars, next) → EndsOrTakes orders slabs left next bars
    by_words [] e k =
        let pair = same_ok _ _ k in
        inl (e, ap (λ (p : List Bar × WordsLeft). p.0) (sym pair), ap (λ (p : List Bar × WordsLeft). p.1.words) (sym pair))
    by_words (word ∷ words) e k =
        let t = (bars_reader orders slabs).takes (record { number = left.number; words = word ∷ words }) next bars k in
        inr (record { front = t.front; whole = e ∙ t.whole; spells = t.spells; fits = t.fits })

again_at_end : (orders slabs number : ℕ) (words : List (List ℕ)) → words ≡ [] → (n : ℕ) × (unless_end [] (bars_at orders slabs) number words ≡ Ok ([], record { number = n; words = [] }))
again_at_end orders slabs number words e = (number, ap (λ (w : List (List ℕ)). unless_end [] (bars_at orders slabs) number w) e)

again_before_end : (orders slabs number : ℕ) (words : List (List ℕ)) (bars : List Bar) → BarsFit orders slabs bars → AllZip Spells words (bar_list_tokens bars)
    → (n : ℕ) × (unless_end [] (bars_at orders slabs) number words ≡ Ok (bars, record { number = n; words = [] }))
again_before_end orders slabs number [] bars fits spells = absurd spells
again_before_end orders slabs number (word ∷ words) bars fits spells =
    (bars_reader orders slabs).again (record { number = number; words = word ∷ words }) (word ∷ words) [] bars fits spells (sym (append-nil (word ∷ words)))

-- ---- a yard

abbrev SpellsYard : WordsLeft → Yard → Type 0
SpellsYard left yard = AllZip Spells left.words (size_tokens yard.sizes ++ bar_list_tokens yard.bars) ⊎ (AllZip Spells left.words (size_tokens yard.sizes) × (yard.bars ≡ []))

record Spelled (orders : ℕ) (left : WordsLeft) (yard : Yard) : Type 0 where
  words : SpellsYard left yard
  limits : IsYard yard
  bars : AreBarsAmong orders yard.bars

abbrev yard_of : List ℕ → List Bar → Yard
yard_of sizes bars = record { sizes = sizes; bars = bars }

-- the number of the sizes and the sizes, as one part
size_words : (left a b : WordsLeft) (count : ℕ) (sizes : List ℕ) (ta : Takes one_numeral (IsBetween 0 most_slabs) left a count)
    → (tb : Takes (λ xs. flat_map one_numeral xs) (ListFits (IsBetween 1 most_weight) count) a b sizes) → AllZip Spells (ta.front ++ tb.front) (size_tokens sizes)
size_words left a b count sizes ta tb =
    subst (λ (l : List Token). AllZip Spells (ta.front ++ tb.front) (Numeral (length sizes) ∷ l)) (flat_map-one_numeral sizes)
    (subst (λ (n : ℕ). AllZip Spells (ta.front ++ tb.front) (Numeral n ∷ flat_map one_numeral sizes)) (sym tb.fits.length)
    (zip_join ta.front tb.front (Numeral count ∷ []) (flat_map one_numeral sizes) ta.spells tb.spells))

within : (orders count : ℕ) (sizes : List ℕ) (bars : List Bar) → orders ≤ most_orders → IsBetween 0 most_slabs count → ListFits (IsBetween 1 most_weight) count sizes → BarsFit orders count bars → IsYard (yard_of sizes bars)
within orders count sizes bars few hc hs hb =
    let each : All (BarFits orders count) bars = All-from_recursion (BarFits orders count) bars hb.each in
    record {
      count = omega (arith, hc.1, hs.length);
      sizes = All-from_recursion (IsBetween 1 most_weight) sizes hs.each;
      bar_count = hb.count;
      bars = λ k d l. (omega (arith, (each k d l).0), omega (arith, (each k d l).1, hs.length));
    }

no_bars_fit : (orders slabs : ℕ) (bars : List Bar) → bars ≡ [] → BarsFit orders slabs bars
no_bars_fit orders slabs bars e = subst (λ (bs : List Bar). BarsFit orders slabs bs) (sym e) (record { count = omega arith; each = tt })

spelled_so : (orders : ℕ) (left a b d : WordsLeft) (count : ℕ) (sizes : List ℕ) (bars : List Bar) → orders ≤ most_orders → Takes one_numeral (IsBetween 0 most_slabs) left a count
    → Takes (λ xs. flat_map one_numeral xs) (ListFits (IsBetween 1 most_weight) count) a b sizes → EndsOrTakes orders count b d bars → d.words ≡ [] → Spelled orders left (yard_of sizes bars)
spelled_so orders left a b d count sizes bars few ta tb (inl t) none =
    let fits = no_bars_fit orders count bars t.1 in
    let whole : left.words ≡ ta.front ++ tb.front = whole_join ta.front tb.front left.words a.words b.words ta.whole tb.whole ∙ last_part (ta.front ++ tb.front) b.words t.0 in
    record {
      words = inr (subst (λ (w : List (List ℕ)). AllZip Spells w (size_tokens sizes)) (sym whole) (size_words left a b count sizes ta tb), t.1);
      limits = within orders count sizes bars few ta.fits tb.fits fits;
      bars = λ k e l. (All-from_recursion (BarFits orders count) bars fits.each k e l).0;
    }
spelled_so orders left a b d count sizes bars few ta tb (inr t) none =
    let whole : left.words ≡ (ta.front ++ tb.front) ++ t.front =
    whole_join ta.front tb.front left.words a.words b.words ta.whole tb.whole ∙ ap (λ (w : List (List ℕ)). (ta.front ++ tb.front) ++ w) (t.whole ∙ last_part t.front d.words none) in
    record {
      words = inl (subst (λ (w : List (List ℕ)). AllZip Spells w (size_tokens sizes ++ bar_list_tokens bars)) (sym whole)
          (zip_join (ta.front ++ tb.front) t.front (size_tokens sizes) (bar_list_tokens bars) (size_words left a b count sizes ta tb) t.spells));
      limits = within orders count sizes bars few ta.fits tb.fits t.fits;
      bars = λ k e l. (All-from_recursion (BarFits orders count) bars t.fits.each k e l).0;
    }

takes_rest : (orders : ℕ) (left a b : WordsLeft) (count : ℕ) (sizes : List ℕ) (yard : Yard) → orders ≤ most_orders → number_at Range 0 most_slabs left ≡ Ok (count, a) → list_at (number_at Range 1 most_weight) count a ≡ Ok (sizes, b)
    → (unless_end [] (bars_at orders count) b.number b.words >>= λ bars. no_more (yard_of sizes bars.0) bars.1.number bars.1.words) ≡ Ok yard → Spelled orders left yard
takes_rest orders left a b count sizes yard few ha hb h =
    let d = bind_ok (unless_end [] (bars_at orders count) b.number b.words) _ yard h in
    let last = no_more_ok (yard_of sizes d.0.0) yard d.0.1.number d.0.1.words d.2 in
    subst (λ (y : Yard). Spelled orders left y) last.1
    (spelled_so orders left a b d.0.1 count sizes d.0.0 few ((number_reader Range 0 most_slabs).takes left a count ha) ((list_reader (number_reader Range 1 most_weight) count).takes a b sizes hb)
    (ends_or_takes orders count b d.0.1 d.0.0 d.1) last.0)

takes_sizes : (orders : ℕ) (left a : WordsLeft) (count : ℕ) (yard : Yard) → orders ≤ most_orders → number_at Range 0 most_slabs left ≡ Ok (count, a)
    → (list_at (number_at Range 1 most_weight) count a >>= λ sizes. unless_end [] (bars_at orders count) sizes.1.number sizes.1.words >>= λ bars. no_more (yard_of sizes.0 bars.0) bars.1.number bars.1.words) ≡ Ok yard → Spelled orders left yard
takes_sizes orders left a count yard few ha h =
    let b = bind_ok (list_at (number_at Range 1 most_weight) count a) _ yard h in
    takes_rest orders left a b.0.1 count b.0.0 yard few ha b.1 b.2

takes_yard : (orders : ℕ) (left : WordsLeft) (yard : Yard) → orders ≤ most_orders → yard_at orders left ≡ Ok yard → Spelled orders left yard
unfolding yard_at
takes_yard orders left yard few h =
    let a = bind_ok (number_at Range 0 most_slabs left) _ yard h in
    takes_sizes orders left a.0.1 a.0.0 yard few a.1 a.2

again_parts : (orders : ℕ) (left : WordsLeft) (fa fb fd : List (List ℕ)) (sizes : List ℕ) (bars : List Bar) → IsYard (yard_of sizes bars) → left.words ≡ fa ++ (fb ++ fd)
    → AllZip Spells fa (Numeral (length sizes) ∷ []) → AllZip Spells fb (flat_map one_numeral sizes)
    → ((number : ℕ) → (n : ℕ) × (unless_end [] (bars_at orders (length sizes)) number fd ≡ Ok (bars, record { number = n; words = [] }))) → yard_at orders left ≡ Ok (yard_of sizes bars)
unfolding yard_at
again_parts orders left fa fb fd sizes bars limits whole sa sb rest =
    let a = (number_reader Range 0 most_slabs).again left fa (fb ++ fd) (length sizes) (omega arith, limits.count) sa whole in
    let b = (list_reader (number_reader Range 1 most_weight) (length sizes)).again (record { number = a.0; words = fb ++ fd }) fb fd sizes
    (record { length = refl; each = recursion_from_All (IsBetween 1 most_weight) sizes limits.sizes }) sb refl in
    ap (λ (r : Read ℕ). r >>= λ k. list_at (number_at Range 1 most_weight) k.0 k.1 >>= λ s. unless_end [] (bars_at orders k.0) s.1.number s.1.words >>= λ x. no_more (yard_of s.0 x.0) x.1.number x.1.words) a.1
    ∙ ap (λ (r : Read (List ℕ)). r >>= λ s. unless_end [] (bars_at orders (length sizes)) s.1.number s.1.words >>= λ x. no_more (yard_of s.0 x.0) x.1.number x.1.words) b.1
    ∙ ap (λ (r : Read (List Bar)). r >>= λ x. no_more (yard_of sizes x.0) x.1.number x.1.words) (rest b.0).1

-- the number of the sizes and the sizes, as two parts
again_sizes : (orders : ℕ) (left : WordsLeft) (front back : List (List ℕ)) (sizes : List ℕ) (bars : List Bar) → IsYard (yard_of sizes bars) → left.words ≡ front ++ back → AllZip Spells front (size_tokens sizes)
    → ((number : ℕ) → (n : ℕ) × (unless_end [] (bars_at orders (length sizes)) number back ≡ Ok (bars, record { number = n; words = [] }))) → yard_at orders left ≡ Ok (yard_of sizes bars)
again_sizes orders left front back sizes bars limits whole spells rest =
    let spelled : AllZip Spells front (Numeral (length sizes) ∷ flat_map one_numeral sizes) =
    subst (λ (l : List Token). AllZip Spells front (Numeral (length sizes) ∷ l)) (sym (flat_map-one_numeral sizes)) spells in
    let p = zip_parts front (Numeral (length sizes) ∷ []) (flat_map one_numeral sizes) spelled in
    again_parts orders left p.first p.second back sizes bars limits (whole_parts p.first p.second front left.words back whole p.whole) p.firsts p.seconds rest

again_yard : (orders : ℕ) (left : WordsLeft) (sizes : List ℕ) (bars : List Bar) → SpellsYard left (yard_of sizes bars) → IsYard (yard_of sizes bars) → AreBarsAmong orders bars → yard_at orders left ≡ Ok (yard_of sizes bars)
again_yard orders left sizes bars (inl spells) limits among =
    let p = zip_parts left.words (size_tokens sizes) (bar_list_tokens bars) spells in
    let fits : BarsFit orders (length sizes) bars = record { count = limits.bar_count; each = recursion_from_All (BarFits orders (length sizes)) bars (λ k d l. (among k d l, (limits.bars k d l).1)) } in
    again_sizes orders left p.first p.second sizes bars limits p.whole p.firsts (λ number. again_before_end orders (length sizes) number p.second bars fits p.seconds)
again_yard orders left sizes bars (inr spells) limits among =
    again_sizes orders left left.words [] sizes bars limits (sym (append-nil left.words)) spells.0
    (λ number. subst (λ (bs : List Bar). (n : ℕ) × (unless_end [] (bars_at orders (length sizes)) number [] ≡ Ok (bs, record { number = n; words = [] }))) (sym spells.1) (again_at_end orders (length sizes) number [] refl))

pub yard_file_is : (orders : ℕ) (bytes : List ℕ) (yard : Yard) → orders ≤ most_orders → (yard_file orders bytes ≡ Ok yard) ↔ IsYardFile orders bytes yard
yard_file_is orders bytes yard few = (
  (λ h. let t = takes_yard orders _ yard few h in record { words = t.words; limits = t.limits; bars = t.bars }),
  (λ f. again_yard orders _ yard.sizes yard.bars f.words f.limits f.bars),
)
