-- Plan files: what is read is spelled so, and what is spelled so is read.
use Rattle.std.proofs.Common.{◌≡◌, ℕ, ◌+◌, ◌-◌, ◌<◌, ◌≤◌, Bool, true, false, cond, List, [], ◌∷◌, ◌++◌, length, map, Ok, Err, refl, sym, ap, ◌∙◌, subst, append-nil, arith, ◌⊎◌, inl, inr}
use Rattle.std.specs.Prelude.{◌↔◌}
use Rattle.std.specs.Str.{bytes_eq}
use Rattle.std.proofs.lemmas.Slice.Eq.{bytes_eq-Decides}
use Rattle.std.proofs.lemmas.List.Elements.{All-from_recursion, recursion_from_All}
use Rattle.std.specs.List.{All, AllZip, flat_map}
use Rattle.mill_model.specs.Mill.{IsBetween}
use Rattle.mill_model.specs.Plans.{Plan}
use Rattle.mill_model.specs.declared.kind.Kind.{Kind}
use Rattle.mill_model.specs.declared.kind.Kind.TheVariants.{New, Old}
use Rattle.mill_read.specs.WordsLeft.{WordsLeft}
use Rattle.mill_read.specs.Tokens.{Token, Numeral, Keyword, Spells}
use Rattle.mill_read.specs.Reading.{Read, ◌>>=◌, number_at, list_at, no_more}
use Rattle.mill_read.specs.SlabWords.{is_new_in, is_new_at, new_word, old_word}
use Rattle.mill_read.specs.PlanFile.{kind_of, kind_at, place_at, plan_at, plan_file, kind_tokens, plan_tokens, IsKindInRange, IsPlanFile}
use Rattle.mill_read.specs.declared.fault.TextFault.{TextFault}
use Rattle.mill_read.specs.declared.fault.Why.TheVariants.{Range}
use Rattle.mill_read.proofs.Readers.{Takes, IsReader, IsWordReader, ListFits, bind_ok, same_ok, first_reader, number_reader, list_reader, one_numeral, zip_join, zip_parts, whole_join, whole_parts, no_more_ok, last_part}

-- the words new and old
abbrev pub keyword_of : Bool → Token
keyword_of true = Keyword new_word
keyword_of false = Keyword old_word

chosen : (is_new is_old : Bool) (e : TextFault) (b : Bool) → cond is_new (Ok true) (cond is_old (Ok false) (Err e)) ≡ Ok b
    → ((is_new ≡ true) × (true ≡ b)) ⊎ ((is_old ≡ true) × (false ≡ b))
chosen true is_old e b h = inl (refl, same_ok _ _ h)
chosen false true e b h = inr (refl, same_ok _ _ h)
chosen false false e b h = cc

keyword_spelled : (word : List ℕ) (b : Bool) → ((bytes_eq word new_word ≡ true) × (true ≡ b)) ⊎ ((bytes_eq word old_word ≡ true) × (false ≡ b)) → Spells word (keyword_of b)
keyword_spelled word true (inl h) = (bytes_eq-Decides word new_word).0 h.0
keyword_spelled word true (inr h) = absurd (let e = h.1 in cc)
keyword_spelled word false (inl h) = absurd (let e = h.1 in cc)
keyword_spelled word false (inr h) = (bytes_eq-Decides word old_word).0 h.0

gives_keyword : (place : ℕ) (word : List ℕ) (b : Bool) → Unit {0} → Spells word (keyword_of b) → is_new_in place word ≡ Ok b
gives_keyword place word true u s = ap (λ (w : List ℕ). is_new_in place w) s
gives_keyword place word false u s = ap (λ (w : List ℕ). is_new_in place w) s

abbrev one_keyword : Bool → List Token
one_keyword b = keyword_of b ∷ []

keyword_reader : IsReader is_new_at one_keyword (λ _. Unit {0})
unfolding is_new_at
keyword_reader =
    let words : IsWordReader is_new_in keyword_of (λ _. Unit {0}) = record {
      takes = λ place word b h. (keyword_spelled word b (chosen _ _ _ b h), tt);
      again = gives_keyword;
    } in
    first_reader words

-- a slab
kind_tokens-kind_of : (is_new : Bool) (n : ℕ) → 1 ≤ n → keyword_of is_new ∷ Numeral n ∷ [] ≡ kind_tokens (kind_of is_new n)
kind_tokens-kind_of true n h = refl
kind_tokens-kind_of false n h = let e : n ≡ n - 1 + 1 = omega arith in ap (λ (m : ℕ). Keyword old_word ∷ Numeral m ∷ []) e

kind_in_range : (is_new : Bool) (n : ℕ) → IsBetween 1 65535 n → IsKindInRange (kind_of is_new n)
kind_in_range true n h = h
kind_in_range false n h = omega arith

takes_kind : (left next : WordsLeft) (kind : Kind) → kind_at left ≡ Ok (kind, next) → Takes kind_tokens IsKindInRange left next kind
unfolding kind_at
takes_kind left next kind h =
    let b = bind_ok (is_new_at left) (λ w. number_at Range 1 65535 w.1 >>= λ n. Ok (kind_of w.0 n.0, n.1)) (kind, next) h in
    let d = bind_ok (number_at Range 1 65535 b.0.1) (λ n. Ok (kind_of b.0.0 n.0, n.1)) (kind, next) b.2 in
    let t = keyword_reader.takes left b.0.1 b.0.0 b.1 in
    let u = (number_reader Range 1 65535).takes b.0.1 d.0.1 d.0.0 d.1 in
    subst (λ (p : Kind × WordsLeft). Takes kind_tokens IsKindInRange left p.1 p.0) (same_ok _ _ d.2)
    (record {
      front = t.front ++ u.front;
      whole = whole_join t.front u.front left.words b.0.1.words d.0.1.words t.whole u.whole;
      spells = subst (λ (ts : List Token). AllZip Spells (t.front ++ u.front) ts) (kind_tokens-kind_of b.0.0 d.0.0 u.fits.0)
          (zip_join t.front u.front (keyword_of b.0.0 ∷ []) (Numeral d.0.0 ∷ []) t.spells u.spells);
      fits = kind_in_range b.0.0 d.0.0 u.fits;
    })

again_pair : (left : WordsLeft) (front rest : List (List ℕ)) (is_new : Bool) (number : ℕ) → IsBetween 1 65535 number → AllZip Spells front (keyword_of is_new ∷ Numeral number ∷ []) → left.words ≡ front ++ rest
    → (n : ℕ) × (kind_at left ≡ Ok (kind_of is_new number, record { number = n; words = rest }))
unfolding kind_at
again_pair left front rest is_new number fits spells whole =
    let parts = zip_parts front (keyword_of is_new ∷ []) (Numeral number ∷ []) spells in
    let first = keyword_reader.again left parts.first (parts.second ++ rest) is_new tt parts.firsts (whole_parts parts.first parts.second front left.words rest whole parts.whole) in
    let second = (number_reader Range 1 65535).again (record { number = first.0; words = parts.second ++ rest }) parts.second rest number fits parts.seconds refl in (
      second.0,
      ap (λ (r : Read Bool). r >>= λ w. number_at Range 1 65535 w.1 >>= λ n. Ok (kind_of w.0 n.0, n.1)) first.1
          ∙ ap (λ (r : Read ℕ). r >>= λ n. Ok (kind_of is_new n.0, n.1)) second.1,
    )

again_kind : (left : WordsLeft) (front rest : List (List ℕ)) (kind : Kind) → IsKindInRange kind → AllZip Spells front (kind_tokens kind) → left.words ≡ front ++ rest
    → (n : ℕ) × (kind_at left ≡ Ok (kind, record { number = n; words = rest }))
again_kind left front rest (New size) fits spells whole = again_pair left front rest true size fits spells whole
again_kind left front rest (Old slab) fits spells whole =
    let r = again_pair left front rest false (slab + 1) (omega arith, omega arith) spells whole in
    let e : slab + 1 - 1 ≡ slab = omega arith in
    (r.0, subst (λ (s : ℕ). kind_at left ≡ Ok (Old s, record { number = r.0; words = rest })) e r.1)

kind_reader : IsReader kind_at kind_tokens IsKindInRange
kind_reader = record { takes = takes_kind; again = again_kind }

-- a place
abbrev place_token : ℕ → List Token
place_token slab = Numeral (slab + 1) ∷ []

abbrev IsPlaceInRange : ℕ → Type 0
IsPlaceInRange slab = slab < 65535

takes_place : (left next : WordsLeft) (place : ℕ) → place_at left ≡ Ok (place, next) → Takes place_token IsPlaceInRange left next place
unfolding place_at
takes_place left next place h =
    let b = bind_ok (number_at Range 1 65535 left) (λ n. Ok (n.0 - 1, n.1)) (place, next) h in
    let t = (number_reader Range 1 65535).takes left b.0.1 b.0.0 b.1 in
    let e : b.0.0 ≡ b.0.0 - 1 + 1 = omega (arith, t.fits.0) in
    subst (λ (p : ℕ × WordsLeft). Takes place_token IsPlaceInRange left p.1 p.0) (same_ok _ _ b.2)
    (record {
      front = t.front;
      whole = t.whole;
      spells = subst (λ (n : ℕ). AllZip Spells t.front (Numeral n ∷ [])) e t.spells;
      fits = omega (arith, t.fits.0, t.fits.1);
    })

again_place : (left : WordsLeft) (front rest : List (List ℕ)) (place : ℕ) → IsPlaceInRange place → AllZip Spells front (place_token place) → left.words ≡ front ++ rest
    → (n : ℕ) × (place_at left ≡ Ok (place, record { number = n; words = rest }))
unfolding place_at
again_place left front rest place fits spells whole =
    let r = (number_reader Range 1 65535).again left front rest (place + 1) (omega arith, omega arith) spells whole in
    let e : place + 1 - 1 ≡ place = omega arith in
    (r.0, ap (λ (s : Read ℕ). s >>= λ n. Ok (n.0 - 1, n.1)) r.1 ∙ ap (λ (p : ℕ). Ok (p, record { number = r.0; words = rest })) e)

place_reader : IsReader place_at place_token IsPlaceInRange
place_reader = record { takes = takes_place; again = again_place }

flat_map-place_token : (places : List ℕ) → flat_map place_token places ≡ map (λ slab. Numeral (slab + 1)) places
flat_map-place_token [] = refl
flat_map-place_token (p ∷ places) = ap (λ (l : List Token). Numeral (p + 1) ∷ l) (flat_map-place_token places)

-- a plan
record Spelled (order_count : ℕ) (left : WordsLeft) (plan : Plan) : Type 0 where
  words : AllZip Spells left.words (plan_tokens plan)
  slab_count : length plan.kinds ≤ 1000
  kinds : All IsKindInRange plan.kinds
  place_count : length plan.place ≡ order_count
  place : All (λ slab. slab < 65535) plan.place

abbrev plan_of : List Kind → List ℕ → Plan
plan_of kinds place = record { kinds = kinds; place = place }

tokens_of : (count : ℕ) (kinds : List Kind) (place : List ℕ) → length kinds ≡ count
    → (Numeral count ∷ flat_map kind_tokens kinds) ++ flat_map place_token place ≡ plan_tokens (plan_of kinds place)
tokens_of count kinds place h =
    ap (λ (l : List Token). (Numeral count ∷ flat_map kind_tokens kinds) ++ l) (flat_map-place_token place)
    ∙ ap (λ (n : ℕ). (Numeral n ∷ flat_map kind_tokens kinds) ++ map (λ slab. Numeral (slab + 1)) place) (sym h)

spelled_so : (order_count : ℕ) (left a b d : WordsLeft) (count : ℕ) (kinds : List Kind) (place : List ℕ) → Takes one_numeral (IsBetween 0 1000) left a count
    → Takes (λ xs. flat_map kind_tokens xs) (ListFits IsKindInRange count) a b kinds → Takes (λ xs. flat_map place_token xs) (ListFits IsPlaceInRange order_count) b d place
    → d.words ≡ [] → Spelled order_count left (plan_of kinds place)
spelled_so order_count left a b d count kinds place ta tb td none =
    let words : left.words ≡ (ta.front ++ tb.front) ++ td.front =
    whole_join ta.front tb.front left.words a.words b.words ta.whole tb.whole ∙ ap (λ (w : List (List ℕ)). (ta.front ++ tb.front) ++ w) (td.whole ∙ last_part td.front d.words none) in
    record {
      words = subst (λ (w : List (List ℕ)). AllZip Spells w (plan_tokens (plan_of kinds place))) (sym words)
          (subst (λ (ts : List Token). AllZip Spells ((ta.front ++ tb.front) ++ td.front) ts) (tokens_of count kinds place tb.fits.length)
          (zip_join (ta.front ++ tb.front) td.front (Numeral count ∷ flat_map kind_tokens kinds) (flat_map place_token place)
          (zip_join ta.front tb.front (Numeral count ∷ []) (flat_map kind_tokens kinds) ta.spells tb.spells) td.spells));
      slab_count = omega (arith, ta.fits.1, tb.fits.length);
      kinds = All-from_recursion IsKindInRange kinds tb.fits.each;
      place_count = td.fits.length;
      place = All-from_recursion IsPlaceInRange place td.fits.each;
    }

takes_places : (order_count : ℕ) (left a b : WordsLeft) (count : ℕ) (kinds : List Kind) (plan : Plan) → number_at Range 0 1000 left ≡ Ok (count, a) → list_at kind_at count a ≡ Ok (kinds, b)
    → (list_at place_at order_count b >>= λ p. no_more (plan_of kinds p.0) p.1.number p.1.words) ≡ Ok plan → Spelled order_count left plan
takes_places order_count left a b count kinds plan ha hb h =
    let d = bind_ok (list_at place_at order_count b) _ plan h in
    let last = no_more_ok (plan_of kinds d.0.0) plan d.0.1.number d.0.1.words d.2 in
    subst (λ (p : Plan). Spelled order_count left p) last.1
    (spelled_so order_count left a b d.0.1 count kinds d.0.0 ((number_reader Range 0 1000).takes left a count ha) ((list_reader kind_reader count).takes a b kinds hb)
    ((list_reader place_reader order_count).takes b d.0.1 d.0.0 d.1) last.0)

takes_kinds : (order_count : ℕ) (left a : WordsLeft) (count : ℕ) (plan : Plan) → number_at Range 0 1000 left ≡ Ok (count, a)
    → (list_at kind_at count a >>= λ k. list_at place_at order_count k.1 >>= λ p. no_more (plan_of k.0 p.0) p.1.number p.1.words) ≡ Ok plan → Spelled order_count left plan
takes_kinds order_count left a count plan ha h =
    let b = bind_ok (list_at kind_at count a) _ plan h in
    takes_places order_count left a b.0.1 count b.0.0 plan ha b.1 b.2

takes_plan : (order_count : ℕ) (left : WordsLeft) (plan : Plan) → plan_at order_count left ≡ Ok plan → Spelled order_count left plan
unfolding plan_at
takes_plan order_count left plan h =
    let a = bind_ok (number_at Range 0 1000 left) _ plan h in
    takes_kinds order_count left a.0.1 a.0.0 plan a.1 a.2

again_parts : (left : WordsLeft) (fa fb fd : List (List ℕ)) (kinds : List Kind) (place : List ℕ) → length kinds ≤ 1000 → All IsKindInRange kinds → All IsPlaceInRange place
    → left.words ≡ fa ++ (fb ++ (fd ++ [])) → AllZip Spells fa (Numeral (length kinds) ∷ []) → AllZip Spells fb (flat_map kind_tokens kinds) → AllZip Spells fd (flat_map place_token place)
    → plan_at (length place) left ≡ Ok (plan_of kinds place)
unfolding plan_at
again_parts left fa fb fd kinds place few hk hp whole sa sb sd =
    let a = (number_reader Range 0 1000).again left fa (fb ++ (fd ++ [])) (length kinds) (omega arith, few) sa whole in
    let b = (list_reader kind_reader (length kinds)).again (record { number = a.0; words = fb ++ (fd ++ []) }) fb (fd ++ []) kinds
    (record { length = refl; each = recursion_from_All IsKindInRange kinds hk }) sb refl in
    let d = (list_reader place_reader (length place)).again (record { number = b.0; words = fd ++ [] }) fd [] place
    (record { length = refl; each = recursion_from_All IsPlaceInRange place hp }) sd refl in
    ap (λ (r : Read ℕ). r >>= λ n. list_at kind_at n.0 n.1 >>= λ k. list_at place_at (length place) k.1 >>= λ p. no_more (plan_of k.0 p.0) p.1.number p.1.words) a.1
    ∙ ap (λ (r : Read (List Kind)). r >>= λ k. list_at place_at (length place) k.1 >>= λ p. no_more (plan_of k.0 p.0) p.1.number p.1.words) b.1
    ∙ ap (λ (r : Read (List ℕ)). r >>= λ p. no_more (plan_of kinds p.0) p.1.number p.1.words) d.1

split_three : (left : WordsLeft) (kinds : List Kind) (place : List ℕ) → length kinds ≤ 1000 → All IsKindInRange kinds → All IsPlaceInRange place
    → AllZip Spells left.words ((Numeral (length kinds) ∷ []) ++ (flat_map kind_tokens kinds ++ flat_map place_token place)) → plan_at (length place) left ≡ Ok (plan_of kinds place)
split_three left kinds place few hk hp spells =
    let p = zip_parts left.words (Numeral (length kinds) ∷ []) (flat_map kind_tokens kinds ++ flat_map place_token place) spells in
    let q = zip_parts p.second (flat_map kind_tokens kinds) (flat_map place_token place) p.seconds in
    again_parts left p.first q.first q.second kinds place few hk hp
    (p.whole ∙ ap (λ (w : List (List ℕ)). p.first ++ w) (q.whole ∙ ap (λ (w : List (List ℕ)). q.first ++ w) (sym (append-nil q.second))))
    p.firsts q.firsts q.seconds

again_plan : (left : WordsLeft) (plan : Plan) → AllZip Spells left.words (plan_tokens plan) → length plan.kinds ≤ 1000 → All IsKindInRange plan.kinds → All IsPlaceInRange plan.place
    → plan_at (length plan.place) left ≡ Ok plan
again_plan left plan spells few hk hp =
    split_three left plan.kinds plan.place few hk hp
    (subst (λ (ts : List Token). AllZip Spells left.words ts) (sym (tokens_of (length plan.kinds) plan.kinds plan.place refl)) spells)

pub plan_file_is : (order_count : ℕ) (bytes : List ℕ) (plan : Plan) → (plan_file order_count bytes ≡ Ok plan) ↔ IsPlanFile order_count bytes plan
plan_file_is order_count bytes plan = (
  (λ h. let t = takes_plan order_count _ plan h in
      record { words = t.words; slab_count = t.slab_count; kinds = t.kinds; place_count = t.place_count; place = t.place }),
  (λ f. subst (λ (n : ℕ). plan_file n bytes ≡ Ok plan) f.place_count (again_plan _ plan f.words f.slab_count f.kinds f.place)),
)
