-- Readers of parts of a file: what one takes spells its value, and what spells a value is taken.
use Rattle.std.proofs.Common.{◌≡◌, ℕ, zero, suc, ◌+◌, Bool, true, false, cond, ◌&&◌, List, [], ◌∷◌, ◌++◌, length, Result, Ok, Err, refl, sym, ap, ◌∙◌, subst, append_assoc, append-nil, arith, leb}
use Rattle.std.proofs.lemmas.Bool.Decides.{nat_tests}
use Rattle.std.specs.List.{AllZip, flat_map, AllByRecursion}
use Rattle.std.specs.Str.Parse.{digits_value}
use Rattle.mill_model.specs.Mill.{IsBetween}
use Rattle.mill_read.specs.WordsLeft.{WordsLeft}
use Rattle.mill_read.specs.Words.{is_number}
use Rattle.mill_read.specs.Tokens.{Token, Numeral, Spells, numerals}
use Rattle.mill_read.specs.Reading.{Read, ◌>>=◌, number_in, first_by, number_at, list_at, no_more}
use Rattle.mill_read.specs.declared.fault.TextFault.{TextFault}
use Rattle.mill_read.specs.declared.fault.Why.{Why}
use Rattle.mill_read.specs.declared.fault.Why.TheVariants.{NotNumber}

pub bind_ok : {A B : Type 0} (r : Result A TextFault) (f : A → Result B TextFault) (y : B) → r >>= f ≡ Ok y → (x : A) × (r ≡ Ok x) × (f x ≡ Ok y)
bind_ok (Ok x) f y h = (x, refl, h)
bind_ok (Err e) f y h = cc

pub same_ok : {A : Type 0} (x y : A) → (let r : Result A TextFault = Ok x in r ≡ Ok y) → x ≡ y
same_ok x y h = cc

-- a test that passed, where the other answer is an error
pub guard_ok : {A : Type 0} (b : Bool) (e : TextFault) (r : Result A TextFault) (y : A) → cond b r (Err e) ≡ Ok y → (b ≡ true) × (r ≡ Ok y)
guard_ok true e r y h = (refl, h)
guard_ok false e r y h = cc

-- an item takes some words, which spell its tokens
pub record Takes {A : Type 0} (tokens : A → List Token) (Fits : A → Type 0) (left next : WordsLeft) (x : A) : Type 0 where
  pub front : List (List ℕ)
  pub whole : left.words ≡ front ++ next.words
  pub spells : AllZip Spells front (tokens x)
  pub fits : Fits x

pub record IsReader {A : Type 0} (item : WordsLeft → Read A) (tokens : A → List Token) (Fits : A → Type 0) : Type 0 where
  pub takes : (left next : WordsLeft) (x : A) → item left ≡ Ok (x, next) → Takes tokens Fits left next x
  pub again : (left : WordsLeft) (front rest : List (List ℕ)) (x : A) → Fits x → AllZip Spells front (tokens x) → left.words ≡ front ++ rest
      → (n : ℕ) × (item left ≡ Ok (x, record { number = n; words = rest }))

-- the same of a reader of one word
pub record IsWordReader {A : Type 0} (item : ℕ → List ℕ → Result A TextFault) (token : A → Token) (Fits : A → Type 0) : Type 0 where
  pub takes : (place : ℕ) (word : List ℕ) (x : A) → item place word ≡ Ok x → Spells word (token x) × Fits x
  pub again : (place : ℕ) (word : List ℕ) (x : A) → Fits x → Spells word (token x) → item place word ≡ Ok x

abbrev pub one_token : {A : Type 0} → (A → Token) → A → List Token
one_token token x = token x ∷ []

takes_first : {A : Type 0} {item : ℕ → List ℕ → Result A TextFault} {token : A → Token} {Fits : A → Type 0} (reader : IsWordReader item token Fits) (place : ℕ) (words : List (List ℕ)) (x : A) (next : WordsLeft)
    → first_by item place words ≡ Ok (x, next) → (word : List ℕ) × (words ≡ word ∷ next.words) × Spells word (token x) × Fits x
takes_first reader place [] x next h = cc
takes_first {A} {item} {token} {Fits} reader place (word ∷ words) x next h =
    let b = bind_ok (item place word) (λ y. Ok (y, record { number = place + 1; words = words })) (x, next) h in
    let pair = same_ok _ _ b.2 in
    let t = reader.takes place word b.0 b.1 in
    let same : b.0 ≡ x = ap (λ (p : A × WordsLeft). p.0) pair in
    (word, ap (λ (p : A × WordsLeft). word ∷ p.1.words) pair, subst (λ (y : A). Spells word (token y)) same t.0, subst Fits same t.1)

again_first : {A : Type 0} {item : ℕ → List ℕ → Result A TextFault} {token : A → Token} {Fits : A → Type 0} (reader : IsWordReader item token Fits) (left : WordsLeft) (front rest : List (List ℕ)) (x : A)
    → Fits x → AllZip Spells front (token x ∷ []) → left.words ≡ front ++ rest → (n : ℕ) × (first_by item left.number left.words ≡ Ok (x, record { number = n; words = rest }))
again_first reader left [] rest x fits spells whole = absurd spells
again_first {A} {item} reader left (word ∷ []) rest x fits spells whole = (
  left.number + 1,
  ap (λ (ws : List (List ℕ)). first_by item left.number ws) whole
      ∙ ap (λ (r : Result A TextFault). r >>= λ y. Ok (y, record { number = left.number + 1; words = rest })) (reader.again left.number word x fits spells.0),
)
again_first reader left (word ∷ other ∷ front) rest x fits spells whole = absurd spells.1

pub first_reader : {A : Type 0} {item : ℕ → List ℕ → Result A TextFault} {token : A → Token} {Fits : A → Type 0} (reader : IsWordReader item token Fits)
    → IsReader (λ left. first_by item left.number left.words) (one_token token) Fits
first_reader reader = record {
  takes = λ left next x h. let t = takes_first reader left.number left.words x next h in
      record { front = t.0 ∷ []; whole = t.1; spells = (t.2, tt); fits = t.3 };
  again = again_first reader;
}

pub in_range : (low high n : ℕ) → (leb low n && leb n high) ≡ true → IsBetween low high n
in_range low high n h = grind (arith, nat_tests)

from_range : (low high n : ℕ) → IsBetween low high n → (leb low n && leb n high) ≡ true
from_range low high n h = grind (arith, nat_tests)

takes_word : (outside : Why) (low high place : ℕ) (word : List ℕ) (n : ℕ) → number_in outside low high place word ≡ Ok n → Spells word (Numeral n) × IsBetween low high n
takes_word outside low high place word n h =
    let digits = guard_ok (is_number word) (record { word = place; why = NotNumber }) _ n h in
    let range = guard_ok (leb low (digits_value 10 word) && leb (digits_value 10 word) high) (record { word = place; why = outside }) _ n digits.1 in
    let same : digits_value 10 word ≡ n = same_ok _ _ range.1 in
    ((digits.0, same), subst (λ (m : ℕ). IsBetween low high m) same (in_range low high (digits_value 10 word) range.0))

pub gives_word : (outside : Why) (low high place : ℕ) (word : List ℕ) (n : ℕ) → IsBetween low high n → Spells word (Numeral n) → number_in outside low high place word ≡ Ok n
gives_word outside low high place word n r s =
    ap (λ (b : Bool). cond b (cond (leb low (digits_value 10 word) && leb (digits_value 10 word) high) (Ok (digits_value 10 word)) (Err (record { word = place; why = outside }))) (Err (record { word = place; why = NotNumber }))) s.0
    ∙ ap (λ (m : ℕ). cond (leb low m && leb m high) (Ok m) (Err (record { word = place; why = outside }))) s.1
    ∙ ap (λ (b : Bool). cond b (Ok n) (Err (record { word = place; why = outside }))) (from_range low high n r)

abbrev pub one_numeral : ℕ → List Token
one_numeral n = Numeral n ∷ []

pub number_reader : (outside : Why) (low high : ℕ) → IsReader (number_at outside low high) one_numeral (IsBetween low high)
unfolding number_at
number_reader outside low high =
    let words : IsWordReader (number_in outside low high) (λ n. Numeral n) (IsBetween low high) = record { takes = takes_word outside low high; again = gives_word outside low high } in
    first_reader words

pub zip_join : (a b : List (List ℕ)) (xs ys : List Token) → AllZip Spells a xs → AllZip Spells b ys → AllZip Spells (a ++ b) (xs ++ ys)
zip_join [] b [] ys p q = q
zip_join [] b (x ∷ xs) ys p q = absurd p
zip_join (w ∷ a) b [] ys p q = absurd p
zip_join (w ∷ a) b (x ∷ xs) ys p q = (p.0, zip_join a b xs ys p.1 q)

pub whole_join : (a b words after rest : List (List ℕ)) → words ≡ a ++ after → after ≡ b ++ rest → words ≡ (a ++ b) ++ rest
whole_join a b words after rest p q = p ∙ ap (λ (l : List (List ℕ)). a ++ l) q ∙ sym (append_assoc a b rest)

pub record Parts (front : List (List ℕ)) (xs ys : List Token) : Type 0 where
  pub first : List (List ℕ)
  pub second : List (List ℕ)
  pub whole : front ≡ first ++ second
  pub firsts : AllZip Spells first xs
  pub seconds : AllZip Spells second ys

pub zip_parts : (front : List (List ℕ)) (xs ys : List Token) → AllZip Spells front (xs ++ ys) → Parts front xs ys
zip_parts front [] ys p = record { first = []; second = front; whole = refl; firsts = tt; seconds = p }
zip_parts [] (x ∷ xs) ys p = absurd p
zip_parts (w ∷ front) (x ∷ xs) ys p =
    let r = zip_parts front xs ys p.1 in
    record { first = w ∷ r.first; second = r.second; whole = ap (λ (l : List (List ℕ)). w ∷ l) r.whole; firsts = (p.0, r.firsts); seconds = r.seconds }

-- words that are two parts before a rest
pub whole_parts : (a b front words rest : List (List ℕ)) → words ≡ front ++ rest → front ≡ a ++ b → words ≡ a ++ (b ++ rest)
whole_parts a b front words rest p q = p ∙ ap (λ (f : List (List ℕ)). f ++ rest) q ∙ append_assoc a b rest

pub record ListFits {A : Type 0} (Fits : A → Type 0) (count : ℕ) (xs : List A) : Type 0 where
  pub length : length xs ≡ count
  pub each : AllByRecursion Fits xs

-- a list of items
takes_list : {A : Type 0} {item : WordsLeft → Read A} {tokens : A → List Token} {Fits : A → Type 0} (reader : IsReader item tokens Fits) (count : ℕ) (left next : WordsLeft) (xs : List A)
    → list_at item count left ≡ Ok (xs, next) → Takes (λ xs. flat_map tokens xs) (ListFits Fits count) left next xs
unfolding list_at
takes_list {A} {item} {tokens} {Fits} reader zero left next xs h =
    subst (λ (p : List A × WordsLeft). Takes (λ xs. flat_map tokens xs) (ListFits Fits 0) left p.1 p.0) (same_ok _ _ h)
    (record { front = []; whole = refl; spells = tt; fits = record { length = refl; each = tt } })
takes_list {A} {item} {tokens} {Fits} reader (suc count) left next xs h =
    let b = bind_ok (item left) (λ first. list_at item count first.1 >>= λ others. Ok (first.0 ∷ others.0, others.1)) (xs, next) h in
    let d = bind_ok (list_at item count b.0.1) (λ others. Ok (b.0.0 ∷ others.0, others.1)) (xs, next) b.2 in
    let t = reader.takes left b.0.1 b.0.0 b.1 in
    let u = takes_list reader count b.0.1 d.0.1 d.0.0 d.1 in
    subst (λ (p : List A × WordsLeft). Takes (λ xs. flat_map tokens xs) (ListFits Fits (suc count)) left p.1 p.0) (same_ok _ _ d.2)
    (record {
      front = t.front ++ u.front;
      whole = whole_join t.front u.front left.words b.0.1.words d.0.1.words t.whole u.whole;
      spells = zip_join t.front u.front (tokens b.0.0) (flat_map tokens d.0.0) t.spells u.spells;
      fits = record { length = ap suc u.fits.length; each = (t.fits, u.fits.each) };
    })

again_list : {A : Type 0} {item : WordsLeft → Read A} {tokens : A → List Token} {Fits : A → Type 0} (reader : IsReader item tokens Fits) (count : ℕ) (left : WordsLeft) (front rest : List (List ℕ)) (xs : List A)
    → ListFits Fits count xs → AllZip Spells front (flat_map tokens xs) → left.words ≡ front ++ rest
    → (n : ℕ) × (list_at item count left ≡ Ok (xs, record { number = n; words = rest }))
unfolding list_at
again_list reader zero left [] rest [] fits spells whole = (left.number, ap (λ (ws : List (List ℕ)). Ok ([], record { number = left.number; words = ws })) whole)
again_list reader zero left (w ∷ front) rest [] fits spells whole = absurd spells
again_list reader zero left front rest (x ∷ xs) fits spells whole = absurd (omega (arith, fits.length))
again_list reader (suc count) left front rest [] fits spells whole = absurd (omega (arith, fits.length))
again_list {A} {item} {tokens} {Fits} reader (suc count) left front rest (x ∷ xs) fits spells whole =
    let parts = zip_parts front (tokens x) (flat_map tokens xs) spells in
    let first = reader.again left parts.first (parts.second ++ rest) x fits.each.0 parts.firsts (whole_parts parts.first parts.second front left.words rest whole parts.whole) in
    let others = again_list reader count (record { number = first.0; words = parts.second ++ rest }) parts.second rest xs (record { length = omega (arith, fits.length); each = fits.each.1 }) parts.seconds refl in (
      others.0,
      ap (λ (r : Read A). r >>= λ f. list_at item count f.1 >>= λ o. Ok (f.0 ∷ o.0, o.1)) first.1
          ∙ ap (λ (r : Read (List A)). r >>= λ o. Ok (x ∷ o.0, o.1)) others.1,
    )

pub list_reader : {A : Type 0} {item : WordsLeft → Read A} {tokens : A → List Token} {Fits : A → Type 0} (reader : IsReader item tokens Fits) (count : ℕ) → IsReader (list_at item count) (λ xs. flat_map tokens xs) (ListFits Fits count)
list_reader reader count = record { takes = takes_list reader count; again = again_list reader count }

pub flat_map-one_numeral : (xs : List ℕ) → flat_map one_numeral xs ≡ numerals xs
flat_map-one_numeral [] = refl
flat_map-one_numeral (x ∷ xs) = ap (λ (l : List Token). Numeral x ∷ l) (flat_map-one_numeral xs)

pub no_more_ok : {A : Type 0} (x y : A) (place : ℕ) (words : List (List ℕ)) → no_more x place words ≡ Ok y → (words ≡ []) × (x ≡ y)
no_more_ok x y place [] h = (refl, same_ok _ _ h)
no_more_ok x y place (w ∷ words) h = cc

pub last_part : (front : List (List ℕ)) (words : List (List ℕ)) → words ≡ [] → front ++ words ≡ front
last_part front words h = ap (λ (w : List (List ℕ)). front ++ w) h ∙ append-nil front
