-- The text of a number and the number of a text.
use Rattle.std.proofs.Common.{◌≡◌, ℕ, zero, suc, ◌<◌, ◌≤◌, ◌^◌, ℤ, pos, negsuc, Bool, true, false, eqb, ltb, leb, ◌||◌, ◌⊎◌, List, [], ◌∷◌, ◌++◌, length, get_or, map, refl, ap, sym, ◌∙◌, inl, inr, arith, rules, subst, unsigned_abs}
use Rattle.std.specs.List.{list_all, slice_split, join_with_byte, flat_map, All, AllByRecursion}
use Rattle.std.proofs.lemmas.List.{append-nil}
use Rattle.std.proofs.lemmas.List.Splits.{slice_split_none, slice_split_at, join_with_byte-slice_split}
use Rattle.cert_view.specs.Text.{numbers_text}
use Rattle.std.specs.Char.{is_ascii_digit}
use Rattle.std.specs.Str.{bytes_eq}
use Rattle.std.specs.Fmt.{decimal, signed_decimal}
use Rattle.std.proofs.lemmas.Str.Parse.{IsNumeralModel, numerals_by_fold}
use Rattle.std.proofs.lemmas.Fmt.{decimal-digits_value, digits_decimal, digits_value-decimal, first_decimal, decimal_digit, decimal_nonempty}
use Rattle.std.specs.List.{fold}
use Rattle.std.proofs.lemmas.Bool.{ltb-true, lt-ltb, eqb-true, leb-true, le-leb}
use Rattle.std.proofs.lemmas.Bool.Decides.{nat_tests}
use Rattle.std.proofs.lemmas.Slice.Eq.{bytes_eq-Decides}
use Rattle.std.proofs.Math.IntN.{neg_ℤ}
use Rattle.cert_view.specs.Number.{is_positive, digits_value, with_digit, is_number, is_within, number_value, IsWithin}
use Rattle.cert_view.specs.Numbers.{is_spelled, is_space, words_after, numbers_of, IsSpaced, AreSpelled}
use Rattle.cert_view.proofs.Words.{both, either}

cases_zero : (n : ℕ) → (n ≡ 0) ⊎ (0 < n)
cases_zero zero = inl refl
cases_zero (suc n) = inr (omega arith)

or_true : (a : Bool) → (a || true) ≡ true
or_true true = refl
or_true false = refl

or_false : (a : Bool) → (a || false) ≡ a
or_false true = refl
or_false false = refl

own : IsNumeralModel (λ ds. list_all is_ascii_digit ds ≡ true) digits_value
own = numerals_by_fold (λ ds. list_all is_ascii_digit ds ≡ true) (search rules) (λ n ds. fold with_digit n ds) (search rules)

-- `decimal` writes digits
pub decimal-digits : (n : ℕ) → n < 2 ^ 64 → list_all is_ascii_digit (decimal n) ≡ true
decimal-digits n small = digits_decimal own n small

-- positive digits are what `decimal` writes of their value
pub decimal-positive : (ds : List ℕ) → is_positive ds ≡ true → digits_value ds < 2 ^ 64 → decimal (digits_value ds) ≡ ds
decimal-positive [] h small = cc
decimal-positive (d ∷ ds) h small =
    let parts = both (ltb 48 d) (list_all is_ascii_digit (d ∷ ds)) h in
    let above : 48 < d = ltb-true 48 d parts.0 in
    decimal-digits_value own (d ∷ ds) parts.1 (omega arith) (λ e. absurd (omega arith)) small

positive_from : (ds : List ℕ) → 0 < length ds → 48 < get_or ds 0 0 → list_all is_ascii_digit ds ≡ true → is_positive ds ≡ true
positive_from [] some above digits = absurd (omega arith)
positive_from (d ∷ ds) some above digits = rw (lt-ltb 48 d above, digits) refl

-- what `decimal` writes of a number above 0 is positive digits, and they write the number
pub positive-decimal : (n : ℕ) → 0 < n → n < 2 ^ 64 → is_positive (decimal n) ≡ true
positive-decimal n above small = positive_from (decimal n) (decimal_nonempty n small) (first_decimal n above small) (digits_decimal own n small)

pub digits_value-of_decimal : (n : ℕ) → n < 2 ^ 64 → digits_value (decimal n) ≡ n
digits_value-of_decimal n small = digits_value-decimal own n small

-- positive digits write a number above 0
pub positive_value : (ds : List ℕ) → is_positive ds ≡ true → digits_value ds < 2 ^ 64 → 0 < digits_value ds
positive_value ds h small = elim (cases_zero (digits_value ds)) [
  | inl none ↦ let e : ds ≡ 48 ∷ [] = sym (decimal-positive ds h small) ∙ ap decimal none ∙ decimal_digit 0 (omega arith) in
      (let P : List ℕ → Type 0 = λ xs. is_positive xs ≡ true in let f : is_positive (48 ∷ []) ≡ true = subst P e h in cc)
  | inr above ↦ above
]

neg_text : (v : ℕ) (bs : List ℕ) → 0 < v → decimal v ≡ bs → signed_decimal (neg_ℤ (pos v)) ≡ 45 ∷ bs
neg_text zero bs above e = absurd (omega arith)
neg_text (suc m) bs above e = ap (λ xs. 45 ∷ xs) e

unsigned_text : (w : List ℕ) → (bytes_eq w (48 ∷ []) || is_positive w) ≡ true → digits_value w ≤ 2 ^ 62 → decimal (digits_value w) ≡ w
unsigned_text w h small =
    elim (either (is_positive w)) [
      | inl above ↦ decimal-positive w above (omega arith)
      | inr none ↦ let zero_text : w ≡ 48 ∷ [] = (bytes_eq-Decides w (48 ∷ [])).0 (rw (none, or_false (bytes_eq w (48 ∷ []))) at h) in
          rw zero_text (decimal_digit 0 (omega arith))
    ]

-- a word that spells a number in the range is the text of that number
pub signed_decimal-spelled : (w : List ℕ) → is_spelled w ≡ true → signed_decimal (number_value w) ≡ w
signed_decimal-spelled [] h = cc
signed_decimal-spelled (b ∷ bs) h =
    let parts = both (is_number (b ∷ bs)) (is_within (b ∷ bs)) h in
    elim (either (eqb b 45)) [
      | inl minus ↦
          let is_minus : b ≡ 45 = eqb-true b 45 minus in
          let digits : is_positive bs ≡ true = rw is_minus at parts.0 in
          let small : digits_value bs ≤ 2 ^ 62 = leb-true (digits_value bs) (2 ^ 62) (rw is_minus at parts.1) in
          rw minus (rw is_minus (neg_text (digits_value bs) bs (positive_value bs digits (omega arith)) (decimal-positive bs digits (omega arith))))
      | inr plain ↦
          let digits : (bytes_eq (b ∷ bs) (48 ∷ []) || is_positive (b ∷ bs)) ≡ true = rw plain at parts.0 in
          let small : digits_value (b ∷ bs) ≤ 2 ^ 62 = leb-true _ _ (rw plain at parts.1) in
          rw plain (unsigned_text (b ∷ bs) digits small)
    ]

text_is_spelled : (w : List ℕ) (n : ℕ) → is_positive w ≡ true → digits_value w ≡ n → n ≤ 2 ^ 62 → is_spelled (45 ∷ w) ≡ true
text_is_spelled w n digits value small = rw (digits, value, le-leb n (2 ^ 62) small) refl

plain_is_spelled : (w : List ℕ) (n : ℕ) → is_positive w ≡ true → digits_value w ≡ n → n ≤ 2 ^ 62 → (is_spelled w ≡ true) × (number_value w ≡ pos n)
plain_is_spelled [] n digits value small = cc
plain_is_spelled (b ∷ bs) n digits value small =
    let parts = both (ltb 48 b) (list_all is_ascii_digit (b ∷ bs)) digits in
    let above : 48 < b = ltb-true 48 b parts.0 in
    let plain : eqb b 45 ≡ false = grind (arith, nat_tests) in
    (rw plain (rw (digits, or_true, value, le-leb n (2 ^ 62) small) refl), rw (plain, value) refl)

-- the text of a number in the range spells that number
pub spelled-signed_decimal : (z : ℤ) → unsigned_abs z ≤ 2 ^ 62 → (is_spelled (signed_decimal z) ≡ true) × (number_value (signed_decimal z) ≡ z)
spelled-signed_decimal (pos zero) h = let e : decimal 0 ≡ 48 ∷ [] = decimal_digit 0 (omega arith) in (rw e refl, rw e refl)
spelled-signed_decimal (pos (suc n)) h =
    plain_is_spelled (decimal (suc n)) (suc n) (positive-decimal (suc n) (omega arith) (omega arith)) (digits_value-of_decimal (suc n) (omega arith)) h
spelled-signed_decimal (negsuc n) h =
    let value : digits_value (decimal (suc n)) ≡ suc n = digits_value-of_decimal (suc n) (omega arith) in
    (text_is_spelled (decimal (suc n)) (suc n) (positive-decimal (suc n) (omega arith) (omega arith)) value h, rw value refl)

joined : (c : ℕ) (w : List ℕ) (ws : List (List ℕ)) → join_with_byte c (w ∷ ws) ≡ w ++ flat_map (λ v. c ∷ v) ws
joined c w [] = sym (append-nil w)
joined c w (v ∷ ws) = ap (λ xs. w ++ c ∷ xs) (joined c v ws)

split_spaced : (bytes : List ℕ) → IsSpaced bytes → slice_split is_space bytes ≡ [] ∷ words_after bytes
split_spaced [] h = refl
split_spaced (b ∷ bytes) h = rw h refl

texts_of_words : (ws : List (List ℕ)) → list_all is_spelled ws ≡ true → numbers_text (map number_value ws) ≡ flat_map (λ w. 32 ∷ w) ws
texts_of_words [] h = refl
texts_of_words (w ∷ ws) h =
    let parts = both (is_spelled w) (list_all is_spelled ws) h in
    rw (signed_decimal-spelled w parts.0, texts_of_words ws parts.1) refl

-- bytes that spell numbers are the text of the numbers
pub numbers_text-spelled : (bytes : List ℕ) → AreSpelled bytes → numbers_text (numbers_of bytes) ≡ bytes
numbers_text-spelled bytes h =
    texts_of_words (words_after bytes) h.numbers ∙ sym (joined 32 [] (words_after bytes))
    ∙ ap (join_with_byte 32) (sym (split_spaced bytes h.spaced)) ∙ join_with_byte-slice_split 32 bytes

no_space : (ds : List ℕ) → list_all is_ascii_digit ds ≡ true → All (λ x. is_space x ≡ false) ds
no_space [] h k d lt = absurd (omega arith)
no_space (x ∷ ds) h zero d lt =
    let parts = both (is_ascii_digit x) (list_all is_ascii_digit ds) h in
    let ends = both (leb 48 x) (leb x 57) parts.0 in
    let low : 48 ≤ x = leb-true 48 x ends.0 in
    grind (arith, nat_tests)
no_space (x ∷ ds) h (suc k) d lt = no_space ds (both (is_ascii_digit x) (list_all is_ascii_digit ds) h).1 k d (omega arith)

text_no_space : (n : ℤ) → IsWithin n → All (λ x. is_space x ≡ false) (signed_decimal n)
text_no_space (pos n) h k d lt = no_space (decimal n) (digits_decimal own n (omega arith)) k d lt
text_no_space (negsuc n) h zero d lt = refl
text_no_space (negsuc n) h (suc k) d lt = no_space (decimal (suc n)) (digits_decimal own (suc n) (omega arith)) k d (omega arith)

split_text : (n : ℤ) (ns : List ℤ) → IsWithin n → AllByRecursion IsWithin ns → slice_split is_space (signed_decimal n ++ numbers_text ns) ≡ signed_decimal n ∷ map signed_decimal ns
split_text n [] h hs = rw append-nil (slice_split_none is_space (signed_decimal n) (text_no_space n h))
split_text n (m ∷ ns) h hs =
    slice_split_at is_space (signed_decimal n) 32 (signed_decimal m ++ numbers_text ns) (text_no_space n h) refl
    ∙ ap (λ ws. signed_decimal n ∷ ws) (split_text m ns hs.0 hs.1)

spelled_words : (ns : List ℤ) → AllByRecursion IsWithin ns → (list_all is_spelled (map signed_decimal ns) ≡ true) × (map number_value (map signed_decimal ns) ≡ ns)
spelled_words [] hs = (refl, refl)
spelled_words (n ∷ ns) hs =
    let one = spelled-signed_decimal n hs.0 in
    let rest = spelled_words ns hs.1 in
    (rw (one.0, rest.0) refl, rw (one.1, rest.1) refl)

words_of_text : (ns : List ℤ) → AllByRecursion IsWithin ns → words_after (numbers_text ns) ≡ map signed_decimal ns
words_of_text [] hs = refl
words_of_text (n ∷ ns) hs = split_text n ns hs.0 hs.1

spaced_text : (ns : List ℤ) → IsSpaced (numbers_text ns)
spaced_text [] = tt
spaced_text (n ∷ ns) = refl

-- the text of numbers in the range spells them
pub spelled-numbers_text : (ns : List ℤ) → AllByRecursion IsWithin ns → AreSpelled (numbers_text ns) × (numbers_of (numbers_text ns) ≡ ns)
spelled-numbers_text ns hs =
    let words = words_of_text ns hs in
    let spelled = spelled_words ns hs in
    (record { spaced = spaced_text ns; numbers = rw words spelled.0 }, rw words spelled.1)
