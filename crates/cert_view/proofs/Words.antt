-- The words of a text, one by one.
use Rattle.std.proofs.Common.{◌≡◌, ℕ, ℤ, zero, suc, ◌+◌, ◌<◌, Bool, true, false, cond, eqb, ◌&&◌, List, [], ◌∷◌, Option, Some, None, length, drop, refl, ap, sym, ◌∙◌, inl, inr, ⊎_elim, arith, ◌⊎◌, count_by, slice_get, map, subst, pos, unsigned_abs}
use Rattle.std.specs.List.{slice_split, position_or_len, before_first, list_all, AllByRecursion}
use Rattle.std.specs.Option.{option_map}
use Rattle.std.proofs.lemmas.Bool.Decides.{nat_tests}
use Rattle.std.proofs.lemmas.List.Splits.{length-slice_split}
use Rattle.std.proofs.lemmas.List.{length-map, length-drop}
use Rattle.cert_view.specs.Numbers.{is_space, first_word, after_word, words_after, numbers_of, is_spelled, IsSpaced, AreSpelled}
use Rattle.std.proofs.lemmas.Bool.{leb-true}
use Rattle.std.proofs.Math.IntN.{neg_ℤ}
use Rattle.cert_view.specs.Number.{is_number, is_within, number_value, IsWithin}
use Rattle.cert_view.specs.Reading.{count_of, read_number}
use Rattle.cert_view.specs.declared.number.Number.TheVariants.{Within, Beyond}

and_assoc : (a b c : Bool) → (a && (b && c)) ≡ ((a && b) && c)
and_assoc true b c = refl
and_assoc false b c = refl

pub and_true : (a : Bool) → (a && true) ≡ a
and_true true = refl
and_true false = refl

pub and_false : (a : Bool) → (a && false) ≡ false
and_false true = refl
and_false false = refl

pub either : (b : Bool) → (b ≡ true) ⊎ (b ≡ false)
either true = inl refl
either false = inr refl

-- the first word, and the words after the space that ends it
pub split_word : (bytes : List ℕ) → slice_split is_space bytes ≡ before_first is_space bytes ∷ words_after (drop (position_or_len is_space bytes) bytes)
split_word [] = refl
split_word (b ∷ bs) =
    let next : 1 + position_or_len is_space bs ≡ suc (position_or_len is_space bs) = omega arith in
    ⊎_elim (λ yes. rw yes (rw yes refl)) (λ no. rw no (rw (next, split_word bs) refl)) (either (eqb b 32))

pub word_step : (bytes : List ℕ) → 0 < length bytes → IsSpaced bytes → words_after bytes ≡ before_first is_space (drop 1 bytes) ∷ words_after (drop (position_or_len is_space (drop 1 bytes)) (drop 1 bytes))
word_step [] some spaced = absurd (omega arith)
word_step (b ∷ bs) some spaced = rw spaced (split_word bs)

-- what stands from the first space on
pub IsSpaced-first : (bytes : List ℕ) → IsSpaced (drop (position_or_len is_space bytes) bytes)
IsSpaced-first [] = tt
IsSpaced-first (b ∷ bs) =
    let next : 1 + position_or_len is_space bs ≡ suc (position_or_len is_space bs) = omega arith in
    ⊎_elim (λ yes. rw yes (grind (arith, nat_tests))) (λ no. rw no (rw next (IsSpaced-first bs))) (either (eqb b 32))

-- a word's length is that of what follows each space
pub length-numbers_of : (bytes : List ℕ) → length (numbers_of bytes) ≡ count_by is_space bytes
length-numbers_of bytes = simp (length-map, length-drop) (omega (arith, length-slice_split is_space bytes))

-- bytes that spell some number aren't empty
pub some_bytes : (bytes : List ℕ) → 0 < length (numbers_of bytes) → 0 < length bytes
some_bytes [] h = absurd (omega arith)
some_bytes (b ∷ bs) h = omega arith

pub both : (a b : Bool) → (a && b) ≡ true → (a ≡ true) × (b ≡ true)
both true b h = (refl, h)
both false b h = cc

-- the first of spelled words, and the others
pub spelled_parts : (bytes word after : List ℕ) → AreSpelled bytes → words_after bytes ≡ word ∷ words_after after → IsSpaced after → (is_spelled word ≡ true) × AreSpelled after
spelled_parts bytes word after spelled words spaced =
    let parts = both (is_spelled word) (list_all is_spelled (words_after after)) (rw words at spelled.numbers) in
    (parts.0, record { spaced = spaced; numbers = parts.1 })

-- what reading a word tells
pub read_number-spelled : (word : List ℕ) → is_spelled word ≡ true → read_number word ≡ Some (Within (number_value word))
unfolding read_number
read_number-spelled word h =
    let parts = both (is_number word) (is_within word) h in rw (parts.0, parts.1) refl

pub read_number-within : (word : List ℕ) (value : ℤ) → Some (Within value) ≡ read_number word → (is_number word ≡ true) × (is_within word ≡ true)
unfolding read_number
read_number-within word value e =
    elim (either (is_number word)) [
      | inl spelt ↦ elim (either (is_within word)) [
        | inl near ↦ (spelt, near)
        | inr far ↦ let f : Some (Within value) ≡ Some Beyond = rw (spelt, far) at e in cc
      ]
      | inr unspelt ↦ let f : Some (Within value) ≡ None = rw unspelt at e in cc
    ]

pub read_number-beyond : (word : List ℕ) → Some Beyond ≡ read_number word → (is_number word ≡ true) × (is_within word ≡ false)
unfolding read_number
read_number-beyond word e =
    elim (either (is_number word)) [
      | inl spelt ↦ elim (either (is_within word)) [
        | inl near ↦ let f : Some Beyond ≡ Some (Within (number_value word)) = rw (spelt, near) at e in cc
        | inr far ↦ (spelt, far)
      ]
      | inr unspelt ↦ let f : Some Beyond ≡ None = rw unspelt at e in cc
    ]

pub read_number-none : (word : List ℕ) → None ≡ read_number word → is_number word ≡ false
unfolding read_number
read_number-none word e =
    elim (either (is_number word)) [
      | inl spelt ↦ let f : None ≡ Some (cond (is_within word) (Within (number_value word)) Beyond) = rw spelt at e in cc
      | inr unspelt ↦ unspelt
    ]

-- a count, with words that were counted before
abbrev pub also_counted : ℕ → Bool → Option (ℕ × Bool) → Option (ℕ × Bool)
also_counted n within counted = option_map (λ p. (n + p.0, within && p.1)) counted

counted_twice : (n : ℕ) (b c : Bool) (counted : Option (ℕ × Bool)) → also_counted n b (also_counted 1 c counted) ≡ also_counted (n + 1) (b && c) counted
counted_twice n b c None = refl
counted_twice n b c (Some p) =
    let same : n + (1 + p.0) ≡ n + 1 + p.0 = omega arith in
    rw same (ap (λ v. Some (n + 1 + p.0, v)) (and_assoc b c p.1))

count_of-number : (w : List ℕ) (ws : List (List ℕ)) → is_number w ≡ true → count_of (w ∷ ws) ≡ also_counted 1 (is_within w) (count_of ws)
count_of-number w ws spelt =
    elim (either (list_all is_number ws)) [
      | inl all ↦ rw (spelt, all) (let one : 1 + length ws ≡ suc (length ws) = omega arith in rw one refl)
      | inr none ↦ rw (spelt, none) refl
    ]

count_of-no_number : (w : List ℕ) (ws : List (List ℕ)) → is_number w ≡ false → count_of (w ∷ ws) ≡ None
count_of-no_number w ws unspelt = rw unspelt refl

-- one more word is counted, where it is a number
pub counted_on : (n : ℕ) (b : Bool) (w : List ℕ) (words ws : List (List ℕ)) (total : Option (ℕ × Bool)) → words ≡ w ∷ ws → is_number w ≡ true → also_counted n b (count_of words) ≡ total → also_counted (n + 1) (b && is_within w) (count_of ws) ≡ total
counted_on n b w words ws total e spelt h = sym (counted_twice n b (is_within w) (count_of ws)) ∙ ap (also_counted n b) (sym (ap count_of e ∙ count_of-number w ws spelt)) ∙ h

-- words of which one is no number are counted as nothing
pub uncounted : (n : ℕ) (b : Bool) (w : List ℕ) (words ws : List (List ℕ)) (total : Option (ℕ × Bool)) → words ≡ w ∷ ws → is_number w ≡ false → also_counted n b (count_of words) ≡ total → None ≡ total
uncounted n b w words ws total e unspelt h = ap (also_counted n b) (sym (ap count_of e ∙ count_of-no_number w ws unspelt)) ∙ h

-- what stands at a place, and after it
pub drop_next : {X : Type 0} (xs : List X) (k : ℕ) (x : X) (ys : List X) → drop k xs ≡ x ∷ ys → (slice_get xs k ≡ Some x) × (drop (k + 1) xs ≡ ys)
drop_next [] zero x ys e = cc
drop_next [] (suc k) x ys e = cc
drop_next (y ∷ xs) zero x ys e = (cc, cc)
drop_next (y ∷ xs) (suc k) x ys e = let next : suc k + 1 ≡ suc (k + 1) = omega arith in rw next (drop_next xs k x ys e)

-- words that are numbers, all in the range, are spelled
pub all_spelled : (ws : List (List ℕ)) → list_all is_number ws ≡ true → list_all is_within ws ≡ true → list_all is_spelled ws ≡ true
all_spelled [] n r = refl
all_spelled (w ∷ ws) n r =
    let ns = both (is_number w) (list_all is_number ws) n in
    let rs = both (is_within w) (list_all is_within ws) r in
    rw (ns.0, rs.0) (all_spelled ws ns.1 rs.1)

-- the words after the first stand behind the first word
pub words_after-word : (text : List ℕ) → words_after (after_word text) ≡ words_after text
words_after-word text = rw (split_word text) refl

-- the first of spelled numbers is read, and the others are spelled
pub record IsNext (bytes : List ℕ) : Type 0 where
  pub read : read_number (first_word (drop 1 bytes)) ≡ Some (Within (number_value (first_word (drop 1 bytes))))
  pub numbers : numbers_of bytes ≡ number_value (first_word (drop 1 bytes)) ∷ numbers_of (after_word (drop 1 bytes))
  pub spelled : AreSpelled (after_word (drop 1 bytes))

pub IsNext-spelled : (bytes : List ℕ) → AreSpelled bytes → 0 < length (numbers_of bytes) → IsNext bytes
IsNext-spelled bytes spelled some =
    let step = word_step bytes (some_bytes bytes some) spelled.spaced in
    let parts = spelled_parts bytes (first_word (drop 1 bytes)) (after_word (drop 1 bytes)) spelled step (IsSpaced-first (drop 1 bytes)) in
    record {
      read = read_number-spelled (first_word (drop 1 bytes)) parts.0;
      numbers = ap (map number_value) step;
      spelled = parts.1;
    }

-- so the reader of it gives its value
pub next-none : (bytes : List ℕ) → IsNext bytes → None ≡ read_number (first_word (drop 1 bytes)) → ⊥
next-none bytes next e = let never : None ≡ Some (Within (number_value (first_word (drop 1 bytes)))) = e ∙ next.read in cc

pub next-beyond : (bytes : List ℕ) → IsNext bytes → Some Beyond ≡ read_number (first_word (drop 1 bytes)) → ⊥
next-beyond bytes next e = let never : Some Beyond ≡ Some (Within (number_value (first_word (drop 1 bytes)))) = e ∙ next.read in cc

pub next-within : (bytes : List ℕ) (value : ℤ) → IsNext bytes → Some (Within value) ≡ read_number (first_word (drop 1 bytes)) → value ≡ number_value (first_word (drop 1 bytes))
next-within bytes value next e = let same : Some (Within value) ≡ Some (Within (number_value (first_word (drop 1 bytes)))) = e ∙ next.read in cc

abs_neg : (v : ℕ) → unsigned_abs (neg_ℤ (pos v)) ≡ v
abs_neg zero = refl
abs_neg (suc v) = refl

-- the number of a word in the range is in the range
within_value : (w : List ℕ) → is_within w ≡ true → IsWithin (number_value w)
within_value [] h = omega arith
within_value (b ∷ bs) h = elim (either (eqb b 45)) [
  | inl minus ↦ rw minus (rw abs_neg (leb-true _ _ (rw minus at h)))
  | inr plain ↦ rw plain (leb-true _ _ (rw plain at h))
]

within_values : (ws : List (List ℕ)) → list_all is_spelled ws ≡ true → AllByRecursion IsWithin (map number_value ws)
within_values [] h = tt
within_values (w ∷ ws) h =
    let parts = both (is_spelled w) (list_all is_spelled ws) h in
    (within_value w (both (is_number w) (is_within w) parts.0).1, within_values ws parts.1)

-- spelled numbers are in the range
pub all_within : (bytes : List ℕ) → AreSpelled bytes → AllByRecursion IsWithin (numbers_of bytes)
all_within bytes h = within_values (words_after bytes) h.numbers

-- what holds of all holds at a place
pub holds_at : {X : Type 0} (P : X → Type 0) (xs : List X) (k : ℕ) (x : X) → AllByRecursion P xs → slice_get xs k ≡ Some x → P x
holds_at P [] zero x all e = cc
holds_at P [] (suc k) x all e = cc
holds_at P (y ∷ ys) zero x all e = let same : y ≡ x = cc in subst P same all.0
holds_at P (y ∷ ys) (suc k) x all e = holds_at P ys k x all.1 e
