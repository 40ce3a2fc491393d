-- What is held of a line.
use Rattle.std.proofs.Common.{◌≡◌, ℕ, zero, suc, ◌+◌, ◌<◌, ◌≤◌, true, false, cond, eqb, ltb, List, [], ◌∷◌, ◌++◌, length, take, Some, Err, refl, sym, ap, ◌∙◌, subst, arith, inl, inr, length-append, min}
use Rattle.std.specs.List.{position_or_len, before_first, IsLastAndRest}
use Rattle.std.proofs.Math.Seq.{take-append_seam}
use Rattle.std.proofs.lemmas.List.{take-append-le, length-drop, length-take-le}
use Rattle.std.proofs.lemmas.List.Folds.{position_or_len_push}
use Rattle.std.proofs.lemmas.List.Sums.{prefix_len-le-length}
use Rattle.std.proofs.lemmas.Bool.{cases_lt, lt-ltb, ltb-true, both_ways, false_from_ne_true}
use Rattle.std.proofs.lemmas.Bool.Decides.{nat_tests}
use Rattle.cert_view.specs.declared.line.Spelling.TheVariants as spellings
use Rattle.cert_view.specs.Line.{is_feed, line_of, next_line, after_line}
use Rattle.cert_view.specs.Held.{IsOneLine}
use Rattle.cert_view.specs.Text.{line_text}
use Rattle.cert_view.specs.Laws.{BeginsWith, WholeIsFirst, WholeIsText}
use Rattle.cert_view.proofs.Words.{either}
use Rattle.cert_view.proofs.Lines.{some_injective}
use Rattle.cert_view.proofs.LineTexts.{ok_apart}
use Rattle.cert_view.proofs.Feeds.{next_line-some, read_is_text}

-- ---- the place of the first line feed

pub place_within : (xs : List ℕ) → position_or_len is_feed xs ≤ length xs
place_within xs = prefix_len-le-length _ xs

pub place_of_front : (n : ℕ) (xs : List ℕ) → position_or_len is_feed (take n xs) ≡ min n (position_or_len is_feed xs)
place_of_front zero xs = omega arith
place_of_front (suc n) [] = omega arith
place_of_front (suc n) (x ∷ xs) = elim (either (is_feed x)) [
  | inl feed ↦ rw feed (omega arith)
  | inr other ↦ rw other (omega (arith, place_of_front n xs))
]

-- none stands in the front
place-append : (xs ys : List ℕ) → position_or_len is_feed xs ≡ length xs → position_or_len is_feed (xs ++ ys) ≡ length xs + position_or_len is_feed ys
place-append [] ys none = omega arith
place-append (x ∷ xs) ys none = elim (either (is_feed x)) [
  | inl feed ↦ let never : 0 ≡ suc (length xs) = rw feed at none in absurd (omega arith)
  | inr other ↦
      let rest : 1 + position_or_len is_feed xs ≡ suc (length xs) = rw other at none in
      rw other (omega (arith, place-append xs ys (omega arith)))
]

-- one stands in the front
place-found : (xs ys : List ℕ) → position_or_len is_feed xs < length xs → position_or_len is_feed (xs ++ ys) ≡ position_or_len is_feed xs
place-found [] ys found = absurd (omega arith)
place-found (x ∷ xs) ys found = elim (either (is_feed x)) [
  | inl feed ↦ rw feed refl
  | inr other ↦
      let rest : 1 + position_or_len is_feed xs < suc (length xs) = rw other at found in
      rw other (omega (arith, place-found xs ys (omega arith)))
]

-- ---- the last byte of what is held

pub record EndsInFeed (held text : List ℕ) : Type 0 where
  pub place : position_or_len is_feed held + 1 ≡ length held
  pub before : before_first is_feed held ≡ text

push-place : (xs : List ℕ) (y : ℕ) → length (xs ++ y ∷ []) ≤ position_or_len is_feed (xs ++ y ∷ []) + 1 → position_or_len is_feed (xs ++ y ∷ []) ≡ length xs + cond (is_feed y) 0 1
push-place xs y one =
    let pushed = position_or_len_push is_feed xs y in
    elim (either (eqb (position_or_len is_feed xs) (length xs))) [
      | inl none ↦ rw none at pushed
      | inr some ↦
          let first : position_or_len is_feed (xs ++ y ∷ []) ≡ position_or_len is_feed xs = rw some at pushed in
          let within : position_or_len is_feed xs ≤ length xs = place_within xs in
          let same : position_or_len is_feed xs ≡ length xs = omega (arith, length-append xs (y ∷ [])) in
          absurd (both_ways (eqb (position_or_len is_feed xs) (length xs)) some (rw same (grind (arith, nat_tests))))
    ]

pub ends_in_feed : (held text : List ℕ) (last : ℕ) → IsLastAndRest held last text → is_feed last ≡ true → IsOneLine held → EndsInFeed held text
ends_in_feed held text last parts feed one =
    let place : position_or_len is_feed (text ++ last ∷ []) ≡ length text + cond (is_feed last) 0 1 = push-place text last (subst IsOneLine parts.0 one) in
    let here : position_or_len is_feed held ≡ length text = ap (λ xs. position_or_len is_feed xs) parts.0 ∙ place ∙ ap (λ b. length text + cond b 0 1) feed ∙ (omega arith) in
    record {
      place = omega (arith, here, parts.1);
      before = ap (λ n. take n held) here ∙ ap (λ xs. take (length text) xs) parts.0 ∙ take-append_seam text (last ∷ []);
    }

pub ends_otherwise : (held text : List ℕ) (last : ℕ) → IsLastAndRest held last text → is_feed last ≡ false → IsOneLine held → position_or_len is_feed held ≡ length held
ends_otherwise held text last parts other one =
    let place : position_or_len is_feed (text ++ last ∷ []) ≡ length text + cond (is_feed last) 0 1 = push-place text last (subst IsOneLine parts.0 one) in
    ap (λ xs. position_or_len is_feed xs) parts.0 ∙ place ∙ ap (λ b. length text + cond b 0 1) other ∙ parts.1

-- ---- what is read of it

-- a line feed comes in time
read-before : (bytes : List ℕ) → position_or_len is_feed bytes < length bytes → position_or_len is_feed bytes < 8192 → next_line bytes ≡ Some (line_of (before_first is_feed bytes))
read-before bytes inside short =
    let below : ltb (position_or_len is_feed bytes) (min (length bytes) 8192) ≡ true = lt-ltb _ _ (omega arith) in
    next_line-some bytes (omega arith) ∙ rw below refl

-- it is the last byte
pub read-ended : (held text : List ℕ) → EndsInFeed held text → length held ≤ 8192 → next_line held ≡ Some (line_of text)
read-ended held text ends within =
    read-before held (omega (arith, ends.place)) (omega (arith, ends.place)) ∙ ap (λ ys. Some (line_of ys)) ends.before

-- no line feed comes in time
pub read-unended : (held : List ℕ) → 0 < length held → min (length held) 8192 ≤ position_or_len is_feed held → next_line held ≡ Some (Err spellings.Form)
read-unended held some late =
    let beyond : ltb (position_or_len is_feed held) (min (length held) 8192) ≡ false = false_from_ne_true _ (λ e. let h : position_or_len is_feed held < min (length held) 8192 = ltb-true _ _ e in omega (arith, h, late)) in
    next_line-some held some ∙ rw beyond refl

pub whole_is_first : WholeIsFirst
whole_is_first held more whole = elim whole [
  | inl ended ↦
      let here : position_or_len is_feed (held ++ more) ≡ position_or_len is_feed held = place-found held more (omega (arith, ended)) in
      let text : before_first is_feed (held ++ more) ≡ before_first is_feed held = ap (λ n. take n (held ++ more)) here ∙ take-append-le (position_or_len is_feed held) held more (omega (arith, ended)) in
      elim (cases_lt (position_or_len is_feed held) 8192) [
        | inl short ↦
            read-before (held ++ more) (omega (arith, here, ended, length-append held more)) (omega (arith, here, short))
            ∙ ap (λ ys. Some (line_of ys)) text ∙ sym (read-before held (omega (arith, ended)) short)
        | inr long ↦
            read-unended (held ++ more) (omega (arith, ended, length-append held more)) (omega (arith, here, long)) ∙ sym (read-unended held (omega (arith, ended)) (omega (arith, long)))
      ]
  | inr full ↦
      let late : position_or_len is_feed (held ++ more) ≡ length held + position_or_len is_feed more = place-append held more full.0 in
      read-unended (held ++ more) (omega (arith, full.1, length-append held more)) (omega (arith, late, full.1)) ∙ sym (read-unended held (omega (arith, full.1)) (omega (arith, full.0, full.1)))
]

none_left : (xs : List ℕ) → length xs ≡ 0 → xs ≡ []
none_left [] e = refl
none_left (x ∷ xs) e = absurd (omega arith)

pub whole_is_text : WholeIsText
whole_is_text held line whole e = elim whole [
  | inl ended ↦
      let begins : BeginsWith line held (after_line held) = read_is_text line held e in
      begins.text ∙ ap (λ ys. line_text line ++ 10 ∷ ys) (none_left (after_line held) (omega (arith, length-drop (position_or_len is_feed held + 1) held, ended)))
  | inr full ↦ absurd (ok_apart spellings.Form line (some_injective _ _ (sym (read-unended held (omega (arith, full.1)) (omega (arith, full.0, full.1))) ∙ e)))
]

-- ---- what is held after a piece

-- a part and what is taken of a piece are one line at most
pub one_line-taken : (held piece : List ℕ) (taken : ℕ) → position_or_len is_feed held ≡ length held → taken ≤ length piece → taken ≤ position_or_len is_feed piece + 1 → IsOneLine (held ++ take taken piece)
one_line-taken held piece taken none within few =
    omega (arith, length-append held (take taken piece), length-take-le taken piece within, place-append held (take taken piece) none, place_of_front taken piece)
