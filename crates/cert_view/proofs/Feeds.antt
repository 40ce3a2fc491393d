-- Lines and their texts, with the line feeds that end them.
use Rattle.std.proofs.Common.{◌≡◌, ℕ, suc, ◌+◌, ◌*◌, ◌≤◌, ◌<◌, ℤ, pos, negsuc, Bool, true, not, cond, ltb, List, [], ◌∷◌, ◌++◌, Option, Some, Result, Ok, Err, length, get_or, refl, ap, sym, ◌∙◌, inl, inr, arith, subst, min, length-append, lit≤}
use Rattle.std.specs.List.{list_all, before_first, after_first, position_or_len, AllByRecursion}
use Rattle.std.specs.Char.{is_ascii_digit}
use Rattle.std.specs.Fmt.{decimal, signed_decimal}
use Rattle.std.proofs.lemmas.List.Elements.{recursion_from_All}
use Rattle.std.proofs.lemmas.List.Folds.{list_all-append, length-prefix_len}
use Rattle.std.proofs.lemmas.List.Sums.{split_at_first, passes_at_first}
use Rattle.std.proofs.lemmas.Bool.{lt-ltb, ltb-true, eqb-true}
use Rattle.std.proofs.lemmas.Bool.Decides.{nat_tests}
use Rattle.std.proofs.lemmas.Fmt.{length-decimal-le}
use Rattle.cert_view.specs.declared.line.Line.{Line}
use Rattle.cert_view.specs.declared.line.Line.TheVariants as lines
use Rattle.cert_view.specs.declared.line.Spelling.{Spelling}
use Rattle.cert_view.specs.declared.line.Spelling.TheVariants as spellings
use Rattle.cert_view.specs.Number.{IsWithin}
use Rattle.cert_view.specs.Line.{line_of, is_feed, next_line, after_line}
use Rattle.cert_view.specs.Text.{numbers_text, line_text, line_word, line_numbers, IsLine}
use Rattle.cert_view.specs.Laws.{BeginsWith, TextIsRead, ReadIsText, TextIsShort}
use Rattle.cert_view.proofs.Words.{both, either}
use Rattle.cert_view.proofs.Lines.{some_injective, some_apart}
use Rattle.cert_view.proofs.NumberTexts.{decimal-digits}
use Rattle.cert_view.proofs.LineTexts.{line_of-line_text, line_text-line_of, ok_apart}

abbrev no_feed : ℕ → Bool
no_feed b = not (is_feed b)

digit_no_feed : (b : ℕ) → is_ascii_digit b ≡ true → no_feed b ≡ true
digit_no_feed b h = grind (arith, nat_tests)

digits_no_feed : (ds : List ℕ) → list_all is_ascii_digit ds ≡ true → list_all no_feed ds ≡ true
digits_no_feed [] h = refl
digits_no_feed (d ∷ ds) h =
    let parts = both (is_ascii_digit d) (list_all is_ascii_digit ds) h in
    rw (digit_no_feed d parts.0) (digits_no_feed ds parts.1)

number_no_feed : (n : ℤ) → IsWithin n → list_all no_feed (signed_decimal n) ≡ true
number_no_feed (pos n) h = digits_no_feed (decimal n) (decimal-digits n (omega arith))
number_no_feed (negsuc n) h = digits_no_feed (decimal (suc n)) (decimal-digits (suc n) (omega arith))

numbers_no_feed : (ns : List ℤ) → AllByRecursion IsWithin ns → list_all no_feed (numbers_text ns) ≡ true
numbers_no_feed [] h = refl
numbers_no_feed (n ∷ ns) h =
    rw (list_all-append no_feed (signed_decimal n) (numbers_text ns)) (rw (number_no_feed n h.0) (numbers_no_feed ns h.1))

-- no line feed stands before a line's numbers
word_no_feed : (l : Line) → list_all no_feed (line_word l) ≡ true
word_no_feed lines.Header = refl
word_no_feed lines.Header2 = refl
word_no_feed (lines.Point ns) = refl
word_no_feed (lines.New ns) = refl
word_no_feed (lines.Old ns) = refl
word_no_feed (lines.Pair ns) = refl
word_no_feed (lines.Put ns) = refl
word_no_feed (lines.Leaf ns) = refl
word_no_feed lines.Done = refl
word_no_feed lines.Cut = refl
word_no_feed lines.Open = refl
word_no_feed lines.Bare = refl
word_no_feed lines.Plain = refl
word_no_feed (lines.Spread ns) = refl
word_no_feed (lines.CNew ns) = refl
word_no_feed (lines.COld ns) = refl

-- no line feed stands within a line's text
line_no_feed : (l : Line) → AllByRecursion IsWithin (line_numbers l) → list_all no_feed (line_text l) ≡ true
line_no_feed l h =
    rw (list_all-append no_feed (line_word l) (numbers_text (line_numbers l))) (rw (word_no_feed l, numbers_no_feed (line_numbers l) h) refl)

-- what stands before and after the first element that passes
record IsCutAt (p : ℕ → Bool) (xs ys zs : List ℕ) : Type 0 where
  place : position_or_len p xs ≡ length ys
  before : before_first p xs ≡ ys
  after : after_first p xs ≡ zs

cut_at : (p : ℕ → Bool) (xs : List ℕ) (y : ℕ) (ys : List ℕ) → list_all (λ b. not (p b)) xs ≡ true → p y ≡ true → IsCutAt p (xs ++ y ∷ ys) xs ys
cut_at p [] y ys h passes = record { place = rw passes refl; before = rw passes refl; after = rw passes refl }
cut_at p (x ∷ xs) y ys h passes =
    let parts = both (not (p x)) (list_all (λ b. not (p b)) xs) h in
    let rest = cut_at p xs y ys parts.1 passes in
    let next : 1 + position_or_len p (xs ++ y ∷ ys) ≡ suc (position_or_len p (xs ++ y ∷ ys)) = omega arith in
    let past : suc (position_or_len p (xs ++ y ∷ ys)) + 1 ≡ suc (position_or_len p (xs ++ y ∷ ys) + 1) = omega arith in
    record {
      place = rw (parts.0, next) (ap suc rest.place);
      before = rw (parts.0, next) (ap (λ zs. x ∷ zs) rest.before);
      after = rw (parts.0, next) (rw past rest.after);
    }

pub next_line-some : (bytes : List ℕ) → 0 < length bytes → next_line bytes ≡ Some (cond (ltb (position_or_len is_feed bytes) (min (length bytes) 8192)) (line_of (before_first is_feed bytes)) (Err spellings.Form))
unfolding next_line
next_line-some [] some = absurd (omega arith)
next_line-some (b ∷ bytes) some = refl

next_line-text : (line : Line) (rest : List ℕ) → IsLine line → length (line_text line) < 8192 → (next_line (line_text line ++ 10 ∷ rest) ≡ Some (Ok line)) × (after_line (line_text line ++ 10 ∷ rest) ≡ rest)
next_line-text line rest good short =
    let text = line_text line in
    let bytes = text ++ 10 ∷ rest in
    let at = cut_at is_feed text 10 rest (line_no_feed line (recursion_from_All IsWithin (line_numbers line) good.within)) refl in
    let whole : length bytes ≡ length text + length (10 ∷ rest) = length-append text (10 ∷ rest) in
    let within : ltb (position_or_len is_feed bytes) (min (length bytes) 8192) ≡ true = lt-ltb _ _ (omega (arith, at.place, whole, short)) in
    (next_line-some bytes (omega (arith, whole)) ∙ rw (within, at.before) (ap Some (line_of-line_text line good)), at.after)

pub text_is_read : TextIsRead
text_is_read line bytes rest begins =
    let P : List ℕ → Type 0 = λ xs. (next_line xs ≡ Some (Ok line)) × (after_line xs ≡ rest) in
    subst P (sym begins.text) (next_line-text line rest begins.good begins.short)

begins_with : (bytes : List ℕ) (line : Line) → position_or_len is_feed bytes < length bytes → position_or_len is_feed bytes < 8192 → line_of (before_first is_feed bytes) ≡ Ok line → BeginsWith line bytes (after_line bytes)
begins_with bytes line inside short e =
    let read = line_text-line_of (before_first is_feed bytes) line e in
    let len : length (before_first is_feed bytes) ≡ position_or_len is_feed bytes = length-prefix_len (λ b. not (is_feed b)) bytes in
    let feed : get_or bytes (position_or_len is_feed bytes) 0 ≡ 10 = eqb-true _ 10 (passes_at_first is_feed bytes 0 inside) in
    let parts : bytes ≡ before_first is_feed bytes ++ (get_or bytes (position_or_len is_feed bytes) 0 ∷ after_line bytes) = split_at_first is_feed bytes 0 inside in
    record {
      good = read.1;
      short = omega (arith, ap length read.0, len, short);
      text = parts ∙ ap (λ b. before_first is_feed bytes ++ b ∷ after_line bytes) feed ∙ ap (λ xs. xs ++ 10 ∷ after_line bytes) read.0;
    }

read_begins : (bytes : List ℕ) (line : Line) → (let read : Option (Result Line Spelling) = Some (cond (ltb (position_or_len is_feed bytes) (min (length bytes) 8192)) (line_of (before_first is_feed bytes)) (Err spellings.Form)) in read) ≡ Some (Ok line) → BeginsWith line bytes (after_line bytes)
read_begins bytes line e = elim (either (ltb (position_or_len is_feed bytes) (min (length bytes) 8192))) [
  | inl within ↦
      let below : position_or_len is_feed bytes < min (length bytes) 8192 = ltb-true _ _ within in
      begins_with bytes line (omega arith) (omega arith) (some_injective _ _ (rw within at e))
  | inr beyond ↦ absurd (ok_apart spellings.Form line (some_injective _ _ (rw beyond at e)))
]

pub read_is_text : ReadIsText
unfolding next_line
read_is_text line [] e = absurd (some_apart (Ok line) (sym e))
read_is_text line (b ∷ bytes) e = read_begins (b ∷ bytes) line e

number_short : (n : ℤ) → IsWithin n → length (signed_decimal n) ≤ 20
number_short (pos n) h = omega (arith, length-decimal-le 19 n (omega arith) (omega arith) (omega arith))
number_short (negsuc n) h = omega (arith, length-decimal-le 19 (suc n) (omega arith) (omega arith) (omega arith))

numbers_short : (ns : List ℤ) → AllByRecursion IsWithin ns → length (numbers_text ns) ≤ 21 * length ns
numbers_short [] h = omega arith
numbers_short (n ∷ ns) h = omega (arith, length-append (signed_decimal n) (numbers_text ns), number_short n h.0, numbers_short ns h.1)

word_short : (l : Line) → length (line_word l) ≤ 11
word_short lines.Header = lit≤ tt
word_short lines.Header2 = lit≤ tt
word_short (lines.Point ns) = lit≤ tt
word_short (lines.New ns) = lit≤ tt
word_short (lines.Old ns) = lit≤ tt
word_short (lines.Pair ns) = lit≤ tt
word_short (lines.Put ns) = lit≤ tt
word_short (lines.Leaf ns) = lit≤ tt
word_short lines.Done = lit≤ tt
word_short lines.Cut = lit≤ tt
word_short lines.Open = lit≤ tt
word_short lines.Bare = lit≤ tt
word_short lines.Plain = lit≤ tt
word_short (lines.Spread ns) = lit≤ tt
word_short (lines.CNew ns) = lit≤ tt
word_short (lines.COld ns) = lit≤ tt

short_from_recursion : (l : Line) → AllByRecursion IsWithin (line_numbers l) → length (line_text l) ≤ 11 + 21 * length (line_numbers l)
short_from_recursion l h =
    omega (arith, length-append (line_word l) (numbers_text (line_numbers l)), word_short l, numbers_short (line_numbers l) h)

pub text_is_short : TextIsShort
text_is_short line good = short_from_recursion line (recursion_from_All IsWithin (line_numbers line) good.within)
