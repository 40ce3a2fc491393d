-- Lines and their texts.
use Rattle.std.proofs.Common.{◌≡◌, ℕ, suc, ◌+◌, ℤ, Bool, true, false, not, cond, ◌⊎◌, List, [], ◌∷◌, ◌++◌, Option, Some, None, Result, Ok, Err, length, map, codes, refl, ap, sym, ◌∙◌, inl, inr, arith, subst, IfOk}
use Rattle.std.specs.List.{find, list_all, position_or_len, AllByRecursion}
use Rattle.std.specs.Str.{bytes_eq}
use Rattle.std.proofs.lemmas.List.{length-map, take-append-drop}
use Rattle.std.proofs.lemmas.List.Elements.{All-from_recursion, recursion_from_All}
use Rattle.std.proofs.lemmas.Bool.{le-leb, leb-true, eqb-true}
use Rattle.std.proofs.lemmas.Option.{cond_some}
use Rattle.std.proofs.lemmas.Slice.Eq.{bytes_eq-Decides}
use Rattle.cert_view.specs.declared.form.Form.{Form}
use Rattle.cert_view.specs.declared.form.Form.TheVariants as forms
use Rattle.cert_view.specs.declared.line.Line.{Line}
use Rattle.cert_view.specs.declared.line.Line.TheVariants as lines
use Rattle.cert_view.specs.declared.line.Spelling.{Spelling}
use Rattle.cert_view.specs.declared.line.Spelling.TheVariants as spellings
use Rattle.cert_view.specs.Number.{is_number, is_within, number_value, IsWithin}
use Rattle.cert_view.specs.Numbers.{is_space, is_spelled, first_word, words_after, numbers_of, after_word, IsSpaced, AreSpelled}
use Rattle.cert_view.specs.Reading.{count_of}
use Rattle.cert_view.specs.Form.{word_of, takes, all_forms, form_named, form_of}
use Rattle.cert_view.specs.Line.{line_with, line_of, line_of_words}
use Rattle.cert_view.specs.Text.{numbers_text, line_text, IsLine}
use Rattle.cert_view.proofs.Words.{both, either, words_after-word, all_spelled, all_within, IsSpaced-first}
use Rattle.cert_view.proofs.Lines.{line-form, some_injective, some_apart}
use Rattle.cert_view.proofs.NumberTexts.{spelled-numbers_text, numbers_text-spelled}

-- a word without a space ends where the first space stands
word_front : (word bytes : List ℕ) → list_all (λ b. not (is_space b)) word ≡ true → IsSpaced bytes → (first_word (word ++ bytes) ≡ word) × (after_word (word ++ bytes) ≡ bytes)
word_front [] [] h s = (refl, refl)
word_front [] (b ∷ bytes) h s = (rw s refl, rw s refl)
word_front (b ∷ word) bytes h s =
    let parts = both (not (is_space b)) (list_all (λ b. not (is_space b)) word) h in
    let rest = word_front word bytes parts.1 s in
    let next : 1 + position_or_len is_space (word ++ bytes) ≡ suc (position_or_len is_space (word ++ bytes)) = omega arith in
    (rw (parts.0, next) (ap (λ xs. b ∷ xs) rest.0), rw (parts.0, next) rest.1)

-- the words of spelled numbers are counted as numbers in the range
all_counted : (ws : List (List ℕ)) → list_all is_spelled ws ≡ true → (list_all is_number ws ≡ true) × (list_all is_within ws ≡ true)
all_counted [] h = (refl, refl)
all_counted (w ∷ ws) h =
    let parts = both (is_spelled w) (list_all is_spelled ws) h in
    let one = both (is_number w) (is_within w) parts.0 in
    let rest = all_counted ws parts.1 in
    (rw (one.0, rest.0) refl, rw (one.1, rest.1) refl)

counted : (bytes : List ℕ) (n : ℕ) → AreSpelled bytes → length (numbers_of bytes) ≡ n → count_of (words_after bytes) ≡ Some (n, true)
counted bytes n h len =
    let parts = all_counted (words_after bytes) h.numbers in
    let same : length (words_after bytes) ≡ n = sym (length-map (words_after bytes) _) ∙ len in
    rw (parts.0, parts.1, same) refl

-- a word and numbers of a form are read as the line
line_from : (form : Form) (ns : List ℤ) → list_all (λ b. not (is_space b)) (word_of form) ≡ true → AllByRecursion IsWithin ns → bytes_eq (word_of form ++ numbers_text ns) (codes "slabfront 1") ≡ false → bytes_eq (word_of form ++ numbers_text ns) (codes "slabfront 2") ≡ false → form_of (word_of form) (length ns) ≡ Some form → line_of (word_of form ++ numbers_text ns) ≡ Ok (line_with form ns)
unfolding line_of
line_from form ns spaceless within other another is_form =
    let word = word_of form in
    let spelled = spelled-numbers_text ns within in
    let front = word_front word (numbers_text ns) spaceless spelled.0.spaced in
    let words : words_after (word ++ numbers_text ns) ≡ words_after (numbers_text ns) = sym (words_after-word (word ++ numbers_text ns)) ∙ ap words_after front.1 in
    let read : Ok (line_with form (numbers_of (numbers_text ns))) ≡ line_of_words word (words_after (numbers_text ns)) =
    line-form word (words_after (numbers_text ns)) (length ns) true form (counted (numbers_text ns) (length ns) spelled.0 (ap length spelled.1)) is_form refl in
    rw (other, another, front.0, words) (sym read ∙ ap (λ xs. Ok (line_with form xs)) spelled.1)

-- a form with so many numbers
is_formed : (form : Form) (count : ℕ) → takes form count ≡ true → form_named (word_of form) ≡ Some form → form_of (word_of form) count ≡ Some form
is_formed form count taken named = rw named (rw taken refl)

-- the line of a line's text is the line
pub line_of-line_text : (l : Line) → IsLine l → line_of (line_text l) ≡ Ok l
unfolding form_named line_of
line_of-line_text lines.Header h = refl
line_of-line_text lines.Header2 h = refl
line_of-line_text (lines.Point ns) h = line_from forms.Point ns refl (recursion_from_All IsWithin ns h.within) refl refl (is_formed forms.Point (length ns) (rw h.count refl) refl)
line_of-line_text (lines.New ns) h = line_from forms.New ns refl (recursion_from_All IsWithin ns h.within) refl refl (is_formed forms.New (length ns) (le-leb 2 (length ns) h.count) refl)
line_of-line_text (lines.Old ns) h = line_from forms.Old ns refl (recursion_from_All IsWithin ns h.within) refl refl (is_formed forms.Old (length ns) (le-leb 2 (length ns) h.count) refl)
line_of-line_text (lines.Pair ns) h = line_from forms.Pair ns refl (recursion_from_All IsWithin ns h.within) refl refl (is_formed forms.Pair (length ns) (rw h.count refl) refl)
line_of-line_text (lines.Put ns) h = line_from forms.Put ns refl (recursion_from_All IsWithin ns h.within) refl refl (is_formed forms.Put (length ns) (rw h.count refl) refl)
line_of-line_text (lines.Leaf ns) h = line_from forms.Leaf ns refl (recursion_from_All IsWithin ns h.within) refl refl (is_formed forms.Leaf (length ns) (le-leb 2 (length ns) h.count) refl)
line_of-line_text (lines.Spread ns) h = line_from forms.Spread ns refl (recursion_from_All IsWithin ns h.within) refl refl (is_formed forms.Spread (length ns) (rw h.count refl) refl)
line_of-line_text (lines.CNew ns) h = line_from forms.CNew ns refl (recursion_from_All IsWithin ns h.within) refl refl (is_formed forms.CNew (length ns) (le-leb 3 (length ns) h.count) refl)
line_of-line_text (lines.COld ns) h = line_from forms.COld ns refl (recursion_from_All IsWithin ns h.within) refl refl (is_formed forms.COld (length ns) (le-leb 3 (length ns) h.count) refl)
line_of-line_text lines.Done h = line_from forms.Done [] refl tt refl refl (is_formed forms.Done 0 refl refl)
line_of-line_text lines.Cut h = line_from forms.Cut [] refl tt refl refl (is_formed forms.Cut 0 refl refl)
line_of-line_text lines.Open h = line_from forms.Open [] refl tt refl refl (is_formed forms.Open 0 refl refl)
line_of-line_text lines.Bare h = line_from forms.Bare [] refl tt refl refl (is_formed forms.Bare 0 refl refl)
line_of-line_text lines.Plain h = line_from forms.Plain [] refl tt refl refl (is_formed forms.Plain 0 refl refl)

option_cases : {X : Type 0} (o : Option X) → ((x : X) × (o ≡ Some x)) ⊎ (o ≡ None)
option_cases None = inr refl
option_cases (Some x) = inl (x, refl)

-- what is found passes
found_passes : {X : Type 0} (p : X → Bool) (xs : List X) (x : X) → find p xs ≡ Some x → p x ≡ true
found_passes p [] x e = absurd (some_apart x (sym e))
found_passes p (y ∷ ys) x e = elim (either (p y)) [
  | inl passes ↦ let same : y ≡ x = some_injective y x (rw passes at e) in subst (λ z. p z ≡ true) same passes
  | inr fails ↦ found_passes p ys x (rw fails at e)
]

-- the form of a word and a count has them
form_is : (word : List ℕ) (count : ℕ) (form : Form) → form_of word count ≡ Some form → (word ≡ word_of form) × (takes form count ≡ true)
unfolding form_named
form_is word count form e = elim (option_cases (form_named word)) [
  | inl found ↦
      let picked : cond (takes found.0 count) (Some found.0) None ≡ Some form = rw found.1 at e in
      let parts = cond_some (takes found.0 count) found.0 form picked in
      let is : word ≡ word_of found.0 = (bytes_eq-Decides word (word_of found.0)).0 (found_passes (λ f. bytes_eq word (word_of f)) all_forms found.0 found.1) in
      (is ∙ ap word_of parts.1, subst (λ f. takes f count ≡ true) parts.1 parts.0)
  | inr none ↦ absurd (some_apart form (sym (rw none at e)))
]

-- a form's word and as many numbers as it takes are the text of the line
text_of_form : (form : Form) (ns : List ℤ) → takes form (length ns) ≡ true → AllByRecursion IsWithin ns → (word_of form ++ numbers_text ns ≡ line_text (line_with form ns)) × IsLine (line_with form ns)
text_of_form forms.Point ns h within = (refl, record { count = eqb-true (length ns) 2 h; within = All-from_recursion IsWithin ns within })
text_of_form forms.Pair ns h within = (refl, record { count = eqb-true (length ns) 2 h; within = All-from_recursion IsWithin ns within })
text_of_form forms.Put ns h within = (refl, record { count = eqb-true (length ns) 2 h; within = All-from_recursion IsWithin ns within })
text_of_form forms.Spread ns h within = (refl, record { count = eqb-true (length ns) 1 h; within = All-from_recursion IsWithin ns within })
text_of_form forms.New ns h within = (refl, record { count = leb-true 2 (length ns) h; within = All-from_recursion IsWithin ns within })
text_of_form forms.Old ns h within = (refl, record { count = leb-true 2 (length ns) h; within = All-from_recursion IsWithin ns within })
text_of_form forms.Leaf ns h within = (refl, record { count = leb-true 2 (length ns) h; within = All-from_recursion IsWithin ns within })
text_of_form forms.CNew ns h within = (refl, record { count = leb-true 3 (length ns) h; within = All-from_recursion IsWithin ns within })
text_of_form forms.COld ns h within = (refl, record { count = leb-true 3 (length ns) h; within = All-from_recursion IsWithin ns within })
text_of_form forms.Done [] h within = (refl, record { count = tt; within = All-from_recursion IsWithin [] tt })
text_of_form forms.Done (n ∷ ns) h within = absurd (omega (arith, eqb-true (length (n ∷ ns)) 0 h))
text_of_form forms.Cut [] h within = (refl, record { count = tt; within = All-from_recursion IsWithin [] tt })
text_of_form forms.Cut (n ∷ ns) h within = absurd (omega (arith, eqb-true (length (n ∷ ns)) 0 h))
text_of_form forms.Open [] h within = (refl, record { count = tt; within = All-from_recursion IsWithin [] tt })
text_of_form forms.Open (n ∷ ns) h within = absurd (omega (arith, eqb-true (length (n ∷ ns)) 0 h))
text_of_form forms.Bare [] h within = (refl, record { count = tt; within = All-from_recursion IsWithin [] tt })
text_of_form forms.Bare (n ∷ ns) h within = absurd (omega (arith, eqb-true (length (n ∷ ns)) 0 h))
text_of_form forms.Plain [] h within = (refl, record { count = tt; within = All-from_recursion IsWithin [] tt })
text_of_form forms.Plain (n ∷ ns) h within = absurd (omega (arith, eqb-true (length (n ∷ ns)) 0 h))

ok_injective : (a b : Line) → (let r : Result Line Spelling = Ok a in r) ≡ Ok b → a ≡ b
ok_injective a b e = cc

pub ok_apart : (why : Spelling) (b : Line) → Err why ≡ Ok b → ⊥
ok_apart why b e = cc

-- the words of a line that is read: they are numbers of its form, all in the range
record IsReadAs (text : List ℕ) (line : Line) : Type 0 where
  numbers : list_all is_spelled (words_after text) ≡ true
  form : Form
  formed : form_of (first_word text) (length (words_after text)) ≡ Some form
  same : line_with form (numbers_of text) ≡ line

words_read : (text : List ℕ) (line : Line) → line_of_words (first_word text) (words_after text) ≡ Ok line → IsReadAs text line
words_read text line e =
    elim (either (list_all is_number (words_after text))) [
      | inl spelt ↦ elim (option_cases (form_of (first_word text) (length (words_after text)))) [
        | inl found ↦ elim (either (list_all is_within (words_after text))) [
          | inl near ↦ record {
            numbers = all_spelled (words_after text) spelt near;
            form = found.0;
            formed = found.1;
            same = ok_injective _ line (rw (spelt, found.1, near) at e);
          }
          | inr far ↦ absurd (ok_apart spellings.Range line (rw (spelt, found.1, far) at e))
        ]
        | inr none ↦ absurd (ok_apart spellings.Form line (rw (spelt, none) at e))
      ]
      | inr unspelt ↦ absurd (ok_apart spellings.Form line (rw unspelt at e))
    ]

text_of_read : (text : List ℕ) (line : Line) → IsReadAs text line → (text ≡ line_text line) × IsLine line
text_of_read text line read =
    let P : Line → Type 0 = λ l. (text ≡ line_text l) × IsLine l in
    let words = words_after-word text in
    let after : AreSpelled (after_word text) = record { spaced = IsSpaced-first text; numbers = rw words read.numbers } in
    let numbers : numbers_of (after_word text) ≡ numbers_of text = ap (map number_value) words in
    let count : length (words_after text) ≡ length (numbers_of text) = sym (length-map (words_after text) _) in
    let whole : first_word text ++ after_word text ≡ text = take-append-drop (position_or_len is_space text) text in
    let spelled : numbers_text (numbers_of text) ≡ after_word text = ap numbers_text (sym numbers) ∙ numbers_text-spelled (after_word text) after in
    let formed = form_is (first_word text) (length (words_after text)) read.form read.formed in
    let within : AllByRecursion IsWithin (numbers_of text) = rw numbers at (all_within (after_word text) after) in
    let parts = text_of_form read.form (numbers_of text) (subst (λ n. takes read.form n ≡ true) count formed.1) within in
    subst P read.same (sym whole ∙ ap (λ xs. first_word text ++ xs) (sym spelled) ∙ ap (λ xs. xs ++ numbers_text (numbers_of text)) formed.0 ∙ parts.0, parts.1)

-- a text that is read as a line is the line's text
pub line_text-line_of : (text : List ℕ) (line : Line) → line_of text ≡ Ok line → (text ≡ line_text line) × IsLine line
unfolding line_of
line_text-line_of text line e =
    let P : Line → Type 0 = λ l. (text ≡ line_text l) × IsLine l in
    elim (either (bytes_eq text (codes "slabfront 1"))) [
      | inl header ↦
          let is : lines.Header ≡ line = ok_injective lines.Header line (rw header at e) in
          subst P is ((bytes_eq-Decides text (codes "slabfront 1")).0 header, record { count = tt; within = All-from_recursion IsWithin [] tt })
      | inr other ↦ elim (either (bytes_eq text (codes "slabfront 2"))) [
        | inl header ↦
            let is : lines.Header2 ≡ line = ok_injective lines.Header2 line (rw (other, header) at e) in
            subst P is ((bytes_eq-Decides text (codes "slabfront 2")).0 header, record { count = tt; within = All-from_recursion IsWithin [] tt })
        | inr another ↦ text_of_read text line (words_read text line (rw (other, another) at e))
      ]
    ]

-- a line that is read has as many numbers as its form wants, each in the range
pub line_of_words-good : (text : List ℕ) (read : Result Line Spelling) → read ≡ line_of_words (first_word text) (words_after text) → IfOk read IsLine
line_of_words-good text (Ok line) e = (text_of_read text line (words_read text line (sym e))).1
line_of_words-good text (Err why) e = tt
