-- The line of a word and the words after it.
use Rattle.std.proofs.Common.{◌≡◌, ℕ, Bool, true, false, List, Some, None, Ok, Err, length, map, refl, ap, sym, ◌∙◌, inl, inr}
use Rattle.std.specs.List.{list_all}
use Rattle.cert_view.specs.declared.form.Form.{Form}
use Rattle.cert_view.specs.declared.line.Spelling.TheVariants as spellings
use Rattle.cert_view.specs.Number.{is_number, is_within, number_value}
use Rattle.cert_view.specs.Form.{form_of}
use Rattle.cert_view.specs.Line.{line_with, line_of_words}
use Rattle.cert_view.specs.Reading.{count_of}
use Rattle.cert_view.specs.Numbers.{words_after, IsSpaced, AreCounted}
use Rattle.cert_view.proofs.Words.{either, all_spelled}

pub some_injective : {X : Type 0} (x y : X) → Some x ≡ Some y → x ≡ y
some_injective x y e = cc

pub some_apart : {X : Type 0} (x : X) → Some x ≡ None → ⊥
some_apart x e = cc

-- what the count of the words says of them
count_of-none : (words : List (List ℕ)) → count_of words ≡ None → list_all is_number words ≡ false
count_of-none words e = elim (either (list_all is_number words)) [
  | inl all ↦ absurd (some_apart (length words, list_all is_within words) (rw all at e))
  | inr some ↦ some
]

count_of-some : (words : List (List ℕ)) (count : ℕ) (within : Bool) → count_of words ≡ Some (count, within) → (list_all is_number words ≡ true) × (length words ≡ count) × (list_all is_within words ≡ within)
count_of-some words count within e = elim (either (list_all is_number words)) [
  | inl all ↦
      let pair = some_injective (length words, list_all is_within words) (count, within) (rw all at e) in
      (all, ap (λ (p : ℕ × Bool). p.0) pair, ap (λ (p : ℕ × Bool). p.1) pair)
  | inr none ↦ absurd (some_apart (count, within) (sym (rw none at e)))
]

-- the four answers
pub line-no_numbers : (word : List ℕ) (words : List (List ℕ)) → count_of words ≡ None → Err spellings.Form ≡ line_of_words word words
line-no_numbers word words e = rw (count_of-none words e) refl

pub line-no_form : (word : List ℕ) (words : List (List ℕ)) (count : ℕ) (within : Bool) → count_of words ≡ Some (count, within) → form_of word count ≡ None → Err spellings.Form ≡ line_of_words word words
line-no_form word words count within e f =
    let told = count_of-some words count within e in rw (told.0, told.1, f) refl

pub line-range : (word : List ℕ) (words : List (List ℕ)) (count : ℕ) (within : Bool) (form : Form) → count_of words ≡ Some (count, within) → form_of word count ≡ Some form → within ≡ false → Err spellings.Range ≡ line_of_words word words
line-range word words count within form e f beyond =
    let told = count_of-some words count within e in rw (told.0, told.1, f, told.2, beyond) refl

pub line-form : (word : List ℕ) (words : List (List ℕ)) (count : ℕ) (within : Bool) (form : Form) → count_of words ≡ Some (count, within) → form_of word count ≡ Some form → within ≡ true → Ok (line_with form (map number_value words)) ≡ line_of_words word words
line-form word words count within form e f inside =
    let told = count_of-some words count within e in rw (told.0, told.1, f, told.2, inside) refl

-- bytes whose words are counted as numbers in the range
pub AreCounted-from_count : (bytes : List ℕ) (count : ℕ) (within : Bool) → IsSpaced bytes → count_of (words_after bytes) ≡ Some (count, within) → within ≡ true → AreCounted bytes count
AreCounted-from_count bytes count within spaced e inside =
    let told = count_of-some (words_after bytes) count within e in
    record { spelled = record { spaced = spaced; numbers = all_spelled (words_after bytes) told.0 (told.2 ∙ inside) }; counted = sym told.1 }
