-- File words and numbers: what is read is what they say, and some word says each.
use Rattle.std.proofs.Common.{◌≡◌, ℕ, ◌^◌, ◌<◌, ◌≤◌, ◌&&◌, nat_le, Bool, true, false, List, [], ◌∷◌, Option, Some, None, decimal, if◌then◌else◌, refl, sym, ap, ◌∙◌, arith}
use Rattle.std.specs.Str.{bytes_eq}
use Rattle.std.specs.Str.Parse.{digits_value}
use Rattle.std.proofs.lemmas.Bool.{leb-true}
use Rattle.std.proofs.lemmas.Slice.Eq.{bytes_eq-Decides}
use Rattle.run_words.specs.Words.{is_file_word, file_named, number_named}
use Rattle.run_words.specs.Grammar.{IsFileWord, IsNumberWord}
use Rattle.run_words.proofs.Numbers.{named_within}

pub same_some : {A : Type 0} (x y : A) → Some x ≡ Some y → x ≡ y
same_some x y h = cc h

file_by : (word file : List ℕ) (b : Bool) → is_file_word word ≡ b → (if b then Some word else None) ≡ Some file → IsFileWord word file
file_by word file true e h = (e, same_some word file h)
file_by word file false e h = cc h

pub file_says : (word file : List ℕ) → file_named word ≡ Some file → IsFileWord word file
file_says word file h = file_by word file (is_file_word word) refl h

pub file_reads : (word file : List ℕ) → IsFileWord word file → file_named word ≡ Some file
file_reads word file is = ap (λ (b : Bool). if b then Some word else None) is.0 ∙ ap (λ (w : List ℕ). Some w) is.1

-- a file's name of one letter
pub some_file : List ℕ
some_file = 97 ∷ []

pub some_file_is : IsFileWord some_file some_file
unfolding some_file
some_file_is = (refl, refl)

three_tests : (b c d : Bool) (v n : ℕ) → (if b && (c && d) then Some v else None) ≡ Some n → (b ≡ true) × (c ≡ true) × (d ≡ true) × (v ≡ n)
three_tests true true true v n h = (refl, refl, refl, same_some v n h)
three_tests true true false v n h = cc h
three_tests true false d v n h = cc h
three_tests false c d v n h = cc h

pub number_says : (least most : ℕ) (word : List ℕ) (n : ℕ) → number_named least most word ≡ Some n → IsNumberWord least most word n
number_says least most word n h =
    let v : ℕ = digits_value 10 word in
    let t = three_tests (bytes_eq word (decimal v)) (nat_le least v) (nat_le v most) v n h in (
      omega (arith, t.3, leb-true least v t.1),
      omega (arith, t.3, leb-true v most t.2),
      (bytes_eq-Decides word (decimal v)).0 t.0 ∙ ap decimal t.3,
    )

pub number_reads : (least most : ℕ) (word : List ℕ) (n : ℕ) → most < 2 ^ 64 → IsNumberWord least most word n → number_named least most word ≡ Some n
number_reads least most word n fits is = named_within least most n word (omega (arith, fits, is.1)) is.2 is.0 is.1

pub some_number_is : (least most : ℕ) → least ≤ most → IsNumberWord least most (decimal least) least
some_number_is least most some = (omega arith, some, refl)
