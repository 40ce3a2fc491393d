-- The number that a word names.
use Rattle.std.proofs.Common.{◌≡◌, ℕ, ◌^◌, ◌<◌, ◌≤◌, ◌⊎◌, Bool, true, false, nat_le, List, Some, None, decimal, refl, sym, ap, ◌∙◌, arith, if◌then◌else◌, ◌&&◌}
use Rattle.std.specs.Str.{bytes_eq}
use Rattle.std.specs.Str.Parse.{digits_value}
use Rattle.std.proofs.lemmas.Fmt.{decimal_is_IsNumeral}
use Rattle.std.proofs.lemmas.Bool.{leb-true, le-leb}
use Rattle.std.proofs.lemmas.Slice.Eq.{bytes_eq-Decides}
use Rattle.run_words.specs.Words.{number_named}

taken : (b c d : Bool) (v : ℕ) → b ≡ true → c ≡ true → d ≡ true → (if b && (c && d) then Some v else None) ≡ Some v
taken true true true v p q r = refl
taken true true false v p q r = cc
taken true false d v p q r = cc
taken false c d v p q r = cc

left_out : (b c d : Bool) (v : ℕ) → (b ≡ true → c ≡ true → d ≡ true → ⊥) → (if b && (c && d) then Some v else None) ≡ None
left_out true true true v never = absurd (never refl refl refl)
left_out true true false v never = refl
left_out true false d v never = refl
left_out false c d v never = refl

value_is : (n : ℕ) → n < 2 ^ 64 → digits_value 10 (decimal n) ≡ n
value_is n fits = (decimal_is_IsNumeral n fits).1

is_word : (word : List ℕ) (n : ℕ) → word ≡ decimal n → n < 2 ^ 64 → digits_value 10 word ≡ n
is_word word n is fits = ap (digits_value 10) is ∙ value_is n fits

-- the decimal text of a number within the bounds names it
pub named_within : (least most n : ℕ) (word : List ℕ) → n < 2 ^ 64 → word ≡ decimal n → least ≤ n → n ≤ most → number_named least most word ≡ Some n
named_within least most n word fits is low high =
    let v : digits_value 10 word ≡ n = is_word word n is fits in
    taken (bytes_eq word (decimal (digits_value 10 word))) (nat_le least (digits_value 10 word)) (nat_le (digits_value 10 word) most) (digits_value 10 word)
    ((bytes_eq-Decides word (decimal (digits_value 10 word))).1 (is ∙ ap decimal (sym v)))
    (le-leb least (digits_value 10 word) (omega (arith, v, low)))
    (le-leb (digits_value 10 word) most (omega (arith, v, high)))
    ∙ ap Some v

-- one that is out of the bounds names none
pub named_beyond : (least most n : ℕ) (word : List ℕ) → n < 2 ^ 64 → word ≡ decimal n → (n < least) ⊎ (most < n) → number_named least most word ≡ None
named_beyond least most n word fits is out =
    let v : digits_value 10 word ≡ n = is_word word n is fits in
    left_out (bytes_eq word (decimal (digits_value 10 word))) (nat_le least (digits_value 10 word)) (nat_le (digits_value 10 word) most) (digits_value 10 word)
    (λ _ low high. omega (arith, out, v, leb-true least (digits_value 10 word) low, leb-true (digits_value 10 word) most high))

-- and so does a word that is no number's text
pub not_named : (least most : ℕ) (word : List ℕ) → most < 2 ^ 64 → ((n : ℕ) → n < 2 ^ 64 → word ≡ decimal n → ⊥) → number_named least most word ≡ None
not_named least most word fits never =
    left_out (bytes_eq word (decimal (digits_value 10 word))) (nat_le least (digits_value 10 word)) (nat_le (digits_value 10 word) most) (digits_value 10 word)
    (λ is _ high. never (digits_value 10 word) (omega (arith, fits, leb-true (digits_value 10 word) most high)) ((bytes_eq-Decides word (decimal (digits_value 10 word))).0 is))
