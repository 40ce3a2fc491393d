-- The number at the front of bytes.
use Rattle.std.proofs.Common.{◌≡◌, ℕ, zero, suc, ◌+◌, ◌-◌, Bool, true, false, eqb, ltb, List, [], ◌∷◌, Some, None, length, take, drop, refl, ap, sym, ◌∙◌, inl, inr, ⊎_elim, arith, subst, ◌↔◌, IsTrue}
use Rattle.std.specs.List.{position_or_len, before_first, list_all, prefix_len}
use Rattle.std.specs.Char.{is_ascii_digit}
use Rattle.std.specs.Str.{bytes_eq}
use Rattle.std.proofs.lemmas.Bool.Decides.{nat_tests}
use Rattle.std.proofs.lemmas.Slice.Eq.{bytes_eq-Decides}
use Rattle.cert_view.specs.Numbers.{is_space, first_word, after_word, IsSpaced}
use Rattle.cert_view.specs.Number.{is_number, is_positive, without_sign}
use Rattle.cert_view.specs.Reading.{front_len, number_of, read_number}
use Rattle.cert_view.proofs.Words.{either}

-- the longest front that passes passes
pub list_all-prefix : (p : ℕ → Bool) (xs : List ℕ) → list_all p (take (prefix_len p xs) xs) ≡ true
list_all-prefix p [] = refl
list_all-prefix p (x ∷ xs) =
    let next : 1 + prefix_len p xs ≡ suc (prefix_len p xs) = omega arith in
    ⊎_elim (λ yes. rw yes (rw next (rw yes (list_all-prefix p xs)))) (λ no. rw no refl) (either (p x))

-- nothing, or an element that passes and what follows it
abbrev pub Ends : (ℕ → Bool) → List ℕ → Type 0
Ends q [] = Unit {0}
Ends q (x ∷ xs) = q x ≡ true

Ends-from_spaced : (bytes : List ℕ) → IsSpaced bytes → Ends is_space bytes
Ends-from_spaced [] h = tt
Ends-from_spaced (b ∷ bs) h = grind (arith, nat_tests)

spaced_from_Ends : (bytes : List ℕ) → Ends is_space bytes → IsSpaced bytes
spaced_from_Ends [] h = tt
spaced_from_Ends (b ∷ bs) h = grind (arith, nat_tests)

-- a front that is ended by one of q is what stands before the first of q, since none of q passes p
end_by : (p q : ℕ → Bool) → ((x : ℕ) → p x ≡ true → q x ≡ false) → (xs : List ℕ) → Ends q (drop (prefix_len p xs) xs) → position_or_len q xs ≡ prefix_len p xs
end_by p q apart [] ends = refl
end_by p q apart (x ∷ xs) ends =
    let next : 1 + prefix_len p xs ≡ suc (prefix_len p xs) = omega arith in
    elim (either (p x)) [
      | inl passes ↦
          let other : q x ≡ false = apart x passes in
          let rest : Ends q (drop (prefix_len p xs) xs) = rw (passes, next) at ends in
          rw (passes, other) (ap (λ n. 1 + n) (end_by p q apart xs rest))
      | inr fails ↦
          let here : q x ≡ true = rw fails at ends in
          rw (fails, here) refl
    ]

-- a front that is ended by something else stands in a word that isn't of p alone
stop_by : (p q : ℕ → Bool) → ((x : ℕ) → p x ≡ true → q x ≡ false) → (xs : List ℕ) → ¬ (Ends q (drop (prefix_len p xs) xs)) → list_all p (before_first q xs) ≡ false
stop_by p q apart [] unended = absurd (unended tt)
stop_by p q apart (x ∷ xs) unended =
    let next : 1 + prefix_len p xs ≡ suc (prefix_len p xs) = omega arith in
    let step : 1 + position_or_len q xs ≡ suc (position_or_len q xs) = omega arith in
    elim (either (p x)) [
      | inl passes ↦
          let other : q x ≡ false = apart x passes in
          let rest : ¬ (Ends q (drop (prefix_len p xs) xs)) = rw (passes, next) at unended in
          rw other (rw step (rw passes (stop_by p q apart xs rest)))
      | inr fails ↦ elim (either (q x)) [
        | inl here ↦ let never : ¬ (q x ≡ true) = rw fails at unended in absurd (never here)
        | inr other ↦ rw other (rw step (rw fails refl))
      ]
    ]

digits_apart : (b : ℕ) → is_ascii_digit b ≡ true → is_space b ≡ false
digits_apart b h = grind (arith, nat_tests)

-- where a space or the end follows the digits at the front, they are the word
digits-end : (bytes : List ℕ) → IsSpaced (drop (prefix_len is_ascii_digit bytes) bytes) → position_or_len is_space bytes ≡ prefix_len is_ascii_digit bytes
digits-end bytes spaced = end_by is_ascii_digit is_space digits_apart bytes (Ends-from_spaced _ spaced)

-- where something else follows, the word isn't of digits
digits-stop : (bytes : List ℕ) → ¬ (IsSpaced (drop (prefix_len is_ascii_digit bytes) bytes)) → list_all is_ascii_digit (first_word bytes) ≡ false
digits-stop bytes unspaced = stop_by is_ascii_digit is_space digits_apart bytes (λ ends. unspaced (spaced_from_Ends _ ends))

-- the front's length, as it is counted
pub front_len-counted : (bytes : List ℕ) → length bytes - length (without_sign bytes) + prefix_len is_ascii_digit (without_sign bytes) ≡ front_len bytes
front_len-counted [] = refl
front_len-counted (b ∷ bs) = ⊎_elim (λ yes. rw yes (omega arith)) (λ no. rw no (omega arith)) (either (eqb b 45))

-- a word without a sign stays
without_sign-take : (n b : ℕ) (bs : List ℕ) → eqb b 45 ≡ false → without_sign (take n (b ∷ bs)) ≡ take n (b ∷ bs)
without_sign-take zero b bs plain = refl
without_sign-take (suc n) b bs plain = rw plain refl

-- the front without its sign is the digits
pub without_sign-front : (bytes : List ℕ) → without_sign (take (front_len bytes) bytes) ≡ take (prefix_len is_ascii_digit (without_sign bytes)) (without_sign bytes)
without_sign-front [] = refl
without_sign-front (b ∷ bs) =
    let next : 1 + prefix_len is_ascii_digit bs ≡ suc (prefix_len is_ascii_digit bs) = omega arith in
    elim (either (eqb b 45)) [
      | inl minus ↦ rw minus (rw next (rw minus refl))
      | inr plain ↦ rw plain (without_sign-take (prefix_len is_ascii_digit (b ∷ bs)) b bs plain)
    ]

minus_apart : (b : ℕ) → eqb b 45 ≡ true → is_space b ≡ false
minus_apart b h = grind (arith, nat_tests)

-- where a space or the end follows the front, it is the word
pub front-end : (bytes : List ℕ) → IsSpaced (drop (front_len bytes) bytes) → position_or_len is_space bytes ≡ front_len bytes
front-end [] spaced = refl
front-end (b ∷ bs) spaced =
    let next : 1 + prefix_len is_ascii_digit bs ≡ suc (prefix_len is_ascii_digit bs) = omega arith in
    elim (either (eqb b 45)) [
      | inl minus ↦
          let other : is_space b ≡ false = minus_apart b minus in
          let rest : IsSpaced (drop (prefix_len is_ascii_digit bs) bs) = rw (minus, next) at spaced in
          rw (minus, other) (ap (λ n. 1 + n) (digits-end bs rest))
      | inr plain ↦ rw plain (digits-end (b ∷ bs) (rw plain at spaced))
    ]

positive_no : (ds : List ℕ) → list_all is_ascii_digit ds ≡ false → is_positive ds ≡ false
positive_no [] h = refl
positive_no (d ∷ ds) h = elim (either (ltb 48 d)) [
  | inl above ↦ rw above h
  | inr low ↦ rw low refl
]

-- a word without a sign that isn't of digits is no number
no_number : (word : List ℕ) → list_all is_ascii_digit word ≡ false → without_sign word ≡ word → is_number word ≡ false
no_number word h plain = elim (either (bytes_eq word (48 ∷ []))) [
  | inl zero_word ↦
      let is : word ≡ 48 ∷ [] = (bytes_eq-Decides word (48 ∷ [])).0 zero_word in
      let P : List ℕ → Type 0 = λ w. list_all is_ascii_digit w ≡ false in
      let never : true ≡ false = subst P is h in cc
  | inr other ↦ rw (other, plain) (positive_no word h)
]

-- where something else follows the front, the word is no number
pub front-stop : (bytes : List ℕ) → ¬ (IsSpaced (drop (front_len bytes) bytes)) → is_number (first_word bytes) ≡ false
front-stop [] unspaced = absurd (unspaced tt)
front-stop (b ∷ bs) unspaced =
    let next : 1 + prefix_len is_ascii_digit bs ≡ suc (prefix_len is_ascii_digit bs) = omega arith in
    let step : 1 + position_or_len is_space bs ≡ suc (position_or_len is_space bs) = omega arith in
    elim (either (eqb b 45)) [
      | inl minus ↦
          let other : is_space b ≡ false = minus_apart b minus in
          let rest : ¬ (IsSpaced (drop (prefix_len is_ascii_digit bs) bs)) = rw (minus, next) at unspaced in
          let is : b ≡ 45 = grind (arith, nat_tests) in
          let word : first_word (b ∷ bs) ≡ 45 ∷ first_word bs = rw other (rw step (rw is refl)) in
          let P : List ℕ → Type 0 = λ w. is_number w ≡ false in
          subst P (sym word) (positive_no (first_word bs) (digits-stop bs rest))
      | inr plain ↦
          no_number (first_word (b ∷ bs)) (digits-stop (b ∷ bs) (rw plain at unspaced)) (without_sign-take (position_or_len is_space (b ∷ bs)) b bs plain)
    ]

-- what is read of a word that is no number, and of one that is
pub read_number-no : (word : List ℕ) → is_number word ≡ false → None ≡ read_number word
unfolding read_number
read_number-no word h = rw h refl

pub read_number-yes : (word : List ℕ) → is_number word ≡ true → Some (number_of word) ≡ read_number word
unfolding read_number
read_number-yes word h = rw h refl

-- the digits behind the sign, where the front was counted
pub front-digits : (bytes unsigned : List ℕ) (n : ℕ) → unsigned ≡ without_sign bytes → n ≡ prefix_len is_ascii_digit unsigned → without_sign (take (length bytes - length unsigned + n) bytes) ≡ take n unsigned
front-digits bytes unsigned n is counted = rw (counted, is) (rw (front_len-counted bytes) (without_sign-front bytes))

-- a front that isn't followed by a space or the end is read as no number
pub front-unread : (bytes after : List ℕ) (end : ℕ) (spaced : Bool) → end ≡ front_len bytes → after ≡ drop end bytes → (IsTrue spaced ↔ IsSpaced after) → spaced ≡ false → None ≡ read_number (first_word bytes)
front-unread bytes after end spaced at behind decides unspaced =
    let P : List ℕ → Type 0 = λ xs. IsSpaced xs in
    let same : drop (front_len bytes) bytes ≡ after = sym (behind ∙ ap (λ n. drop n bytes) at) in
    read_number-no (first_word bytes) (front-stop bytes (λ h. let yes : spaced ≡ true = decides.1 (subst P same h) in let never : true ≡ false = sym yes ∙ unspaced in cc))

-- a front that is followed by a space or the end is the first word
pub front-word : (bytes word after : List ℕ) (end : ℕ) (spaced : Bool) → end ≡ front_len bytes → word ≡ take end bytes → after ≡ drop end bytes → (IsTrue spaced ↔ IsSpaced after) → spaced ≡ true → (first_word bytes ≡ word) × (after_word bytes ≡ after)
front-word bytes word after end spaced at before behind decides followed =
    let P : List ℕ → Type 0 = λ xs. IsSpaced xs in
    let same : after ≡ drop (front_len bytes) bytes = behind ∙ ap (λ n. drop n bytes) at in
    let place : position_or_len is_space bytes ≡ end = front-end bytes (subst P same (decides.0 followed)) ∙ sym at in
    (ap (λ n. take n bytes) place ∙ sym before, ap (λ n. drop n bytes) place ∙ sym behind)
