-- The first word of a text.
use Rattle.std.proofs.Common.{◌≡◌, ℕ, ◌<◌, ◌≤◌, ◌+◌, ◌*◌, ◌-◌, true, false, Bool, List, [], ◌∷◌, ◌++◌, length, take, drop, get_or, min, refl, sym, ap, ◌∙◌, subst, arith, filter, append-nil, add-zero, ◌&&◌}
use Rattle.std.specs.List.{All, slice_split}
use Rattle.std.specs.Char.{is_ascii_digit}
use Rattle.std.specs.Str.Parse.{digits_value}
use Rattle.std.proofs.lemmas.List.Splits.{slice_split-cons_yes, slice_split_at, slice_split_none}
use Rattle.std.proofs.lemmas.List.{take-append-drop, get_or-drop, length-take, length-drop}
use Rattle.std.proofs.lemmas.List.Folds.{list_all_more}
use Rattle.std.proofs.lemmas.Int.Digits.{digits_value_more}
use Rattle.std.proofs.lemmas.Str.{digit_value_digit}
use Rattle.std.specs.Int.{IsInRange}
use Rattle.mill_read.specs.Words.{words, is_space, is_number, is_filled}

pub words-space : (b : ℕ) (bytes : List ℕ) → is_space b ≡ true → words (b ∷ bytes) ≡ words bytes
words-space b bytes h = ap (λ (parts : List (List ℕ)). filter is_filled parts) (slice_split-cons_yes is_space b bytes h)

kept : (word : List ℕ) (parts : List (List ℕ)) → 0 < length word → filter is_filled (word ∷ parts) ≡ word ∷ filter is_filled parts
kept [] parts h = absurd (omega arith)
kept (b ∷ word) parts h = refl

pub words_at_end : (word : List ℕ) → 0 < length word → All (λ b. is_space b ≡ false) word → words word ≡ word ∷ []
words_at_end word some is = ap (λ (parts : List (List ℕ)). filter is_filled parts) (slice_split_none is_space word is) ∙ kept word [] some

pub words_first : (word : List ℕ) (b : ℕ) (rest : List ℕ) → 0 < length word → All (λ b. is_space b ≡ false) word → is_space b ≡ true → words (word ++ b ∷ rest) ≡ word ∷ words (b ∷ rest)
words_first word b rest some is space = ap (λ (parts : List (List ℕ)). filter is_filled parts) (slice_split_at is_space word b rest is space) ∙ kept word (slice_split is_space rest) some ∙ ap (λ (ws : List (List ℕ)). word ∷ ws) (sym (words-space b rest space))

begins : (word rest : List ℕ) → 0 < length word → All (λ b. is_space b ≡ false) word → (0 < length rest → is_space (get_or rest 0 0) ≡ true) → words (word ++ rest) ≡ word ∷ words rest
begins word [] some is end = ap words (append-nil word) ∙ words_at_end word some is
begins word (b ∷ rest) some is end = words_first word b rest some is (end (omega arith))

-- the word that a text begins with is its first
pub words_begin : (bytes : List ℕ) (n : ℕ) → n ≤ length bytes → 0 < n → All (λ b. is_space b ≡ false) (take n bytes)
    → (n < length bytes → is_space (get_or bytes n 0) ≡ true) → words bytes ≡ take n bytes ∷ words (drop n bytes)
words_begin bytes n le some is end =
    sym (ap words (take-append-drop n bytes))
    ∙ begins (take n bytes) (drop n bytes) (omega (arith, length-take n bytes)) is
    (λ more. subst (λ (b : ℕ). is_space b ≡ true) (sym (get_or-drop n bytes 0 0 ∙ ap (λ (k : ℕ). get_or bytes k 0) (add-zero n))) (end (omega (arith, length-drop n bytes))))

pub digits_more : (word : List ℕ) (i : ℕ) → i < length word → is_number (take i word) ≡ true → is_ascii_digit (get_or word i 0) ≡ true → is_number (take (i + 1) word) ≡ true
digits_more word i lt before digit = list_all_more is_ascii_digit word i 0 lt ∙ ap (λ (b : Bool). b && is_ascii_digit (get_or word i 0)) before ∙ digit

pub value_more : (word : List ℕ) (i v : ℕ) → i < length word → IsInRange 48 57 (get_or word i 0) → v ≡ min (digits_value 10 (take i word)) 65536
    → min (v * 10 + (get_or word i 0 - 48)) 65536 ≡ min (digits_value 10 (take (i + 1) word)) 65536
value_more word i v lt digit is = omega (arith, digits_value_more 10 word i lt, digit_value_digit (get_or word i 0) digit)
