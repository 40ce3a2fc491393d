-- A text that is made of words, and the words of any text.
use Rattle.std.proofs.Common.{◌≡◌, ℕ, ◌<◌, true, false, Bool, List, [], ◌∷◌, ◌++◌, length, filter, refl, sym, ap, ◌∙◌, subst, arith}
use Rattle.std.specs.List.{All, AllByRecursion, slice_split, onto_first}
use Rattle.std.proofs.lemmas.List.Elements.{All-nil, All-cons}
use Rattle.std.proofs.lemmas.List.Splits.{slice_split-cons_yes, slice_split-cons_no}
use Rattle.mill_read.specs.Words.{words, is_space, is_filled}
use Rattle.mill_read.proofs.WordLaws.{words-space, words_first}

abbrev IsPart : List ℕ → Type 0
IsPart part = All (λ b. is_space b ≡ false) part

-- a word is filled, and has no white space
pub record IsWord (word : List ℕ) : Type 0 where
  pub some : 0 < length word
  pub part : All (λ b. is_space b ≡ false) word

abbrev pub AreWords : List (List ℕ) → Type 0
AreWords ws = AllByRecursion IsWord ws

pub words_joined : (front rest : List (List ℕ)) → AreWords front → AreWords rest → AreWords (front ++ rest)
words_joined [] rest p q = q
words_joined (w ∷ front) rest p q = (p.0, words_joined front rest p.1 q)

pub words_before : (front rest : List (List ℕ)) → AreWords (front ++ rest) → AreWords front
words_before [] rest p = tt
words_before (w ∷ front) rest p = (p.0, words_before front rest p.1)

-- each word, with a blank after it
pub text_of : List (List ℕ) → List ℕ
text_of [] = []
text_of (w ∷ ws) = w ++ 32 ∷ text_of ws

pub words_of_text : (ws : List (List ℕ)) → AreWords ws → words (text_of ws) ≡ ws
unfolding text_of
words_of_text [] h = refl
words_of_text (w ∷ ws) h = words_first w 32 (text_of ws) h.0.some h.0.part refl ∙ ap (λ (l : List (List ℕ)). w ∷ l) (words-space 32 (text_of ws) refl ∙ words_of_text ws h.1)

onto : (b : ℕ) (parts : List (List ℕ)) → is_space b ≡ false → AllByRecursion IsPart parts → AllByRecursion IsPart (onto_first b parts)
onto b [] e h = (All-cons (λ b. is_space b ≡ false) b [] e (All-nil (λ b. is_space b ≡ false)), tt)
onto b (part ∷ parts) e h = (All-cons (λ b. is_space b ≡ false) b part e h.0, h.1)

parts_with : (b : ℕ) (bytes : List ℕ) → AllByRecursion IsPart (slice_split is_space bytes) → (t : Bool) → is_space b ≡ t → AllByRecursion IsPart (slice_split is_space (b ∷ bytes))
parts_with b bytes h true e = subst (λ (parts : List (List ℕ)). AllByRecursion IsPart parts) (sym (slice_split-cons_yes is_space b bytes e)) (All-nil (λ b. is_space b ≡ false), h)
parts_with b bytes h false e = subst (λ (parts : List (List ℕ)). AllByRecursion IsPart parts) (sym (slice_split-cons_no is_space b bytes e)) (onto b (slice_split is_space bytes) e h)

are_parts : (bytes : List ℕ) → AllByRecursion IsPart (slice_split is_space bytes)
are_parts [] = (All-nil (λ b. is_space b ≡ false), tt)
are_parts (b ∷ bytes) = parts_with b bytes (are_parts bytes) (is_space b) refl

filled : (parts : List (List ℕ)) → AllByRecursion IsPart parts → AreWords (filter is_filled parts)
filled [] h = tt
filled ([] ∷ parts) h = filled parts h.1
filled ((b ∷ part) ∷ parts) h = (record { some = omega arith; part = h.0 }, filled parts h.1)

pub are_words : (bytes : List ℕ) → AreWords (words bytes)
are_words bytes = filled (slice_split is_space bytes) (are_parts bytes)
