-- A list of words that is in two parts, in two ways.
use Rattle.std.proofs.Common.{◌≡◌, ℕ, List, [], ◌∷◌, ◌++◌, refl, sym, ap, ◌∙◌}

-- one list in two parts, in two ways
pub data Compared (a b c d : List (List ℕ)) : Type 0 where
  Same : a ≡ c → b ≡ d → Compared a b c d
  Longer : (word : List ℕ) (more : List (List ℕ)) → c ≡ a ++ word ∷ more → b ≡ word ∷ (more ++ d) → Compared a b c d
  Shorter : (word : List ℕ) (more : List (List ℕ)) → a ≡ c ++ word ∷ more → d ≡ word ∷ (more ++ b) → Compared a b c d

one_word_more : (w v : List ℕ) (a b c d : List (List ℕ)) → w ≡ v → Compared a b c d → Compared (w ∷ a) b (v ∷ c) d
one_word_more w v a b c d e (Same p q) = Same (ap (λ (x : List ℕ). x ∷ a) e ∙ ap (λ (l : List (List ℕ)). v ∷ l) p) q
one_word_more w v a b c d e (Longer word more p q) = Longer word more (ap (λ (x : List ℕ). x ∷ c) (sym e) ∙ ap (λ (l : List (List ℕ)). w ∷ l) p) q
one_word_more w v a b c d e (Shorter word more p q) = Shorter word more (ap (λ (x : List ℕ). x ∷ a) e ∙ ap (λ (l : List (List ℕ)). v ∷ l) p) q

first_is : (w v : List ℕ) (a b : List (List ℕ)) → w ∷ a ≡ v ∷ b → w ≡ v
first_is w v a b h = cc h

others_are : (w v : List ℕ) (a b : List (List ℕ)) → w ∷ a ≡ v ∷ b → a ≡ b
others_are w v a b h = cc h

pub compared : (a b c d : List (List ℕ)) → a ++ b ≡ c ++ d → Compared a b c d
compared [] b [] d h = Same refl h
compared [] b (v ∷ c) d h = Longer v c refl h
compared (w ∷ a) b [] d h = Shorter w a refl (sym h)
compared (w ∷ a) b (v ∷ c) d h = one_word_more w v a b c d (first_is w v (a ++ b) (c ++ d) h) (compared a b c d (others_are w v (a ++ b) (c ++ d) h))
