-- One option more is read.
use Rattle.std.proofs.Common.{◌≡◌, ℕ, ◌+◌, List, ◌∷◌, Some, Ok, sym, ap, ◌∙◌}
use Rattle.run_words.specs.Words.{Parsed, ◌>>=◌}
use Rattle.front_check.specs.Words.{Options, with_option, options_from}
use Rattle.front_check.specs.Jobs.{word_after}

pub next_option : (o next : Options) (words : List (List ℕ)) (name value read given : List ℕ) (left : List (List ℕ))
    → words ≡ name ∷ (value ∷ left) → read ≡ name → given ≡ value
    → with_option (word_after o) o read (Some given) ≡ Ok next → word_after next ≡ word_after o + 2
    → options_from (word_after o) o words ≡ options_from (word_after next) next left
next_option o next words name value read given left are p q is after =
    ap (options_from (word_after o) o) are
    ∙ ap (λ (r : Parsed Options). r >>= λ more. options_from (word_after o + 2) more left)
    (ap (λ (n : List ℕ). with_option (word_after o) o n (Some value)) (sym p)
    ∙ ap (λ (v : List ℕ). with_option (word_after o) o read (Some v)) (sym q)
    ∙ is)
    ∙ ap (λ (n : ℕ). options_from n next left) (sym after)
