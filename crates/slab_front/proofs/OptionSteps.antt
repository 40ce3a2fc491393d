-- One option more is read.
use Rattle.std.proofs.Common.{◌≡◌, ℕ, ◌+◌, Bool, List, ◌∷◌, Some, Ok, sym, ap, ◌∙◌}
use Rattle.run_words.specs.Words.{Parsed, ◌>>=◌}
use Rattle.slab_front.specs.Words.{Options, with_option, options_from}
use Rattle.slab_front.specs.Jobs.{word_after}

pub next_option : (searches : Bool) (first : ℕ) (o next : Options) (words : List (List ℕ)) (name value read given : List ℕ) (left : List (List ℕ))
    → words ≡ name ∷ (value ∷ left) → read ≡ name → given ≡ value
    → with_option searches (word_after first o) o read (Some given) ≡ Ok next → word_after first next ≡ word_after first o + 2
    → options_from searches (word_after first o) o words ≡ options_from searches (word_after first next) next left
next_option searches first o next words name value read given left are p q is after =
    ap (options_from searches (word_after first o) o) are
    ∙ ap (λ (r : Parsed Options). r >>= λ more. options_from searches (word_after first o + 2) more left)
    (ap (λ (n : List ℕ). with_option searches (word_after first o) o n (Some value)) (sym p)
    ∙ ap (λ (v : List ℕ). with_option searches (word_after first o) o read (Some v)) (sym q)
    ∙ is)
    ∙ ap (λ (n : ℕ). options_from searches n next left) (sym after)
