-- How many words stand behind the first, which spells a number.
use Rattle.std.proofs.Common.{◌≡◌, ℕ, ◌+◌, List, [], ◌∷◌, ◌++◌, length, ap, arith}
use Rattle.std.proofs.lemmas.List.{length-append}
use Rattle.std.specs.Str.Parse.{digits_value}

-- the first word spells a number, and so many words follow
pub record HasAfter (counted others : ℕ) (front : List (List ℕ)) : Type 0 where
  pub first : List ℕ
  pub after : List (List ℕ)
  pub whole : front ≡ first ∷ after
  pub value : digits_value 10 first ≡ counted
  pub count : length after ≡ others

pub one_after : (counted others : ℕ) (front : List (List ℕ)) (word : List ℕ) → HasAfter counted others front → HasAfter counted (others + 1) (front ++ word ∷ [])
one_after counted others front word h = record {
  first = h.first;
  after = h.after ++ word ∷ [];
  whole = ap (λ (ws : List (List ℕ)). ws ++ word ∷ []) h.whole;
  value = h.value;
  count = omega (arith, h.count, length-append h.after (word ∷ []));
}
