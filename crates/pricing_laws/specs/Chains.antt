-- Numbers that go by keys.
use Rattle.std.specs.Prelude.{◌≡◌, ℕ, ◌+◌, ◌<◌, ◌≤◌, List, length, slice_index_or}

-- the least of so many numbers, from one on, that has a key, or their count where none has
pub record IsNextOf (key_of : ℕ → ℕ) (numbers key from at : ℕ) : Type 0 where
  pub later : from ≤ at
  pub within : at ≤ numbers
  pub passed : (i : ℕ) → from ≤ i → i < at → key_of i ≡ key → ⊥
  pub here : at < numbers → key_of at ≡ key

-- for each key the first number, and for each number the next one of its key
pub record Chains : Type 0 where
  pub first : List ℕ
  pub next : List ℕ

-- for each key the first number from one on, and for each of these numbers the next one of its key
pub record IsChainedFrom (key_of : ℕ → ℕ) (numbers low : ℕ) (first next : List ℕ) : Type 0 where
  pub size : length next ≡ numbers
  pub first_of : (key : ℕ) → key < length first → IsNextOf key_of numbers key low (slice_index_or first key 0)
  pub next_of : (i : ℕ) → low ≤ i → i < numbers → IsNextOf key_of numbers (key_of i) (i + 1) (slice_index_or next i 0)

-- all of them, for so many keys
pub record AreChains (key_of : ℕ → ℕ) (numbers count : ℕ) (c : Chains) : Type 0 where
  pub keys : length c.first ≡ count
  pub chained : IsChainedFrom key_of numbers 0 c.first c.next
