use Rattle.std.proofs.Common.{◌≡◌, ℕ, ◌+◌, ◌-◌, ◌^◌, ◌<◌, ◌≤◌, ◌⊎◌, inl, inr, arith}
use Rattle.std.proofs.lemmas.Bool.{cases_lt}
use Rattle.slab_counter.specs.Counter.{next_count, Rose, last_count}
use Rattle.slab_counter.proofs.Rising.{next_count-below, next_count-last}
use Rattle.slab_counter.proofs.rose_law.Goals as goal

rose_then : (before now : ℕ) → before ≤ now → now < 2 ^ 64 → Rose before now → (before < now) ⊎ (now ≡ last_count)
rose_then before now grows fits rose = elim (cases_lt before (2 ^ 64 - 1)) [
  | inl below ↦ inl (omega (arith, next_count-below before below, rose))
  | inr last ↦ inr (omega arith)
]

then_rose : (before now : ℕ) → before ≤ now → now < 2 ^ 64 → (before < now) ⊎ (now ≡ last_count) → Rose before now
then_rose before now grows fits (inl later) = omega (arith, next_count-below before (omega arith))
then_rose before now grows fits (inr last) = elim (cases_lt before (2 ^ 64 - 1)) [
  | inl below ↦ omega (arith, next_count-below before below)
  | inr at ↦ omega (arith, next_count-last before at)
]

pub returns : goal.returns
returns c before now grows fits = (rose_then before now grows fits, then_rose before now grows fits)
