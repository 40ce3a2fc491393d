-- What the three counters of a turn show.
use Rattle.std.specs.Prelude.{ℕ, ◌+◌, ◌≤◌, ◌⊎◌}
use Rattle.slab_counter.specs.Counter.{Rose, last_count}
use Rattle.slab_relax.specs.declared.tally.Tally.{Tally}

-- no counter fell
pub record AreNoLess (old new : Tally) : Type 0 where
  pub wides : old.wides ≤ new.wides
  pub stalls : old.stalls.stalls ≤ new.stalls.stalls
  pub pivots : old.stalls.pivots ≤ new.stalls.pivots
  pub fulls : old.fulls ≤ new.fulls

-- one of the counters rose, or stands at its last value
abbrev pub HasCause : Tally → Tally → Type 0
HasCause old new = Rose old.wides new.wides ⊎ (Rose old.stalls.stalls new.stalls.stalls ⊎ Rose old.fulls new.fulls)

abbrev pub IsAtLast : Tally → Type 0
IsAtLast t = (last_count ≤ t.wides) ⊎ ((last_count ≤ t.stalls.stalls) ⊎ (last_count ≤ t.fulls))

abbrev pub count_of : Tally → ℕ
count_of t = t.wides + t.stalls.stalls + t.fulls

-- what rose from a to b rose by at most the sum by which the counters did, unless one stands at its last value
abbrev pub HaveCauses : ℕ → Tally → ℕ → Tally → Type 0
HaveCauses a old b new = (b + count_of old ≤ a + count_of new) ⊎ IsAtLast new
