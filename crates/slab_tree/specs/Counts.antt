-- The counts of nodes and of bare splits.
use Rattle.std.specs.Prelude.{◌≡◌, ℕ, ◌+◌, ◌-◌, ◌≤◌, min, nat_lt, Bool, true, false, if◌then◌else◌}
use Rattle.slab_counter.specs.Counter.{last_count}

pub record Counts : Type 0 where
  -- the most nodes that one tree may have
  pub limit : ℕ
  pub opened : ℕ
  pub bare : ℕ

-- a count after k more: it stands still at its last value
abbrev pub raised_by : ℕ → ℕ → ℕ
raised_by n k = min (n + k) last_count

-- one bare split more, where there is a node that isn't one
abbrev pub noted_bare : Counts → Counts
noted_bare n = record n { bare = (if nat_lt n.bare n.opened then n.bare + 1 else n.bare) }

-- the counts rose by what a tree gained: its nodes from a to b, its bare splits from c to d
pub record AreRaised (old new : Counts) (a b c d : ℕ) : Type 0 where
  pub limit : new.limit ≡ old.limit
  pub more : a ≤ b
  pub more_bare : c ≤ d
  pub opened : new.opened ≡ raised_by old.opened (b - a)
  pub bare : new.bare ≡ raised_by old.bare (d - c)

-- a split that was made is counted, one that was refused isn't
abbrev pub IsCountedSplit : Bool → Counts → Counts → Bool → Type 0
IsCountedSplit bare old new false = new ≡ old
IsCountedSplit bare old new true = new ≡ record old { opened = raised_by old.opened 2; bare = raised_by old.bare (if bare then 1 else 0) }
