-- How the count of pivots rises.
use Rattle.std.proofs.Common.{◌≡◌, ℕ, ◌+◌, ◌<◌, ◌≤◌, inl, inr, arith, ◌∙◌}
use Rattle.std.proofs.lemmas.Bool.{cases_lt}
use Rattle.slab_counter.specs.Counter.{last_count, next_count}
use Rattle.slab_master.specs.StallCounts.{RoseBy, RoseAtMost}

-- one pivot more
pub rose_by_more : (k before now : ℕ) → RoseBy k before now → RoseBy (k + 1) before (next_count now)
rose_by_more k before now rose = elim rose [ inl e ↦ step k before now e | inr last ↦ inr (stays now last) ]
  where
    stays : (n : ℕ) → last_count ≤ n → last_count ≤ next_count n
    stays n h = grind arith

    up : (n : ℕ) → n < last_count → next_count n ≡ n + 1
    up n h = grind arith

    step : (k before n : ℕ) → n ≡ before + k → RoseBy (k + 1) before (next_count n)
    step k before n e =
        elim (cases_lt n last_count)
        [ inl below ↦ inl (up n below ∙ (omega arith)) | inr above ↦ inr (stays n above) ]

pub rose_at_most_more : (k before now : ℕ) → RoseAtMost k before now → RoseAtMost (k + 1) before (next_count now)
rose_at_most_more k before now rose = record { grows = grows; most = most }
  where
    grows : before ≤ next_count now
    grows = grind (arith, rose.grows)

    most : next_count now ≤ before + (k + 1)
    most = grind (arith, rose.most)

pub rose_at_most_weaker : (j k before now : ℕ) → j ≤ k → RoseAtMost j before now → RoseAtMost k before now
rose_at_most_weaker j k before now less rose = record { grows = rose.grows; most = omega (arith, rose.most) }
