-- Files that aren't too long.
use Rattle.std.proofs.Common.{◌≡◌, ℕ, ◌≤◌, false, nat_lt, rules}
use Rattle.run_words.specs.Files.{most_bytes}

pub is_short : (n : ℕ) → n ≤ most_bytes → nat_lt most_bytes n ≡ false
is_short n h = search rules
