-- Counts that rise with a tree.
use Rattle.std.proofs.Common.{◌≡◌, ℕ, ◌≤◌, arith}
use Rattle.slab_counter.specs.Counter.{last_count}
use Rattle.slab_tree.specs.Counts.{Counts, AreRaised}

pub raised_none : (old : Counts) (a b c d : ℕ) → old.opened ≤ last_count → old.bare ≤ last_count → b ≡ a → d ≡ c → AreRaised old old a b c d
raised_none old a b c d s t e f = record { limit = omega arith; more = omega arith; more_bare = omega arith; opened = omega arith; bare = omega arith }

pub raised_trans : (x y z : Counts) (a b c p q r : ℕ) → AreRaised x y a b p q → AreRaised y z b c q r → AreRaised x z a c p r
raised_trans x y z a b c p q r h k = record { limit = omega arith; more = omega arith; more_bare = omega arith; opened = omega arith; bare = omega arith }

pub raised_same : (x y : Counts) (a b c p q r : ℕ) → b ≡ c → q ≡ r → AreRaised x y a b p q → AreRaised x y a c p r
raised_same x y a b c p q r e f h = record { limit = omega arith; more = omega arith; more_bare = omega arith; opened = omega arith; bare = omega arith }
