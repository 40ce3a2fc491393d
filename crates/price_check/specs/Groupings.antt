-- Heads of groups, as they are joined.
use Rattle.std.specs.Prelude.{ℕ, cond, eqb, List, map}

-- one head in the place of another
abbrev pub renamed : ℕ → ℕ → List ℕ → List ℕ
renamed gone kept heads = map (λ h. cond (eqb h gone) kept h) heads
