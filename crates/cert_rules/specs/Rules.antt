-- Rules in their order, and the first that is broken.
use Rattle.std.specs.Prelude.{◌≡◌, ◌⊎◌, List, [], ◌∷◌}
use Rattle.cert_rules.specs.declared.why.Why.{Why}

-- what a line has to keep, and why it is bad where it doesn't
pub record Rule : Type 1 where
  pub why : Why
  pub Kept : Type 0

abbrev pub rule : Why → Type 0 → Rule
rule why Kept = record { why = why; Kept = Kept }

abbrev pub AllKept : List Rule → Type 0
AllKept [] = Unit {0}
AllKept (r ∷ rules) = r.Kept × AllKept rules

-- this is the why of the first rule that isn't kept
abbrev pub FirstBroken : List Rule → Why → Type 0
FirstBroken [] why = ⊥
FirstBroken (r ∷ rules) why = ((r.Kept → ⊥) × (r.why ≡ why)) ⊎ (r.Kept × FirstBroken rules why)
