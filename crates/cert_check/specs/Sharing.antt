-- The rules of a share that speak of the path and of the shares before it.
use Rattle.std.specs.Prelude.{ℕ, List, [], ◌∷◌, ◌++◌}
use Rattle.mill_model.specs.Mill.{Mill}
use Rattle.mill_model.specs.Decisions.{Decision}
use Rattle.mill_model.specs.Shares.{Share}
use Rattle.cert_rules.specs.declared.why.Why.TheVariants as why
use Rattle.cert_rules.specs.Rules.{Rule, rule}
use Rattle.cert_rules.specs.Spreads.{Agrees, column_of}
use Rattle.cert_slabs.specs.Tallies.{Tally, IsTally, StayWithin}

-- for the shares of a tally
abbrev pub ForShares : Mill → Tally → (List Share → Type 0) → Type 0
ForShares m tally P = (shares : List Share) → IsTally m tally.d shares tally → P shares

-- a share joins those of a tally
abbrev pub Joins : Mill → Tally → Tally → Share → Type 0
Joins m old new share = ForShares m old (λ shares. IsTally m old.d (shares ++ share ∷ []) new)

abbrev pub share_rules : Mill → List Decision → ℕ → List Share → Share → List Rule
share_rules m path d shares share = rule why.Agree (Agrees path (column_of share)) ∷ rule why.Cover (StayWithin m d (shares ++ share ∷ []) share.kind) ∷ []
