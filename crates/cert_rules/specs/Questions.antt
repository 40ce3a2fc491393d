-- The rules of a question's line.
use Rattle.std.specs.Prelude.{ℕ, ℤ, pos, ◌<ℤ◌, ◌≤ℤ◌, List, [], ◌∷◌}
use Rattle.mill_model.specs.declared.ask.Ask.{Ask}
use Rattle.mill_model.specs.declared.ask.Ask.TheVariants as asks
use Rattle.mill_model.specs.Decisions.{Decision}
use Rattle.mill_model.specs.Trees.{IsFresh}
use Rattle.cert_rules.specs.declared.why.Why.TheVariants as why
use Rattle.cert_rules.specs.Rules.{Rule, rule}
use Rattle.cert_rules.specs.Numbers.{index, number_at, Names}

-- two of so many orders, by rising number
abbrev pub NamesPair : ℕ → List ℤ → Type 0
NamesPair orders (i ∷ j ∷ []) = (pos 1 ≤ℤ i) × (i <ℤ j) × (j ≤ℤ pos orders)
NamesPair orders numbers = ⊥

-- an order and a surplus slab
abbrev pub NamesPut : ℕ → ℕ → List ℤ → Type 0
NamesPut orders slabs (o ∷ s ∷ []) = Names orders o × Names slabs s
NamesPut orders slabs numbers = ⊥

abbrev pub pair_of : List ℤ → Ask
pair_of numbers = asks.Pair (index (number_at numbers 0)) (index (number_at numbers 1))

abbrev pub put_of : List ℤ → Ask
put_of numbers = asks.Put (index (number_at numbers 0)) (index (number_at numbers 1))

-- a question of the mill that the path doesn't answer
abbrev pub ask_rules : Type 0 → List Decision → Ask → List Rule
ask_rules Named path ask = rule why.Ask Named ∷ rule why.Repeat (IsFresh ask path) ∷ []
