-- Assignments: what the decisions alone allow.
use Rattle.std.specs.Prelude.{◌≡◌, ℕ, Bool, false, eqb, List}
use Rattle.std.specs.List.{AllByRecursion}
use Rattle.mill_model.specs.declared.ask.Ask.{Ask}
use Rattle.mill_model.specs.declared.ask.Ask.TheVariants.{Pair, Put}
use Rattle.mill_model.specs.Decisions.{Decision, IsAsk}
use Rattle.mill_model.specs.Mill.{Mill}
use Rattle.mill_model.specs.Trees.{Tree, EverySplit}

-- a group of orders: one on a surplus slab, which is known by the slab, or one on none, which is known by a number
pub data Group : Type 0 where
  On : ℕ → Group
  Loose : ℕ → Group

abbrev pub same_group : Group → Group → Bool
same_group (On s) (On t) = eqb s t
same_group (On s) (Loose b) = false
same_group (Loose a) (On t) = false
same_group (Loose a) (Loose b) = eqb a b

-- an assignment says of each order in which group it is
abbrev pub Assignment : Type 0
Assignment = ℕ → Group

abbrev pub answer : Assignment → Ask → Bool
answer a (Pair i j) = same_group (a i) (a j)
answer a (Put o s) = same_group (a o) (On s)

abbrev pub Agrees : List Decision → Assignment → Type 0
Agrees decisions a = AllByRecursion (λ (d : Decision). answer a d.0 ≡ d.1) decisions

-- all assignments that agree give this answer
abbrev pub Follows : List Decision → Ask → Bool → Type 0
Follows decisions ask b = (a : Assignment) → Agrees decisions a → answer a ask ≡ b

-- each question of the mill follows
abbrev pub AreSettled : Mill → List Decision → Type 0
AreSettled m decisions = (ask : Ask) → IsAsk m ask → (b : Bool) × Follows decisions ask b

-- a tree none of whose questions follow from the decisions above it
abbrev pub IsLean : {M E : Type 0} → Tree M E → List Decision → Type 0
IsLean = EverySplit (λ _ ask decisions. (b : Bool) → Follows decisions ask b → ⊥)
