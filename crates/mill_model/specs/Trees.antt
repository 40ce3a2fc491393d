-- Search trees and their preorder.
use Rattle.std.specs.Prelude.{◌≡◌, ℕ, ◌+◌, ◌-◌, ◌*◌, ◌/◌, ◌^◌, length, true, false, List, [], ◌∷◌, ◌++◌, map, Option, Some, None}
use Rattle.std.specs.List.{Contains}
use Rattle.mill_model.specs.declared.ask.Ask.{Ask}
use Rattle.mill_model.specs.declared.ask.Ask.TheVariants.{Pair, Put}
use Rattle.mill_model.specs.declared.steps.Step.{Step}
use Rattle.mill_model.specs.declared.steps.Step.TheVariants.{Pair as PairStep, Put as PutStep, Leaf}
use Rattle.mill_model.specs.declared.limits.Limits.{Limits}
use Rattle.mill_model.specs.Mill.{Mill}
use Rattle.mill_model.specs.Prices.{Prices, Refutes}
use Rattle.mill_model.specs.Decisions.{Decision, IsAsk}

-- an end that has an E, or a question with its mark, the tree for yes and the tree for no
pub data Tree (M E : Type 0) : Type 0 where
  End : E → Tree M E
  Split : M → Ask → Tree M E → Tree M E → Tree M E

-- a tree without marks
abbrev pub Unmarked : Type 0 → Type 0
Unmarked E = Tree (Unit {0}) E

-- a question that the decisions don't answer
abbrev pub IsFresh : Ask → List Decision → Type 0
IsFresh ask decisions = Contains (map (λ (d : Decision). d.0) decisions) ask → ⊥

-- no question is asked twice
abbrev pub AreAskedOnce : List Decision → Type 0
AreAskedOnce [] = Unit {0}
AreAskedOnce (d ∷ decisions) = IsFresh d.0 decisions × AreAskedOnce decisions

-- each end is as Holds says of it and of the decisions above it, the latest first, and each question is one of the mill and fresh
abbrev pub IsTree : {M E : Type 0} → Mill → (E → List Decision → Type 0) → Tree M E → List Decision → Type 0
IsTree m Holds (End e) decisions = Holds e decisions
IsTree m Holds (Split mark ask if_yes if_no) decisions =
    IsAsk m ask × IsFresh ask decisions × IsTree m Holds if_yes ((ask, true) ∷ decisions) × IsTree m Holds if_no ((ask, false) ∷ decisions)

-- each split is as Holds says of its mark, its question and the decisions above it
abbrev pub EverySplit : {M E : Type 0} → (M → Ask → List Decision → Type 0) → Tree M E → List Decision → Type 0
EverySplit Holds (End e) decisions = Unit {0}
EverySplit Holds (Split mark ask if_yes if_no) decisions =
    Holds mark ask decisions × EverySplit Holds if_yes ((ask, true) ∷ decisions) × EverySplit Holds if_no ((ask, false) ∷ decisions)

-- a tree as a list, from its root on, the tree for yes before the tree for no
abbrev pub listing : {M E Y : Type 0} → (E → Y) → (M → Ask → Y) → Tree M E → List Y
listing ending asking (End e) = ending e ∷ []
listing ending asking (Split mark ask if_yes if_no) = asking mark ask ∷ (listing ending asking if_yes ++ listing ending asking if_no)

abbrev pub step_of : Ask → Step
step_of (Pair i j) = PairStep i j
step_of (Put o s) = PutStep o s

abbrev pub preorder : {M : Type 0} → Tree M Prices → List Step
preorder = listing Leaf (λ _. step_of)

-- the marks in the order of the questions
abbrev pub marks_of : {M E : Type 0} → Tree M E → List M
marks_of (End e) = []
marks_of (Split mark ask if_yes if_no) = mark ∷ (marks_of if_yes ++ marks_of if_no)

-- the outline of an unfinished tree: a question, or none at an end
abbrev pub outline : {M E : Type 0} → Tree M E → List (Option Ask)
outline = listing (λ _. None) (λ _. Some)

-- a tree that refutes the limits under the decisions
abbrev pub RefutingTree : {M : Type 0} → Mill → Limits → Tree M Prices → List Decision → Type 0
RefutingTree m limits = IsTree m (λ p decisions. Refutes m limits decisions p)

-- the steps are those of a tree that refutes the limits under the decisions
pub record IsRefutation (m : Mill) (limits : Limits) (decisions : List Decision) (steps : List Step) : Type 0 where
  pub tree : Unmarked Prices
  pub steps_are : steps ≡ preorder tree
  pub refutes : RefutingTree m limits tree decisions

-- the outline is that of an unfinished tree
pub record IsOpenTree (m : Mill) (decisions : List Decision) (steps : List (Option Ask)) : Type 0 where
  pub tree : Unmarked (Unit {0})
  pub steps_are : steps ≡ outline tree
  pub fresh : IsTree m (λ _ _. Unit {0}) tree decisions

abbrev pub nodes : {M E : Type 0} → Tree M E → ℕ
nodes (End e) = 1
nodes (Split mark ask if_yes if_no) = 1 + nodes if_yes + nodes if_no

-- how many pairs so many orders have
abbrev pub pair_count : ℕ → ℕ
pair_count orders = orders * (orders - 1) / 2

-- how many questions a mill with so many orders and surplus slabs has
abbrev pub asks_among : ℕ → ℕ → ℕ
asks_among orders slabs = pair_count orders + orders * slabs

abbrev pub ask_count : Mill → ℕ
ask_count m = asks_among (length m.orders) (length m.yard)

-- a tree has fewer nodes than this
abbrev pub most_nodes : Mill → ℕ
most_nodes m = 2 ^ (ask_count m + 1)

-- the node bound: so many nodes do for one tree for each count limit, of which the first is missing and the others fall from one less than the number of orders to -1
abbrev pub node_bound : Mill → ℕ
node_bound m = (length m.orders + 2) * most_nodes m
