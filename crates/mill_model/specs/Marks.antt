-- The marks of a finished tree: why each of its questions was asked.
use Rattle.std.specs.Prelude.{◌≡◌, ℕ, Bool, true, false, List, length}
use Rattle.std.specs.List.{AllByRecursion, count_by}
use Rattle.mill_model.specs.declared.mark.Mark.{Mark}
use Rattle.mill_model.specs.declared.mark.Mark.TheVariants.{Spread, Bare, Plain}
use Rattle.mill_model.specs.declared.steps.Step.{Step}
use Rattle.mill_model.specs.declared.steps.Step.TheVariants.{Pair, Put, Leaf}
use Rattle.mill_model.specs.declared.limits.Limits.{Limits}
use Rattle.mill_model.specs.Mill.{Mill}
use Rattle.mill_model.specs.Prices.{Prices}
use Rattle.mill_model.specs.Decisions.{Decision}
use Rattle.mill_model.specs.Shares.{IsShown}
use Rattle.mill_model.specs.Trees.{Tree, EverySplit, preorder, marks_of, RefutingTree}

-- the steps of a tree in preorder, and the marks of its questions in the same order
pub record MarkedSteps : Type 0 where
  pub steps : List Step
  pub marks : List Mark

abbrev pub is_question : Step → Bool
is_question (Pair i j) = true
is_question (Put o s) = true
is_question (Leaf p) = false

abbrev pub question_count : List Step → ℕ
question_count steps = count_by is_question steps

-- as many marks as questions
abbrev pub HasOneMarkEach : MarkedSteps → Type 0
HasOneMarkEach s = length s.marks ≡ question_count s.steps

-- a shown cover is one for the limits and the decisions; a bare mark and a plain one claim nothing
abbrev pub IsRight : Mill → Limits → Mark → List Decision → Type 0
IsRight m limits (Spread shown) decisions = IsShown m limits decisions shown
IsRight m limits Bare decisions = Unit {0}
IsRight m limits Plain decisions = Unit {0}

-- each mark is right for the limits and the decisions above its question
abbrev pub HasRightMarks : {E : Type 0} → Mill → Limits → Tree Mark E → List Decision → Type 0
HasRightMarks m limits = EverySplit (λ mark _ decisions. IsRight m limits mark decisions)

-- the steps and marks are those of a tree that refutes the limits under the decisions, and the marks are right
pub record IsMarkedRefutation (m : Mill) (limits : Limits) (decisions : List Decision) (s : MarkedSteps) : Type 0 where
  pub tree : Tree Mark Prices
  pub steps_are : s.steps ≡ preorder tree
  pub marks_are : s.marks ≡ marks_of tree
  pub refutes : RefutingTree m limits tree decisions
  pub right : HasRightMarks m limits tree decisions

-- the marks of version 1
abbrev pub AreAllPlain : List Mark → Type 0
AreAllPlain marks = AllByRecursion (λ mark. mark ≡ Plain) marks
