-- Certificates: points with their plans and finished trees, and how they end.
use Rattle.std.specs.Prelude.{◌≡◌, ◌<◌, List, [], ◌∷◌, ◌++◌, map, length, Option}
use Rattle.std.specs.List.{AllByRecursion}
use Rattle.mill_model.specs.declared.ask.Ask.{Ask}
use Rattle.mill_model.specs.declared.mark.Mark.{Mark}
use Rattle.mill_model.specs.declared.version.Version.{Version}
use Rattle.mill_model.specs.declared.version.Version.TheVariants.{One, Two}
use Rattle.mill_model.specs.Mill.{Mill}
use Rattle.mill_model.specs.Marks.{MarkedSteps, AreAllPlain}
use Rattle.mill_model.specs.Fronts.{Point, IsGoodWhole, IsGoodCut}

-- a certificate ends with the tree that refutes what the points leave, or is cut off with the outline of an unfinished one
pub data Ending : Type 0 where
  Whole : MarkedSteps → Ending
  Cut : List (Option Ask) → Ending

pub record Certificate : Type 0 where
  pub version : Version
  pub points : List Point
  pub ending : Ending

-- the finished trees: that of each point, and the last one
abbrev pub last_tree : Ending → List MarkedSteps
last_tree (Whole last) = last ∷ []
last_tree (Cut outline) = []

abbrev pub finished_trees : Certificate → List MarkedSteps
finished_trees c = map (λ point. point.steps) c.points ++ last_tree c.ending

-- version 1 has no marks, and stands for plain ones
abbrev pub AreMarksOf : Version → List Mark → Type 0
AreMarksOf One marks = AreAllPlain marks
AreMarksOf Two marks = Unit {0}

abbrev pub IsGoodEnded : Mill → List Point → Ending → Type 0
IsGoodEnded m points (Whole last) = IsGoodWhole m points last
IsGoodEnded m points (Cut outline) = IsGoodCut m points outline

-- a good whole certificate or a good cut, with the marks of its version
pub record IsGood (m : Mill) (c : Certificate) : Type 0 where
  pub ended : IsGoodEnded m c.points c.ending
  pub marks : AllByRecursion (λ (s : MarkedSteps). AreMarksOf c.version s.marks) (finished_trees c)

abbrev pub IsWhole : Ending → Type 0
IsWhole (Whole last) = Unit {0}
IsWhole (Cut outline) = ⊥

abbrev pub IsCut : Ending → Type 0
IsCut (Whole last) = ⊥
IsCut (Cut outline) = Unit {0}

-- what a good certificate shows: it is whole, and its points are the front
pub record ShowsFront (m : Mill) (c : Certificate) : Type 0 where
  pub good : IsGood m c
  pub whole : IsWhole c.ending
  pub some : 0 < length c.points

-- or it is whole and has no point: no plan is legal
pub record ShowsNoPlan (m : Mill) (c : Certificate) : Type 0 where
  pub good : IsGood m c
  pub whole : IsWhole c.ending
  pub none : c.points ≡ []

-- or it was cut off
pub record ShowsCut (m : Mill) (c : Certificate) : Type 0 where
  pub good : IsGood m c
  pub cut : IsCut c.ending
