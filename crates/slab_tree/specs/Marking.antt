-- What the mark of a split claims, and how many splits are bare.
use Rattle.std.specs.Prelude.{◌≡◌, ℕ, Bool, true, false, List}
use Rattle.std.specs.List.{count_by}
use Rattle.mill_model.specs.declared.mark.Mark.{Mark}
use Rattle.mill_model.specs.declared.mark.Mark.TheVariants.{Spread, Bare, Plain}
use Rattle.mill_model.specs.declared.limits.Limits.{Limits}
use Rattle.mill_model.specs.Mill.{Mill}
use Rattle.mill_model.specs.Decisions.{Decision}
use Rattle.mill_model.specs.Shares.{IsShown}
use Rattle.slab_node.specs.Turns.{HasCover}

-- what is to hold of a split's mark and of the decisions above it
abbrev pub MarkRule : Type 1
MarkRule = Mark → List Decision → Type 0

abbrev pub is_bare : Mark → Bool
is_bare Bare = true
is_bare (Spread shown) = false
is_bare Plain = false

abbrev pub bare_marks : List Mark → ℕ
bare_marks marks = count_by is_bare marks

-- a split that isn't bare has a cover within the limits, so that no prices refute them there
abbrev pub HasCoverUnlessBare : Mill → Limits → MarkRule
HasCoverUnlessBare m limits mark decisions = is_bare mark ≡ false → HasCover m limits decisions

-- a cover that is shown is one; a plain mark claims one
abbrev pub HoldsCover : Mill → Limits → MarkRule
HoldsCover m limits (Spread shown) decisions = IsShown m limits decisions shown
HoldsCover m limits Bare decisions = Unit {0}
HoldsCover m limits Plain decisions = HasCover m limits decisions

-- the mark shows a cover within the limits, or is bare
abbrev pub ShowsCoverUnlessBare : Mill → Limits → MarkRule
ShowsCoverUnlessBare m limits (Spread shown) decisions = IsShown m limits decisions shown
ShowsCoverUnlessBare m limits Bare decisions = Unit {0}
ShowsCoverUnlessBare m limits Plain decisions = ⊥
