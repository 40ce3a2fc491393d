-- What joins certificates and their texts.
use Rattle.std.specs.Prelude.{◌≡◌, ◌⊎◌, ℕ, ◌<◌, List, [], ◌++◌, length}
use Rattle.std.specs.List.{AllByRecursion}
use Rattle.mill_model.specs.declared.limits.Limits.{Limits}
use Rattle.mill_model.specs.declared.mark.Mark.{Mark}
use Rattle.mill_model.specs.declared.mark.Mark.TheVariants.{Spread}
use Rattle.mill_model.specs.declared.version.Version.{Version}
use Rattle.mill_model.specs.declared.version.Version.TheVariants.{One}
use Rattle.mill_model.specs.Mill.{Mill, IsInLimits}
use Rattle.mill_model.specs.Plans.{Plan, IsLegal}
use Rattle.mill_model.specs.Decisions.{Decision}
use Rattle.mill_model.specs.Prices.{Prices}
use Rattle.mill_model.specs.Shares.{Shown}
use Rattle.mill_model.specs.Trees.{Tree, EverySplit, RefutingTree, preorder, marks_of}
use Rattle.mill_model.specs.Marks.{HasRightMarks}
use Rattle.mill_model.specs.Fronts.{IsFront, IsGoodHead, sums_list}
use Rattle.cert_text.specs.Certificates.{Certificate, IsGood, ShowsFront, ShowsNoPlan, ShowsCut}
use Rattle.cert_text.specs.Lines.{steps_lines, marked_lines, certificate_lines}
use Rattle.cert_text.specs.Texts.{certificate_text, Spells, IsReadable}
use Rattle.cert_text.specs.Worked.{with_a_spread, spread_text, cut_off, cut_text, plain_text}

-- a good certificate shows one of three things
abbrev pub EachShowsOne : Type 0
EachShowsOne = (m : Mill) (c : Certificate) →
    (IsGood m c → ShowsFront m c ⊎ (ShowsNoPlan m c ⊎ ShowsCut m c))
    × (ShowsFront m c → ShowsNoPlan m c → ⊥) × (ShowsFront m c → ShowsCut m c → ⊥) × (ShowsNoPlan m c → ShowsCut m c → ⊥)

-- where it shows a front, its points are the Pareto front; where it shows no plan, no plan is legal; and its points are
-- always a good head
abbrev pub WhatIsShownHolds : Type 0
WhatIsShownHolds = (m : Mill) (c : Certificate) →
    (ShowsFront m c → IsFront m (sums_list c.points))
    × (ShowsNoPlan m c → (p : Plan) → IsLegal m p → ⊥) × (IsGood m c → IsGoodHead m c.points)

-- a cover that a question of a marked tree shows has a share
abbrev pub ShownCoversHaveShares : Type 0
ShownCoversHaveShares = (m : Mill) (limits : Limits) (decisions : List Decision) (t : Tree Mark Prices) →
    RefutingTree m limits t decisions → HasRightMarks m limits t decisions →
    EverySplit (λ mark _ _. (shown : Shown) → mark ≡ Spread shown → 0 < length shown.shares) t decisions

-- the lines of a tree are those of its steps and marks
abbrev pub TreesAreListed : Type 0
TreesAreListed = (version : Version) (t : Tree Mark Prices) →
    steps_lines version (preorder t) (marks_of t) ≡ marked_lines version t

-- each line of a good certificate is one that is read
abbrev pub GoodLinesAreRead : Type 0
GoodLinesAreRead = (m : Mill) (c : Certificate) → IsInLimits m → IsGood m c →
    AllByRecursion IsReadable (certificate_lines c)

-- bytes spell at most one good certificate
abbrev pub OneCertificate : Type 0
OneCertificate = (m : Mill) (bytes : List ℕ) (c d : Certificate) → IsInLimits m → IsGood m c → IsGood m d →
    Spells bytes c → Spells bytes d → c ≡ d

-- no text of a good certificate goes on to be another's
abbrev pub NoProperPrefix : Type 0
NoProperPrefix = (m : Mill) (c d : Certificate) (more : List ℕ) → IsInLimits m → IsGood m c → IsGood m d →
    certificate_text d ≡ certificate_text c ++ more → more ≡ []

-- texts of two certificates, and of the second without marks
abbrev pub WorkedTexts : Type 0
WorkedTexts = (certificate_text with_a_spread ≡ spread_text) × (certificate_text cut_off ≡ cut_text)
    × (certificate_text (record cut_off { version = One }) ≡ plain_text)
