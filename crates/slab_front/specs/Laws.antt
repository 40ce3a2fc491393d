-- That a cut is good exactly where no line of it is bad.
use Rattle.std.specs.Prelude.{ℕ, List}
use Rattle.mill_model.specs.Mill.{Mill, IsInLimits}
use Rattle.mill_model.specs.Fronts.{Point}
use Rattle.cert_rules.specs.declared.why.Why.{Why}
use Rattle.cert_rules.specs.States.Wanted.{Cuts}
use Rattle.cert_rules.specs.Reading.{IsFirstBad}
use Rattle.slab_front.specs.Owed.{SpellsCut}

-- bytes that spell a good cut have no bad line, where only a cut is wanted
abbrev pub GoodCutsHaveNoBadLine : Type 0
GoodCutsHaveNoBadLine = (m : Mill) (bytes : List ℕ) (points : List Point) (number : ℕ) (rule : Why) →
    IsInLimits m → SpellsCut m bytes points → IsFirstBad m Cuts bytes number rule → ⊥
