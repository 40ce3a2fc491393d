-- A reader that keeps what it reads: for which bytes it stands, and what it gives at the end.
use Rattle.std.specs.Prelude.{◌≡◌, ℕ, List, ◌++◌, length, Option, Some, None}
use Rattle.mill_model.specs.Mill.{Mill}
use Rattle.mill_model.specs.declared.version.Version.{Version}
use Rattle.mill_model.specs.Marks.{MarkedSteps}
use Rattle.mill_model.specs.Fronts.{Point}
use Rattle.cert_text.specs.Certificates.{Certificate, IsGood}
use Rattle.cert_text.specs.Certificates.Ending.{Whole}
use Rattle.cert_text.specs.Texts.{Spells}
use Rattle.cert_rules.specs.States.{Wanted}
use Rattle.cert_rules.specs.Laws.{IsWanted}
use Rattle.cert_check.specs.declared.failure.Failure.{Failure}
use Rattle.cert_keep.specs.Building.{Built, nothing_built, build_all}
use Rattle.cert_keep.specs.Rebuilt.{built_of}
use Rattle.cert_check.specs.Readings.{Reading, Runs, Fails, HasLessRoom}

-- the reading, and what was built of the certificate
pub record Gathered : Type 0 where
  pub reading : Reading
  pub built : Built

-- the whole lines built what is kept
pub record Builds (wanted : Wanted) (g : Gathered) (bytes : List ℕ) : Type 0 where
  pub runs : Runs wanted g.reading bytes
  pub built : g.built ≡ build_all (length g.reading.mill.orders) nothing_built runs.running.before

-- by what it keeps, the reader stands for these bytes
abbrev pub GathersBy : Wanted → Gathered → Option Failure → List ℕ → Type 0
GathersBy wanted g None bytes = Builds wanted g bytes
GathersBy wanted g (Some failure) bytes = Fails wanted g.reading.mill failure bytes

pub record Gathers (wanted : Wanted) (g : Gathered) (bytes : List ℕ) : Type 0 where
  pub stands : GathersBy wanted g g.reading.failed bytes

-- for the bytes that a reader stands for
abbrev pub ForGathered : Gathered → (List ℕ → Type 0) → Type 0
ForGathered g P = (bytes : List ℕ) → Gathers g.reading.wanted g bytes → P bytes

-- for whatever bytes the old reader stood, the new one stands for them and these
abbrev pub GathersOn : Gathered → Gathered → List ℕ → Type 0
GathersOn old new fed = ForGathered old (λ bytes. Gathers old.reading.wanted new (bytes ++ fed))

-- the new reader has less room than the old one
abbrev pub HasLessAfter : Gathered → Gathered → ℕ → Type 0
HasLessAfter old new fed = ForGathered old (λ bytes. HasLessRoom old.reading new.reading fed)

-- the bytes spell the good whole certificate of these parts
abbrev pub IsSpelledWhole : Mill → List ℕ → Version → List Point → MarkedSteps → Type 0
IsSpelledWhole m bytes version points last =
    let c : Certificate = record { version = version; points = points; ending = Whole last } in Spells bytes c × IsGood m c

-- the bytes spell a good certificate of those that are wanted, and this is what its lines build
pub record IsBuiltFrom (m : Mill) (wanted : Wanted) (bytes : List ℕ) (b : Built) : Type 0 where
  pub certificate : Certificate
  pub spells : Spells bytes certificate
  pub good : IsWanted m wanted certificate
  pub built : b ≡ built_of certificate
