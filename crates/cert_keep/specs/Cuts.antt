-- A reader of cuts: for which bytes it stands.
use Rattle.std.specs.Prelude.{ℕ, List}
use Rattle.cert_rules.specs.States.Wanted.{Cuts}
use Rattle.cert_keep.specs.Gathering.{Gathered, Gathers}
use Rattle.cert_check.specs.Readings.{HasLessRoom}

-- what a reader of cuts keeps: the reading, and what was built of the certificate
abbrev pub CutReading : Type 0
CutReading = Gathered

-- a reader of cuts stands for these bytes
abbrev pub StandsAsCut : CutReading → List ℕ → Type 0
StandsAsCut c bytes = Gathers Cuts c bytes

-- the reader has failed, or its room has fallen by so much at least
abbrev pub CutHasLessRoom : CutReading → CutReading → ℕ → Type 0
CutHasLessRoom old new fed = HasLessRoom old.reading new.reading fed
