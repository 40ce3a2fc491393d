-- What a reader that takes memory answers.
use Rattle.std.specs.Prelude.{◌≡◌, Result, Ok, Err, ⊤}
use Rattle.mill_read.specs.WordsLeft.{WordsLeft}
use Rattle.mill_read.specs.Reading.{Read}
use Rattle.mill_read.specs.declared.fault.TextFault.{TextFault}
use Rattle.mill_read.specs.declared.fault.TextError.{TextError}
use Rattle.mill_read.specs.declared.fault.TextError.TheVariants.{Text, Memory}

-- the fault that reading gives, or want of memory
abbrev pub FailsBy : {A : Type 0} → TextError → Result A TextFault → Type 0
FailsBy (Text fault) read = read ≡ Err fault
FailsBy Memory read = ⊤

-- what it answered, seen by view, and left is what reading gives, unless memory ran out
abbrev pub Gives : {X A : Type 0} → (X → A) → Result X TextError → WordsLeft → Read A → Type 0
Gives view (Ok x) left read = read ≡ Ok (view x, left)
Gives view (Err e) left read = FailsBy e read

-- the same of a whole text
abbrev pub GivesAll : {A : Type 0} → Result A TextError → Result A TextFault → Type 0
GivesAll (Ok x) read = read ≡ Ok x
GivesAll (Err e) read = FailsBy e read
