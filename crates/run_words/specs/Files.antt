-- The files of a run, and the mill that words and files make.
use Rattle.std.specs.Prelude.{◌≡◌, ℕ, ◌≤◌, List, length, Option, Some, None, Result, Ok}
use Rattle.std.specs.FinMap.{get}
use Rattle.slab_desk.specs.Desk.{Files}
use Rattle.mill_model.specs.Mill.{Mill, Yard, with_yard}
use Rattle.mill_read.specs.declared.fault.TextFault.{TextFault}
use Rattle.mill_read.specs.OrderFile.{order_file}
use Rattle.mill_read.specs.YardFile.{yard_file}
use Rattle.run_words.specs.Words.{MillWords}

-- the longest file that is read in one piece
abbrev pub most_bytes : ℕ
most_bytes = 1048576

-- the colour limit of the words
abbrev pub with_colours : ℕ → Mill → Mill
with_colours colours m = record m { colour_limit = colours }

-- the file is there, isn't too long, and has this value
abbrev pub HasValue : {A : Type 0} → (List ℕ → Result A TextFault) → List ℕ → A → Files → Type 0
HasValue reading name value files = (bytes : List ℕ) × (get files name ≡ Some bytes) × (length bytes ≤ most_bytes) × (reading bytes ≡ Ok value)

-- the mill has the yard of this file, where one is named
abbrev pub HasYard : Option (List ℕ) → Mill → Mill → Files → Type 0
HasYard None bare mill files = mill ≡ bare
HasYard (Some name) bare mill files = (yard : Yard) × HasValue (yard_file (length bare.orders)) name yard files × (mill ≡ with_yard bare yard)

-- the mill of the order file, with the yard of the yard file, and the colour limit of the words
pub record HasMill (words : MillWords) (mill : Mill) (files : Files) : Type 0 where
  pub bare : Mill
  pub with_its_yard : Mill
  pub orders : HasValue order_file words.orders bare files
  pub yard : HasYard words.yard bare with_its_yard files
  pub colours : mill ≡ with_colours words.colours with_its_yard
