-- Which files a run asks its desk to open, and in which order.
use Rattle.std.specs.Prelude.{◌≡◌, ◌⊎◌, ℕ, List, [], ◌∷◌, ◌++◌, Option, Some, None}
use Rattle.slab_desk.specs.Desk.{Told, Files, WhereTold}
use Rattle.slab_desk.specs.Names.{Names}
use Rattle.mill_model.specs.Mill.{Mill}
use Rattle.mill_read.specs.OrderFile.{order_file}
use Rattle.run_words.specs.Words.{MillWords}
use Rattle.run_words.specs.Files.{HasValue, HasMill}

-- ---- the files of a mill, in the order in which they are read

abbrev pub yard_files : Option (List ℕ) → List (List ℕ)
yard_files None = []
yard_files (Some name) = name ∷ []

abbrev pub mill_files : MillWords → List (List ℕ)
mill_files words = words.orders ∷ yard_files words.yard

-- ---- how far a run reads

-- the order file is there, and in its grammar
abbrev pub HasOrders : MillWords → Files → Type 0
HasOrders words files = (bare : Mill) × HasValue order_file words.orders bare files

-- the files of the mill are there, and in their grammar
abbrev pub HasSomeMill : MillWords → Files → Type 0
HasSomeMill words files = (m : Mill) × HasMill words m files

-- the order file; and after it the yard file, where one is named and the order file could be read
abbrev pub OpensMill : MillWords → Option Told → List (List ℕ) → Type 0
OpensMill words told opened =
    (opened ≡ words.orders ∷ [])
    ⊎ ((opened ≡ mill_files words) × WhereTold told (λ t. HasOrders words t.files))

-- and after those one file more, where the mill could be read
abbrev pub OpensOneMore : MillWords → List ℕ → Option Told → List (List ℕ) → Type 0
OpensOneMore words name told opened =
    OpensMill words told opened
    ⊎ ((opened ≡ mill_files words ++ name ∷ []) × WhereTold told (λ t. HasSomeMill words t.files))

-- ---- names

-- names of which this holds were opened, and none was created
pub record HasOpened (P : List (List ℕ) → Type 0) (old new : Names) : Type 0 where
  pub opened : List (List ℕ)
  pub asked : new ≡ record old { opened = old.opened ++ opened }
  pub holds : P opened
