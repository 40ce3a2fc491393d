-- What a run says, and what is left of that where the outside fails.
use Rattle.std.specs.Prelude.{◌≡◌, ◌≢◌, ◌⊎◌, ℕ, List, [], ◌++◌}
use Rattle.slab_desk.specs.Desk.{Told, Files, WithPrefix}
use Rattle.run_words.specs.Texts.{memory_text}

-- which status is owed with which text
abbrev pub Owing : Type 1
Owing = ℕ → List ℕ → Type 0

-- The text was said. Another part of a file may be left to read, and no file was created or changed.
abbrev pub SaysOnly : List ℕ → Told → Told → Type 0
SaysOnly text old new = new ≡ record old { left = new.left; said = old.said ++ text }

-- a prefix of the text was said
abbrev pub BeginsToSay : List ℕ → Told → Told → Type 0
BeginsToSay text old new = WithPrefix SaysOnly text old new

-- nothing was said; or a prefix of a text that is owed, or of the one for want of memory
abbrev pub StopsShort : (Files → Owing) → Told → Told → Type 0
StopsShort owes old new =
    SaysOnly [] old new
    ⊎ (((status : ℕ) × (text : List ℕ) × owes old.files status text × BeginsToSay text old new)
    ⊎ BeginsToSay memory_text old new)

-- the text that is owed with this status was said
abbrev pub SaysOwed : (Files → Owing) → ℕ → Told → Told → Type 0
SaysOwed owes status old new = (text : List ℕ) × owes old.files status text × SaysOnly text old new

-- what a run that ended with this status did to a desk that tells
pub record Ran (owes : Files → Owing) (status : ℕ) (old new : Told) : Type 0 where
  pub fault : status ≡ 5 → StopsShort owes old new
  pub memory : status ≡ 6 → SaysOnly memory_text old new
  pub owed : status ≢ 5 → status ≢ 6 → SaysOwed owes status old new
