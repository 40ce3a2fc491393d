-- What a run says and stores, and what is left of that where the outside fails.
use Rattle.std.specs.Prelude.{◌≡◌, ◌≢◌, ◌⊎◌, ℕ, List, [], ◌++◌, Option, Some, None}
use Rattle.std.specs.FinMap.{insert}
use Rattle.slab_desk.specs.Desk.{Told, Files, WithPrefix}
use Rattle.run_words.specs.Texts.{memory_text}

-- a text that is said, and the file that is created before that, where there is one: its name and its bytes
pub record Outcome : Type 0 where
  pub said : List ℕ
  pub stored : Option (List ℕ × List ℕ)

-- only a text is said
abbrev pub saying : List ℕ → Outcome
saying text = record { said = text; stored = None }

-- only a file is created
abbrev pub storing : List ℕ → List ℕ → Outcome
storing name bytes = record { said = []; stored = Some (name, bytes) }

-- which status is owed with which outcome
abbrev pub Owing : Type 1
Owing = ℕ → Outcome → Type 0

-- the desk with this file created
abbrev pub with_file : Option (List ℕ × List ℕ) → Told → Told
with_file None told = told
with_file (Some (name, bytes)) told = record told { files = insert told.files name bytes; target = Some name }

-- The file was created, and the text said. Another part of a file may be left to read, and no other file changed.
abbrev pub Gives : Outcome → Told → Told → Type 0
Gives outcome old new =
    new ≡ record old { files = (with_file outcome.stored old).files; target = (with_file outcome.stored old).target; left = new.left; said = old.said ++ outcome.said }

abbrev pub SaysOnly : List ℕ → Told → Told → Type 0
SaysOnly text = Gives (saying text)

-- the file was created with a prefix of its bytes
abbrev pub BeginsToStore : Option (List ℕ × List ℕ) → Told → Told → Type 0
BeginsToStore None old new = ⊥
BeginsToStore (Some (name, bytes)) old new = WithPrefix (λ begun. Gives (storing name begun)) bytes old new

-- the file is as it is to be, and a prefix of the text was said
abbrev pub BeginsToSay : Outcome → Told → Told → Type 0
BeginsToSay outcome old new = WithPrefix (λ begun. Gives (record outcome { said = begun })) outcome.said old new

-- the outcome was begun
abbrev pub Begins : Outcome → Told → Told → Type 0
Begins outcome old new = BeginsToStore outcome.stored old new ⊎ BeginsToSay outcome old new

-- nothing happened; or an outcome was begun that is owed, or the text for want of memory
abbrev pub StopsShort : (Files → Owing) → Told → Told → Type 0
StopsShort owes old new =
    SaysOnly [] old new
    ⊎ (((status : ℕ) × (outcome : Outcome) × owes old.files status outcome × Begins outcome old new)
    ⊎ BeginsToSay (saying memory_text) old new)

-- the outcome that is owed with this status was given
abbrev pub GivesOwed : (Files → Owing) → ℕ → Told → Told → Type 0
GivesOwed owes status old new = (outcome : Outcome) × owes old.files status outcome × Gives outcome old new

-- what a run that ended with this status did to a desk that tells
pub record Ran (owes : Files → Owing) (status : ℕ) (old new : Told) : Type 0 where
  pub fault : status ≡ 5 → StopsShort owes old new
  pub memory : status ≡ 6 → SaysOnly memory_text old new
  pub owed : status ≢ 5 → status ≢ 6 → GivesOwed owes status old new
