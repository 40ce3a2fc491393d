-- Which files a run asks its desk to open and to create, and when.
use Rattle.std.specs.Prelude.{◌≡◌, ◌≢◌, ◌⊎◌, ℕ, List, [], ◌∷◌, ◌++◌, Option, Result, Ok, Err, OnOk, IfOk}
use Rattle.slab_desk.specs.Desk.{Told}
use Rattle.slab_desk.specs.Names.{Names, with_created}
use Rattle.mill_model.specs.Mill.{Mill}
use Rattle.run_words.specs.Words.{MillWords, Parsed}
use Rattle.run_words.specs.Opens.{mill_files, OpensMill, OpensOneMore}
use Rattle.slab_front.specs.declared.ending.Answer.{Answer}
use Rattle.slab_front.specs.declared.ending.Answer.TheVariants.{Text, Stored, SummedUp}
use Rattle.slab_front.specs.declared.ending.Ending.{Ending}
use Rattle.slab_front.specs.declared.ending.Stop.{Stop}
use Rattle.slab_front.specs.Words.{Command}
use Rattle.slab_front.specs.Words.Command.{Solves, Resumes, Judges, Makes}
use Rattle.slab_front.specs.Owed.{IsSearchStatus}

-- ---- how far a run reads

-- all files of the words, in the order in which they are read
abbrev pub files_in : Parsed Command → List (List ℕ)
files_in (Err number) = []
files_in (Ok (Solves words searching)) = mill_files words
files_in (Ok (Resumes words cut searching)) = mill_files words ++ cut ∷ []
files_in (Ok (Judges words plan)) = mill_files words ++ plan ∷ []
files_in (Ok (Makes orders seed)) = []

-- just the beginning of the words' files, up to the first that is missing, faulty or refused, each once
abbrev pub OpensInOrder : Parsed Command → Option Told → List (List ℕ) → Type 0
OpensInOrder (Err number) told opened = opened ≡ []
OpensInOrder (Ok (Solves words searching)) told opened = OpensMill words told opened
OpensInOrder (Ok (Resumes words cut searching)) told opened = OpensOneMore words cut told opened
OpensInOrder (Ok (Judges words plan)) told opened = OpensOneMore words plan told opened
OpensInOrder (Ok (Makes orders seed)) told opened = opened ≡ []

-- ---- what a run creates

-- the certificate is created, and the run ends as a search does, or the outside failed
pub record IsCreated (cert : List ℕ) (status : ℕ) (created : List (List ℕ)) : Type 0 where
  pub one : created ≡ cert ∷ []
  pub ended : IsSearchStatus status ⊎ (status ≡ 5)

-- no file is created, and the run doesn't end as a search does
pub record IsNotCreated (status : ℕ) (created : List (List ℕ)) : Type 0 where
  pub none : created ≡ []
  pub unsearched : IsSearchStatus status → ⊥

-- no file, or just the certificate of a search, and that only when its outcome is decided
abbrev pub Creates : Parsed Command → ℕ → List (List ℕ) → Type 0
Creates (Err number) status created = created ≡ []
Creates (Ok (Solves words searching)) status created = IsNotCreated status created ⊎ IsCreated searching.cert status created
Creates (Ok (Resumes words cut searching)) status created = IsNotCreated status created ⊎ IsCreated searching.cert status created
Creates (Ok (Judges words plan)) status created = created ≡ []
Creates (Ok (Makes orders seed)) status created = created ≡ []

-- ---- a run

-- these names were opened and created after those of before
abbrev pub with_names : List (List ℕ) → List (List ℕ) → Names → Names
with_names opened created names = record { opened = names.opened ++ opened; created = names.created ++ created }

-- What a run that ended with this status asked of a desk that told this as it began. It opened all its files where it ends with an
-- answer, and where it created one.
pub record AsksInOrder (parsed : Parsed Command) (told : Option Told) (status : ℕ) (old new : Names) : Type 0 where
  pub opened : List (List ℕ)
  pub created : List (List ℕ)
  pub asked : new ≡ with_names opened created old
  pub order : OpensInOrder parsed told opened
  pub all : status ≢ 2 → status ≢ 5 → status ≢ 6 → opened ≡ files_in parsed
  pub creates : Creates parsed status created
  pub last : (created ≡ []) ⊎ (opened ≡ files_in parsed)

-- ---- its parts

-- a mill was read from all its files, or reading stopped
abbrev pub IsMillOpened : MillWords → Option Told → Result Mill Stop → List (List ℕ) → Type 0
IsMillOpened words told (Ok mill) opened = opened ≡ mill_files words
IsMillOpened words told (Err stop) opened = OpensMill words told opened

-- a plan was read after all files of the mill, or reading stopped
pub record IsPlanOpened (words : MillWords) (plan : List ℕ) (told : Option Told) (result : Result Ending Stop) (opened : List (List ℕ)) : Type 0 where
  pub order : OpensOneMore words plan told opened
  pub all : OnOk result (opened ≡ mill_files words ++ plan ∷ [])

-- a search stores its certificate under the name of the words, and only a search does; only a made mill is summed up
abbrev pub Answers : Command → Answer → Type 0
Answers (Solves words searching) (Text ending) = IsSearchStatus ending.status → ⊥
Answers (Solves words searching) (Stored name m s) = name.now ≡ searching.cert
Answers (Solves words searching) (SummedUp m s) = ⊥
Answers (Resumes words cut searching) (Text ending) = IsSearchStatus ending.status → ⊥
Answers (Resumes words cut searching) (Stored name m s) = name.now ≡ searching.cert
Answers (Resumes words cut searching) (SummedUp m s) = ⊥
Answers (Judges words plan) (Text ending) = Unit {0}
Answers (Judges words plan) (Stored name m s) = ⊥
Answers (Judges words plan) (SummedUp m s) = ⊥
Answers (Makes orders seed) (Text ending) = ⊥
Answers (Makes orders seed) (Stored name m s) = ⊥
Answers (Makes orders seed) (SummedUp m s) = Unit {0}

-- what the answer to a command opened
pub record IsOpenedFor (command : Command) (told : Option Told) (result : Result Answer Stop) (opened : List (List ℕ)) : Type 0 where
  pub order : OpensInOrder (Ok command) told opened
  pub all : OnOk result (opened ≡ files_in (Ok command))
  pub answers : IfOk result (Answers command)

-- the names after an answer was given
abbrev pub names_for : Answer → Names → Names
names_for (Text ending) names = names
names_for (Stored name m s) names = with_created name.now names
names_for (SummedUp m s) names = names
