-- Which files a check asks its desk to open, and when.
use Rattle.std.specs.Prelude.{◌≡◌, ℕ, List, [], ◌∷◌, ◌++◌, Option, Result, Ok, Err, OnOk}
use Rattle.slab_desk.specs.Desk.{Told}
use Rattle.mill_model.specs.Mill.{Mill}
use Rattle.run_words.specs.Words.{MillWords, Parsed}
use Rattle.run_words.specs.Opens.{mill_files, OpensMill, OpensOneMore}
use Rattle.front_check.specs.declared.ending.Ending.{Ending}
use Rattle.front_check.specs.declared.ending.Stop.{Stop}
use Rattle.front_check.specs.Words.{CheckWords}
use Rattle.front_check.specs.Owed.{IsVerdictStatus}

-- the files of a check, in the order in which they are read
abbrev pub check_files : CheckWords → List (List ℕ)
check_files words = mill_files words.mill ++ words.cert ∷ []

-- a check that ended with this status opened the beginning of its files, up to the first that is missing, faulty or refused,
-- each once; and all of them where it gave a verdict
pub record IsReadInOrder (words : CheckWords) (told : Option Told) (status : ℕ) (opened : List (List ℕ)) : Type 0 where
  pub order : OpensOneMore words.mill words.cert told opened
  pub all : IsVerdictStatus status → opened ≡ check_files words

-- words that can't stand open no file
abbrev pub OpensInOrder : Parsed CheckWords → Option Told → ℕ → List (List ℕ) → Type 0
OpensInOrder (Err number) told status opened = opened ≡ []
OpensInOrder (Ok words) told status opened = IsReadInOrder words told status opened

-- ---- its parts

-- a mill was read from all its files, or reading stopped
abbrev pub IsMillOpened : MillWords → Option Told → Result Mill Stop → List (List ℕ) → Type 0
IsMillOpened words told (Ok mill) opened = opened ≡ mill_files words
IsMillOpened words told (Err stop) opened = OpensMill words told opened

-- what the answer to a check opened
pub record IsOpenedFor (words : CheckWords) (told : Option Told) (result : Result Ending Stop) (opened : List (List ℕ)) : Type 0 where
  pub order : OpensOneMore words.mill words.cert told opened
  pub all : OnOk result (opened ≡ check_files words)
