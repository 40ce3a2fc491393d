-- What a desk tells of itself, and what each call does to it.
use Rattle.std.specs.Prelude.{◌≡◌, ℕ, ◌≤◌, ◌<◌, ◌⊎◌, List, [], ◌∷◌, ◌++◌, length, take, ⊤, Option, Some, None, Result, MatchResult}
use Rattle.std.specs.Ordering.{nat_cmp}
use Rattle.std.specs.Cmp.Lexicographic.{slice_cmp}
use Rattle.std.specs.Coded.{Coded, coded_list, coded_ℕ}
use Rattle.std.specs.FinMap.{FinMap, get, insert, code}

-- the bytes of each file, by the bytes of its name
abbrev pub Files : Type 0
Files = FinMap (slice_cmp nat_cmp) (List ℕ)

-- by which a proof tells two of them apart
abbrev pub files_code : Coded Files
files_code = code (coded_list coded_ℕ) (coded_list coded_ℕ)

pub record Told : Type 0 where
  pub files : Files
  -- the unread bytes of the file opened last
  pub left : List ℕ
  -- the name of the file created last
  pub target : Option (List ℕ)
  -- all bytes said
  pub said : List ℕ

-- where the desk tells, this step was taken; one that tells goes on telling, and one that does not never does
abbrev pub Steps : Option Told → Option Told → (Told → Told → Type 0) → Type 0
Steps None None step = ⊤
Steps (Some old) (Some new) step = step old new
Steps None (Some new) step = ⊥
Steps (Some old) None step = ⊥

-- a desk that tells has this of it
abbrev pub WhereTold : Option Told → (Told → Type 0) → Type 0
WhereTold None P = ⊤
WhereTold (Some told) P = P told

abbrev pub Stays : Told → Told → Type 0
Stays old new = new ≡ old

-- nothing but what is left to read has changed
abbrev pub ChangesLeft : Told → Told → Type 0
ChangesLeft old new = new ≡ record old { left = new.left }

-- a call took this step, or failed and changed nothing
abbrev pub Answers : {T E : Type 0} → Result T E → Option Told → Option Told → (T → Told → Told → Type 0) → Type 0
Answers result old new step = MatchResult result (λ value. Steps old new (step value)) (λ _. Steps old new Stays)

-- the bytes of the named file, which there is, are those left to read
abbrev pub Opens : List ℕ → Told → Told → Type 0
Opens name old new = (bytes : List ℕ) × (get old.files name ≡ Some bytes) × (new ≡ record old { left = bytes })

-- the first k bytes of the buffer are the first k of those left, which loses them
pub record Reads (k : ℕ) (buffer : List ℕ) (old new : Told) : Type 0 where
  pub bytes : old.left ≡ take k buffer ++ new.left
  pub others : ChangesLeft old new
  pub none : k ≡ 0 → 0 < length buffer → old.left ≡ []

-- the named file is empty, and the target
abbrev pub Creates : List ℕ → Told → Told → Type 0
Creates name old new = new ≡ record old { files = insert old.files name []; target = Some name }

-- these bytes stand at the end of the file of this name, which there is
abbrev pub AppendsTo : List ℕ → List ℕ → Told → Told → Type 0
AppendsTo name bytes old new =
    (content : List ℕ) × (get old.files name ≡ Some content) × (new ≡ record old { files = insert old.files name (content ++ bytes) })

-- these bytes stand at the end of the target file, which there is
abbrev pub Appends : List ℕ → Told → Told → Type 0
Appends bytes old new = (name : List ℕ) × (old.target ≡ Some name) × AppendsTo name bytes old new

-- these bytes were said
abbrev pub Says : List ℕ → Told → Told → Type 0
Says bytes old new = new ≡ record old { said = old.said ++ bytes }

-- there is a file of this name and these bytes
abbrev pub HasFile : List ℕ → List ℕ → Told → Type 0
HasFile name bytes told = get told.files name ≡ Some bytes

-- there is a file of this name that has more bytes than the limit
abbrev pub HasLongFile : List ℕ → ℕ → Told → Type 0
HasLongFile name limit told = (bytes : List ℕ) × HasFile name bytes told × (limit < length bytes)

-- these bytes and what is left to read make up the named file
pub record HasRead (name bytes : List ℕ) (old new : Told) : Type 0 where
  pub file : get old.files name ≡ Some (bytes ++ new.left)
  pub others : ChangesLeft old new

-- nothing happened, or the named file was opened and at most so many of its bytes were read
abbrev pub ReadsAtMost : List ℕ → ℕ → Told → Told → Type 0
ReadsAtMost name most old new = Stays old new ⊎ ((bytes : List ℕ) × (length bytes ≤ most) × HasRead name bytes old new)

-- all of these bytes stand at the end of the target file; where there are none, nothing changed
abbrev pub AppendsAll : List ℕ → Told → Told → Type 0
AppendsAll [] old new = Stays old new
AppendsAll (byte ∷ bytes) old new = Appends (byte ∷ bytes) old new

-- a step with some prefix of these bytes
abbrev pub WithPrefix : (List ℕ → Told → Told → Type 0) → List ℕ → Told → Told → Type 0
WithPrefix step bytes old new = (prefix rest : List ℕ) × (bytes ≡ prefix ++ rest) × step prefix old new
