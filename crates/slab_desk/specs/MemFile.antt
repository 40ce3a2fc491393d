-- A file in memory: its name and its bytes.
use Rattle.std.specs.Prelude.{◌≡◌, ℕ, ◌<◌, ◌≤◌, List, [], length, map, Option, Some, None, slice_get}
use Rattle.std.specs.Option.{option_map}
use Rattle.std.specs.List.{HoldsAt, AllWithin}
use Rattle.std.specs.String.{string_bytes, string_capacity}
use Rattle.std.specs.FinMap.{from_entries}
use Rattle.slab_desk.specs.Desk.{Files}
use Rattle.slab_desk.specs.declared.mem_file.MemFile.{MemFile}

abbrev pub entry : MemFile → List ℕ × List ℕ
entry file = (string_bytes file.name, file.bytes.bytes)

abbrev pub entries : List MemFile → List (List ℕ × List ℕ)
entries files = map entry files

-- the files by name; of two of one name the first counts
abbrev pub files_of : List MemFile → Files
files_of files = from_entries (entries files)

-- a file that has this room and no more bytes than that
pub record HasRoom (size : ℕ) (file : MemFile) : Type 0 where
  pub room : file.bytes.room ≡ size
  pub fits : length file.bytes.bytes ≤ size

-- a file that has no name yet, and memory for one
pub record IsSpare (size : ℕ) (file : MemFile) : Type 0 where
  pub name : string_bytes file.name ≡ []
  pub name_room : size ≤ string_capacity file.name
  pub bytes : file.bytes ≡ record { bytes = []; room = size }

abbrev pub IsNamed : List ℕ → MemFile → Type 0
IsNamed name file = string_bytes file.name ≡ name

-- i is the place of the first file of this name
pub record IsFirst (files : List MemFile) (name : List ℕ) (i : ℕ) : Type 0 where
  pub within : i < length files
  pub named : HoldsAt (IsNamed name) files i
  pub before : AllWithin (λ file. ¬ IsNamed name file) files 0 i

-- the name of the file at the target's place
abbrev pub target_name : List MemFile → Option ℕ → Option (List ℕ)
target_name files None = None
target_name files (Some place) = option_map (λ (file : MemFile). string_bytes file.name) (slice_get files place)

-- i is the place of the first file that has the target's name
pub record IsTarget (files : List MemFile) (target : Option ℕ) (i : ℕ) : Type 0 where
  pub name : List ℕ
  pub is : target_name files target ≡ Some name
  pub first : IsFirst files name i
