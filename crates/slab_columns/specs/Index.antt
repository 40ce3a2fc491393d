-- The index of a pool: from a column's key to the numbers of the columns that have this key.
use Rattle.std.specs.Prelude.{◌≡◌, ℕ, ◌+◌, ◌*◌, ◌%◌, ◌^◌, ◌<◌, List, [], All, Contains, Some, fold, length, nat_eq, slice_get}
use Rattle.std.specs.Option.{option_map_or}
use Rattle.std.specs.declared.hash.FoldHasher.{FoldHasher}
use Rattle.std.specs.declared.hash.BuildHasherDefault.{BuildHasherDefault}
use Rattle.indexmap.specs.IndexMap.{IndexMap, get}
use Rattle.smallvec.specs.SmallVec.{SmallVec}
use Rattle.mill_model.specs.declared.kind.Kind.{Kind}
use Rattle.mill_model.specs.declared.kind.Kind.TheVariants.{New, Old}
use Rattle.mill_model.specs.Columns.{Column}

abbrev pub Index : Type 0
Index = IndexMap ℕ (SmallVec ℕ) (BuildHasherDefault FoldHasher)

-- a number for each slab
abbrev pub kind_key : Kind → ℕ
kind_key (New size) = size
kind_key (Old slab) = slab + 65536

-- the key with one more order
abbrev pub next_key : ℕ → ℕ → ℕ
next_key key order = (key * 6364136223846793005 % 2 ^ 64 + (order + 1)) % 2 ^ 64

-- a number that equal columns share
abbrev pub key_of : Column → ℕ
key_of c = fold next_key (kind_key c.kind) c.orders

-- the numbers that are noted under a key
abbrev pub ids_at : Index → ℕ → List ℕ
ids_at index key = option_map_or (λ ids. ids.items) (get nat_eq index key) []

-- each column's number is noted under its key, and nothing else is noted
pub record IsIndex (columns : List Column) (index : Index) : Type 0 where
  pub noted : (i : ℕ) (c : Column) → slice_get columns i ≡ Some c → Contains (ids_at index (key_of c)) i
  pub within : (key : ℕ) → All (λ id. id < length columns) (ids_at index key)
