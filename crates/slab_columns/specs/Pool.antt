-- What contracts see of a pool.
use Rattle.std.specs.Prelude.{◌≡◌, ◌≢◌, ℕ, ◌≤◌, List, ◌++◌, length, All, AllPairs}
use Rattle.mill_model.specs.Mill.{Mill}
use Rattle.mill_model.specs.Columns.{Column, IsLegalColumn}

-- a pool holds at most so many columns
abbrev pub most_columns : ℕ
most_columns = 8192

-- a mill, and columns of it in the order in which they came
pub record Pool : Type 0 where
  pub mill : Mill
  pub columns : List Column

-- what holds of the columns of every pool
pub record IsPool (pool : Pool) : Type 0 where
  pub few : length pool.columns ≤ most_columns
  pub legal : All (IsLegalColumn pool.mill) pool.columns
  pub distinct : AllPairs (λ a b. a ≢ b) pool.columns

-- the mill stays, and so do the columns, maybe with more behind them
pub record HasGrown (old new : Pool) : Type 0 where
  pub mill : new.mill ≡ old.mill
  pub more : List Column
  pub columns : new.columns ≡ old.columns ++ more
