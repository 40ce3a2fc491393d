-- One column more.
use Rattle.std.proofs.Common.{◌≡◌, ℕ, zero, suc, ◌<◌, arith, get_or, sym, subst, List, [], ◌∷◌, ◌++◌, length, Vec, Global}
use Rattle.std.specs.Prelude.{All}
use Rattle.std.proofs.lemmas.List.{map-append, get_or-map, length-map}
use Rattle.std.proofs.lemmas.List.Elements.{All-push}
use Rattle.slab_master.specs.Given.{Row, Entry, Column, IsColumn, IsGiven, columns_of}

pub IsGiven-push : (rows : List Row) (columns : List (Vec Entry Global)) (v : Vec Entry Global) → IsGiven (record { rows = rows; columns = columns_of columns }) → IsColumn (length rows) v.items → IsGiven (record { rows = rows; columns = columns_of (columns ++ v ∷ []) })
IsGiven-push rows columns v given column =
    record {
      rows = given.rows;
      columns = subst (λ (cs : List Column). All (IsColumn (length rows)) cs) (sym (map-append (λ (c : Vec Entry Global). c.items) columns (v ∷ [])))
          (All-push (IsColumn (length rows)) (columns_of columns) v.items given.columns column);
    }

-- the columns are sound where they lie
pub columns_at : (n : ℕ) (columns : List (Vec Entry Global)) → All (IsColumn n) (columns_of columns) → All (λ c. IsColumn n c.items) columns
columns_at n columns all k v inside =
    subst (IsColumn n) (get_or-map (λ (c : Vec Entry Global). c.items) columns k v v.items inside)
    (all k v.items (simp length-map inside))

-- their entries name rows below as many
pub entries_within : (n m : ℕ) (columns : List (Vec Entry Global)) → n ≡ m → All (λ c. IsColumn n c.items) columns → All (λ c. All (λ e. e.0 < m) c.items) columns
entries_within n m columns same all = subst (λ (r : ℕ). All (λ c. All (λ e. e.0 < r) c.items) columns) same (λ k v inside. (all k v inside).within)

-- what holds of each column where it lies holds of each column
pub at_columns : (P : ℕ → Column → Type 0) (columns : List (Vec Entry Global)) → ((j : ℕ) (v : Vec Entry Global) → j < length columns → P j (get_or columns j v).items) → (j : ℕ) (column : Column) → j < length (columns_of columns) → P j (get_or (columns_of columns) j column)
at_columns P [] h j column below = absurd (omega (arith, below))
at_columns P (v ∷ vs) h zero column below = h 0 v (omega arith)
at_columns P (v ∷ vs) h (suc j) column below =
    at_columns (λ (i : ℕ). P (suc i)) vs (λ i u inside. h (suc i) u (omega (arith, inside))) j column (omega (arith, below))
