-- What the columns of a master lose, one by one.
use Rattle.std.proofs.Common.{◌≡◌, ℕ, ◌+◌, ◌<◌, ℤ, pos, ◌≤ℤ◌, List, [], ◌∷◌, ◌++◌, length, map, take, get_or, All, sym, refl, ap, ap₂, ◌∙◌}
use Rattle.std.proofs.lemmas.List.{map-append, take_more, length-map}
use Rattle.std.proofs.lemmas.List.Elements.{All-append, All-cons, All-nil}
use Rattle.mill_model.specs.declared.limits.Limits.{Limits}
use Rattle.mill_model.specs.Mill.{Mill}
use Rattle.mill_model.specs.Columns.{Column, loss_of}
use Rattle.mill_model.specs.Decisions.{Decision}
use Rattle.slab_columns.specs.declared.column.ColId.{ColId}
use Rattle.slab_master.specs.Given.{Given, IsSmall}
use Rattle.slab_master.specs.Least.{AreCosts}
use Rattle.slab_relax.specs.PoolCovers.{column_at}
use Rattle.slab_relax.specs.Rows.{entries_of}
use Rattle.slab_relax.specs.Masters.{allowed_of, master_by, losses_of, AreAllowedIds}

abbrev pub loss_at : Mill → List Column → ColId → ℤ
loss_at m columns id = pos (loss_of m (column_at columns id))

pub losses_more : (m : Mill) (columns : List Column) (ids list : List ColId) (i : ℕ) (d : ColId) (z : ℤ) (before : List ℤ) → list ≡ ids → i < length list → z ≡ loss_at m columns (get_or list i d) → before ≡ map (loss_at m columns) (take i ids)
    → before ++ z ∷ [] ≡ map (loss_at m columns) (take (i + 1) ids)
losses_more m columns ids list i d z before same h is was =
    ap₂ (λ (l : List ℤ) (x : ℤ). l ++ x ∷ []) (was ∙ ap (λ (l : List ColId). map (loss_at m columns) (take i l)) (sym same)) is
    ∙ sym (ap (map (loss_at m columns)) (take_more list i d h) ∙ map-append (loss_at m columns) (take i list) (get_or list i d ∷ []))
    ∙ ap (λ (l : List ColId). map (loss_at m columns) (take (i + 1) l)) same

pub all_more : (P : ℤ → Type 0) (before : List ℤ) (z : ℤ) → All P before → P z → All P (before ++ z ∷ [])
all_more P before z all here = All-append P before (z ∷ []) all (All-cons P z [] here (All-nil P))

-- the losses by number are those by column
losses_twice : (m : Mill) (columns : List Column) (ids : List ColId) → map (loss_at m columns) ids ≡ losses_of m (map (column_at columns) ids)
losses_twice m columns [] = refl
losses_twice m columns (id ∷ ids) = ap (λ (l : List ℤ). loss_at m columns id ∷ l) (losses_twice m columns ids)

pub losses_are : (m : Mill) (decisions : List Decision) (columns : List Column) (ids : List ColId) → AreAllowedIds decisions columns ids → map (loss_at m columns) ids ≡ losses_of m (allowed_of decisions columns)
losses_are m decisions columns ids are = losses_twice m columns ids ∙ ap (losses_of m) are.named

-- one for each column of the master
pub are_costs : (m : Mill) (limits : Limits) (decisions : List Decision) (columns : List Column) (ids : List ColId) (given : Given) (losses : List ℤ) → given ≡ master_by m limits decisions columns → AreAllowedIds decisions columns ids → losses ≡ losses_of m (allowed_of decisions columns)
    → All (λ c. pos 0 ≤ℤ c) losses → All IsSmall losses → AreCosts (length given.columns) losses
are_costs m limits decisions columns ids given losses is are value signs small = record {
  count =
      ap length value ∙ length-map (allowed_of decisions columns) (λ (c : Column). pos (loss_of m c)) ∙ sym (length-map (allowed_of decisions columns) (entries_of m limits))
      ∙ ap (λ (g : Given). length g.columns) (sym is);
  not_negative = signs;
  small = small;
}
