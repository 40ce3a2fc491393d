-- The pool's columns that agree, one more at a time.
use Rattle.std.proofs.Common.{◌≡◌, ℕ, zero, suc, ◌+◌, ◌<◌, take, Some, Bool, true, false, cond, List, [], ◌∷◌, ◌++◌, length, map, get_or, All, Contains, sym, refl, ap, ap₂, ◌∙◌, arith}
use Rattle.std.specs.List.{filter}
use Rattle.std.specs.Prelude.{slice_get}
use Rattle.std.proofs.lemmas.List.{map-append, take_more, append-nil}
use Rattle.std.proofs.lemmas.List.Elements.{All-append, All-head, All-tail, All-weaker, filter-append}
use Rattle.std.proofs.Math.ListN.{get_or-append, length-append}
use Rattle.std.proofs.Math.Seq.{get_or-append_seam}
use Rattle.mill_model.specs.declared.kind.Kind.TheVariants.{New}
use Rattle.mill_model.specs.declared.limits.Limits.{Limits}
use Rattle.mill_model.specs.Mill.{Mill}
use Rattle.mill_model.specs.Columns.{Column}
use Rattle.mill_model.specs.Decisions.{Decision, column_agrees}
use Rattle.slab_master.specs.Given.{Given, Column as MasterColumn}
use Rattle.slab_columns.specs.declared.column.ColId.{ColId}
use Rattle.slab_relax.specs.PoolCovers.{column_at}
use Rattle.slab_relax.specs.Rows.{rows_of, entries_of}
use Rattle.slab_relax.specs.Masters.{allowed_of, master_by, AreAllowedIds}

abbrev nothing : Column
nothing = record { kind = New 0; orders = [] }

-- what a test keeps
pub kept : (test : Column → Bool) (xs : List Column) (c : Column) → Contains xs c → test c ≡ true → Contains (filter test xs) c
kept test [] c (k, l, e) t = absurd (omega arith)
kept test (x ∷ xs) c (zero, l, e) t =
    let here : test x ≡ true = ap test e ∙ t in
    rw here (0, omega arith, e)
kept test (x ∷ xs) c (suc k, l, e) t =
    let there : Contains (filter test xs) c = kept test xs c (k, omega arith, e) t in
    elim (test x) as (λ b. Contains (cond b (x ∷ filter test xs) (filter test xs)) c) [
      | true ↦ (suc there.0, omega (arith, there.1), there.2)
      | false ↦ there
    ]

-- a column more, of those that agree
allowed_grows : (decisions : List Decision) (columns : List Column) (c : Column) → column_agrees decisions c ≡ true → allowed_of decisions (columns ++ c ∷ []) ≡ allowed_of decisions columns ++ c ∷ []
allowed_grows decisions columns c agree =
    let last : filter (column_agrees decisions) (c ∷ []) ≡ c ∷ [] = rw agree refl in
    filter-append (column_agrees decisions) columns (c ∷ []) ∙ ap (λ (l : List Column). allowed_of decisions columns ++ l) last

allowed_stays : (decisions : List Decision) (columns : List Column) (c : Column) → column_agrees decisions c ≡ false → allowed_of decisions (columns ++ c ∷ []) ≡ allowed_of decisions columns
allowed_stays decisions columns c agree =
    let last : filter (column_agrees decisions) (c ∷ []) ≡ [] = rw agree refl in
    filter-append (column_agrees decisions) columns (c ∷ []) ∙ ap (λ (l : List Column). allowed_of decisions columns ++ l) last ∙ append-nil (allowed_of decisions columns)

-- the master with it is that of the longer pool
pub master_grows : (m : Mill) (limits : Limits) (decisions : List Decision) (columns : List Column) (c : Column) (before now : Given) → column_agrees decisions c ≡ true → before ≡ master_by m limits decisions columns
    → now ≡ record before { columns = before.columns ++ entries_of m limits c ∷ [] } → now ≡ master_by m limits decisions (columns ++ c ∷ [])
master_grows m limits decisions columns c before now agree was is =
    let grown : map (entries_of m limits) (allowed_of decisions (columns ++ c ∷ [])) ≡ map (entries_of m limits) (allowed_of decisions columns) ++ entries_of m limits c ∷ [] =
    ap (map (entries_of m limits)) (allowed_grows decisions columns c agree) ∙ map-append (entries_of m limits) (allowed_of decisions columns) (c ∷ []) in
    is ∙ ap (λ (g : Given). record g { columns = g.columns ++ entries_of m limits c ∷ [] }) was ∙ ap (λ (cs : List MasterColumn). record { rows = rows_of m limits; columns = cs }) (sym grown)

pub master_stays : (m : Mill) (limits : Limits) (decisions : List Decision) (columns : List Column) (c : Column) (before : Given) → column_agrees decisions c ≡ false → before ≡ master_by m limits decisions columns → before ≡ master_by m limits decisions (columns ++ c ∷ [])
master_stays m limits decisions columns c before agree was =
    was ∙ ap (λ (cs : List Column). record { rows = rows_of m limits; columns = map (entries_of m limits) cs }) (sym (allowed_stays decisions columns c agree))

-- ---- the numbers of the columns that agree

named_more : (columns : List Column) (c : Column) (ids : List ColId) → All (λ (id : ColId). id.0 < length columns) ids → map (column_at (columns ++ c ∷ [])) ids ≡ map (column_at columns) ids
named_more columns c [] within = refl
named_more columns c (id ∷ ids) within =
    ap₂ (λ (x : Column) (xs : List Column). x ∷ xs) (get_or-append columns (c ∷ []) nothing id.0 (All-head (λ (i : ColId). i.0 < length columns) id ids within)) (named_more columns c ids (All-tail (λ (i : ColId). i.0 < length columns) id ids within))

within_more : (columns : List Column) (c : Column) (ids : List ColId) → All (λ (id : ColId). id.0 < length columns) ids → All (λ (id : ColId). id.0 < length (columns ++ c ∷ [])) ids
within_more columns c ids within = All-weaker (λ (id : ColId). id.0 < length columns) (λ (id : ColId). id.0 < length (columns ++ c ∷ [])) (λ id h. omega (arith, length-append columns (c ∷ []))) ids within

pub ids_grow : (decisions : List Decision) (columns : List Column) (c : Column) (ids : List ColId) (id : ColId) → column_agrees decisions c ≡ true → id.0 ≡ length columns → AreAllowedIds decisions columns ids → AreAllowedIds decisions (columns ++ c ∷ []) (ids ++ id ∷ [])
ids_grow decisions columns c ids id agree last numbers = record {
  within = All-append (λ (i : ColId). i.0 < length (columns ++ c ∷ [])) ids (id ∷ []) (within_more columns c ids numbers.within) (only (omega (arith, last, length-append columns (c ∷ []))));
  named =
      map-append (column_at (columns ++ c ∷ [])) ids (id ∷ [])
      ∙ ap₂ (λ (xs : List Column) (x : Column). xs ++ x ∷ []) (named_more columns c ids numbers.within ∙ numbers.named) (ap (λ (i : ℕ). get_or (columns ++ c ∷ []) i nothing) last ∙ get_or-append_seam columns c [] nothing)
      ∙ sym (allowed_grows decisions columns c agree);
}
  where
    only : id.0 < length (columns ++ c ∷ []) → All (λ (i : ColId). i.0 < length (columns ++ c ∷ [])) (id ∷ [])
    only h zero d l = h
    only h (suc j) d l = absurd (omega arith)

pub ids_stay : (decisions : List Decision) (columns : List Column) (c : Column) (ids : List ColId) → column_agrees decisions c ≡ false → AreAllowedIds decisions columns ids → AreAllowedIds decisions (columns ++ c ∷ []) ids
ids_stay decisions columns c ids agree numbers = record {
  within = within_more columns c ids numbers.within;
  named = named_more columns c ids numbers.within ∙ numbers.named ∙ sym (allowed_stays decisions columns c agree);
}

-- ---- one column of the pool more

got : (xs : List Column) (i : ℕ) (c : Column) → slice_get xs i ≡ Some c → i < length xs → get_or xs i c ≡ c
got [] i c e h = refl
got (x ∷ xs) zero c e h = cc
got (x ∷ xs) (suc i) c e h = got xs i c e (omega arith)

pub one_more : (columns : List Column) (i : ℕ) (c : Column) → i < length columns → slice_get columns i ≡ Some c → take (i + 1) columns ≡ take i columns ++ c ∷ []
one_more columns i c h e = take_more columns i c h ∙ ap (λ (x : Column). take i columns ++ x ∷ []) (got columns i c e h)
