-- A pool with one more column.
use Rattle.std.proofs.Common.{◌≡◌, ◌≢◌, ℕ, ◌+◌, ◌<◌, true, false, cond, eqb, List, [], ◌∷◌, ◌++◌, length, All, Contains, subst, sym, inl, inr, arith, length-append}
use Rattle.std.proofs.lemmas.List.Elements.{All-push, Contains-get_or, Contains-append_left, Contains-push}
use Rattle.std.proofs.lemmas.List.Quantifiers.{all_pairs_push}
use Rattle.mill_model.specs.Mill.{Mill}
use Rattle.mill_model.specs.Columns.{Column, IsLegalColumn}
use Rattle.slab_columns.specs.Index.{Index, IsIndex, ids_at, key_of}
use Rattle.slab_columns.specs.Pool.{IsPool, most_columns}
use Rattle.slab_columns.proofs.Places.{slice_get_push_cases}

-- the index with one more number under a key
abbrev pub NotesAlso : Index → Index → ℕ → ℕ → Type 0
NotesAlso old new key id = (q : ℕ) → ids_at new q ≡ cond (eqb q key) (ids_at old q ++ id ∷ []) (ids_at old q)

keeps_ids : (old new : Index) (key id : ℕ) → NotesAlso old new key id → (q i : ℕ) → Contains (ids_at old q) i → Contains (ids_at new q) i
keeps_ids old new key id also q i h =
    let P : List ℕ → Type 0 = λ ids. Contains ids i in
    subst P (sym (also q)) (elim (eqb q key) as (λ b. P (cond b (ids_at old q ++ id ∷ []) (ids_at old q))) [ true ↦ Contains-append_left _ _ _ h | false ↦ h ])

has_new : (old new : Index) (key id : ℕ) → NotesAlso old new key id → Contains (ids_at new key) id
has_new old new key id also =
    let P : List ℕ → Type 0 = λ ids. Contains ids id in
    let same : eqb key key ≡ true = grind arith in
    subst P (sym (also key)) (rw same (Contains-push _ _))

below_more_ids : (n : ℕ) (ids : List ℕ) → All (λ id. id < n) ids → All (λ id. id < n + 1) ids
below_more_ids n ids h k d lt = omega (arith, h k d lt)

-- a pool that isn't full stays one with a legal stranger
pub IsPool-push : (mill : Mill) (columns : List Column) (c : Column) → IsPool (record { mill = mill; columns = columns }) → IsLegalColumn mill c → ¬ Contains columns c → length columns < most_columns → IsPool (record { mill = mill; columns = columns ++ c ∷ [] })
IsPool-push mill columns c pool legal fresh room =
    let len : length (columns ++ c ∷ []) ≡ length columns + 1 = length-append columns (c ∷ []) in
    record {
      few = omega (arith, len);
      legal = All-push (IsLegalColumn mill) columns c pool.legal legal;
      distinct = all_pairs_push (λ a b. a ≢ b) columns c pool.distinct (λ k d lt e. fresh (let P : Column → Type 0 = Contains columns in subst P e (Contains-get_or columns k d lt)));
    }

-- the index that also notes the last column's number is the index of the longer list
pub IsIndex-push : (columns : List Column) (old new : Index) (c : Column) → IsIndex columns old → NotesAlso old new (key_of c) (length columns) → IsIndex (columns ++ c ∷ []) new
IsIndex-push columns old new c index also =
    let len : length (columns ++ c ∷ []) ≡ length columns + 1 = length-append columns (c ∷ []) in
    record {
      noted = λ i d at. elim (slice_get_push_cases columns c i d at) [
        | inl there ↦ keeps_ids old new (key_of c) (length columns) also (key_of d) i (index.noted i d there)
        | inr last ↦ let P : Column → Type 0 = λ e. Contains (ids_at new (key_of e)) i in
            subst P last.1 (rw last.0 (has_new old new (key_of c) (length columns) also))
      ];
      within = λ key. rw len (rw (also key) (elim (eqb key (key_of c)) as (λ b. All (λ id. id < length columns + 1) (cond b (ids_at old key ++ length columns ∷ []) (ids_at old key))) [
        | true ↦ All-push (λ id. id < length columns + 1) (ids_at old key) (length columns) (below_more_ids _ _ (index.within key)) (omega arith)
        | false ↦ below_more_ids _ _ (index.within key)
      ]));
    }
