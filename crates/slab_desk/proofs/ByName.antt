-- Files in memory, found by name.
use Rattle.std.proofs.Common.{◌≡◌, ℕ, zero, suc, ◌<◌, Bool, true, false, cond, List, [], ◌∷◌, ◌++◌, length, get_or, set, Option, Some, None, Ordering, refl, sym, ap, ◌∙◌, arith}
use Rattle.std.proofs.lemmas.List.{map-append}
use Rattle.std.specs.Ordering.{nat_cmp, eq_by_cmp, is_eq}
use Rattle.std.specs.declared.cmp.Ordering.TheVariants.{Less, Equal, Greater}
use Rattle.std.specs.Cmp.{eq_by_cmp_equiv}
use Rattle.std.specs.Cmp.Lexicographic.{slice_cmp, nat_list_cmp_total}
use Rattle.std.specs.List.{AllWithin, HoldsAt}
use Rattle.std.specs.String.{string_bytes}
use Rattle.std.specs.FinMap.{find, get, from_entries, insert, same_map, get-from_entries, get-insert, from_entries_push}
use Rattle.slab_desk.specs.MemFile.{entry, entries, files_of, IsNamed, IsFirst, target_name}
use Rattle.slab_desk.specs.declared.mem_file.MemFile.{MemFile}
use Rattle.slab_desk.proofs.Files.{one_name}

-- the bytes of the first file of this name, as a scan from the front finds it
abbrev file_of : List (List ℕ × List ℕ) → List ℕ → Option (List ℕ)
file_of files name = find (slice_cmp nat_cmp) name files

equal_from : (o : Ordering) → is_eq o ≡ true → o ≡ Equal
equal_from Less h = cc
equal_from Equal h = refl
equal_from Greater h = cc

other_name : (a b : List ℕ) (t : Bool) → eq_by_cmp (slice_cmp nat_cmp) a b ≡ t → (b ≡ a → ⊥) → t ≡ false
other_name a b true h not = absurd (not (sym (one_name a b (equal_from (slice_cmp nat_cmp a b) h))))
other_name a b false h not = refl

skips : (file : MemFile) (files : List MemFile) (name : List ℕ) → (IsNamed name file → ⊥) → file_of (entries (file ∷ files)) name ≡ file_of (entries files) name
skips file files name not = ap (λ (t : Bool). cond t (Some file.bytes.bytes) (file_of (entries files) name)) (other_name name (entry file).0 _ refl not)

hits : (file : MemFile) (files : List MemFile) (name : List ℕ) → IsNamed name file → file_of (entries (file ∷ files)) name ≡ Some file.bytes.bytes
hits file files name is = ap (λ (t : Bool). cond t (Some file.bytes.bytes) (file_of (entries files) name)) (ap (λ (n : List ℕ). eq_by_cmp (slice_cmp nat_cmp) name n) is ∙ (eq_by_cmp_equiv nat_list_cmp_total).refl name)

scan_found : (files : List MemFile) (name : List ℕ) (i : ℕ) (d : MemFile) → i < length files → HoldsAt (IsNamed name) files i → AllWithin (λ file. ¬ IsNamed name file) files 0 i
    → file_of (entries files) name ≡ Some (get_or files i d).bytes.bytes
scan_found [] name i d lt named before = absurd (omega arith)
scan_found (file ∷ files) name zero d lt named before = hits file files name (named file)
scan_found (file ∷ files) name (suc i) d lt named before =
    skips file files name (before 0 file (omega arith) (omega arith))
    ∙ scan_found files name i d (omega arith) named (λ k e low high. before (suc k) e (omega arith) (omega arith))

scan_none : (files : List MemFile) (name : List ℕ) → AllWithin (λ file. ¬ IsNamed name file) files 0 (length files) → file_of (entries files) name ≡ None
scan_none [] name before = refl
scan_none (file ∷ files) name before =
    skips file files name (before 0 file (omega arith) (omega arith))
    ∙ scan_none files name (λ k e low high. before (suc k) e (omega arith) (omega arith))

-- the file at the first place of a name is the file of that name
pub found_at : (files : List MemFile) (name : List ℕ) (i : ℕ) (d : MemFile) → IsFirst files name i → get (files_of files) name ≡ Some (get_or files i d).bytes.bytes
found_at files name i d first =
    get-from_entries nat_list_cmp_total (entries files) name ∙ scan_found files name i d first.within first.named first.before

pub none_found : (files : List MemFile) (name : List ℕ) → AllWithin (λ file. ¬ IsNamed name file) files 0 (length files) → get (files_of files) name ≡ None
none_found files name before = get-from_entries nat_list_cmp_total (entries files) name ∙ scan_none files name before

put_first : (t : Bool) (x y z : Option (List ℕ)) → cond t x z ≡ cond t x (cond t y z)
put_first true x y z = refl
put_first false x y z = refl

put_later : (s t : Bool) (x y z : Option (List ℕ)) → (s ≡ true → t ≡ true → ⊥) → cond s y (cond t x z) ≡ cond t x (cond s y z)
put_later true true x y z not = absurd (not refl refl)
put_later true false x y z not = refl
put_later false t x y z not = refl

find-set : (files : List MemFile) (name : List ℕ) (i : ℕ) (file : MemFile) (q : List ℕ) → i < length files → HoldsAt (IsNamed name) files i → AllWithin (λ f. ¬ IsNamed name f) files 0 i → IsNamed name file
    → find (slice_cmp nat_cmp) q (entries (set files i file)) ≡ cond (eq_by_cmp (slice_cmp nat_cmp) q name) (Some file.bytes.bytes) (find (slice_cmp nat_cmp) q (entries files))
find-set [] name i file q lt named before is = absurd (omega arith)
find-set (f ∷ files) name zero file q lt named before is =
    ap (λ (n : List ℕ). cond (eq_by_cmp (slice_cmp nat_cmp) q n) (Some file.bytes.bytes) (find (slice_cmp nat_cmp) q (entries files))) is
    ∙ put_first (eq_by_cmp (slice_cmp nat_cmp) q name) (Some file.bytes.bytes) (Some f.bytes.bytes) (find (slice_cmp nat_cmp) q (entries files))
    ∙ ap (λ (n : List ℕ). cond (eq_by_cmp (slice_cmp nat_cmp) q name) (Some file.bytes.bytes) (cond (eq_by_cmp (slice_cmp nat_cmp) q n) (Some f.bytes.bytes) (find (slice_cmp nat_cmp) q (entries files)))) (sym (named f))
find-set (f ∷ files) name (suc i) file q lt named before is =
    ap (λ (o : Option (List ℕ)). cond (eq_by_cmp (slice_cmp nat_cmp) q (entry f).0) (Some f.bytes.bytes) o)
    (find-set files name i file q (omega arith) named (λ k e low high. before (suc k) e (omega arith) (omega arith)) is)
    ∙ put_later (eq_by_cmp (slice_cmp nat_cmp) q (entry f).0) (eq_by_cmp (slice_cmp nat_cmp) q name) (Some file.bytes.bytes) (Some f.bytes.bytes) (find (slice_cmp nat_cmp) q (entries files))
    (λ a b. before 0 f (omega arith) (omega arith) (sym (one_name q (entry f).0 (equal_from _ a)) ∙ one_name q name (equal_from _ b)))

-- to write a file in its place is to insert it
pub insert_at : (files : List MemFile) (name : List ℕ) (i : ℕ) (file : MemFile) → IsFirst files name i → IsNamed name file
    → files_of (set files i file) ≡ insert (files_of files) name file.bytes.bytes
insert_at files name i file first is = same_map nat_list_cmp_total one_name _ _ (λ q.
    get-from_entries nat_list_cmp_total (entries (set files i file)) q
    ∙ find-set files name i file q first.within first.named first.before is
    ∙ ap (λ (o : Option (List ℕ)). cond (eq_by_cmp (slice_cmp nat_cmp) q name) (Some file.bytes.bytes) o) (sym (get-from_entries nat_list_cmp_total (entries files) q))
    ∙ sym (get-insert nat_list_cmp_total (files_of files) name file.bytes.bytes q))

-- to push a file of a new name is to insert it
pub insert_new : (files : List MemFile) (name : List ℕ) (file : MemFile) → get (files_of files) name ≡ None → IsNamed name file
    → files_of (files ++ file ∷ []) ≡ insert (files_of files) name file.bytes.bytes
insert_new files name file none is =
    ap (λ (es : List (List ℕ × List ℕ)). from_entries {R = slice_cmp nat_cmp} es) (map-append entry files (file ∷ []))
    ∙ ap (λ (n : List ℕ). from_entries {R = slice_cmp nat_cmp} (entries files ++ (n, file.bytes.bytes) ∷ [])) is
    ∙ from_entries_push nat_list_cmp_total one_name (entries files) name file.bytes.bytes (sym (get-from_entries nat_list_cmp_total (entries files) name) ∙ none)

pub target_at : (files : List MemFile) (name : List ℕ) (i : ℕ) (file : MemFile) → i < length files → IsNamed name file → target_name (set files i file) (Some i) ≡ Some name
target_at [] name i file lt is = absurd (omega arith)
target_at (f ∷ files) name zero file lt is = ap (λ (n : List ℕ). Some n) is
target_at (f ∷ files) name (suc i) file lt is = target_at files name i file (omega arith) is

pub target_kept : (files : List MemFile) (name : List ℕ) (i t : ℕ) (file : MemFile) → HoldsAt (IsNamed name) files i → IsNamed name file → target_name (set files i file) (Some t) ≡ target_name files (Some t)
target_kept [] name i t file named is = refl
target_kept (f ∷ files) name zero zero file named is = ap (λ (n : List ℕ). Some n) (is ∙ sym (named f))
target_kept (f ∷ files) name zero (suc t) file named is = refl
target_kept (f ∷ files) name (suc i) zero file named is = refl
target_kept (f ∷ files) name (suc i) (suc t) file named is = target_kept files name i t file named is

pub target_last : (files : List MemFile) (file : MemFile) → target_name (files ++ file ∷ []) (Some (length files)) ≡ Some (string_bytes file.name)
target_last [] file = refl
target_last (f ∷ files) file = target_last files file

tail_none : (t : Bool) (x : List ℕ) (o : Option (List ℕ)) → cond t (Some x) o ≡ None → o ≡ None
tail_none true x o h = cc
tail_none false x o h = h

rest_none : (f : MemFile) (files : List MemFile) (name : List ℕ) → file_of (entries (f ∷ files)) name ≡ None → file_of (entries files) name ≡ None
rest_none f files name h = tail_none (eq_by_cmp (slice_cmp nat_cmp) name (entry f).0) f.bytes.bytes (file_of (entries files) name) h

scan_there : (files : List MemFile) (name : List ℕ) (i : ℕ) → i < length files → HoldsAt (IsNamed name) files i → file_of (entries files) name ≡ None → ⊥
scan_there [] name i lt named none = absurd (omega arith)
scan_there (f ∷ files) name zero lt named none = let found = hits f files name (named f) in cc
scan_there (f ∷ files) name (suc i) lt named none = scan_there files name i (omega arith) named (rest_none f files name none)

-- a file that is there is found
pub is_there : (files : List MemFile) (name : List ℕ) (i : ℕ) → i < length files → HoldsAt (IsNamed name) files i → get (files_of files) name ≡ None → ⊥
is_there files name i lt named none =
    scan_there files name i lt named (sym (get-from_entries nat_list_cmp_total (entries files) name) ∙ none)
