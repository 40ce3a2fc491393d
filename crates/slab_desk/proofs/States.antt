-- What a call leaves of a desk in memory.
use Rattle.std.proofs.Common.{◌≡◌, ℕ, ◌+◌, ◌<◌, Bool, true, false, ◌||◌, List, [], ◌∷◌, ◌++◌, length, Contains, IsTrue, ◌↔◌, take, drop, set, get_or, Option, Some, None, is_none, Vec, Global, refl, sym, ap, ◌∙◌, subst, arith}
use Rattle.std.proofs.lemmas.List.{take-append-drop, drop-drop, get_or_default}
use Rattle.std.specs.List.{All}
use Rattle.std.specs.FinMap.{get, insert}
use Rattle.slab_desk.specs.Calls.{with_call}
use Rattle.slab_desk.specs.Desk.{Told, Files, Reads}
use Rattle.slab_desk.specs.Memory.{state_of}
use Rattle.slab_desk.specs.MemFile.{files_of, HasRoom, IsNamed, IsFirst, IsTarget, target_name}
use Rattle.slab_desk.specs.Reserve.{Reserve}
use Rattle.slab_desk.specs.State.{DeskState, asked_to_open, asked_to_create, after_answer, after_create, HasTarget, TargetIsFullFor}
use Rattle.slab_desk.specs.declared.calls.Act.{Act}
use Rattle.slab_desk.specs.declared.calls.Act.TheVariants.{OpenFile, Create, Write}
use Rattle.slab_desk.specs.declared.calls.Calls.{Calls}
use Rattle.slab_desk.specs.declared.mem_file.MemFile.{MemFile}
use Rattle.slab_desk.specs.declared.mem_desk.MemDesk.TheInside.{Inside}
use Rattle.slab_desk.specs.declared.noted.Noted.{Noted}
use Rattle.slab_desk.proofs.ByName.{insert_at, insert_new, target_at, target_kept, target_last, found_at}

pub opened_state : (d : Inside) (left : Reserve) (calls : Calls) (bytes : List ℕ) → left.bytes ≡ bytes → calls ≡ with_call OpenFile d.calls
    → state_of (record d { left = left; at = 0; calls = calls; stopped = false }) ≡ after_answer OpenFile (record (state_of d).told { left = bytes }) (state_of d)
opened_state d left calls bytes same counted =
    ap (λ (b : List ℕ). record (state_of d) { told = record (state_of d).told { left = b }; calls = calls; stopped = false }) same
    ∙ ap (λ (n : Calls). record (state_of d) { told = record (state_of d).told { left = bytes }; calls = n; stopped = false }) counted

pub empty_of : (xs : List ℕ) → length xs ≡ 0 → xs ≡ []
empty_of [] h = refl
empty_of (x ∷ xs) h = absurd (omega arith)

pub reads_state : (d : Inside) (k : ℕ) (calls : Calls) (buffer : List ℕ) → take k buffer ≡ take k (drop d.at d.left.bytes) → (k ≡ 0 → 0 < length buffer → drop d.at d.left.bytes ≡ [])
    → Reads k buffer (state_of d).told (state_of (record d { at = d.at + k; calls = calls; stopped = false })).told
reads_state d k calls buffer is none = record {
  bytes = sym (take-append-drop k (drop d.at d.left.bytes))
      ∙ ap (λ (front : List ℕ). front ++ drop k (drop d.at d.left.bytes)) (sym is)
      ∙ ap (λ (rest : List ℕ). take k buffer ++ rest) (drop-drop k d.at d.left.bytes);
  others = refl;
  none = none;
}

or_found : (b : Bool) (o : Option (List ℕ)) (bytes : List ℕ) → o ≡ Some bytes → b ≡ b || is_none o
or_found true o bytes e = refl
or_found false o bytes e = ap (λ (p : Option (List ℕ)). is_none p) (sym e)

or_none : (b : Bool) (o : Option (List ℕ)) → o ≡ None → true ≡ b || is_none o
or_none true o e = refl
or_none false o e = ap (λ (p : Option (List ℕ)). is_none p) (sym e)

-- the desk was given this name
pub noted_opened : (d : Inside) (opened : Noted) (name : List ℕ) → opened.names ≡ d.opened.names ++ name ∷ [] → state_of (record d { opened = opened }) ≡ asked_to_open name (state_of d)
noted_opened d opened name is = ap (λ (names : List (List ℕ)). record (state_of d) { named = record { opened = names; created = d.created.names } }) is

pub noted_created : (d : Inside) (created : Noted) (name : List ℕ) → created.names ≡ d.created.names ++ name ∷ [] → state_of (record d { created = created }) ≡ asked_to_create name (state_of d)
noted_created d created name is = ap (λ (names : List (List ℕ)). record (state_of d) { named = record { opened = d.opened.names; created = names } }) is

-- the file at a place was made empty, and is the target
pub emptied_state : (d : Inside) (files : Vec MemFile Global) (name : List ℕ) (i : ℕ) (file : MemFile) (calls : Calls)
    → files.items ≡ set d.files.items i file → IsFirst d.files.items name i → IsNamed name file → file.bytes.bytes ≡ [] → calls ≡ with_call Create d.calls
    → state_of (record d { files = files; target = Some i; calls = calls; stopped = false }) ≡ after_create name (state_of d)
emptied_state d files name i file calls items first is empty counted =
    let s : DeskState = record (state_of d) { stopped = false } in
    let t : Told = s.told in
    ap (λ (fs : List MemFile). record s { told = record t { files = files_of fs; target = target_name fs (Some i) }; calls = calls }) items
    ∙ ap (λ (o : Option (List ℕ)). record s { told = record t { files = files_of (set d.files.items i file); target = o }; calls = calls }) (target_at d.files.items name i file first.within is)
    ∙ ap (λ (fs : Files). record s { told = record t { files = fs; target = Some name }; calls = calls }) (insert_at d.files.items name i file first is)
    ∙ ap (λ (bytes : List ℕ). record s { told = record t { files = insert t.files name bytes; target = Some name }; calls = calls }) empty
    ∙ ap (λ (n : Calls). record s { told = record t { files = insert t.files name []; target = Some name }; calls = n }) counted
    ∙ ap (λ (b : Bool). record (after_answer Create (record t { files = insert t.files name []; target = Some name }) s) { made = b }) (or_found s.made (get t.files name) _ (found_at d.files.items name i file first))

-- the spare file was given this name, and is the last file and the target
pub made_state : (d : Inside) (files : Vec MemFile Global) (spare : Option MemFile) (name : List ℕ) (file : MemFile) (calls : Calls)
    → files.items ≡ d.files.items ++ file ∷ [] → spare ≡ None → get (files_of d.files.items) name ≡ None → IsNamed name file → file.bytes.bytes ≡ [] → calls ≡ with_call Create d.calls
    → state_of (record d { files = files; spare = spare; target = Some (length d.files.items); calls = calls; stopped = false }) ≡ after_create name (state_of d)
made_state d files spare name file calls items gone none is empty counted =
    let s : DeskState = record (state_of d) { stopped = false } in
    let t : Told = s.told in
    let last : Option ℕ = Some (length d.files.items) in
    ap (λ (o : Option MemFile). record s { told = record t { files = files_of files.items; target = target_name files.items last }; calls = calls; made = is_none o }) gone
    ∙ ap (λ (fs : List MemFile). record s { told = record t { files = files_of fs; target = target_name fs last }; calls = calls; made = true }) items
    ∙ ap (λ (o : Option (List ℕ)). record s { told = record t { files = files_of (d.files.items ++ file ∷ []); target = o }; calls = calls; made = true }) (target_last d.files.items file)
    ∙ ap (λ (n : List ℕ). record s { told = record t { files = files_of (d.files.items ++ file ∷ []); target = Some n }; calls = calls; made = true }) is
    ∙ ap (λ (fs : Files). record s { told = record t { files = fs; target = Some name }; calls = calls; made = true }) (insert_new d.files.items name file none is)
    ∙ ap (λ (bytes : List ℕ). record s { told = record t { files = insert t.files name bytes; target = Some name }; calls = calls; made = true }) empty
    ∙ ap (λ (n : Calls). record s { told = record t { files = insert t.files name []; target = Some name }; calls = n; made = true }) counted
    ∙ ap (λ (b : Bool). record (after_answer Create (record t { files = insert t.files name []; target = Some name }) s) { made = b }) (or_none s.made (get t.files name) none)

target_stays : (files : List MemFile) (name : List ℕ) (i : ℕ) (file : MemFile) (target : Option ℕ) → IsFirst files name i → IsNamed name file → target_name (set files i file) target ≡ target_name files target
target_stays files name i file None first is = refl
target_stays files name i file (Some place) first is = target_kept files name i place file first.named is

-- these bytes were appended to the file at a place
pub wrote_state : (d : Inside) (files : Vec MemFile Global) (name : List ℕ) (i : ℕ) (file : MemFile) (content more : List ℕ) (calls : Calls)
    → files.items ≡ set d.files.items i file → IsFirst d.files.items name i → IsNamed name file → file.bytes.bytes ≡ content ++ more → calls ≡ with_call Write d.calls
    → state_of (record d { files = files; calls = calls; stopped = false }) ≡ after_answer Write (record (state_of d).told { files = insert (state_of d).told.files name (content ++ more) }) (state_of d)
wrote_state d files name i file content more calls items first is bytes counted =
    let s : DeskState = record (state_of d) { stopped = false } in
    let t : Told = s.told in
    ap (λ (fs : List MemFile). record s { told = record t { files = files_of fs; target = target_name fs d.target }; calls = calls }) items
    ∙ ap (λ (o : Option (List ℕ)). record s { told = record t { files = files_of (set d.files.items i file); target = o }; calls = calls }) (target_stays d.files.items name i file d.target first is)
    ∙ ap (λ (fs : Files). record s { told = record t { files = fs }; calls = calls }) (insert_at d.files.items name i file first is)
    ∙ ap (λ (b : List ℕ). record s { told = record t { files = insert t.files name b }; calls = calls }) bytes
    ∙ ap (λ (n : Calls). record s { told = record t { files = insert t.files name (content ++ more) }; calls = n }) counted

-- the element at the first place of a name
pub named_at : (files : List MemFile) (name : List ℕ) (i : ℕ) (file : MemFile) → IsFirst files name i → file ≡ get_or files i file → IsNamed name file
named_at files name i file first is = subst (λ (f : MemFile). IsNamed name f) (sym is) (first.named file)

pub content_at : (files : List MemFile) (name : List ℕ) (i : ℕ) (file : MemFile) → IsFirst files name i → file ≡ get_or files i file → get (files_of files) name ≡ Some file.bytes.bytes
content_at files name i file first is = found_at files name i file first ∙ ap (λ (f : MemFile). Some f.bytes.bytes) (sym is)

-- the target's content, as the desk tells it
pub has_target : (d : Inside) (place : ℕ) (file : MemFile) (target : IsTarget d.files.items d.target place) → file ≡ get_or d.files.items place file → HasTarget target.name file.bytes.bytes (state_of d)
has_target d place file target is = record { target = target.is; file = content_at d.files.items target.name place file target.first is }

one_target : (desk : DeskState) (name content other more : List ℕ) → HasTarget name content desk → HasTarget other more desk → more ≡ content
one_target desk name content other more a b = cc (a.target, b.target, a.file, b.file)

-- a target with room for some of these bytes is not full for them
pub not_full : (desk : DeskState) (bytes name content : List ℕ) → HasTarget name content desk → (0 < length bytes → length content < desk.room) → TargetIsFullFor bytes desk → ⊥
not_full desk bytes name content has free full =
    let same : length full.1 ≡ length content = ap length (one_target desk name content full.0 full.1 has full.2) in
    omega (arith, free full.3.0, full.3.1)

-- two reads of one element
pub same_read : (files : List MemFile) (i : ℕ) (a b : MemFile) → i < length files → a ≡ get_or files i a → b ≡ get_or files i b → a ≡ b
same_read files i a b lt a_is b_is = a_is ∙ get_or_default files i a b lt ∙ sym b_is

pub room_at : (files : List MemFile) (room i : ℕ) (file : MemFile) → All (HasRoom room) files → i < length files → file ≡ get_or files i file → file.bytes.room ≡ room
room_at files room i file all lt is = ap (λ (f : MemFile). f.bytes.room) is ∙ (all i file lt).room

-- a test for the table's list, copied out, is one for the table
pub listed_in : (act : Act) (failing copy : List (Act × ℕ)) (nth number : ℕ) (b : Bool) → copy ≡ failing → number ≡ nth → IsTrue b ↔ Contains copy (act, number) → IsTrue b ↔ Contains failing (act, nth)
listed_in act failing copy nth number b same_list same_number h =
    subst (λ (table : List (Act × ℕ)). IsTrue b ↔ Contains table (act, nth)) same_list (subst (λ (n : ℕ). IsTrue b ↔ Contains copy (act, n)) same_number h)
