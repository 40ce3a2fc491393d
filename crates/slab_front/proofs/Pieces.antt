-- A cut that is read in pieces.
use Rattle.std.proofs.Common.{◌≡◌, ◌⊎◌, ◌↔◌, inl, inr, ℕ, ◌+◌, ◌<◌, ◌≤◌, Bool, true, false, cond, IsTrue, List, [], ◌++◌, length, take, Option, Some, None, is_some, refl, sym, ap, ◌∙◌, subst, append-nil, arith}
use Rattle.std.specs.FinMap.{get}
use Rattle.slab_desk.specs.Desk.{Told, Files, Steps, WhereTold, HasRead, Reads, Opens, Stays, ChangesLeft}
use Rattle.slab_desk.proofs.Steps.{steps_join, steps_weaker}
use Rattle.slab_desk.proofs.Pieces.{opened, read_more}
use Rattle.cert_rules.specs.States.Wanted.{Cuts}
use Rattle.cert_check.specs.Readings.{HasBadLine, room}
use Rattle.cert_keep.specs.Cuts.{CutReading, StandsAsCut, CutHasLessRoom}
use Rattle.slab_front.specs.Endings.{OnCutFile}

-- what was read of a file, and fed to a reader
pub record HasFed (reader : CutReading) (name : List ℕ) (old now : Option Told) : Type 0 where
  pub bytes : List ℕ
  pub stands : StandsAsCut reader bytes
  pub reads : Steps old now (HasRead name bytes)

pub fed_nothing : (reader : CutReading) (name : List ℕ) (old now : Option Told) → StandsAsCut reader [] → Steps old now (Opens name) → HasFed reader name old now
fed_nothing reader name old now stands opens = record {
  bytes = [];
  stands = stands;
  reads = steps_weaker old now (opened name) opens;
}

-- one piece more
pub fed_more : (reader next : CutReading) (name buffer : List ℕ) (k : ℕ) (old now later : Option Told)
    → HasFed reader name old now → Steps now later (Reads k buffer)
    → ((bytes : List ℕ) → StandsAsCut reader bytes → StandsAsCut next (bytes ++ take k buffer))
    → HasFed next name old later
fed_more reader next name buffer k old now later fed reads more = record {
  bytes = fed.bytes ++ take k buffer;
  stands = more fed.bytes fed.stands;
  reads = steps_join old now later (λ x y z p q. read_more name fed.bytes buffer k x y z p q) fed.reads reads;
}

pub is_bad : (reader : CutReading) (bytes : List ℕ) (failed : Bool) → ((fed : List ℕ) → StandsAsCut reader fed → IsTrue failed ↔ HasBadLine Cuts reader.reading.mill fed)
    → failed ≡ true → StandsAsCut reader bytes → HasBadLine Cuts reader.reading.mill bytes
is_bad reader bytes true exact e stands = (exact bytes stands).0 refl
is_bad reader bytes false exact e stands = cc

-- ---- the loop ends

abbrev pub room_left : CutReading → ℕ
room_left c = cond (is_some c.reading.failed) 0 (1 + room c.reading)

pub room_falls : (reader next : CutReading) (fed : ℕ) → is_some reader.reading.failed ≡ false → 0 < fed → CutHasLessRoom reader next fed → room_left next < room_left reader
room_falls reader next fed running some less = falls (is_some reader.reading.failed) (is_some next.reading.failed) running less
  where
    falls : (was is : Bool) → was ≡ false → (is ≡ true) ⊎ (room next.reading + fed ≤ room reader.reading) → cond is 0 (1 + room next.reading) < cond was 0 (1 + room reader.reading)
    falls false true e h = omega arith
    falls false false e (inl h) = cc
    falls false false e (inr h) = omega (arith, h, some)
    falls true is e h = cc

-- ---- what was read of the file

-- whatever follows
pub there_bad : (P : List ℕ → Type 0) (name fed : List ℕ) (old new : Option Told) → ((more : List ℕ) → P (fed ++ more))
    → Steps old new (HasRead name fed) → WhereTold old (λ t. OnCutFile P name t.files)
there_bad P name fed None None is reads = tt
there_bad P name fed None (Some y) is reads = tt
there_bad P name fed (Some x) None is reads = absurd reads
there_bad P name fed (Some x) (Some y) is reads = (fed ++ y.left, reads.file, is y.left)

ends_here : (k : ℕ) (buffer : List ℕ) (x y : Told) → k ≡ 0 → 0 < length buffer → Reads k buffer x y → x.left ≡ []
ends_here k buffer x y none some reads = reads.none none some

whole_file : (name fed : List ℕ) (x : Told) (files : Files) → get files name ≡ Some (fed ++ x.left) → x.left ≡ [] → get files name ≡ Some fed
whole_file name fed x files has empty = has ∙ ap (λ (l : List ℕ). Some (fed ++ l)) empty ∙ ap (λ (l : List ℕ). Some l) (append-nil fed)

-- the file has ended
pub there_whole : (P : List ℕ → Type 0) (name fed buffer : List ℕ) (k : ℕ) (old now new : Option Told) → k ≡ 0 → 0 < length buffer → P fed
    → Steps old now (HasRead name fed) → Steps now new (Reads k buffer) → WhereTold old (λ t. OnCutFile P name t.files)
there_whole P name fed buffer k None now new none some is reads last = tt
there_whole P name fed buffer k (Some x) None new none some is reads last = absurd reads
there_whole P name fed buffer k (Some x) (Some y) None none some is reads last = absurd last
there_whole P name fed buffer k (Some x) (Some y) (Some z) none some is reads last = (fed, whole_file name fed y x.files reads.file (ends_here k buffer y z none some last), is)

-- ---- nothing else happened

read_on : (x y z : Told) → ChangesLeft x y → ChangesLeft y z → ChangesLeft x z
read_on x y z p q = q ∙ ap (λ (t : Told). record t { left = z.left }) p

-- where a line is bad
pub fed_only : (reader : CutReading) (name : List ℕ) (old now : Option Told) → HasFed reader name old now → Steps old now ChangesLeft
fed_only reader name old now fed = steps_weaker old now (λ x y p. p.others) fed.reads

-- at the end of the file
pub fed_and_read : (reader : CutReading) (name buffer : List ℕ) (k : ℕ) (old now new : Option Told) → HasFed reader name old now → Steps now new (Reads k buffer) → Steps old new ChangesLeft
fed_and_read reader name buffer k old now new fed last = steps_join old now new (λ x y z p q. read_on x y z p.others q.others) fed.reads last

-- where the outside failed
pub fed_and_failed : (reader : CutReading) (name : List ℕ) (old now new : Option Told) → HasFed reader name old now → Steps now new Stays → Steps old new ChangesLeft
fed_and_failed reader name old now new fed last = steps_join old now new (λ x y z p q. subst (λ (t : Told). ChangesLeft x t) (sym q) p.others) fed.reads last
