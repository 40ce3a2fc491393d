-- What a reader stands for that has taken some bytes, and how much more it can take.
use Rattle.std.proofs.Common.{◌≡◌, ◌⊎◌, ℕ, ◌+◌, ◌<◌, ◌≤◌, inl, inr, if◌then◌else◌, Bool, true, false, List, [], ◌∷◌, ◌++◌, length, take, drop, Option, Some, None, is_some, Result, Ok, Err, refl, sym, ap, ◌∙◌, subst, arith, append_assoc, append-nil}
use Rattle.std.proofs.lemmas.List.{take-append-drop, length-take-le}
use Rattle.std.proofs.Math.Seq.{take-add, take-length}
use Rattle.mill_model.specs.Mill.{Mill}
use Rattle.mill_model.specs.Columns.{Column}
use Rattle.cert_view.specs.declared.line.Line.{Line}
use Rattle.cert_view.specs.Held.{IsPart}
use Rattle.cert_view.specs.Line.{next_line, after_line}
use Rattle.cert_view.specs.Laws.{BeginsWith}
use Rattle.cert_view.proofs.Feeds.{read_is_text}
use Rattle.cert_view.proofs.Buffers.{whole_is_text}
use Rattle.cert_rules.specs.States.{Wanted}
use Rattle.cert_rules.specs.declared.why.Why.{Why}
use Rattle.cert_rules.specs.Reading.{number_after}
use Rattle.cert_check.specs.declared.failure.Failure.{Failure}
use Rattle.cert_check.specs.declared.line_why.LineWhy.{LineWhy}
use Rattle.cert_check.specs.declared.line_why.LineWhy.TheVariants as carried
use Rattle.cert_check.specs.Whys.{why_of}
use Rattle.cert_check.specs.Held.{Reader, CarriesColumn, IsOver, IsMoved, line_of_read}
use Rattle.cert_check.specs.Readings.{Reading, Machine, Stands, StandsBy, Runs, Fails, HasLessRoom, room, IsSameReader, IsGoodHeld, IsBadHeld, IsRefusedHeld, IsStep}
use Rattle.cert_check.proofs.HeldLines.{reading_of, refused_is_bad, fails_more, extra_stands, part_stands, part_room, line_stands, line_room, bad_stands}

-- ---- a reader and its machine

abbrev pub machine_of : Reading → Option Column → Machine
machine_of r bad = record { mill = r.mill; wanted = r.wanted; kept = r.kept; bad = bad }

as_running : (r : Reading) → r.failed ≡ None → r ≡ record r { failed = None }
as_running r e = ap (λ (f : Option Failure). record r { failed = f }) e

as_failed : (r : Reading) (failure : Failure) → r.failed ≡ Some failure → r ≡ record r { failed = Some failure }
as_failed r failure e = ap (λ (f : Option Failure). record r { failed = f }) e

pub assembled : (r : Reading) (m : Machine) (bad : Option Column) (count : ℕ) (held : List ℕ) (failed : Option Failure) → machine_of r bad ≡ m → r.count ≡ count → r.held ≡ held → r.failed ≡ failed → r ≡ reading_of m count held failed
assembled r m bad count held failed p q s t =
    ap (λ (x : Machine). reading_of x r.count r.held r.failed) p ∙ ap (λ (x : ℕ). reading_of m x r.held r.failed) q ∙ ap (λ (x : List ℕ). reading_of m count x r.failed) s ∙ ap (λ (x : Option Failure). reading_of m count held x) t

-- what is held where a line that was taken is let go
pub part_let_go : (taken : Bool) (held : List ℕ) → (taken ≡ false → IsPart held) → IsPart (if taken then [] else held)
part_let_go true held part = record { no_feed = refl; few = omega arith }
part_let_go false held part = part refl

-- these bytes more, for whatever the reader stood
pub record HasTaken (old new : Reading) (fed : List ℕ) : Type 0 where
  pub stands : (bytes : List ℕ) → Stands old bytes → Stands new (bytes ++ fed)
  pub room : (bytes : List ℕ) → Stands old bytes → HasLessRoom old new (length fed)

pub room_of : (old new : Reading) (n : ℕ) (piece : List ℕ) → n ≤ length piece → HasTaken old new (take n piece) → (bytes : List ℕ) → Stands old bytes → HasLessRoom old new n
room_of old new n piece within h bytes stands = subst (λ (k : ℕ). HasLessRoom old new k) (length-take-le n piece within) (h.room bytes stands)

-- ---- some bytes, up to the end of a line

module _ (old : Reading) (bad : Option Column) (fed : List ℕ) (running : old.failed ≡ None) where
  abbrev was : Machine
  was = machine_of old bad

  begun : (bytes : List ℕ) → Stands old bytes → Runs was.wanted (reading_of was old.count old.held None) bytes
  begun bytes h = subst (λ (r : Reading). Stands r bytes) (as_running old running) h

  less : (new : Reading) (n : ℕ) → HasLessRoom (reading_of was old.count old.held None) new n → HasLessRoom old new n
  less new n h = subst (λ (r : Reading). HasLessRoom r new n) (sym (as_running old running)) h

  -- a byte after the end
  pub takes_extra : (new : Reading) → IsOver old.kept.phase → 0 < length fed → new.mill ≡ old.mill → new.wanted ≡ old.wanted → new.failed ≡ Some (record { line = number_after old.count; why = carried.Extra }) → HasTaken old new fed
  takes_extra new over some mill wanted failed = record {
    stands = λ bytes h. fails new bytes mill wanted failed (extra_stands was old.count old.held fed bytes (begun bytes h) over some);
    room = λ bytes h. inl (ap is_some failed);
  }
    where
      fails : (new : Reading) (bytes : List ℕ) → new.mill ≡ old.mill → new.wanted ≡ old.wanted → new.failed ≡ Some (record { line = number_after old.count; why = carried.Extra })
          → Fails old.wanted old.mill (record { line = number_after old.count; why = carried.Extra }) (bytes ++ fed) → Stands new (bytes ++ fed)
      fails new bytes mill wanted failed h =
          subst (λ (f : Option Failure). StandsBy new.wanted new f (bytes ++ fed)) (sym failed)
          (subst (λ (w : Wanted). Fails w new.mill (record { line = number_after old.count; why = carried.Extra }) (bytes ++ fed)) (sym wanted)
          (subst (λ (m : Mill). Fails old.wanted m (record { line = number_after old.count; why = carried.Extra }) (bytes ++ fed)) (sym mill) h))

  module _ (going : IsOver old.kept.phase → ⊥) where
    -- less than a line
    pub takes_part : (new : Reading) → IsPart (old.held ++ fed) → machine_of new bad ≡ was → new.count ≡ old.count → new.held ≡ old.held ++ fed → new.failed ≡ None → HasTaken old new fed
    takes_part new part same count held failed = let e : new ≡ reading_of was old.count (old.held ++ fed) None = assembled new was bad old.count (old.held ++ fed) None same count held failed in record {
      stands = λ bytes h. subst (λ (r : Reading). Stands r (bytes ++ fed)) (sym e) (part_stands was old.count old.held fed bytes (begun bytes h) going part);
      room = λ bytes h. less new (length fed) (subst (λ (r : Reading). HasLessRoom (reading_of was old.count old.held None) r (length fed)) (sym e) (part_room was old.count old.held fed bytes (begun bytes h) going part));
    }

    -- a whole line that keeps its rules
    pub takes_line : (new : Reading) (found : Option Column) → IsSameReader was (machine_of new found) → IsGoodHeld was (machine_of new found) (old.held ++ fed)
        → new.count ≡ number_after old.count → new.held ≡ [] → new.failed ≡ None → HasTaken old new fed
    takes_line new found same good count held failed = let e : new ≡ reading_of (machine_of new found) (number_after old.count) [] None = assembled new (machine_of new found) found (number_after old.count) [] None refl count held failed in record {
      stands = λ bytes h. subst (λ (r : Reading). Stands r (bytes ++ fed)) (sym e) (line_stands was old.count old.held fed bytes (begun bytes h) going (machine_of new found) same good);
      room = λ bytes h. less new (length fed) (subst (λ (r : Reading). HasLessRoom (reading_of was old.count old.held None) r (length fed)) (sym e) (line_room was old.count old.held fed bytes (begun bytes h) going (machine_of new found) same good));
    }

    -- a whole line that is bad
    pub takes_bad : (new : Reading) (broken : LineWhy) → IsBadHeld was (old.held ++ fed) broken → new.mill ≡ old.mill → new.wanted ≡ old.wanted
        → new.failed ≡ Some (record { line = number_after old.count; why = broken }) → HasTaken old new fed
    takes_bad new broken held mill wanted failed = record {
      stands = λ bytes h.
          subst (λ (f : Option Failure). StandsBy new.wanted new f (bytes ++ fed)) (sym failed)
          (subst (λ (w : Wanted). Fails w new.mill (record { line = number_after old.count; why = broken }) (bytes ++ fed)) (sym wanted)
          (subst (λ (m : Mill). Fails old.wanted m (record { line = number_after old.count; why = broken }) (bytes ++ fed)) (sym mill)
          (bad_stands was old.count old.held fed bytes (begun bytes h) going broken held)));
      room = λ bytes h. inl (ap is_some failed);
    }

-- the bytes of a line that keeps its rules are its text
pub moved_line : (old new : Machine) (held fed : List ℕ) → IsGoodHeld old new (held ++ fed) → IsMoved held fed [] (line_of_read (next_line (held ++ fed)))
moved_line old new held fed good =
    subst (λ r. IsMoved held fed [] (line_of_read r)) (sym good.read)
    (let begins : BeginsWith good.line (held ++ fed) (after_line (held ++ fed)) = read_is_text good.line (held ++ fed) good.read in
    (refl, whole_is_text (held ++ fed) good.line good.whole good.read, record { good = begins.good; short = begins.short }))

-- ---- the line that is read, where a reader takes some bytes

-- what a reader is, by its machine and the line that it holds
abbrev pub reader_of : Machine → ℕ → Bool → List ℕ → Option Failure → Option Line → Reader
reader_of was count taken held failed last = record { reading = reading_of was count (if taken then [] else held) failed; last = last }

module _ (was now : Machine) (count : ℕ) (taken : Bool) (held : List ℕ) (failed : Option Failure) (last : Option Line) (value : Reader) (view : reader_of was count taken held failed last ≡ value) where
  module _ (running : value.reading.failed ≡ None) (going : IsOver value.reading.kept.phase → ⊥) (fed after next : List ℕ) (let_go : after ≡ (if taken then [] else held)) (more : next ≡ after ++ fed) where
    next_is : next ≡ (if taken then [] else held) ++ fed
    next_is = more ∙ ap (λ (xs : List ℕ). xs ++ fed) let_go

    runs : failed ≡ None
    runs = ap (λ (v : Reader). v.reading.failed) view ∙ running

    goes : IsOver was.kept.phase → ⊥
    goes o = going (subst (λ (v : Reader). IsOver v.reading.kept.phase) view o)

    abbrev old : Reading
    old = reading_of was count (if taken then [] else held) failed

    from_old : (new : Reading) → HasTaken old new fed → HasTaken value.reading new fed
    from_old new h = subst (λ (v : Reader). HasTaken v.reading new fed) view h

    pub part_has_taken : IsStep was now next None → HasTaken value.reading (reading_of now count next failed) fed
    part_has_taken step = from_old (reading_of now count next failed) (takes_part old was.bad fed runs goes (reading_of now count next failed) (subst IsPart next_is step.0) (ap (λ (m : Machine). machine_of (reading_of m count next failed) was.bad) step.1) refl next_is runs)

    good_at : (r : Result (Unit {0}) Why) (u : Unit {0}) → r ≡ Ok u → IsStep was now next (Some r) → IsGoodHeld was now ((if taken then [] else held) ++ fed)
    good_at r u e step = subst (λ (xs : List ℕ). IsGoodHeld was now xs) next_is (subst (λ (x : Result (Unit {0}) Why). IsStep was now next (Some x)) e step)

    pub line_has_taken : (r : Result (Unit {0}) Why) (u : Unit {0}) (n : ℕ) → r ≡ Ok u → IsStep was now next (Some r) → IsSameReader was now → n ≡ number_after count → HasTaken value.reading (reading_of now n [] failed) fed
    line_has_taken r u n e step same counted = from_old (reading_of now n [] failed) (takes_line old was.bad fed runs goes (reading_of now n [] failed) now.bad same (good_at r u e step) counted refl runs)

    pub bad_has_taken : (r : Result (Unit {0}) Why) (broken : Why) (full : LineWhy) (new : Reading) → r ≡ Err broken → IsStep was now next (Some r) → IsSameReader was now
        → why_of full ≡ broken → CarriesColumn now.bad full → new.mill ≡ now.mill → new.wanted ≡ now.wanted → new.failed ≡ Some (record { line = number_after count; why = full }) → HasTaken value.reading new fed
    bad_has_taken r broken full new e step same why carries mill wanted fails =
        let refused : IsRefusedHeld was now ((if taken then [] else held) ++ fed) broken =
        subst (λ (xs : List ℕ). IsRefusedHeld was now xs broken) next_is (subst (λ (x : Result (Unit {0}) Why). IsStep was now next (Some x)) e step) in
        from_old new (takes_bad old was.bad fed runs goes new full (refused_is_bad was now ((if taken then [] else held) ++ fed) broken full refused why carries) (mill ∙ same.mill) (wanted ∙ same.wanted) fails)

    pub part_has_moved : IsMoved value.reading.held fed next None
    part_has_moved = next_is ∙ ap (λ (v : Reader). v.reading.held ++ fed) view

    pub line_has_moved : (r : Result (Unit {0}) Why) (u : Unit {0}) → r ≡ Ok u → IsStep was now next (Some r) → IsMoved value.reading.held fed [] (line_of_read (next_line next))
    line_has_moved r u e step =
        subst (λ (xs : List ℕ). IsMoved value.reading.held fed [] (line_of_read (next_line xs))) (sym next_is)
        (subst (λ (v : Reader). IsMoved v.reading.held fed [] (line_of_read (next_line ((if taken then [] else held) ++ fed)))) view (moved_line was now (if taken then [] else held) fed (good_at r u e step)))

-- ---- a piece

-- so much of a piece was taken
pub record HasTakenTo (old now : Reading) (piece : List ℕ) (at : ℕ) : Type 0 where
  pub within : at ≤ length piece
  pub stands : (bytes : List ℕ) → Stands old bytes → Stands now (bytes ++ take at piece)
  pub room : (bytes : List ℕ) → Stands old bytes → HasLessRoom old now at
  pub mill : now.mill ≡ old.mill
  pub wanted : now.wanted ≡ old.wanted

take_none : (xs : List ℕ) → take 0 xs ≡ []
take_none [] = refl
take_none (x ∷ xs) = refl

pub taken_none : (r : Reading) (piece : List ℕ) → HasTakenTo r r piece 0
taken_none r piece = record {
  within = omega arith;
  stands = λ bytes h. subst (λ (xs : List ℕ). Stands r xs) (sym (append-nil bytes) ∙ ap (λ (xs : List ℕ). bytes ++ xs) (sym (take_none piece))) h;
  room = λ bytes h. inr (omega arith);
  mill = refl;
  wanted = refl;
}

take_both : (n k : ℕ) (xs : List ℕ) → take n xs ++ take k (drop n xs) ≡ take (n + k) xs
take_both n k xs = sym (take-add n k xs)

pub taken_more : (old now next : Reading) (piece : List ℕ) (at k : ℕ) → HasTakenTo old now piece at → is_some now.failed ≡ false → at + k ≤ length piece
    → ((bytes : List ℕ) → Stands now bytes → Stands next (bytes ++ take k (drop at piece))) → ((bytes : List ℕ) → Stands now bytes → HasLessRoom now next k)
    → next.mill ≡ now.mill → next.wanted ≡ now.wanted → HasTakenTo old next piece (at + k)
taken_more old now next piece at k taken running within stands less mill wanted = record {
  within = within;
  stands = λ bytes h. subst (λ (xs : List ℕ). Stands next xs) (append_assoc bytes (take at piece) (take k (drop at piece)) ∙ ap (λ (xs : List ℕ). bytes ++ xs) (take_both at k piece))
      (stands (bytes ++ take at piece) (taken.stands bytes h));
  room = λ bytes h. both (is_some now.failed) (is_some next.failed) running (taken.room bytes h) (less (bytes ++ take at piece) (taken.stands bytes h));
  mill = mill ∙ taken.mill;
  wanted = wanted ∙ taken.wanted;
}
  where
    both : (was is : Bool) → was ≡ false → (was ≡ true) ⊎ (room now + at ≤ room old) → (is ≡ true) ⊎ (room next + k ≤ room now) → (is ≡ true) ⊎ (room next + (at + k) ≤ room old)
    both was is e (inl f) g = cc
    both was is e (inr f) (inl g) = inl g
    both was is e (inr f) (inr g) = inr (omega (arith, f, g))

-- all of it was taken, or a line is bad
pub taken_all : (old now : Reading) (piece : List ℕ) (at : ℕ) → HasTakenTo old now piece at → (length piece ≤ at) ⊎ (is_some now.failed ≡ true) → HasTaken old now piece
taken_all old now piece at taken (inl over) = record {
  stands = λ bytes h. subst (λ (xs : List ℕ). Stands now (bytes ++ xs)) (ap (λ (n : ℕ). take n piece) (all_of at (length piece) taken.within over) ∙ take-length piece) (taken.stands bytes h);
  room = λ bytes h. subst (λ (n : ℕ). HasLessRoom old now n) (all_of at (length piece) taken.within over) (taken.room bytes h);
}
  where
    all_of : (n k : ℕ) → n ≤ k → k ≤ n → n ≡ k
    all_of n k low high = omega (arith, low, high)
taken_all old now piece at taken (inr bad) = record {
  stands = λ bytes h. stays bytes now.failed refl bad (taken.stands bytes h);
  room = λ bytes h. inl bad;
}
  where
    rest_is : (bytes : List ℕ) → (bytes ++ take at piece) ++ drop at piece ≡ bytes ++ piece
    rest_is bytes = append_assoc bytes (take at piece) (drop at piece) ∙ ap (λ (xs : List ℕ). bytes ++ xs) (take-append-drop at piece)

    stays : (bytes : List ℕ) (failed : Option Failure) → now.failed ≡ failed → is_some failed ≡ true → StandsBy now.wanted now failed (bytes ++ take at piece) → StandsBy now.wanted now failed (bytes ++ piece)
    stays bytes None e b h = cc
    stays bytes (Some failure) e b h = subst (λ (xs : List ℕ). Fails now.wanted now.mill failure xs) (rest_is bytes) (fails_more now.wanted now.mill failure (bytes ++ take at piece) (drop at piece) h)
