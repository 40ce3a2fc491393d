-- What a reader stands for that keeps what it reads.
use Rattle.std.proofs.Common.{◌≡◌, ◌⊎◌, ℕ, ◌+◌, ◌≤◌, inl, inr, Bool, true, false, List, [], ◌∷◌, ◌++◌, length, take, drop, Option, Some, None, is_some, refl, sym, ap, ◌∙◌, subst, arith, append_assoc, append-nil, length-append}
use Rattle.std.specs.List.{AllByRecursion}
use Rattle.std.proofs.lemmas.Bool.{false≢true}
use Rattle.std.proofs.lemmas.List.{take-append-drop, append_cancel_right}
use Rattle.std.proofs.Math.Seq.{take-add, take-length}
use Rattle.mill_model.specs.Mill.{Mill, IsInLimits}
use Rattle.cert_view.specs.declared.line.Line.{Line}
use Rattle.cert_view.specs.Text.{line_text, IsLine}
use Rattle.cert_text.specs.Texts.{lines_text, IsReadable}
use Rattle.cert_text.proofs.Texts.{goes_on, GoesOn}
use Rattle.cert_rules.specs.States.{Wanted}
use Rattle.cert_rules.specs.Stands.Progress.{Failed}
use Rattle.cert_rules.proofs.FirstBad.{one_first_bad_line}
use Rattle.cert_rules.proofs.Standing.{ends_are_right}
use Rattle.cert_rules.proofs.Wholes.{lines_are_read}
use Rattle.cert_check.specs.declared.ending.Ending.{Ending}
use Rattle.cert_check.specs.declared.failure.Failure.{Failure}
use Rattle.cert_keep.specs.Building.{Built, nothing_built, build, build_all}
use Rattle.cert_check.specs.Endings.{HasAccepted}
use Rattle.cert_keep.specs.Gathering.{Gathered, Builds, GathersBy, Gathers, IsBuiltFrom}
use Rattle.cert_check.specs.Held.{IsMoved}
use Rattle.cert_check.specs.Readings.{Runs, Fails, Stands, StandsBy, HasLessRoom, room}
use Rattle.cert_check.specs.Whys.{why_of}
use Rattle.cert_check.proofs.HeldLines.{fails_more}
use Rattle.cert_keep.proofs.Rebuilding.{build_append, lines_build_back}

-- ---- bytes as lines

-- a text of no byte has no line
no_lines : (xs : List Line) (rest : List ℕ) → [] ≡ lines_text xs ++ rest → xs ≡ []
no_lines [] rest e = refl
no_lines (x ∷ xs) rest e =
    absurd (omega (arith, ap length e, length-append ((line_text x ++ 10 ∷ []) ++ lines_text xs) rest, length-append (line_text x ++ 10 ∷ []) (lines_text xs), length-append (line_text x) (10 ∷ [])))

-- readable lines are known by their text
same_lines : (xs ys : List Line) → AllByRecursion IsReadable xs → AllByRecursion IsReadable ys → lines_text ys ≡ lines_text xs → ys ≡ xs
same_lines xs ys h k e =
    let found : GoesOn xs ys [] = goes_on xs ys [] h k (e ∙ sym (append-nil (lines_text xs))) in
    found.lines_are ∙ ap (λ (zs : List Line). xs ++ zs) (no_lines found.rest [] (found.more_is ∙ sym (append-nil (lines_text found.rest)))) ∙ append-nil xs

one_more_line : (xs : List Line) (line : Line) → lines_text (xs ++ line ∷ []) ≡ lines_text xs ++ (line_text line ++ 10 ∷ [])
one_more_line [] line = append-nil (line_text line ++ 10 ∷ [])
one_more_line (x ∷ xs) line = ap (λ (t : List ℕ). (line_text x ++ 10 ∷ []) ++ t) (one_more_line xs line) ∙ sym (append_assoc (line_text x ++ 10 ∷ []) (lines_text xs) (line_text line ++ 10 ∷ []))

readable_more : (xs : List Line) (line : Line) → AllByRecursion IsReadable xs → IsReadable line → AllByRecursion IsReadable (xs ++ line ∷ [])
readable_more [] line h k = (k, tt)
readable_more (x ∷ xs) line h k = (h.0, readable_more xs line h.1 k)

-- ---- what is stood for

module _ (wanted : Wanted) (g : Gathered) (bytes : List ℕ) where
  pub as_reader : Gathers wanted g bytes → StandsBy wanted g.reading g.reading.failed bytes
  as_reader h = at g.reading.failed h.stands
    where
      at : (failed : Option Failure) → GathersBy wanted g failed bytes → StandsBy wanted g.reading failed bytes
      at None b = b.runs
      at (Some failure) b = b

  gathers_from : StandsBy wanted g.reading g.reading.failed bytes → ((h : Runs wanted g.reading bytes) → g.built ≡ build_all (length g.reading.mill.orders) nothing_built h.running.before) → Gathers wanted g bytes
  gathers_from h built = record { stands = at g.reading.failed h }
    where
      at : (failed : Option Failure) → StandsBy wanted g.reading failed bytes → GathersBy wanted g failed bytes
      at None s = record { runs = s; built = built s }
      at (Some failure) s = s

  -- a line is bad
  pub gathers_failed : is_some g.reading.failed ≡ true → StandsBy wanted g.reading g.reading.failed bytes → Gathers wanted g bytes
  gathers_failed e h = record { stands = at g.reading.failed e h }
    where
      at : (failed : Option Failure) → is_some failed ≡ true → StandsBy wanted g.reading failed bytes → GathersBy wanted g failed bytes
      at None f s = absurd (false≢true f)
      at (Some failure) f s = s

  gathers_running : g.reading.failed ≡ None → Gathers wanted g bytes → Builds wanted g bytes
  gathers_running e h = subst (λ (f : Option Failure). GathersBy wanted g f bytes) e h.stands

pub gathers_nothing : (g : Gathered) → Stands g.reading [] → g.built ≡ nothing_built → Gathers g.reading.wanted g []
gathers_nothing g h e = gathers_from g.reading.wanted g [] h (λ r. e ∙ ap (λ (xs : List Line). build_all (length g.reading.mill.orders) nothing_built xs) (sym (no_lines r.running.before g.reading.held r.running.reads.bytes_are)))

-- ---- some bytes, up to the end of a line

-- a line more is built, where there is one
abbrev pub IsBuiltOn : ℕ → Built → Built → Option Line → Type 0
IsBuiltOn orders old new None = new ≡ old
IsBuiltOn orders old new (Some line) = new ≡ build orders old line

module _ (old new : Gathered) (fed : List ℕ) (mill : new.reading.mill ≡ old.reading.mill) (wanted : new.reading.wanted ≡ old.reading.wanted) (stands : (bytes : List ℕ) → Stands old.reading bytes → Stands new.reading (bytes ++ fed)) where
  stood : (bytes : List ℕ) → Gathers old.reading.wanted old bytes → StandsBy old.reading.wanted new.reading new.reading.failed (bytes ++ fed)
  stood bytes h = subst (λ (w : Wanted). StandsBy w new.reading new.reading.failed (bytes ++ fed)) wanted (stands bytes (as_reader old.reading.wanted old bytes h))

  pub bad_gathered : is_some new.reading.failed ≡ true → (bytes : List ℕ) → Gathers old.reading.wanted old bytes → Gathers old.reading.wanted new (bytes ++ fed)
  bad_gathered e bytes h = gathers_failed old.reading.wanted new (bytes ++ fed) e (stood bytes h)

  -- the lines that the bytes are now
  lines_now : (last : Option Line) (bytes : List ℕ) → IsMoved old.reading.held fed new.reading.held last → (b : Builds old.reading.wanted old bytes) → (r : Runs old.reading.wanted new.reading (bytes ++ fed)) → IsBuiltOn (length old.reading.mill.orders) old.built new.built last
      → new.built ≡ build_all (length old.reading.mill.orders) nothing_built r.running.before
  lines_now None bytes moved b r on =
      let before : List Line = b.runs.running.before in
      let text : lines_text r.running.before ++ new.reading.held ≡ lines_text before ++ new.reading.held =
      sym r.running.reads.bytes_are ∙ ap (λ (xs : List ℕ). xs ++ fed) b.runs.running.reads.bytes_are ∙ append_assoc (lines_text before) old.reading.held fed ∙ ap (λ (xs : List ℕ). lines_text before ++ xs) (sym moved) in
      let same : r.running.before ≡ before = same_lines before r.running.before b.runs.running.reads.readable r.running.reads.readable (append_cancel_right (lines_text r.running.before) (lines_text before) new.reading.held text) in
      on ∙ b.built ∙ ap (λ (xs : List Line). build_all (length old.reading.mill.orders) nothing_built xs) (sym same)
  lines_now (Some line) bytes moved b r on =
      let before : List Line = b.runs.running.before in
      let text : lines_text r.running.before ≡ lines_text (before ++ line ∷ []) =
      sym (append-nil (lines_text r.running.before)) ∙ ap (λ (xs : List ℕ). lines_text r.running.before ++ xs) (sym moved.0) ∙ sym r.running.reads.bytes_are ∙ ap (λ (xs : List ℕ). xs ++ fed) b.runs.running.reads.bytes_are
      ∙ append_assoc (lines_text before) old.reading.held fed ∙ ap (λ (xs : List ℕ). lines_text before ++ xs) moved.1 ∙ sym (one_more_line before line) in
      let same : r.running.before ≡ before ++ line ∷ [] = same_lines (before ++ line ∷ []) r.running.before (readable_more before line b.runs.running.reads.readable moved.2) r.running.reads.readable text in
      on ∙ ap (λ (x : Built). build (length old.reading.mill.orders) x line) b.built ∙ sym (build_append (length old.reading.mill.orders) nothing_built before (line ∷ [])) ∙ ap (λ (xs : List Line). build_all (length old.reading.mill.orders) nothing_built xs) (sym same)

  pub line_gathered : (last : Option Line) → old.reading.failed ≡ None → IsMoved old.reading.held fed new.reading.held last → IsBuiltOn (length old.reading.mill.orders) old.built new.built last → (bytes : List ℕ) → Gathers old.reading.wanted old bytes → Gathers old.reading.wanted new (bytes ++ fed)
  line_gathered last running moved on bytes h =
      gathers_from old.reading.wanted new (bytes ++ fed) (stood bytes h) (λ r. subst (λ (m : Mill). new.built ≡ build_all (length m.orders) nothing_built r.running.before) (sym mill) (lines_now last bytes moved (gathers_running old.reading.wanted old bytes running h) r on))

  none_from : (failed : Option Failure) → is_some failed ≡ false → failed ≡ None
  none_from None e = refl
  none_from (Some failure) e = absurd (false≢true (sym e))

  module _ (now last : Option Line) (good : is_some new.reading.failed ≡ false) (moved : new.reading.failed ≡ None → IsMoved old.reading.held fed new.reading.held now) (is : now ≡ last) where
    moved_by : IsMoved old.reading.held fed new.reading.held last
    moved_by = subst (λ (l : Option Line). IsMoved old.reading.held fed new.reading.held l) is (moved (none_from new.reading.failed good))

    pub taken_gathered : old.reading.failed ≡ None → IsBuiltOn (length old.reading.mill.orders) old.built new.built last → (bytes : List ℕ) → Gathers old.reading.wanted old bytes → Gathers old.reading.wanted new (bytes ++ fed)
    taken_gathered running on bytes h = line_gathered last running moved_by on bytes h

-- a line that ended the bytes can be read
pub moved_is_line : (held fed next : List ℕ) (now : Option Line) (line : Line) (failed : Option Failure) → is_some failed ≡ false → (failed ≡ None → IsMoved held fed next now) → now ≡ Some line → IsLine line
moved_is_line held fed next now line None good moved is = (subst (λ (l : Option Line). IsMoved held fed next l) is (moved refl)).2.good
moved_is_line held fed next now line (Some failure) good moved is = absurd (false≢true (sym good))

-- ---- a piece

-- so much of a piece was taken
pub record GathersTo (old now : Gathered) (piece : List ℕ) (at : ℕ) : Type 0 where
  pub within : at ≤ length piece
  pub stands : (bytes : List ℕ) → Gathers old.reading.wanted old bytes → Gathers old.reading.wanted now (bytes ++ take at piece)
  pub room : (bytes : List ℕ) → Gathers old.reading.wanted old bytes → HasLessRoom old.reading now.reading at
  pub mill : now.reading.mill ≡ old.reading.mill
  pub wanted : now.reading.wanted ≡ old.reading.wanted

take_none : (xs : List ℕ) → take 0 xs ≡ []
take_none [] = refl
take_none (x ∷ xs) = refl

pub gathered_none : (g : Gathered) (piece : List ℕ) → GathersTo g g piece 0
gathered_none g piece = record {
  within = omega arith;
  stands = λ bytes h. subst (λ (xs : List ℕ). Gathers g.reading.wanted g xs) (sym (append-nil bytes) ∙ ap (λ (xs : List ℕ). bytes ++ xs) (sym (take_none piece))) h;
  room = λ bytes h. inr (omega arith);
  mill = refl;
  wanted = refl;
}

pub gathered_more : (old now next : Gathered) (piece : List ℕ) (at k : ℕ) → GathersTo old now piece at → is_some now.reading.failed ≡ false → at + k ≤ length piece
    → ((bytes : List ℕ) → Gathers now.reading.wanted now bytes → Gathers now.reading.wanted next (bytes ++ take k (drop at piece))) → ((bytes : List ℕ) → Gathers now.reading.wanted now bytes → HasLessRoom now.reading next.reading k)
    → next.reading.mill ≡ now.reading.mill → next.reading.wanted ≡ now.reading.wanted → GathersTo old next piece (at + k)
gathered_more old now next piece at k taken running within stands less mill wanted = record {
  within = within;
  stands = λ bytes h. subst (λ (xs : List ℕ). Gathers old.reading.wanted next xs) (append_assoc bytes (take at piece) (take k (drop at piece)) ∙ ap (λ (xs : List ℕ). bytes ++ xs) (sym (take-add at k piece)))
      (subst (λ (w : Wanted). Gathers w next ((bytes ++ take at piece) ++ take k (drop at piece))) taken.wanted (stands (bytes ++ take at piece) (here bytes h)));
  room = λ bytes h. both (is_some now.reading.failed) (is_some next.reading.failed) running (taken.room bytes h) (less (bytes ++ take at piece) (here bytes h));
  mill = mill ∙ taken.mill;
  wanted = wanted ∙ taken.wanted;
}
  where
    here : (bytes : List ℕ) → Gathers old.reading.wanted old bytes → Gathers now.reading.wanted now (bytes ++ take at piece)
    here bytes h = subst (λ (w : Wanted). Gathers w now (bytes ++ take at piece)) (sym taken.wanted) (taken.stands bytes h)

    both : (was is : Bool) → was ≡ false → (was ≡ true) ⊎ (room now.reading + at ≤ room old.reading) → (is ≡ true) ⊎ (room next.reading + k ≤ room now.reading) → (is ≡ true) ⊎ (room next.reading + (at + k) ≤ room old.reading)
    both was is e (inl f) g = cc
    both was is e (inr f) (inl g) = inl g
    both was is e (inr f) (inr g) = inr (omega (arith, f, g))

-- the whole piece, for whatever the reader stood
pub record GathersAll (old new : Gathered) (fed : List ℕ) : Type 0 where
  pub stands : (bytes : List ℕ) → Gathers old.reading.wanted old bytes → Gathers old.reading.wanted new (bytes ++ fed)
  pub room : (bytes : List ℕ) → Gathers old.reading.wanted old bytes → HasLessRoom old.reading new.reading (length fed)

-- all of it was taken, or a line is bad
pub gathered_all : (old now : Gathered) (piece : List ℕ) (at : ℕ) → GathersTo old now piece at → (length piece ≤ at) ⊎ (is_some now.reading.failed ≡ true) → GathersAll old now piece
gathered_all old now piece at taken (inl over) = record {
  stands = λ bytes h. subst (λ (xs : List ℕ). Gathers old.reading.wanted now (bytes ++ xs)) (ap (λ (n : ℕ). take n piece) (all_of at (length piece) taken.within over) ∙ take-length piece) (taken.stands bytes h);
  room = λ bytes h. subst (λ (n : ℕ). HasLessRoom old.reading now.reading n) (all_of at (length piece) taken.within over) (taken.room bytes h);
}
  where
    all_of : (n k : ℕ) → n ≤ k → k ≤ n → n ≡ k
    all_of n k low high = omega (arith, low, high)
gathered_all old now piece at taken (inr bad) = record {
  stands = λ bytes h. gathers_failed old.reading.wanted now (bytes ++ piece) bad (stays bytes now.reading.failed bad (as_reader old.reading.wanted now (bytes ++ take at piece) (taken.stands bytes h)));
  room = λ bytes h. inl bad;
}
  where
    rest_is : (bytes : List ℕ) → (bytes ++ take at piece) ++ drop at piece ≡ bytes ++ piece
    rest_is bytes = append_assoc bytes (take at piece) (drop at piece) ∙ ap (λ (xs : List ℕ). bytes ++ xs) (take-append-drop at piece)

    stays : (bytes : List ℕ) (failed : Option Failure) → is_some failed ≡ true → StandsBy old.reading.wanted now.reading failed (bytes ++ take at piece) → StandsBy old.reading.wanted now.reading failed (bytes ++ piece)
    stays bytes None b h = absurd (false≢true b)
    stays bytes (Some failure) b h = subst (λ (xs : List ℕ). Fails old.reading.wanted now.reading.mill failure xs) (rest_is bytes) (fails_more old.reading.wanted now.reading.mill failure (bytes ++ take at piece) (drop at piece) h)

-- ---- the end

-- what was built where the bytes are accepted
pub built_from : (g : Gathered) (bytes : List ℕ) (ending : Ending) → IsInLimits g.reading.mill → HasAccepted g.reading bytes ending → Gathers g.reading.wanted g bytes → IsBuiltFrom g.reading.mill g.reading.wanted bytes g.built
built_from g bytes ending limited accepted h = at g.reading.failed h.stands
  where
    at : (failed : Option Failure) → GathersBy g.reading.wanted g failed bytes → IsBuiltFrom g.reading.mill g.reading.wanted bytes g.built
    at (Some failure) b = absurd (one_first_bad_line.0 g.reading.mill g.reading.wanted bytes accepted.lines failure.line (why_of failure.why) accepted.accepted (ends_are_right g.reading.mill g.reading.wanted bytes (Failed failure.line (why_of failure.why)) b.failed))
    at None b =
        let before : List Line = b.runs.running.before in
        let found = (lines_are_read g.reading.mill g.reading.wanted accepted.lines limited).0 (accepted.accepted.reads.readable, record { kept = accepted.accepted.reads.kept; ended = accepted.accepted.ended }) in
        let text : lines_text before ≡ lines_text accepted.lines =
        sym (append-nil (lines_text before)) ∙ ap (λ (xs : List ℕ). lines_text before ++ xs) (sym accepted.held) ∙ sym b.runs.running.reads.bytes_are ∙ accepted.accepted.reads.bytes_are ∙ append-nil (lines_text accepted.lines) in
        let same : before ≡ accepted.lines = same_lines accepted.lines before accepted.accepted.reads.readable b.runs.running.reads.readable text in
        record {
          certificate = found.0;
          spells = accepted.accepted.reads.bytes_are ∙ append-nil (lines_text accepted.lines) ∙ ap lines_text found.2;
          good = found.1;
          built = b.built ∙ ap (λ (xs : List Line). build_all (length g.reading.mill.orders) nothing_built xs) (same ∙ found.2) ∙ lines_build_back g.reading.mill found.0 limited found.1.good;
        }
