-- A held line: what has become of it, and for which bytes the reader then stands.
use Rattle.std.proofs.Common.{◌≡◌, ℕ, ◌+◌, ◌-◌, ◌*◌, ◌^◌, ◌<◌, ◌≤◌, inl, inr, List, [], ◌∷◌, ◌++◌, length, min, Option, Some, None, Result, Ok, Err, refl, sym, ap, ◌∙◌, subst, arith, append_assoc}
use Rattle.mill_model.specs.declared.kind.Kind.{Kind}
use Rattle.mill_model.specs.Mill.{Mill}
use Rattle.mill_model.specs.Columns.{Column}
use Rattle.cert_view.specs.declared.line.Line.{Line}
use Rattle.cert_view.specs.declared.line.Line.TheVariants as lines
use Rattle.cert_view.specs.declared.line.Spelling.{Spelling}
use Rattle.cert_view.specs.declared.line.Spelling.TheVariants as spellings
use Rattle.cert_view.specs.Held.{IsPart}
use Rattle.cert_view.specs.Line.{next_line, after_line}
use Rattle.cert_view.specs.Text.{line_text}
use Rattle.cert_view.specs.Laws.{BeginsWith}
use Rattle.cert_view.proofs.Feeds.{text_is_read, read_is_text}
use Rattle.cert_text.specs.Texts.{lines_text}
use Rattle.mill_model.specs.Prices.{prices_of}
use Rattle.price_check.specs.Exceeding.{IsExceeding}
use Rattle.cert_rules.specs.declared.why.Why.{Why}
use Rattle.cert_rules.specs.declared.why.Why.TheVariants as why
use Rattle.cert_rules.specs.States.{Wanted, State}
use Rattle.cert_rules.specs.States.State.{Begin}
use Rattle.cert_rules.specs.Reading.{Reads, IsBadLine, number_after}
use Rattle.cert_rules.proofs.Standing.{failures_stay}
use Rattle.cert_rules.specs.States.Outcome.{Proved, Unfinished}
use Rattle.cert_rules.specs.States.State.{BetweenPoints, InPlan, InTree, InOpenTree, Ended}
use Rattle.cert_rules.specs.Turns.{line_next}
use Rattle.cert_rules.specs.Stands.{HasFailed}
use Rattle.cert_rules.specs.Stands.Progress.{Running}
use Rattle.cert_rules.proofs.Room.{room_falls}
use Rattle.cert_check.specs.declared.failure.Failure.{Failure}
use Rattle.cert_check.specs.declared.line_why.LineWhy.{LineWhy}
use Rattle.cert_check.specs.declared.line_why.LineWhy.TheVariants as carried
use Rattle.cert_check.specs.declared.phase.Phase.{Phase}
use Rattle.cert_check.specs.declared.phase.Phase.TheVariants as phases
use Rattle.cert_check.specs.Whys.{why_of}
use Rattle.cert_check.specs.Verdicts.{ExceedsAt, CarriesExceeding, path_of}
use Rattle.cert_check.specs.Kept.{Kept, Keeps}
use Rattle.cert_check.specs.Readings.{Reading, Machine, Runs, Fails, HasLessRoom, phase_room, CarriesFor, IsSameReader, IsBadHeld, IsGoodHeld, IsRefusedHeld}
use Rattle.cert_check.specs.Held.{CarriesColumn, IsOver}
use Rattle.cert_check.proofs.Readings.{not_ended, part_taken, line_taken, bad_taken, extra_after_proved, extra_after_cut, room_is}

-- ---- failures stay

-- a line that is read is read whatever follows
read_more : (line : Line) (rest more : List ℕ) → next_line rest ≡ Some (Ok line) → next_line (rest ++ more) ≡ Some (Ok line)
read_more line rest more e =
    let b : BeginsWith line rest (after_line rest) = read_is_text line rest e in
    (text_is_read line (rest ++ more) (after_line rest ++ more) (record { good = b.good; short = b.short; text = ap (λ ys. ys ++ more) b.text ∙ append_assoc (line_text line) (10 ∷ after_line rest) more })).0

reads_more : (m : Mill) (wanted : Wanted) (bytes rest more : List ℕ) (before : List Line) → Reads m wanted bytes before rest → Reads m wanted (bytes ++ more) before (rest ++ more)
reads_more m wanted bytes rest more before r = record { bytes_are = ap (λ ys. ys ++ more) r.bytes_are ∙ append_assoc (lines_text before) rest more; readable = r.readable; kept = r.kept }

exceeds_more : (m : Mill) (wanted : Wanted) (bytes more : List ℕ) (n : ℕ) (c : Column) → ExceedsAt m wanted bytes n c → ExceedsAt m wanted (bytes ++ more) n c
exceeds_more m wanted bytes more n c h = record {
  before = h.before;
  rest = h.rest ++ more;
  numbers = h.numbers;
  reads = reads_more m wanted bytes h.rest more h.before h.reads;
  counted = h.counted;
  leaf = read_more (lines.Leaf h.numbers) h.rest more h.leaf;
  exceeds = h.exceeds;
}

carries_more : (m : Mill) (wanted : Wanted) (bytes more : List ℕ) (n : ℕ) (broken : LineWhy) → CarriesExceeding m wanted bytes n broken → CarriesExceeding m wanted (bytes ++ more) n broken
carries_more m wanted bytes more n (carried.Column kind orders) h = exceeds_more m wanted bytes more n (record { kind = kind; orders = orders }) h
carries_more m wanted bytes more n carried.Extra h = tt
carries_more m wanted bytes more n carried.End h = tt
carries_more m wanted bytes more n carried.Spelling h = tt
carries_more m wanted bytes more n carried.Range h = tt
carries_more m wanted bytes more n carried.Expect h = tt
carries_more m wanted bytes more n carried.Order h = tt
carries_more m wanted bytes more n carried.Size h = tt
carries_more m wanted bytes more n carried.Place h = tt
carries_more m wanted bytes more n carried.Load h = tt
carries_more m wanted bytes more n carried.Colours h = tt
carries_more m wanted bytes more n carried.Yard h = tt
carries_more m wanted bytes more n carried.Twice h = tt
carries_more m wanted bytes more n carried.Barred h = tt
carries_more m wanted bytes more n carried.Unplaced h = tt
carries_more m wanted bytes more n carried.Sums h = tt
carries_more m wanted bytes more n carried.Ask h = tt
carries_more m wanted bytes more n carried.Repeat h = tt
carries_more m wanted bytes more n carried.Count h = tt
carries_more m wanted bytes more n carried.Sign h = tt
carries_more m wanted bytes more n carried.Missing h = tt
carries_more m wanted bytes more n carried.Sum h = tt
carries_more m wanted bytes more n carried.Agree h = tt
carries_more m wanted bytes more n carried.Cover h = tt
carries_more m wanted bytes more n carried.Loss h = tt
carries_more m wanted bytes more n carried.New h = tt

pub fails_more : (wanted : Wanted) (m : Mill) (failure : Failure) (bytes more : List ℕ) → Fails wanted m failure bytes → Fails wanted m failure (bytes ++ more)
fails_more wanted m failure bytes more h = record { failed = failures_stay m wanted bytes more failure.line (why_of failure.why) h.failed; column = carries_more m wanted bytes more failure.line failure.why h.column }

-- ---- the column that a bad leaf carries

path_kept : (m : Mill) (k : Kept) (state : State) → Keeps m k state → k.path ≡ path_of state
path_kept m k Begin h = h.2
path_kept m k (BetweenPoints version points) h = h.3
path_kept m k (InPlan version before sums slabs) h = h.3
path_kept m k (InTree goal stage path) h = h.2
path_kept m k (InOpenTree points path) h = h.2
path_kept m k (Ended Proved points) h = h.2
path_kept m k (Ended Unfinished points) h = h.2

-- a refusal, with the column that was found
pub refused_is_bad : (old new : Machine) (held : List ℕ) (broken : Why) (full : LineWhy) → IsRefusedHeld old new held broken → why_of full ≡ broken → CarriesColumn new.bad full → IsBadHeld old held full
refused_is_bad old new held broken full refused e carries = record {
  whole = refused.whole;
  bad = λ state h. subst (λ w. IsBadLine old.mill old.wanted state (next_line held) w) (sym e) (refused.bad state h);
  column = λ state line h read. column_at full e carries state line h read;
}
  where
    column_at : (full : LineWhy) → why_of full ≡ broken → CarriesColumn new.bad full → (state : State) (line : Line) → Keeps old.mill old.kept state → next_line held ≡ Some (Ok line) → CarriesFor old.mill state line full
    column_at (carried.Column kind orders) e carries state line h read =
        let found = refused.found (sym e) in
        let same : line ≡ found.0 = cc (read, found.1) in
        let is : found.2.column ≡ record { kind = kind; orders = orders } = cc (found.2.bad, carries) in (
          found.2.numbers,
          same ∙ found.2.leaf,
          subst (λ c. IsExceeding old.mill (path_of state) (prices_of (length old.mill.orders) found.2.numbers) c) is
              (subst (λ path. IsExceeding old.mill path (prices_of (length old.mill.orders) found.2.numbers) found.2.column) (path_kept old.mill old.kept state h) found.2.exceeds),
        )
    column_at carried.Extra e carries state line h read = tt
    column_at carried.End e carries state line h read = tt
    column_at carried.Spelling e carries state line h read = tt
    column_at carried.Range e carries state line h read = tt
    column_at carried.Expect e carries state line h read = tt
    column_at carried.Order e carries state line h read = tt
    column_at carried.Size e carries state line h read = tt
    column_at carried.Place e carries state line h read = tt
    column_at carried.Load e carries state line h read = tt
    column_at carried.Colours e carries state line h read = tt
    column_at carried.Yard e carries state line h read = tt
    column_at carried.Twice e carries state line h read = tt
    column_at carried.Barred e carries state line h read = tt
    column_at carried.Unplaced e carries state line h read = tt
    column_at carried.Sums e carries state line h read = tt
    column_at carried.Ask e carries state line h read = tt
    column_at carried.Repeat e carries state line h read = tt
    column_at carried.Count e carries state line h read = tt
    column_at carried.Sign e carries state line h read = tt
    column_at carried.Missing e carries state line h read = tt
    column_at carried.Sum e carries state line h read = tt
    column_at carried.Agree e carries state line h read = tt
    column_at carried.Cover e carries state line h read = tt
    column_at carried.Loss e carries state line h read = tt
    column_at carried.New e carries state line h read = tt

-- only a line that is read breaks the rule of columns
leaf_read : (m : Mill) (wanted : Wanted) (state : State) (read : Option (Result Line Spelling)) → IsBadLine m wanted state read why.Column → (line : Line) × (read ≡ Some (Ok line))
leaf_read m wanted state None h = cc
leaf_read m wanted state (Some (Err spellings.Form)) h = cc
leaf_read m wanted state (Some (Err spellings.Range)) h = cc
leaf_read m wanted state (Some (Ok line)) h = (line, refl)

-- ---- what a machine's reader stands for

abbrev pub reading_of : Machine → ℕ → List ℕ → Option Failure → Reading
reading_of machine count held failed = record { mill = machine.mill; wanted = machine.wanted; kept = machine.kept; count = count; held = held; failed = failed }

module _ (was : Machine) (count : ℕ) (earlier piece bytes : List ℕ) (h : Runs was.wanted (reading_of was count earlier None) bytes) where
  abbrev old : Reading
  old = reading_of was count earlier None

  column_exceeds : (kind : Kind) (orders : List ℕ) → IsBadHeld was (earlier ++ piece) (carried.Column kind orders) → ExceedsAt was.mill was.wanted (bytes ++ piece) (number_after count) (record { kind = kind; orders = orders })
  column_exceeds kind orders bad =
      let read = leaf_read was.mill was.wanted h.state (next_line (earlier ++ piece)) (bad.bad h.state h.keeps) in
      let found = bad.column h.state read.0 h.keeps read.1 in
      record {
        before = h.running.before;
        rest = earlier ++ piece;
        numbers = found.0;
        reads = reads_more was.mill was.wanted bytes earlier piece h.running.before h.running.reads;
        counted = ap number_after h.running.counted ∙ stands_still (length h.running.before);
        leaf = read.1 ∙ ap (λ line. Some (Ok line)) found.1;
        exceeds = subst (λ s. IsExceeding was.mill (path_of s) (prices_of (length was.mill.orders) found.0) (record { kind = kind; orders = orders })) h.running.state_is found.2;
      }
    where
      stands_still : (n : ℕ) → number_after (min n (2 ^ 64 - 1)) ≡ number_after n
      stands_still n = omega arith

  carries : (broken : LineWhy) → IsBadHeld was (earlier ++ piece) broken → CarriesExceeding was.mill was.wanted (bytes ++ piece) (number_after count) broken
  carries (carried.Column kind orders) bad = column_exceeds kind orders bad
  carries carried.Extra bad = tt
  carries carried.End bad = tt
  carries carried.Spelling bad = tt
  carries carried.Range bad = tt
  carries carried.Expect bad = tt
  carries carried.Order bad = tt
  carries carried.Size bad = tt
  carries carried.Place bad = tt
  carries carried.Load bad = tt
  carries carried.Colours bad = tt
  carries carried.Yard bad = tt
  carries carried.Twice bad = tt
  carries carried.Barred bad = tt
  carries carried.Unplaced bad = tt
  carries carried.Sums bad = tt
  carries carried.Ask bad = tt
  carries carried.Repeat bad = tt
  carries carried.Count bad = tt
  carries carried.Sign bad = tt
  carries carried.Missing bad = tt
  carries carried.Sum bad = tt
  carries carried.Agree bad = tt
  carries carried.Cover bad = tt
  carries carried.Loss bad = tt
  carries carried.New bad = tt

  -- a byte after the end
  pub extra_stands : IsOver was.kept.phase → 0 < length piece → Fails was.wanted was.mill (record { line = number_after count; why = carried.Extra }) (bytes ++ piece)
  extra_stands over some = record { failed = at was.kept.phase refl over; column = tt }
    where
      at : (phase : Phase) → was.kept.phase ≡ phase → IsOver phase → HasFailed was.mill was.wanted (bytes ++ piece) (number_after count) why.Extra
      at phases.Proved e o = extra_after_proved was.wanted old bytes piece h e some
      at phases.Unfinished e o = extra_after_cut was.wanted old bytes piece h e some
      at phases.Begin e o = absurd o
      at phases.Between e o = absurd o
      at phases.Plan e o = absurd o
      at (phases.Tree rest) e o = absurd o
      at (phases.Question rest) e o = absurd o
      at (phases.Spread rest) e o = absurd o
      at phases.Open e o = absurd o

  module _ (going : IsOver was.kept.phase → ⊥) where
    unproved : was.kept.phase ≡ phases.Proved → ⊥
    unproved e = going (subst IsOver (sym e) tt)

    uncut : was.kept.phase ≡ phases.Unfinished → ⊥
    uncut e = going (subst IsOver (sym e) tt)

    -- less than a line
    pub part_stands : IsPart (earlier ++ piece) → Runs was.wanted (reading_of was count (earlier ++ piece) None) (bytes ++ piece)
    part_stands part = part_taken was.wanted old bytes piece h unproved uncut part

    pub part_room : IsPart (earlier ++ piece) → HasLessRoom old (reading_of was count (earlier ++ piece) None) (length piece)
    part_room part = elim (room_falls was.mill was.wanted (Running h.state count earlier) (Running h.state count (earlier ++ piece)) piece (inr (inl (not_ended was.wanted old bytes piece h unproved uncut, part, refl)))) [
      | inl failed ↦ absurd failed
      | inr less ↦ inr (subst (λ n. 8192 * n - length (earlier ++ piece) + length piece ≤ 8192 * n - length earlier) (sym (room_is was.mill was.kept h.state h.keeps)) less)
    ]

    module _ (now : Machine) (same : IsSameReader was now) (good : IsGoodHeld was now (earlier ++ piece)) where
      -- a line that keeps its rules
      pub line_stands : Runs now.wanted (reading_of now (number_after count) [] None) (bytes ++ piece)
      line_stands =
          let step = good.goes_on h.state h.keeps in
          let P : Mill → Wanted → Type 0 = λ m w. Runs w (record { mill = m; wanted = w; kept = now.kept; count = number_after count; held = []; failed = None }) (bytes ++ piece) in
          subst (λ m. P m now.wanted) (sym same.mill) (subst (λ w. P was.mill w) (sym same.wanted) (line_taken was.wanted old bytes piece h now.kept good.line unproved uncut good.whole good.read step.0 step.1))

      pub line_room : HasLessRoom old (reading_of now (number_after count) [] None) (length piece)
      line_room =
          let step = good.goes_on h.state h.keeps in
          let next : State = line_next was.mill was.wanted h.state good.line in
          elim (room_falls was.mill was.wanted (Running h.state count earlier) (Running next (number_after count) []) piece (inr (inr (not_ended was.wanted old bytes piece h unproved uncut, inl (record { whole = good.whole; line = good.line; read = good.read; kept = step.0; next_is = refl }))))) [
            | inl failed ↦ absurd failed
            | inr less ↦ inr (subst (λ m. 8192 * phase_room m now.kept now.kept.phase - 0 + length piece ≤ 8192 * phase_room was.mill was.kept was.kept.phase - length earlier) (sym same.mill)
                (rw (room_is was.mill was.kept h.state h.keeps, room_is was.mill now.kept next step.1) less))
          ]

    -- a line that is bad
    pub bad_stands : (broken : LineWhy) → IsBadHeld was (earlier ++ piece) broken → Fails was.wanted was.mill (record { line = number_after count; why = broken }) (bytes ++ piece)
    bad_stands broken bad = record {
      failed = bad_taken was.wanted old bytes piece h (why_of broken) unproved uncut bad.whole (bad.bad h.state h.keeps);
      column = carries broken bad;
    }
