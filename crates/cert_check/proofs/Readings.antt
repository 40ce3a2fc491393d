-- What a reader stands for: a line more, and what it says at the end.
use Rattle.std.proofs.Common.{◌≡◌, ◌↔◌, ◌⊎◌, ℕ, zero, suc, ◌+◌, ◌-◌, ◌*◌, ◌<◌, ℤ, unsigned_abs, false, cond, List, [], ◌∷◌, ◌++◌, length, reverse, get_or, Option, Some, None, Ok, refl, sym, ap, ap₂, ◌∙◌, subst, arith, inl, inr}
use Rattle.std.proofs.lemmas.List.{reverse-reverse}
use Rattle.mill_model.specs.declared.sums.Sums.{Sums}
use Rattle.mill_model.specs.Mill.{Mill, IsInLimits}
use Rattle.cert_view.specs.declared.line.Line.{Line}
use Rattle.cert_view.specs.Line.{next_line}
use Rattle.cert_view.specs.Held.{IsPart, IsWhole}
use Rattle.cert_rules.specs.declared.why.Why.{Why}
use Rattle.cert_rules.specs.declared.why.Why.TheVariants as why
use Rattle.cert_rules.specs.Rules.{AllKept}
use Rattle.cert_rules.specs.States.{Wanted, Owner, State, Outcome}
use Rattle.cert_rules.specs.States.Wanted.{All}
use Rattle.cert_rules.specs.States.Owner.{OfPoint, OfRest}
use Rattle.cert_rules.specs.States.Outcome.{Proved, Unfinished}
use Rattle.cert_rules.specs.States.Stage.{Begins, Marked, InSpread}
use Rattle.cert_rules.specs.States.State.{Begin, BetweenPoints, InPlan, InTree, InOpenTree, Ended}
use Rattle.cert_rules.specs.Turns.{line_rules, line_next}
use Rattle.cert_rules.specs.Reading.{HasEnded, IsBadLine, IsFirstBad, number_after}
use Rattle.cert_rules.specs.Stands.{HasFailed, IsRunning}
use Rattle.cert_rules.specs.Stands.Progress.{Running, Failed}
use Rattle.cert_rules.specs.Verdicts.{IsVerdict, verdict_of}
use Rattle.cert_rules.specs.Room.{sum_below, asks_left, below_node, branch_lines, node_lines, lines_left, rest_lines, tree_lines, owner_lines, is_unplaced}
use Rattle.cert_rules.specs.Spreads.{covered}
use Rattle.mill_model.specs.Decisions.{Decision}
use Rattle.cert_rules.proofs.Standing.{pieces_are_taken, ends_are_right, running_is_no_failure}
use Rattle.cert_rules.proofs.Verdicts.{ends_are_verdicts}
use Rattle.cert_check.specs.declared.phase.Phase.TheVariants as phases
use Rattle.cert_check.specs.Kept.{Kept, Keeps, is_rest}
use Rattle.cert_check.specs.declared.failure.Failure.{Failure}
use Rattle.cert_check.specs.Whys.{why_of}
use Rattle.cert_check.specs.Readings.{Reading, Runs, Stands, StandsBy, HasBadLine, phase_room, tree_room}
use Rattle.std.specs.Bool.{IsTrue}
use Rattle.std.specs.Option.{is_some}
use Rattle.std.proofs.lemmas.Bool.{false≢true}
use Rattle.cert_check.proofs.States.{proved_state, unfinished_state}

-- ---- phases and states

module _ (m : Mill) (k : Kept) where
  -- a state that has ended has one of the two phases
  pub ended_phase : (state : State) → Keeps m k state → HasEnded state → (k.phase ≡ phases.Proved) ⊎ (k.phase ≡ phases.Unfinished)
  ended_phase (Ended Proved points) h e = inl h.0
  ended_phase (Ended Unfinished points) h e = inr h.0
  ended_phase Begin h e = absurd e
  ended_phase (BetweenPoints version points) h e = absurd e
  ended_phase (InPlan version before sums slabs) h e = absurd e
  ended_phase (InTree goal stage path) h e = absurd e
  ended_phase (InOpenTree points path) h e = absurd e

-- ---- the end

module _ (m : Mill) (wanted : Wanted) (bytes : List ℕ) (r : Reading) (same : r.mill ≡ m) (h : Runs wanted r bytes) where
  abbrev state : State
  state = h.state

  running : IsRunning m wanted bytes h.state r.count r.held
  running = subst (λ x. IsRunning x wanted bytes h.state r.count r.held) same h.running

  -- bytes of a line are left
  pub ends_in_a_line : 0 < length r.held → IsFirstBad m wanted bytes (number_after r.count) why.Spelling
  ends_in_a_line some = here r.held running some
    where
      here : (held : List ℕ) → IsRunning m wanted bytes h.state r.count held → 0 < length held → IsFirstBad m wanted bytes (number_after r.count) why.Spelling
      here [] run some = absurd (omega (arith, some))
      here (b ∷ held) run some = ends_are_right m wanted bytes (Running h.state r.count (b ∷ held)) run

  -- no byte is left, and the text hasn't ended
  pub ends_early : r.held ≡ [] → (r.kept.phase ≡ phases.Proved → ⊥) → (r.kept.phase ≡ phases.Unfinished → ⊥) → IsFirstBad m wanted bytes (number_after r.count) why.End
  ends_early none open_one open_two =
      (ends_are_right m wanted bytes (Running h.state r.count []) (subst (λ held. IsRunning m wanted bytes h.state r.count held) none running)).1 (λ e. elim (ended_phase r.mill r.kept h.state h.keeps e) [
        | inl p ↦ open_one p
        | inr p ↦ open_two p
      ])

module _ (m : Mill) (bytes : List ℕ) (r : Reading) (same : r.mill ≡ m) (limited : IsInLimits m) (h : Runs All r bytes) (none : r.held ≡ []) where
  at_end : (outcome : Outcome) → h.state ≡ Ended outcome (reverse r.kept.points) → IsVerdict m bytes (verdict_of outcome r.kept.points)
  at_end outcome e =
      let run : IsRunning m All bytes h.state r.count [] = subst (λ held. IsRunning m All bytes h.state r.count held) none (subst (λ x. IsRunning x All bytes h.state r.count r.held) same h.running) in
      let found = (ends_are_right m All bytes (Running h.state r.count []) run).0 (subst HasEnded (sym e) tt) in
      subst (λ xs. IsVerdict m bytes (verdict_of outcome xs)) (reverse-reverse r.kept.points) (ends_are_verdicts m bytes found.0 outcome (reverse r.kept.points) limited found.1 (sym found.2 ∙ e))

  pub ends_proved : r.kept.phase ≡ phases.Proved → IsVerdict m bytes (verdict_of Proved r.kept.points)
  ends_proved p = at_end Proved (proved_state r.mill r.kept h.state h.keeps p)

  pub ends_unfinished : r.kept.phase ≡ phases.Unfinished → IsVerdict m bytes (verdict_of Unfinished r.kept.points)
  ends_unfinished p = at_end Unfinished (unfinished_state r.mill r.kept h.state h.keeps p)

-- ---- failures

pub runs_has_no_bad_line : (wanted : Wanted) (r : Reading) (bytes : List ℕ) (n : ℕ) (broken : Why) → Runs wanted r bytes → HasFailed r.mill wanted bytes n broken → ⊥
runs_has_no_bad_line wanted r bytes n broken h k = running_is_no_failure r.mill wanted bytes r.held h.state r.count n broken h.running k

failed_by : (r : Reading) (bytes : List ℕ) (failed : Option Failure) → StandsBy r.wanted r failed bytes → IsTrue (is_some failed) ↔ HasBadLine r.wanted r.mill bytes
failed_by r bytes None h = (λ e. absurd (false≢true e), λ bad. absurd (runs_has_no_bad_line r.wanted r bytes bad.0 bad.1 h bad.2))
failed_by r bytes (Some failure) h = (λ e. (failure.line, why_of failure.why, h.failed), λ bad. refl)

-- a reader has failed exactly where a line is bad
pub failed_exact : (r : Reading) (bytes : List ℕ) → Stands r bytes → IsTrue (is_some r.failed) ↔ HasBadLine r.wanted r.mill bytes
failed_exact r bytes h = failed_by r bytes r.failed h

-- ---- pieces

module _ (wanted : Wanted) (r : Reading) (bytes piece : List ℕ) (h : Runs wanted r bytes) where
  pub not_ended : (r.kept.phase ≡ phases.Proved → ⊥) → (r.kept.phase ≡ phases.Unfinished → ⊥) → HasEnded h.state → ⊥
  not_ended a b e = elim (ended_phase r.mill r.kept h.state h.keeps e) [
    | inl p ↦ a p
    | inr p ↦ b p
  ]

  -- less than a line
  pub part_taken : (r.kept.phase ≡ phases.Proved → ⊥) → (r.kept.phase ≡ phases.Unfinished → ⊥) → IsPart (r.held ++ piece) → Runs wanted (record r { held = r.held ++ piece }) (bytes ++ piece)
  part_taken a b part = record {
    state = h.state;
    keeps = h.keeps;
    running = pieces_are_taken r.mill wanted bytes piece (Running h.state r.count r.held) (Running h.state r.count (r.held ++ piece)) h.running (inr (inl (not_ended a b, part, refl)));
  }

  -- a whole line that keeps its rules
  pub line_taken : (kept : Kept) (line : Line) → (r.kept.phase ≡ phases.Proved → ⊥) → (r.kept.phase ≡ phases.Unfinished → ⊥) → IsWhole (r.held ++ piece) → next_line (r.held ++ piece) ≡ Some (Ok line)
      → AllKept (line_rules r.mill wanted h.state line) → Keeps r.mill kept (line_next r.mill wanted h.state line) → Runs wanted (record r { kept = kept; count = number_after r.count; held = [] }) (bytes ++ piece)
  line_taken kept line a b whole read rules keeps = record {
    state = line_next r.mill wanted h.state line;
    keeps = keeps;
    running = pieces_are_taken r.mill wanted bytes piece (Running h.state r.count r.held) (Running (line_next r.mill wanted h.state line) (number_after r.count) []) h.running
        (inr (inr (not_ended a b, inl (record { whole = whole; line = line; read = read; kept = rules; next_is = refl }))));
  }

  -- a whole line that is bad
  pub bad_taken : (broken : Why) → (r.kept.phase ≡ phases.Proved → ⊥) → (r.kept.phase ≡ phases.Unfinished → ⊥) → IsWhole (r.held ++ piece) → IsBadLine r.mill wanted h.state (next_line (r.held ++ piece)) broken → HasFailed r.mill wanted (bytes ++ piece) (number_after r.count) broken
  bad_taken broken a b whole bad =
      pieces_are_taken r.mill wanted bytes piece (Running h.state r.count r.held) (Failed (number_after r.count) broken) h.running (inr (inr (not_ended a b, inr (record { whole = whole; broken = broken; bad = bad; next_is = refl }))))

  -- a byte after the end
  pub extra_taken : (outcome : Outcome) → h.state ≡ Ended outcome (reverse r.kept.points) → 0 < length piece → HasFailed r.mill wanted (bytes ++ piece) (number_after r.count) why.Extra
  extra_taken outcome e some = pieces_are_taken r.mill wanted bytes piece (Running h.state r.count r.held) (Failed (number_after r.count) why.Extra) h.running (inl (subst HasEnded (sym e) tt, some, refl))

  pub extra_after_proved : r.kept.phase ≡ phases.Proved → 0 < length piece → HasFailed r.mill wanted (bytes ++ piece) (number_after r.count) why.Extra
  extra_after_proved p some = extra_taken Proved (proved_state r.mill r.kept h.state h.keeps p) some

  pub extra_after_cut : r.kept.phase ≡ phases.Unfinished → 0 < length piece → HasFailed r.mill wanted (bytes ++ piece) (number_after r.count) why.Extra
  extra_after_cut p some = extra_taken Unfinished (unfinished_state r.mill r.kept h.state h.keeps p) some

-- ---- room

sum_same : (n : ℕ) (f g : ℕ → ℕ) → ((i : ℕ) → i < n → f i ≡ g i) → sum_below n f ≡ sum_below n g
sum_same zero f g h = refl
sum_same (suc n) f g h = ap₂ (λ a b. a + b) (sum_same n f g (λ i l. h i (omega (arith, l)))) (h n (omega arith))

module _ (m : Mill) (k : Kept) where
  tree_room_is : (owner : Owner) (points : List Sums) → reverse k.points ≡ points → tree_room m k (is_rest owner) ≡ below_node m (asks_left m k.path) + (branch_lines m k.path + owner_lines m owner points)
  tree_room_is OfPoint points e = ap (λ xs. below_node m (asks_left m k.path) + (branch_lines m k.path + owner_lines m OfPoint xs)) e
  tree_room_is OfRest points e = refl

  -- the room by what is kept is that of the state
  pub room_is : (state : State) → Keeps m k state → phase_room m k k.phase ≡ lines_left m state
  room_is Begin h = ap (phase_room m k) h.0
  room_is (BetweenPoints version points) h = ap (phase_room m k) h.0 ∙ ap (rest_lines m) h.2
  room_is (InPlan version before sums slabs) h =
      ap (phase_room m k) h.0
      ∙ ap₂ (λ a xs. a + (tree_lines m [] + rest_lines m xs)) (sum_same (length m.orders) (λ o. cond (get_or k.draft.placed o false) 0 1) (is_unplaced slabs) (λ o l. ap (λ b. cond b 0 1) (h.4.placed o l))) h.2
  room_is (InTree goal Begins path) h = ap (phase_room m k) h.3 ∙ ap (λ a. node_lines m + a) (tree_room_is goal.owner goal.points h.1 ∙ at_path goal.owner goal.points path h.2)
    where
      at_path : (owner : Owner) (points : List Sums) (p : List Decision) → k.path ≡ p → below_node m (asks_left m k.path) + (branch_lines m k.path + owner_lines m owner points) ≡ below_node m (asks_left m p) + (branch_lines m p + owner_lines m owner points)
      at_path owner points p e = ap (λ x. below_node m (asks_left m x) + (branch_lines m x + owner_lines m owner points)) e
  room_is (InTree goal Marked path) h = ap (phase_room m k) h.3 ∙ ap (λ a. 1 + a) (tree_room_is goal.owner goal.points h.1 ∙ ap (λ x. below_node m (asks_left m x) + (branch_lines m x + owner_lines m goal.owner goal.points)) h.2)
  room_is (InTree goal (InSpread d shares) path) h =
      ap (phase_room m k) h.3.0
      ∙ ap₂ (λ a b. 1 + a + b) (ap₂ (λ (z : ℤ) c. length m.orders * unsigned_abs z - c) h.3.1.d_is (sum_same (length m.orders) (λ o. get_or k.tally.covered o 0) (λ o. covered o shares) (λ o l. h.3.1.covered_is o l)))
      (tree_room_is goal.owner goal.points h.1 ∙ ap (λ x. below_node m (asks_left m x) + (branch_lines m x + owner_lines m goal.owner goal.points)) h.2)
  room_is (InOpenTree points path) h = ap (phase_room m k) h.0 ∙ ap (λ x. tree_lines m x + branch_lines m x) h.2
  room_is (Ended Proved points) h = ap (phase_room m k) h.0
  room_is (Ended Unfinished points) h = ap (phase_room m k) h.0
