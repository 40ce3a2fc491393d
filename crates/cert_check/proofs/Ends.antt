-- What a reader says at the end.
use Rattle.std.proofs.Common.{◌≡◌, ℕ, ◌<◌, Bool, true, false, List, [], ◌∷◌, length, reverse, Option, Some, None, refl, sym, subst, ◌∙◌, ap, arith}
use Rattle.mill_model.specs.declared.sums.Sums.{Sums}
use Rattle.cert_view.specs.Held.{IsPart}
use Rattle.cert_view.specs.Line.{next_line}
use Rattle.cert_view.proofs.Buffers.{read-unended}
use Rattle.cert_rules.specs.States.State.{Ended}
use Rattle.cert_rules.specs.Reading.{HasEnded, number_after}
use Rattle.cert_rules.specs.Stands.{IsRunning}
use Rattle.cert_rules.specs.Stands.Progress.{Running, Failed}
use Rattle.cert_rules.proofs.Standing.{ends_are_right}
use Rattle.cert_check.specs.declared.ending.Ending.{Ending}
use Rattle.cert_check.specs.declared.ending.Ending.TheVariants as endings
use Rattle.cert_check.specs.declared.failure.Failure.{Failure}
use Rattle.cert_check.specs.declared.line_why.LineWhy.TheVariants as carried
use Rattle.cert_check.specs.Whys.{why_of}
use Rattle.cert_check.specs.Held.{IsOver, line_of_read}
use Rattle.cert_check.specs.Endings.{HasAccepted, IsEndingOf, outcome_of, points_of}
use Rattle.cert_check.specs.Verdicts.{IsBadAt}
use Rattle.cert_check.specs.Readings.{Reading, Runs, Fails, Stands, StandsBy}
use Rattle.cert_check.proofs.States.{proved_state, unfinished_state}
use Rattle.cert_check.proofs.Readings.{ends_in_a_line, ends_early}

pub not_both : (b : Bool) → b ≡ false → b ≡ true → ⊥
not_both b e f = cc

-- ---- the line that was read last

nothing_read : next_line [] ≡ None
unfolding next_line
nothing_read = refl

-- a part of a line is none
pub part_is_unread : (held : List ℕ) → IsPart held → line_of_read (next_line held) ≡ None
part_is_unread [] part = ap line_of_read nothing_read
part_is_unread (b ∷ held) part = ap line_of_read (read-unended (b ∷ held) (omega arith) (omega (arith, part.no_feed)))

-- ---- the end

empty : (xs : List ℕ) → (0 < length xs → ⊥) → xs ≡ []
empty [] none = refl
empty (x ∷ xs) none = absurd (none (omega arith))

module _ (r : Reading) (bytes : List ℕ) where
  -- a line was bad
  pub ends_failed : (failure : Failure) → r.failed ≡ Some failure → Stands r bytes → IsBadAt r.mill r.wanted bytes failure.line failure.why
  ends_failed failure e h =
      let fails : Fails r.wanted r.mill failure bytes = subst (λ (f : Option Failure). StandsBy r.wanted r f bytes) e h in
      record { first = ends_are_right r.mill r.wanted bytes (Failed failure.line (why_of failure.why)) fails.failed; column = fails.column }

  module _ (e : r.failed ≡ None) where
    runs : Stands r bytes → Runs r.wanted r bytes
    runs h = subst (λ (f : Option Failure). StandsBy r.wanted r f bytes) e h

    -- a part of a line is left
    pub ends_with_part : (failure : Failure) → 0 < length r.held → failure ≡ record { line = number_after r.count; why = carried.Spelling } → Stands r bytes
        → IsBadAt r.mill r.wanted bytes failure.line failure.why
    ends_with_part failure some is h =
        subst (λ (f : Failure). IsBadAt r.mill r.wanted bytes f.line f.why) (sym is)
        (record { first = ends_in_a_line r.mill r.wanted bytes r refl (runs h) some; column = tt })

    module _ (none : 0 < length r.held → ⊥) where
      -- the text hasn't ended
      pub ends_unended : (failure : Failure) → (IsOver r.kept.phase → ⊥) → failure ≡ record { line = number_after r.count; why = carried.End } → Stands r bytes
          → IsBadAt r.mill r.wanted bytes failure.line failure.why
      ends_unended failure going is h =
          subst (λ (f : Failure). IsBadAt r.mill r.wanted bytes f.line f.why) (sym is)
          (record { first = ends_early r.mill r.wanted bytes r refl (runs h) (empty r.held none) (λ p. going (subst IsOver (sym p) tt)) (λ p. going (subst IsOver (sym p) tt)); column = tt })

      accepted_by : (ending : Ending) (points : List Sums) → points ≡ points_of ending → (h : Runs r.wanted r bytes) → h.state ≡ Ended (outcome_of ending) (reverse points) → HasAccepted r bytes ending
      accepted_by ending points same h is =
          let run : IsRunning r.mill r.wanted bytes h.state r.count [] = subst (λ held. IsRunning r.mill r.wanted bytes h.state r.count held) (empty r.held none) h.running in
          let found = (ends_are_right r.mill r.wanted bytes (Running h.state r.count []) run).0 (subst HasEnded (sym is) tt) in
          record { lines = found.0; accepted = found.1; ends = sym found.2 ∙ (is ∙ ap (λ (xs : List Sums). Ended (outcome_of ending) (reverse xs)) same); held = empty r.held none }

      -- the text has ended
      pub ends_accepted : (ending : Ending) → IsEndingOf r.kept ending → Stands r bytes → HasAccepted r bytes ending
      ends_accepted (endings.Proved points) is h = accepted_by (endings.Proved points) r.kept.points (sym is.1) (runs h) (proved_state r.mill r.kept (runs h).state (runs h).keeps is.0)
      ends_accepted (endings.Unfinished points) is h = accepted_by (endings.Unfinished points) r.kept.points (sym is.1) (runs h) (unfinished_state r.mill r.kept (runs h).state (runs h).keeps is.0)
