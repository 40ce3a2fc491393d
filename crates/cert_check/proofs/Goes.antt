-- What becomes of what is kept, line by line.
use Rattle.std.proofs.Common.{◌≡◌, ◌⊎◌, ℤ, unsigned_abs, Bool, true, false, inl, inr, List, [], ◌∷◌, ◌++◌, reverse, Some, None, Result, Ok, Err, OnOk, IfErr, refl, sym, ap, ◌∙◌, subst}
use Rattle.mill_model.specs.declared.sums.Sums.{Sums}
use Rattle.mill_model.specs.declared.version.Version.{Version}
use Rattle.mill_model.specs.declared.version.Version.TheVariants.{One, Two}
use Rattle.mill_model.specs.Mill.{Mill}
use Rattle.mill_model.specs.Columns.{Column}
use Rattle.mill_model.specs.Decisions.{Decision}
use Rattle.mill_model.specs.Paths.{next_branch}
use Rattle.mill_model.specs.Shares.{Share}
use Rattle.cert_view.specs.declared.line.Line.{Line}
use Rattle.cert_view.specs.declared.line.Line.TheVariants as lines
use Rattle.cert_rules.specs.declared.why.Why.{Why}
use Rattle.cert_rules.specs.declared.why.Why.TheVariants as why
use Rattle.cert_rules.specs.Rules.{Rule, AllKept, FirstBroken}
use Rattle.cert_rules.specs.Numbers.{number_at}
use Rattle.cert_rules.specs.States.{Goal, State, latest, limits_of, tree_limits, after_owner, after_tree, branch_or}
use Rattle.cert_rules.specs.States.Wanted.{All, Cuts}
use Rattle.cert_rules.specs.States.Owner.{OfPoint}
use Rattle.cert_rules.specs.States.Outcome.{Proved, Unfinished}
use Rattle.cert_rules.specs.States.Stage.{Begins, Marked, InSpread}
use Rattle.cert_rules.specs.States.State.{Begin, BetweenPoints, InPlan, InTree, InOpenTree, Ended}
use Rattle.cert_rules.specs.Leaves.{leaf_rules}
use Rattle.cert_rules.specs.Slabs.{sums_of_line, point_rules, new_slab, new_rules, old_slab, old_rules, plan_rules}
use Rattle.cert_rules.specs.Spreads.{spread_rules, share_of_new, new_share_rules, share_of_old, old_share_rules, cover_rules}
use Rattle.cert_rules.specs.Turns.{Turn, rules_of, next_of, turn, turn_to_ask, turn_to_leaf, turn_at_start, turn_in_spread, turn_in_plan, turn_between, turn_at_begin, turn_after_shares, turn_in_open_tree, line_rules, line_next, with_rules}
use Rattle.cert_rules.specs.Turns.Turn.{Refused, Taken}
use Rattle.cert_rules.proofs.Steps.{with_back}
use Rattle.cert_slabs.specs.Drafts.{IsDraft}
use Rattle.cert_slabs.specs.Tallies.{IsTally}
use Rattle.cert_check.specs.declared.phase.Phase.TheVariants as phases
use Rattle.cert_check.specs.Kept.{Kept, Keeps, is_rest, owner_of}
use Rattle.cert_check.specs.Lines.{can_begin, IsNoSlab, IsNoLeaf, IsNoShare, IsNoOpen, is_ask, IsAsked, IsNotAsked}
use Rattle.cert_check.specs.Readings.{Machine, GoesOn, IsRefused, IsTurn}
use Rattle.cert_check.proofs.States.{goal_of, begin_state, between_state, IsPlanState, plan_state, tree_state, question_state, IsSpreadState, spread_state, open_state, proved_state, unfinished_state}

-- ---- the state of a phase

module _ (old new : Machine) (line : Line) where
  abbrev m : Mill
  m = old.mill

  abbrev k : Kept
  k = old.kept

  pub goes_at : (at : State) → ((state : State) → Keeps m k state → state ≡ at) → AllKept (line_rules m old.wanted at line) → Keeps m new.kept (line_next m old.wanted at line) → GoesOn old new line
  goes_at at only kept keeps state h = subst (λ s. AllKept (line_rules m old.wanted s line) × Keeps m new.kept (line_next m old.wanted s line)) (sym (only state h)) (kept, keeps)

  pub refused_at : (at : State) (broken : Why) → ((state : State) → Keeps m k state → state ≡ at) → FirstBroken (line_rules m old.wanted at line) broken → IsRefused old line broken
  refused_at at broken only first state h = subst (λ s. FirstBroken (line_rules m old.wanted s line) broken) (sym (only state h)) first

  -- the line can't stand there
  pub unexpected_at : (at : State) → ((state : State) → Keeps m k state → state ≡ at) → turn m old.wanted at line ≡ Refused → IsRefused old line why.Expect
  unexpected_at at only refused = refused_at at why.Expect only (subst (λ t. FirstBroken (rules_of t) why.Expect) (sym refused) (inl (λ x. x, refl)))

-- ---- the header

module _ (old new : Machine) (at : old.kept.phase ≡ phases.Begin) where
  in_begin : (state : State) → Keeps old.mill old.kept state → state ≡ Begin
  in_begin state h = (begin_state old.mill old.kept state h at).0

  between_from : (version : Version) → new.kept.phase ≡ phases.Between → new.kept.version ≡ version → new.kept.points ≡ old.kept.points → new.kept.path ≡ old.kept.path → (state : State) → Keeps old.mill old.kept state → Keeps old.mill new.kept (BetweenPoints version [])
  between_from version phase v points path state h = let s = begin_state old.mill old.kept state h at in (phase, v, ap reverse (points ∙ s.1), path ∙ s.2)

  pub header_goes : new.kept.phase ≡ phases.Between → new.kept.version ≡ One → new.kept.points ≡ old.kept.points → new.kept.path ≡ old.kept.path → GoesOn old new lines.Header
  header_goes phase v points path state h = subst (λ s. AllKept (line_rules old.mill old.wanted s lines.Header) × Keeps old.mill new.kept (line_next old.mill old.wanted s lines.Header)) (sym (in_begin state h)) (tt, between_from One phase v points path state h)

  pub header2_goes : new.kept.phase ≡ phases.Between → new.kept.version ≡ Two → new.kept.points ≡ old.kept.points → new.kept.path ≡ old.kept.path → GoesOn old new lines.Header2
  header2_goes phase v points path state h = subst (λ s. AllKept (line_rules old.mill old.wanted s lines.Header2) × Keeps old.mill new.kept (line_next old.mill old.wanted s lines.Header2)) (sym (in_begin state h)) (tt, between_from Two phase v points path state h)

  pub begin_unexpected : (line : Line) → turn_at_begin line ≡ Refused → IsRefused old line why.Expect
  begin_unexpected line = unexpected_at old new line Begin in_begin

-- ---- between points

module _ (old new : Machine) (at : old.kept.phase ≡ phases.Between) where
  abbrev points : List Sums
  points = reverse old.kept.points

  in_between : (state : State) → Keeps old.mill old.kept state → state ≡ BetweenPoints old.kept.version points
  in_between state h = (between_state old.mill old.kept state h at).0

  no_path : (state : State) → Keeps old.mill old.kept state → old.kept.path ≡ []
  no_path state h = (between_state old.mill old.kept state h at).1

  pub point_goes : (ns : List ℤ) → AllKept (point_rules (latest points) ns) → new.kept.phase ≡ phases.Plan → new.kept.version ≡ old.kept.version → reverse new.kept.points ≡ sums_of_line ns ∷ points → new.kept.path ≡ old.kept.path → IsDraft old.mill [] new.kept.draft → GoesOn old new (lines.Point ns)
  point_goes ns kept phase v ps path draft state h = subst (λ s. AllKept (line_rules old.mill old.wanted s (lines.Point ns)) × Keeps old.mill new.kept (line_next old.mill old.wanted s (lines.Point ns))) (sym (in_between state h)) (kept, (phase, v, ps, path ∙ no_path state h, draft))

  pub point_refused : (ns : List ℤ) (broken : Why) → FirstBroken (point_rules (latest points) ns) broken → IsRefused old (lines.Point ns) broken
  point_refused ns broken f = refused_at old new (lines.Point ns) (BetweenPoints old.kept.version points) broken in_between f

  pub done_goes : old.wanted ≡ All → new.kept.phase ≡ phases.Tree true → new.kept.version ≡ old.kept.version → new.kept.points ≡ old.kept.points → new.kept.path ≡ old.kept.path → GoesOn old new lines.Done
  done_goes all phase v ps path state h = subst (λ s. AllKept (line_rules old.mill old.wanted s lines.Done) × Keeps old.mill new.kept (line_next old.mill old.wanted s lines.Done)) (sym (in_between state h)) (subst (λ w. AllKept (line_rules old.mill w (BetweenPoints old.kept.version points) lines.Done) × Keeps old.mill new.kept (line_next old.mill w (BetweenPoints old.kept.version points) lines.Done)) (sym all) (tt, (v, ap reverse ps, path ∙ no_path state h, phase)))

  pub done_refused : old.wanted ≡ Cuts → IsRefused old lines.Done why.Expect
  done_refused cuts = unexpected_at old new lines.Done (BetweenPoints old.kept.version points) in_between (ap (λ w. turn old.mill w (BetweenPoints old.kept.version points) lines.Done) cuts)

  pub cut_goes : new.kept.phase ≡ phases.Open → new.kept.points ≡ old.kept.points → new.kept.path ≡ old.kept.path → GoesOn old new lines.Cut
  cut_goes phase ps path state h = subst (λ s. AllKept (line_rules old.mill old.wanted s lines.Cut) × Keeps old.mill new.kept (line_next old.mill old.wanted s lines.Cut)) (sym (in_between state h)) (tt, (phase, ap reverse ps, path ∙ no_path state h))

  pub between_unexpected : (line : Line) → turn_between old.wanted old.kept.version points line ≡ Refused → IsRefused old line why.Expect
  between_unexpected line = unexpected_at old new line (BetweenPoints old.kept.version points) in_between

-- ---- in a plan

plan_turn : (m : Mill) (version : Version) (before : List Sums) (sums : Sums) (slabs : List Column) (line : Line) → IsNoSlab line → turn_in_plan m version before sums slabs line ≡ with_rules (plan_rules m sums slabs) (turn_at_start m (record { version = version; owner = OfPoint; points = sums ∷ before }) version [] line)
plan_turn m version before sums slabs lines.Header h = refl
plan_turn m version before sums slabs lines.Header2 h = refl
plan_turn m version before sums slabs (lines.Point ns) h = refl
plan_turn m version before sums slabs (lines.New ns) h = absurd h
plan_turn m version before sums slabs (lines.Old ns) h = absurd h
plan_turn m version before sums slabs (lines.Pair ns) h = refl
plan_turn m version before sums slabs (lines.Put ns) h = refl
plan_turn m version before sums slabs (lines.Leaf ns) h = refl
plan_turn m version before sums slabs lines.Done h = refl
plan_turn m version before sums slabs lines.Cut h = refl
plan_turn m version before sums slabs lines.Open h = refl
plan_turn m version before sums slabs lines.Bare h = refl
plan_turn m version before sums slabs lines.Plain h = refl
plan_turn m version before sums slabs (lines.Spread ns) h = refl
plan_turn m version before sums slabs (lines.CNew ns) h = refl
plan_turn m version before sums slabs (lines.COld ns) h = refl

module _ (old new : Machine) (at : old.kept.phase ≡ phases.Plan) where
  abbrev plan : (state : State) → Keeps old.mill old.kept state → IsPlanState old.mill old.kept state
  plan state h = plan_state old.mill old.kept state h at

  abbrev in_plan : (state : State) → IsPlanState old.mill old.kept state → State
  in_plan state s = InPlan old.kept.version s.before s.sums s.slabs

  pub new_goes : (ns : List ℤ) → ((slabs : List Column) → IsDraft old.mill slabs old.kept.draft → AllKept (new_rules old.mill slabs ns)) → ((slabs : List Column) → IsDraft old.mill slabs old.kept.draft → IsDraft old.mill (slabs ++ new_slab ns ∷ []) new.kept.draft)
      → new.kept.phase ≡ old.kept.phase → new.kept.version ≡ old.kept.version → new.kept.points ≡ old.kept.points → new.kept.path ≡ old.kept.path → GoesOn old new (lines.New ns)
  new_goes ns kept draft phase v ps path state h =
      let s = plan state h in
      subst (λ x. AllKept (line_rules old.mill old.wanted x (lines.New ns)) × Keeps old.mill new.kept (line_next old.mill old.wanted x (lines.New ns))) (sym s.is)
      (kept s.slabs s.draft, (phase ∙ at, v, ap reverse ps ∙ s.points, path ∙ s.path, draft s.slabs s.draft))

  pub old_goes : (ns : List ℤ) → ((slabs : List Column) → IsDraft old.mill slabs old.kept.draft → AllKept (old_rules old.mill slabs ns)) → ((slabs : List Column) → IsDraft old.mill slabs old.kept.draft → IsDraft old.mill (slabs ++ old_slab ns ∷ []) new.kept.draft)
      → new.kept.phase ≡ old.kept.phase → new.kept.version ≡ old.kept.version → new.kept.points ≡ old.kept.points → new.kept.path ≡ old.kept.path → GoesOn old new (lines.Old ns)
  old_goes ns kept draft phase v ps path state h =
      let s = plan state h in
      subst (λ x. AllKept (line_rules old.mill old.wanted x (lines.Old ns)) × Keeps old.mill new.kept (line_next old.mill old.wanted x (lines.Old ns))) (sym s.is)
      (kept s.slabs s.draft, (phase ∙ at, v, ap reverse ps ∙ s.points, path ∙ s.path, draft s.slabs s.draft))

  refused_in_plan : (line : Line) (broken : Why) → ((state : State) (s : IsPlanState old.mill old.kept state) → FirstBroken (line_rules old.mill old.wanted (in_plan state s) line) broken) → IsRefused old line broken
  refused_in_plan line broken f state h = let s = plan state h in subst (λ x. FirstBroken (line_rules old.mill old.wanted x line) broken) (sym s.is) (f state s)

  pub new_refused : (ns : List ℤ) (broken : Why) → ((slabs : List Column) → IsDraft old.mill slabs old.kept.draft → FirstBroken (new_rules old.mill slabs ns) broken) → IsRefused old (lines.New ns) broken
  new_refused ns broken f = refused_in_plan (lines.New ns) broken (λ state s. f s.slabs s.draft)

  pub old_refused : (ns : List ℤ) (broken : Why) → ((slabs : List Column) → IsDraft old.mill slabs old.kept.draft → FirstBroken (old_rules old.mill slabs ns) broken) → IsRefused old (lines.Old ns) broken
  old_refused ns broken f = refused_in_plan (lines.Old ns) broken (λ state s. f s.slabs s.draft)

-- ---- the line after a plan

pub cannot_begin : (m : Mill) (goal : Goal) (version : Version) (path : List Decision) (line : Line) → can_begin version line ≡ false → turn_at_start m goal version path line ≡ Refused
cannot_begin m goal One path lines.Header h = refl
cannot_begin m goal One path lines.Header2 h = refl
cannot_begin m goal One path (lines.Point ns) h = refl
cannot_begin m goal One path (lines.New ns) h = refl
cannot_begin m goal One path (lines.Old ns) h = refl
cannot_begin m goal One path (lines.Pair ns) h = cc
cannot_begin m goal One path (lines.Put ns) h = cc
cannot_begin m goal One path (lines.Leaf ns) h = cc
cannot_begin m goal One path lines.Done h = refl
cannot_begin m goal One path lines.Cut h = refl
cannot_begin m goal One path lines.Open h = refl
cannot_begin m goal One path lines.Bare h = refl
cannot_begin m goal One path lines.Plain h = refl
cannot_begin m goal One path (lines.Spread ns) h = refl
cannot_begin m goal One path (lines.CNew ns) h = refl
cannot_begin m goal One path (lines.COld ns) h = refl
cannot_begin m goal Two path lines.Header h = refl
cannot_begin m goal Two path lines.Header2 h = refl
cannot_begin m goal Two path (lines.Point ns) h = refl
cannot_begin m goal Two path (lines.New ns) h = refl
cannot_begin m goal Two path (lines.Old ns) h = refl
cannot_begin m goal Two path (lines.Pair ns) h = refl
cannot_begin m goal Two path (lines.Put ns) h = refl
cannot_begin m goal Two path (lines.Leaf ns) h = cc
cannot_begin m goal Two path lines.Done h = refl
cannot_begin m goal Two path lines.Cut h = refl
cannot_begin m goal Two path lines.Open h = refl
cannot_begin m goal Two path lines.Bare h = cc
cannot_begin m goal Two path lines.Plain h = cc
cannot_begin m goal Two path (lines.Spread ns) h = cc
cannot_begin m goal Two path (lines.CNew ns) h = refl
cannot_begin m goal Two path (lines.COld ns) h = refl

abbrev IsTaken : Turn → Type 0
IsTaken Refused = ⊥
IsTaken (Taken rules next) = Unit {0}

begins : (m : Mill) (goal : Goal) (version : Version) (path : List Decision) (line : Line) → can_begin version line ≡ true → IsTaken (turn_at_start m goal version path line)
begins m goal One path lines.Header h = cc
begins m goal One path lines.Header2 h = cc
begins m goal One path (lines.Point ns) h = cc
begins m goal One path (lines.New ns) h = cc
begins m goal One path (lines.Old ns) h = cc
begins m goal One path (lines.Pair ns) h = tt
begins m goal One path (lines.Put ns) h = tt
begins m goal One path (lines.Leaf ns) h = tt
begins m goal One path lines.Done h = cc
begins m goal One path lines.Cut h = cc
begins m goal One path lines.Open h = cc
begins m goal One path lines.Bare h = cc
begins m goal One path lines.Plain h = cc
begins m goal One path (lines.Spread ns) h = cc
begins m goal One path (lines.CNew ns) h = cc
begins m goal One path (lines.COld ns) h = cc
begins m goal Two path lines.Header h = cc
begins m goal Two path lines.Header2 h = cc
begins m goal Two path (lines.Point ns) h = cc
begins m goal Two path (lines.New ns) h = cc
begins m goal Two path (lines.Old ns) h = cc
begins m goal Two path (lines.Pair ns) h = cc
begins m goal Two path (lines.Put ns) h = cc
begins m goal Two path (lines.Leaf ns) h = tt
begins m goal Two path lines.Done h = cc
begins m goal Two path lines.Cut h = cc
begins m goal Two path lines.Open h = cc
begins m goal Two path lines.Bare h = tt
begins m goal Two path lines.Plain h = tt
begins m goal Two path (lines.Spread ns) h = tt
begins m goal Two path (lines.CNew ns) h = cc
begins m goal Two path (lines.COld ns) h = cc

-- the rules before those of a line
before_broken : (before : List Rule) (t : Turn) (broken : Why) → IsTaken t → FirstBroken before broken → FirstBroken (rules_of (with_rules before t)) broken
before_broken before Refused broken h f = absurd h
before_broken before (Taken rules next) broken h f = first_of before rules f
  where
    first_of : (xs ys : List Rule) → FirstBroken xs broken → FirstBroken (xs ++ ys) broken
    first_of [] ys f = absurd f
    first_of (r ∷ xs) ys f = elim f [
      | inl x ↦ inl x
      | inr x ↦ inr (x.0, first_of xs ys x.1)
    ]

after_broken : (before : List Rule) (t : Turn) (broken : Why) → AllKept before → FirstBroken (rules_of t) broken → FirstBroken (rules_of (with_rules before t)) broken
after_broken before Refused broken k f = f
after_broken before (Taken rules next) broken k f = later before k
  where
    later : (xs : List Rule) → AllKept xs → FirstBroken (xs ++ rules) broken
    later [] k = f
    later (r ∷ xs) k = inr (k.0, later xs k.1)

module _ (old mid new : Machine) (line : Line) (at : old.kept.phase ≡ phases.Plan) (other : IsNoSlab line) where
  abbrev here : (state : State) → Keeps old.mill old.kept state → IsPlanState old.mill old.kept state
  here state h = plan_state old.mill old.kept state h at

  abbrev goal_at : (state : State) → IsPlanState old.mill old.kept state → Goal
  goal_at state s = record { version = old.kept.version; owner = OfPoint; points = s.sums ∷ s.before }

  abbrev start_at : (state : State) → IsPlanState old.mill old.kept state → Turn
  start_at state s = turn_at_start old.mill (goal_at state s) old.kept.version [] line

  turn_is : (state : State) (s : IsPlanState old.mill old.kept state) → turn old.mill old.wanted state line ≡ with_rules (plan_rules old.mill s.sums s.slabs) (start_at state s)
  turn_is state s = ap (λ x. turn old.mill old.wanted x line) s.is ∙ plan_turn old.mill old.kept.version s.before s.sums s.slabs line other

  pub plan_unexpected : can_begin old.kept.version line ≡ false → IsRefused old line why.Expect
  plan_unexpected cannot state h = let s = here state h in
      subst (λ t. FirstBroken (rules_of t) why.Expect) (sym (turn_is state s ∙ ap (with_rules (plan_rules old.mill s.sums s.slabs)) (cannot_begin old.mill (goal_at state s) old.kept.version [] line cannot))) (inl (λ x. x, refl))

  pub plan_refused : (broken : Why) → can_begin old.kept.version line ≡ true → ((before : List Sums) (sums : Sums) (slabs : List Column) → reverse old.kept.points ≡ sums ∷ before → IsDraft old.mill slabs old.kept.draft → FirstBroken (plan_rules old.mill sums slabs) broken) → IsRefused old line broken
  plan_refused broken can f state h = let s = here state h in let first = f s.before s.sums s.slabs s.points s.draft in
      subst (λ t. FirstBroken (rules_of t) broken) (sym (turn_is state s)) (before_broken (plan_rules old.mill s.sums s.slabs) (start_at state s) broken (begins old.mill (goal_at state s) old.kept.version [] line can) first)

  module _ (mill : mid.mill ≡ old.mill) (wanted : mid.wanted ≡ old.wanted) (phase : mid.kept.phase ≡ phases.Tree false) (version : mid.kept.version ≡ old.kept.version) (points : mid.kept.points ≡ old.kept.points) (path : mid.kept.path ≡ old.kept.path)
      (planned : (before : List Sums) (sums : Sums) (slabs : List Column) → reverse old.kept.points ≡ sums ∷ before → IsDraft old.mill slabs old.kept.draft → AllKept (plan_rules old.mill sums slabs)) where
    mid_keeps : (state : State) (s : IsPlanState old.mill old.kept state) → Keeps mid.mill mid.kept (InTree (goal_at state s) Begins [])
    mid_keeps state s = (version, ap reverse points ∙ s.points, path ∙ s.path, phase)

    pub plan_goes : GoesOn mid new line → GoesOn old new line
    plan_goes goes state h =
        let s = here state h in
        let g = goes (InTree (goal_at state s) Begins []) (mid_keeps state s) in
        let kept : AllKept (rules_of (start_at state s)) = subst (λ m. AllKept (rules_of (turn_at_start m (goal_at state s) old.kept.version [] line))) mill g.0 in
        let keeps : Keeps old.mill new.kept (next_of (InTree (goal_at state s) Begins []) (start_at state s)) = subst (λ m. Keeps m new.kept (next_of (InTree (goal_at state s) Begins []) (turn_at_start m (goal_at state s) old.kept.version [] line))) mill g.1 in
        let both = with_back (plan_rules old.mill s.sums s.slabs) (start_at state s) (planned s.before s.sums s.slabs s.points s.draft) kept in (
          subst (λ t. AllKept (rules_of t)) (sym (turn_is state s)) both.0,
          subst (λ t. Keeps old.mill new.kept (next_of state t)) (sym (turn_is state s)) (subst (λ x. Keeps old.mill new.kept x) (sym (both.1 state (InTree (goal_at state s) Begins []))) keeps),
        )

    pub plan_then_refused : (broken : Why) → IsRefused mid line broken → IsRefused old line broken
    plan_then_refused broken refused state h =
        let s = here state h in
        let g = refused (InTree (goal_at state s) Begins []) (mid_keeps state s) in
        let first : FirstBroken (rules_of (start_at state s)) broken = subst (λ m. FirstBroken (rules_of (turn_at_start m (goal_at state s) old.kept.version [] line)) broken) mill g in
        subst (λ t. FirstBroken (rules_of t) broken) (sym (turn_is state s)) (after_broken (plan_rules old.mill s.sums s.slabs) (start_at state s) broken (planned s.before s.sums s.slabs s.points s.draft) first)

    pub plan_turned : (r : Result (Unit {0}) Why) → IsTurn mid new line r → IsTurn old new line r
    plan_turned (Ok done) turned = plan_goes turned
    plan_turned (Err broken) refused = plan_then_refused broken refused

-- ---- questions

no_ask : (m : Mill) (at : List Decision → State) (before : List Rule) (path : List Decision) (line : Line) → is_ask line ≡ false → turn_to_ask m at before path line ≡ Refused
no_ask m at before path lines.Header h = refl
no_ask m at before path lines.Header2 h = refl
no_ask m at before path (lines.Point ns) h = refl
no_ask m at before path (lines.New ns) h = refl
no_ask m at before path (lines.Old ns) h = refl
no_ask m at before path (lines.Pair ns) h = cc
no_ask m at before path (lines.Put ns) h = cc
no_ask m at before path (lines.Leaf ns) h = refl
no_ask m at before path lines.Done h = refl
no_ask m at before path lines.Cut h = refl
no_ask m at before path lines.Open h = refl
no_ask m at before path lines.Bare h = refl
no_ask m at before path lines.Plain h = refl
no_ask m at before path (lines.Spread ns) h = refl
no_ask m at before path (lines.CNew ns) h = refl
no_ask m at before path (lines.COld ns) h = refl

-- with rules before its own
ask_before : (m : Mill) (at : List Decision → State) (before : List Rule) (path : List Decision) (line : Line) → is_ask line ≡ true → turn_to_ask m at before path line ≡ with_rules before (turn_to_ask m at [] path line)
ask_before m at before path lines.Header h = cc
ask_before m at before path lines.Header2 h = cc
ask_before m at before path (lines.Point ns) h = cc
ask_before m at before path (lines.New ns) h = cc
ask_before m at before path (lines.Old ns) h = cc
ask_before m at before path (lines.Pair ns) h = refl
ask_before m at before path (lines.Put ns) h = refl
ask_before m at before path (lines.Leaf ns) h = cc
ask_before m at before path lines.Done h = cc
ask_before m at before path lines.Cut h = cc
ask_before m at before path lines.Open h = cc
ask_before m at before path lines.Bare h = cc
ask_before m at before path lines.Plain h = cc
ask_before m at before path (lines.Spread ns) h = cc
ask_before m at before path (lines.CNew ns) h = cc
ask_before m at before path (lines.COld ns) h = cc

ask_taken : (m : Mill) (at : List Decision → State) (path : List Decision) (line : Line) → is_ask line ≡ true → IsTaken (turn_to_ask m at [] path line)
ask_taken m at path lines.Header h = cc
ask_taken m at path lines.Header2 h = cc
ask_taken m at path (lines.Point ns) h = cc
ask_taken m at path (lines.New ns) h = cc
ask_taken m at path (lines.Old ns) h = cc
ask_taken m at path (lines.Pair ns) h = tt
ask_taken m at path (lines.Put ns) h = tt
ask_taken m at path (lines.Leaf ns) h = cc
ask_taken m at path lines.Done h = cc
ask_taken m at path lines.Cut h = cc
ask_taken m at path lines.Open h = cc
ask_taken m at path lines.Bare h = cc
ask_taken m at path lines.Plain h = cc
ask_taken m at path (lines.Spread ns) h = cc
ask_taken m at path (lines.CNew ns) h = cc
ask_taken m at path (lines.COld ns) h = cc

module _ (old new : Machine) (line : Line) (here : State) (only : (state : State) → Keeps old.mill old.kept state → state ≡ here) (at : List Decision → State) (is : turn old.mill old.wanted here line ≡ turn_to_ask old.mill at [] old.kept.path line) where
  pub ask_goes : IsAsked old.mill old.kept.path new.kept.path line → Keeps old.mill new.kept (at new.kept.path) → GoesOn old new line
  ask_goes asked keeps = goes_at old new line here only
      (subst (λ t. AllKept (rules_of t)) (sym is) (asked.kept at))
      (subst (λ t. Keeps old.mill new.kept (next_of here t)) (sym is) (subst (λ x. Keeps old.mill new.kept x) (sym (asked.next_is at here)) keeps))

  pub ask_refused : (broken : Why) → IsNotAsked old.mill old.kept.path line broken → IsRefused old line broken
  ask_refused broken f = refused_at old new line here broken only
      (subst (λ t. FirstBroken (rules_of t) broken) (sym is) (f at))

-- ---- where a tree begins

rest_is : (rest : Bool) → rest ≡ is_rest (owner_of rest)
rest_is false = refl
rest_is true = refl

leaf_turn : (m : Mill) (goal : Goal) (version : Version) (path : List Decision) (ns : List ℤ) → turn_at_start m goal version path (lines.Leaf ns) ≡ turn_to_leaf m goal path ns
leaf_turn m goal One path ns = refl
leaf_turn m goal Two path ns = refl

unmarked_turn : (m : Mill) (goal : Goal) (path : List Decision) (line : Line) → IsNoLeaf line → turn_at_start m goal One path line ≡ turn_to_ask m (InTree goal Begins) [] path line
unmarked_turn m goal path lines.Header h = refl
unmarked_turn m goal path lines.Header2 h = refl
unmarked_turn m goal path (lines.Point ns) h = refl
unmarked_turn m goal path (lines.New ns) h = refl
unmarked_turn m goal path (lines.Old ns) h = refl
unmarked_turn m goal path (lines.Pair ns) h = refl
unmarked_turn m goal path (lines.Put ns) h = refl
unmarked_turn m goal path (lines.Leaf ns) h = absurd h
unmarked_turn m goal path lines.Done h = refl
unmarked_turn m goal path lines.Cut h = refl
unmarked_turn m goal path lines.Open h = refl
unmarked_turn m goal path lines.Bare h = refl
unmarked_turn m goal path lines.Plain h = refl
unmarked_turn m goal path (lines.Spread ns) h = refl
unmarked_turn m goal path (lines.CNew ns) h = refl
unmarked_turn m goal path (lines.COld ns) h = refl

module _ (old new : Machine) (rest : Bool) where
  abbrev goal : Goal
  goal = goal_of old.kept rest

  -- in a tree as before
  pub stays_in_tree : new.kept.version ≡ old.kept.version → new.kept.points ≡ old.kept.points → new.kept.phase ≡ phases.Tree rest → Keeps old.mill new.kept (InTree goal Begins new.kept.path)
  stays_in_tree v ps phase = (v, ap reverse ps, refl, phase ∙ ap phases.Tree (rest_is rest))

  abbrev after_leaf : State
  after_leaf = branch_or (after_tree goal) (InTree goal Begins) (next_branch old.kept.path)

  -- a branch is left
  pub to_branch : new.kept.version ≡ old.kept.version → new.kept.points ≡ old.kept.points → new.kept.phase ≡ phases.Tree rest → next_branch old.kept.path ≡ Some new.kept.path → Keeps old.mill new.kept after_leaf
  to_branch v ps phase e = subst (λ o. Keeps old.mill new.kept (branch_or (after_tree goal) (InTree goal Begins) o)) (sym e) (stays_in_tree v ps phase)

  -- the tree has ended
  pub to_points : rest ≡ false → new.kept.version ≡ old.kept.version → new.kept.points ≡ old.kept.points → new.kept.phase ≡ phases.Between → new.kept.path ≡ [] → next_branch old.kept.path ≡ None → Keeps old.mill new.kept after_leaf
  to_points r v ps phase path e = subst (λ o. Keeps old.mill new.kept (branch_or (after_tree goal) (InTree goal Begins) o)) (sym e)
      (subst (λ r. Keeps old.mill new.kept (after_owner (owner_of r) old.kept.version (reverse old.kept.points))) (sym r) (phase, v, ap reverse ps, path))

  pub to_proved : rest ≡ true → new.kept.points ≡ old.kept.points → new.kept.phase ≡ phases.Proved → new.kept.path ≡ [] → next_branch old.kept.path ≡ None → Keeps old.mill new.kept after_leaf
  to_proved r ps phase path e = subst (λ o. Keeps old.mill new.kept (branch_or (after_tree goal) (InTree goal Begins) o)) (sym e)
      (subst (λ r. Keeps old.mill new.kept (after_owner (owner_of r) old.kept.version (reverse old.kept.points))) (sym r) (phase, ap reverse ps, path))

  module _ (at : old.kept.phase ≡ phases.Tree rest) where
    in_tree : (state : State) → Keeps old.mill old.kept state → state ≡ InTree goal Begins old.kept.path
    in_tree state h = tree_state old.mill old.kept state rest h at

    pub tree_unexpected : (line : Line) → can_begin old.kept.version line ≡ false → IsRefused old line why.Expect
    tree_unexpected line cannot = unexpected_at old new line (InTree goal Begins old.kept.path) in_tree (cannot_begin old.mill goal old.kept.version old.kept.path line cannot)

    abbrev rules_of_leaf : List ℤ → List Rule
    rules_of_leaf ns = leaf_rules old.mill (limits_of (owner_of rest) (reverse old.kept.points)) old.kept.path ns

    pub leaf_goes : (ns : List ℤ) → AllKept (rules_of_leaf ns) → Keeps old.mill new.kept after_leaf → GoesOn old new (lines.Leaf ns)
    leaf_goes ns kept keeps = goes_at old new (lines.Leaf ns) (InTree goal Begins old.kept.path) in_tree
        (subst (λ t. AllKept (rules_of t)) (sym (leaf_turn old.mill goal old.kept.version old.kept.path ns)) kept)
        (subst (λ t. Keeps old.mill new.kept (next_of (InTree goal Begins old.kept.path) t)) (sym (leaf_turn old.mill goal old.kept.version old.kept.path ns)) keeps)

    pub leaf_refused : (ns : List ℤ) (broken : Why) → FirstBroken (rules_of_leaf ns) broken → IsRefused old (lines.Leaf ns) broken
    leaf_refused ns broken f = refused_at old new (lines.Leaf ns) (InTree goal Begins old.kept.path) broken in_tree
        (subst (λ t. FirstBroken (rules_of t) broken) (sym (leaf_turn old.mill goal old.kept.version old.kept.path ns)) f)

    unmarked_is : (line : Line) → old.kept.version ≡ One → IsNoLeaf line → turn old.mill old.wanted (InTree goal Begins old.kept.path) line ≡ turn_to_ask old.mill (InTree goal Begins) [] old.kept.path line
    unmarked_is line one no_leaf = ap (λ v. turn_at_start old.mill goal v old.kept.path line) one ∙ unmarked_turn old.mill goal old.kept.path line no_leaf

    pub tree_ask_goes : (line : Line) → old.kept.version ≡ One → IsNoLeaf line → IsAsked old.mill old.kept.path new.kept.path line → Keeps old.mill new.kept (InTree goal Begins new.kept.path) → GoesOn old new line
    tree_ask_goes line one no_leaf = ask_goes old new line (InTree goal Begins old.kept.path) in_tree (InTree goal Begins) (unmarked_is line one no_leaf)

    pub tree_ask_refused : (line : Line) (broken : Why) → old.kept.version ≡ One → IsNoLeaf line → IsNotAsked old.mill old.kept.path line broken → IsRefused old line broken
    tree_ask_refused line broken one no_leaf = ask_refused old new line (InTree goal Begins old.kept.path) in_tree (InTree goal Begins) (unmarked_is line one no_leaf) broken

    pub tree_ask_turns : (line : Line) → old.kept.version ≡ One → IsNoLeaf line → Keeps old.mill new.kept (InTree goal Begins new.kept.path)
        → (r : Result (Unit {0}) Why) → OnOk r (IsAsked old.mill old.kept.path new.kept.path line) → IfErr r (IsNotAsked old.mill old.kept.path line) → IsTurn old new line r
    tree_ask_turns line one no_leaf keeps (Ok done) good bad = tree_ask_goes line one no_leaf good keeps
    tree_ask_turns line one no_leaf keeps (Err broken) good bad = tree_ask_refused line broken one no_leaf bad

    -- a mark of one line
    to_question : new.kept.version ≡ old.kept.version → new.kept.points ≡ old.kept.points → new.kept.path ≡ old.kept.path → new.kept.phase ≡ phases.Question rest → Keeps old.mill new.kept (InTree goal Marked old.kept.path)
    to_question v ps path phase = (v, ap reverse ps, path, phase ∙ ap phases.Question (rest_is rest))

    module _ (two : old.kept.version ≡ Two) where
      marked_goes : (line : Line) → AllKept (rules_of (turn_at_start old.mill goal Two old.kept.path line)) → Keeps old.mill new.kept (next_of (InTree goal Begins old.kept.path) (turn_at_start old.mill goal Two old.kept.path line)) → GoesOn old new line
      marked_goes line kept keeps = goes_at old new line (InTree goal Begins old.kept.path) in_tree
          (subst (λ v. AllKept (rules_of (turn_at_start old.mill goal v old.kept.path line))) (sym two) kept)
          (subst (λ v. Keeps old.mill new.kept (next_of (InTree goal Begins old.kept.path) (turn_at_start old.mill goal v old.kept.path line))) (sym two) keeps)

      pub bare_goes : new.kept.version ≡ old.kept.version → new.kept.points ≡ old.kept.points → new.kept.path ≡ old.kept.path → new.kept.phase ≡ phases.Question rest → GoesOn old new lines.Bare
      bare_goes v ps path phase = marked_goes lines.Bare tt (to_question v ps path phase)

      pub plain_goes : new.kept.version ≡ old.kept.version → new.kept.points ≡ old.kept.points → new.kept.path ≡ old.kept.path → new.kept.phase ≡ phases.Question rest → GoesOn old new lines.Plain
      plain_goes v ps path phase = marked_goes lines.Plain tt (to_question v ps path phase)

      pub spread_goes : (ns : List ℤ) → AllKept (spread_rules ns) → IsTally old.mill (number_at ns 0) [] new.kept.tally → new.kept.version ≡ old.kept.version → new.kept.points ≡ old.kept.points → new.kept.path ≡ old.kept.path → new.kept.phase ≡ phases.Spread rest → GoesOn old new (lines.Spread ns)
      spread_goes ns kept tally v ps path phase = marked_goes (lines.Spread ns) kept (v, ap reverse ps, path, (phase ∙ ap phases.Spread (rest_is rest), tally))

      pub spread_refused : (ns : List ℤ) (broken : Why) → FirstBroken (spread_rules ns) broken → IsRefused old (lines.Spread ns) broken
      spread_refused ns broken f = refused_at old new (lines.Spread ns) (InTree goal Begins old.kept.path) broken in_tree
          (subst (λ v. FirstBroken (rules_of (turn_at_start old.mill goal v old.kept.path (lines.Spread ns))) broken) (sym two) f)

  -- ---- after a mark

  module _ (at : old.kept.phase ≡ phases.Question rest) where
    in_question : (state : State) → Keeps old.mill old.kept state → state ≡ InTree goal Marked old.kept.path
    in_question state h = question_state old.mill old.kept state rest h at

    pub question_goes : (line : Line) → IsAsked old.mill old.kept.path new.kept.path line → Keeps old.mill new.kept (InTree goal Begins new.kept.path) → GoesOn old new line
    question_goes line = ask_goes old new line (InTree goal Marked old.kept.path) in_question (InTree goal Begins) refl

    pub question_refused : (line : Line) (broken : Why) → IsNotAsked old.mill old.kept.path line broken → IsRefused old line broken
    question_refused line broken = ask_refused old new line (InTree goal Marked old.kept.path) in_question (InTree goal Begins) refl broken

-- ---- in a spread

spread_turn : (m : Mill) (goal : Goal) (d : ℤ) (shares : List Share) (path : List Decision) (line : Line) → IsNoShare line → turn_in_spread m goal d shares path line ≡ turn_after_shares m goal d shares path line
spread_turn m goal d shares path lines.Header h = refl
spread_turn m goal d shares path lines.Header2 h = refl
spread_turn m goal d shares path (lines.Point ns) h = refl
spread_turn m goal d shares path (lines.New ns) h = refl
spread_turn m goal d shares path (lines.Old ns) h = refl
spread_turn m goal d shares path (lines.Pair ns) h = refl
spread_turn m goal d shares path (lines.Put ns) h = refl
spread_turn m goal d shares path (lines.Leaf ns) h = refl
spread_turn m goal d shares path lines.Done h = refl
spread_turn m goal d shares path lines.Cut h = refl
spread_turn m goal d shares path lines.Open h = refl
spread_turn m goal d shares path lines.Bare h = refl
spread_turn m goal d shares path lines.Plain h = refl
spread_turn m goal d shares path (lines.Spread ns) h = refl
spread_turn m goal d shares path (lines.CNew ns) h = absurd h
spread_turn m goal d shares path (lines.COld ns) h = absurd h

module _ (old new : Machine) (rest : Bool) (at : old.kept.phase ≡ phases.Spread rest) where
  abbrev spread : (state : State) → Keeps old.mill old.kept state → IsSpreadState old.mill old.kept rest state
  spread state h = spread_state old.mill old.kept state rest h at

  abbrev d : ℤ
  d = old.kept.tally.d

  abbrev spread_goal : Goal
  spread_goal = goal_of old.kept rest

  abbrev in_spread : List Share → State
  in_spread shares = InTree spread_goal (InSpread d shares) old.kept.path

  to_spread : new.kept.phase ≡ old.kept.phase → new.kept.version ≡ old.kept.version → new.kept.points ≡ old.kept.points → new.kept.path ≡ old.kept.path → (shares : List Share) → IsTally old.mill d shares new.kept.tally → Keeps old.mill new.kept (in_spread shares)
  to_spread phase v ps path shares tally = (v, ap reverse ps, path, (phase ∙ at ∙ ap phases.Spread (rest_is rest), tally))

  pub cnew_goes : (ns : List ℤ) → ((shares : List Share) → IsTally old.mill d shares old.kept.tally → AllKept (new_share_rules old.mill old.kept.path (unsigned_abs d) shares ns)) → ((shares : List Share) → IsTally old.mill d shares old.kept.tally → IsTally old.mill d (shares ++ share_of_new ns ∷ []) new.kept.tally)
      → new.kept.phase ≡ old.kept.phase → new.kept.version ≡ old.kept.version → new.kept.points ≡ old.kept.points → new.kept.path ≡ old.kept.path → GoesOn old new (lines.CNew ns)
  cnew_goes ns kept tally phase v ps path state h =
      let s = spread state h in
      subst (λ x. AllKept (line_rules old.mill old.wanted x (lines.CNew ns)) × Keeps old.mill new.kept (line_next old.mill old.wanted x (lines.CNew ns))) (sym s.is)
      (kept s.shares s.tally, to_spread phase v ps path (s.shares ++ share_of_new ns ∷ []) (tally s.shares s.tally))

  pub cold_goes : (ns : List ℤ) → ((shares : List Share) → IsTally old.mill d shares old.kept.tally → AllKept (old_share_rules old.mill old.kept.path (unsigned_abs d) shares ns)) → ((shares : List Share) → IsTally old.mill d shares old.kept.tally → IsTally old.mill d (shares ++ share_of_old ns ∷ []) new.kept.tally)
      → new.kept.phase ≡ old.kept.phase → new.kept.version ≡ old.kept.version → new.kept.points ≡ old.kept.points → new.kept.path ≡ old.kept.path → GoesOn old new (lines.COld ns)
  cold_goes ns kept tally phase v ps path state h =
      let s = spread state h in
      subst (λ x. AllKept (line_rules old.mill old.wanted x (lines.COld ns)) × Keeps old.mill new.kept (line_next old.mill old.wanted x (lines.COld ns))) (sym s.is)
      (kept s.shares s.tally, to_spread phase v ps path (s.shares ++ share_of_old ns ∷ []) (tally s.shares s.tally))

  refused_in_spread : (line : Line) (broken : Why) → ((shares : List Share) → IsTally old.mill d shares old.kept.tally → FirstBroken (line_rules old.mill old.wanted (in_spread shares) line) broken) → IsRefused old line broken
  refused_in_spread line broken f state h = let s = spread state h in subst (λ x. FirstBroken (line_rules old.mill old.wanted x line) broken) (sym s.is) (f s.shares s.tally)

  pub cnew_refused : (ns : List ℤ) (broken : Why) → ((shares : List Share) → IsTally old.mill d shares old.kept.tally → FirstBroken (new_share_rules old.mill old.kept.path (unsigned_abs d) shares ns) broken) → IsRefused old (lines.CNew ns) broken
  cnew_refused ns broken f = refused_in_spread (lines.CNew ns) broken f

  pub cold_refused : (ns : List ℤ) (broken : Why) → ((shares : List Share) → IsTally old.mill d shares old.kept.tally → FirstBroken (old_share_rules old.mill old.kept.path (unsigned_abs d) shares ns) broken) → IsRefused old (lines.COld ns) broken
  cold_refused ns broken f = refused_in_spread (lines.COld ns) broken f

  -- the question after it
  module _ (line : Line) (other : IsNoShare line) where
    after_spread : (shares : List Share) → turn old.mill old.wanted (in_spread shares) line ≡ turn_after_shares old.mill spread_goal d shares old.kept.path line
    after_spread shares = spread_turn old.mill spread_goal d shares old.kept.path line other

    unexpected_after : ((shares : List Share) → IsTally old.mill d shares old.kept.tally → turn_after_shares old.mill spread_goal d shares old.kept.path line ≡ Refused) → IsRefused old line why.Expect
    unexpected_after refused = refused_in_spread line why.Expect (λ shares t. subst (λ x. FirstBroken (rules_of x) why.Expect) (sym (after_spread shares ∙ refused shares t)) (inl (λ x. x, refl)))

    pub spread_no_share : old.kept.tally.begun ≡ false → IsRefused old line why.Expect
    spread_no_share none = unexpected_after (λ shares t. here shares t)
      where
        here : (shares : List Share) → IsTally old.mill d shares old.kept.tally → turn_after_shares old.mill spread_goal d shares old.kept.path line ≡ Refused
        here [] t = refl
        here (s ∷ shares) t = let e : true ≡ false = sym t.begun ∙ none in cc

    pub spread_no_ask : is_ask line ≡ false → IsRefused old line why.Expect
    spread_no_ask plain = unexpected_after (λ shares t. here shares)
      where
        here : (shares : List Share) → turn_after_shares old.mill spread_goal d shares old.kept.path line ≡ Refused
        here [] = refl
        here (s ∷ shares) = no_ask old.mill (InTree spread_goal Begins) (cover_rules old.mill (tree_limits spread_goal) (unsigned_abs d) (s ∷ shares)) old.kept.path line plain

    module _ (begun : old.kept.tally.begun ≡ true) (asks : is_ask line ≡ true) where
      abbrev asking : Turn
      asking = turn_to_ask old.mill (InTree spread_goal Begins) [] old.kept.path line

      asked_after : (shares : List Share) → IsTally old.mill d shares old.kept.tally → turn old.mill old.wanted (in_spread shares) line ≡ with_rules (cover_rules old.mill (tree_limits spread_goal) (unsigned_abs d) shares) asking
      asked_after [] t = let e : false ≡ true = sym t.begun ∙ begun in cc
      asked_after (s ∷ shares) t = after_spread (s ∷ shares) ∙ ask_before old.mill (InTree spread_goal Begins) (cover_rules old.mill (tree_limits spread_goal) (unsigned_abs d) (s ∷ shares)) old.kept.path line asks

      pub cover_refused : (broken : Why) → ((shares : List Share) → IsTally old.mill d shares old.kept.tally → FirstBroken (cover_rules old.mill (tree_limits spread_goal) (unsigned_abs d) shares) broken) → IsRefused old line broken
      cover_refused broken f = refused_in_spread line broken (λ shares t. subst (λ x. FirstBroken (rules_of x) broken) (sym (asked_after shares t)) (before_broken (cover_rules old.mill (tree_limits spread_goal) (unsigned_abs d) shares) asking broken (ask_taken old.mill (InTree spread_goal Begins) old.kept.path line asks) (f shares t)))

      module _ (covers : (shares : List Share) → IsTally old.mill d shares old.kept.tally → AllKept (cover_rules old.mill (tree_limits spread_goal) (unsigned_abs d) shares)) where
        pub covered_refused : (broken : Why) → IsNotAsked old.mill old.kept.path line broken → IsRefused old line broken
        covered_refused broken f = refused_in_spread line broken (λ shares t. subst (λ x. FirstBroken (rules_of x) broken) (sym (asked_after shares t)) (after_broken (cover_rules old.mill (tree_limits spread_goal) (unsigned_abs d) shares) asking broken (covers shares t) (f (InTree spread_goal Begins))))

        pub covered_goes : IsAsked old.mill old.kept.path new.kept.path line → Keeps old.mill new.kept (InTree spread_goal Begins new.kept.path) → GoesOn old new line
        covered_goes asked keeps state h =
            let s = spread state h in
            let both = with_back (cover_rules old.mill (tree_limits spread_goal) (unsigned_abs d) s.shares) asking (covers s.shares s.tally) (asked.kept (InTree spread_goal Begins)) in
            let is : turn old.mill old.wanted state line ≡ with_rules (cover_rules old.mill (tree_limits spread_goal) (unsigned_abs d) s.shares) asking = ap (λ x. turn old.mill old.wanted x line) s.is ∙ asked_after s.shares s.tally in (
              subst (λ t. AllKept (rules_of t)) (sym is) both.0,
              subst (λ t. Keeps old.mill new.kept (next_of state t)) (sym is) (subst (λ x. Keeps old.mill new.kept x) (sym (both.1 state state ∙ asked.next_is (InTree spread_goal Begins) state)) keeps),
            )

-- ---- in the open tree

open_turn : (m : Mill) (points : List Sums) (path : List Decision) (line : Line) → IsNoOpen line → turn_in_open_tree m points path line ≡ turn_to_ask m (InOpenTree points) [] path line
open_turn m points path lines.Header h = refl
open_turn m points path lines.Header2 h = refl
open_turn m points path (lines.Point ns) h = refl
open_turn m points path (lines.New ns) h = refl
open_turn m points path (lines.Old ns) h = refl
open_turn m points path (lines.Pair ns) h = refl
open_turn m points path (lines.Put ns) h = refl
open_turn m points path (lines.Leaf ns) h = refl
open_turn m points path lines.Done h = refl
open_turn m points path lines.Cut h = refl
open_turn m points path lines.Open h = absurd h
open_turn m points path lines.Bare h = refl
open_turn m points path lines.Plain h = refl
open_turn m points path (lines.Spread ns) h = refl
open_turn m points path (lines.CNew ns) h = refl
open_turn m points path (lines.COld ns) h = refl

module _ (old new : Machine) (at : old.kept.phase ≡ phases.Open) where
  abbrev open_points : List Sums
  open_points = reverse old.kept.points

  in_open : (state : State) → Keeps old.mill old.kept state → state ≡ InOpenTree open_points old.kept.path
  in_open state h = open_state old.mill old.kept state h at

  abbrev after_open : State
  after_open = branch_or (Ended Unfinished open_points) (InOpenTree open_points) (next_branch old.kept.path)

  pub to_open_branch : new.kept.points ≡ old.kept.points → new.kept.phase ≡ phases.Open → next_branch old.kept.path ≡ Some new.kept.path → Keeps old.mill new.kept after_open
  to_open_branch ps phase e = subst (λ o. Keeps old.mill new.kept (branch_or (Ended Unfinished open_points) (InOpenTree open_points) o)) (sym e) (phase, ap reverse ps, refl)

  pub to_unfinished : new.kept.points ≡ old.kept.points → new.kept.phase ≡ phases.Unfinished → new.kept.path ≡ [] → next_branch old.kept.path ≡ None → Keeps old.mill new.kept after_open
  to_unfinished ps phase path e = subst (λ o. Keeps old.mill new.kept (branch_or (Ended Unfinished open_points) (InOpenTree open_points) o)) (sym e) (phase, ap reverse ps, path)

  pub open_goes : Keeps old.mill new.kept after_open → GoesOn old new lines.Open
  open_goes keeps = goes_at old new lines.Open (InOpenTree open_points old.kept.path) in_open tt keeps

  pub open_ask_goes : (line : Line) → IsNoOpen line → IsAsked old.mill old.kept.path new.kept.path line → new.kept.points ≡ old.kept.points → new.kept.phase ≡ old.kept.phase → GoesOn old new line
  open_ask_goes line no_open asked ps phase = ask_goes old new line (InOpenTree open_points old.kept.path) in_open (InOpenTree open_points) (open_turn old.mill open_points old.kept.path line no_open) asked (phase ∙ at, ap reverse ps, refl)

  pub open_ask_refused : (line : Line) (broken : Why) → IsNoOpen line → IsNotAsked old.mill old.kept.path line broken → IsRefused old line broken
  open_ask_refused line broken no_open = ask_refused old new line (InOpenTree open_points old.kept.path) in_open (InOpenTree open_points) (open_turn old.mill open_points old.kept.path line no_open) broken

  pub open_ask_turns : (line : Line) → IsNoOpen line → new.kept.points ≡ old.kept.points → new.kept.phase ≡ old.kept.phase
      → (r : Result (Unit {0}) Why) → OnOk r (IsAsked old.mill old.kept.path new.kept.path line) → IfErr r (IsNotAsked old.mill old.kept.path line) → IsTurn old new line r
  open_ask_turns line no_open ps phase (Ok done) good bad = open_ask_goes line no_open good ps phase
  open_ask_turns line no_open ps phase (Err broken) good bad = open_ask_refused line broken no_open bad

-- ---- the end

pub ended_refused : (old new : Machine) (line : Line) → (old.kept.phase ≡ phases.Proved) ⊎ (old.kept.phase ≡ phases.Unfinished) → IsRefused old line why.Expect
ended_refused old new line at = elim at [
  | inl p ↦ unexpected_at old new line (Ended Proved (reverse old.kept.points)) (λ state h. proved_state old.mill old.kept state h p) refl
  | inr p ↦ unexpected_at old new line (Ended Unfinished (reverse old.kept.points)) (λ state h. unfinished_state old.mill old.kept state h p) refl
]
