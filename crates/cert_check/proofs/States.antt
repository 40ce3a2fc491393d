-- In which states a reader is that keeps a phase.
use Rattle.std.proofs.Common.{◌≡◌, Bool, true, false, List, [], ◌∷◌, reverse, refl, sym, ap, ap₂, ◌∙◌, subst}
use Rattle.mill_model.specs.declared.sums.Sums.{Sums}
use Rattle.mill_model.specs.declared.version.Version.{Version}
use Rattle.mill_model.specs.Mill.{Mill}
use Rattle.mill_model.specs.Columns.{Column}
use Rattle.mill_model.specs.Shares.{Share}
use Rattle.cert_rules.specs.States.{Owner, Goal, State}
use Rattle.cert_rules.specs.States.Owner.{OfPoint, OfRest}
use Rattle.cert_rules.specs.States.Outcome.{Proved, Unfinished}
use Rattle.cert_rules.specs.States.Stage.{Begins, Marked, InSpread}
use Rattle.cert_rules.specs.States.State.{Begin, BetweenPoints, InPlan, InTree, InOpenTree, Ended}
use Rattle.cert_slabs.specs.Drafts.{IsDraft}
use Rattle.cert_slabs.specs.Tallies.{IsTally}
use Rattle.cert_check.specs.declared.phase.Phase.TheVariants as phases
use Rattle.cert_check.specs.Kept.{Kept, Keeps, is_rest, owner_of}

-- the tree that is read
abbrev pub goal_of : Kept → Bool → Goal
goal_of k rest = record { version = k.version; owner = owner_of rest; points = reverse k.points }

abbrev goal_with : Version → Owner → List Sums → Goal
goal_with version owner points = record { version = version; owner = owner; points = points }

owner_is : (owner : Owner) (rest : Bool) → is_rest owner ≡ rest → owner ≡ owner_of rest
owner_is OfPoint false e = refl
owner_is OfPoint true e = cc
owner_is OfRest true e = refl
owner_is OfRest false e = cc

module _ (m : Mill) (k : Kept) where
  goal_is : (goal : Goal) (rest : Bool) → k.version ≡ goal.version → reverse k.points ≡ goal.points → is_rest goal.owner ≡ rest → goal ≡ goal_of k rest
  goal_is goal rest v p e = ap (λ x. goal_with x goal.owner goal.points) (sym v) ∙ ap (λ x. goal_with k.version x goal.points) (owner_is goal.owner rest e) ∙ ap (λ x. goal_with k.version (owner_of rest) x) (sym p)

  -- before the first line
  pub begin_state : (state : State) → Keeps m k state → k.phase ≡ phases.Begin → (state ≡ Begin) × (k.points ≡ []) × (k.path ≡ [])
  begin_state Begin h e = (refl, h.1, h.2)
  begin_state (BetweenPoints version points) h e = let f : phases.Between ≡ phases.Begin = sym h.0 ∙ e in cc
  begin_state (InPlan version before sums slabs) h e = let f : phases.Plan ≡ phases.Begin = sym h.0 ∙ e in cc
  begin_state (InTree goal Begins path) h e = let f : phases.Tree (is_rest goal.owner) ≡ phases.Begin = sym h.3 ∙ e in cc
  begin_state (InTree goal Marked path) h e = let f : phases.Question (is_rest goal.owner) ≡ phases.Begin = sym h.3 ∙ e in cc
  begin_state (InTree goal (InSpread d shares) path) h e = let f : phases.Spread (is_rest goal.owner) ≡ phases.Begin = sym h.3.0 ∙ e in cc
  begin_state (InOpenTree points path) h e = let f : phases.Open ≡ phases.Begin = sym h.0 ∙ e in cc
  begin_state (Ended Proved points) h e = let f : phases.Proved ≡ phases.Begin = sym h.0 ∙ e in cc
  begin_state (Ended Unfinished points) h e = let f : phases.Unfinished ≡ phases.Begin = sym h.0 ∙ e in cc

  -- between points
  pub between_state : (state : State) → Keeps m k state → k.phase ≡ phases.Between → (state ≡ BetweenPoints k.version (reverse k.points)) × (k.path ≡ [])
  between_state Begin h e = let f : phases.Begin ≡ phases.Between = sym h.0 ∙ e in cc
  between_state (BetweenPoints version points) h e = (ap₂ (λ v ps. BetweenPoints v ps) (sym h.1) (sym h.2), h.3)
  between_state (InPlan version before sums slabs) h e = let f : phases.Plan ≡ phases.Between = sym h.0 ∙ e in cc
  between_state (InTree goal Begins path) h e = let f : phases.Tree (is_rest goal.owner) ≡ phases.Between = sym h.3 ∙ e in cc
  between_state (InTree goal Marked path) h e = let f : phases.Question (is_rest goal.owner) ≡ phases.Between = sym h.3 ∙ e in cc
  between_state (InTree goal (InSpread d shares) path) h e = let f : phases.Spread (is_rest goal.owner) ≡ phases.Between = sym h.3.0 ∙ e in cc
  between_state (InOpenTree points path) h e = let f : phases.Open ≡ phases.Between = sym h.0 ∙ e in cc
  between_state (Ended Proved points) h e = let f : phases.Proved ≡ phases.Between = sym h.0 ∙ e in cc
  between_state (Ended Unfinished points) h e = let f : phases.Unfinished ≡ phases.Between = sym h.0 ∙ e in cc

  pub record IsPlanState (state : State) : Type 0 where
    pub before : List Sums
    pub sums : Sums
    pub slabs : List Column
    pub is : state ≡ InPlan k.version before sums slabs
    pub points : reverse k.points ≡ sums ∷ before
    pub path : k.path ≡ []
    pub draft : IsDraft m slabs k.draft

  -- in a plan
  pub plan_state : (state : State) → Keeps m k state → k.phase ≡ phases.Plan → IsPlanState state
  plan_state Begin h e = let f : phases.Begin ≡ phases.Plan = sym h.0 ∙ e in cc
  plan_state (BetweenPoints version points) h e = let f : phases.Between ≡ phases.Plan = sym h.0 ∙ e in cc
  plan_state (InPlan version before sums slabs) h e = record { before = before; sums = sums; slabs = slabs; is = ap (λ v. InPlan v before sums slabs) (sym h.1); points = h.2; path = h.3; draft = h.4 }
  plan_state (InTree goal Begins path) h e = let f : phases.Tree (is_rest goal.owner) ≡ phases.Plan = sym h.3 ∙ e in cc
  plan_state (InTree goal Marked path) h e = let f : phases.Question (is_rest goal.owner) ≡ phases.Plan = sym h.3 ∙ e in cc
  plan_state (InTree goal (InSpread d shares) path) h e = let f : phases.Spread (is_rest goal.owner) ≡ phases.Plan = sym h.3.0 ∙ e in cc
  plan_state (InOpenTree points path) h e = let f : phases.Open ≡ phases.Plan = sym h.0 ∙ e in cc
  plan_state (Ended Proved points) h e = let f : phases.Proved ≡ phases.Plan = sym h.0 ∙ e in cc
  plan_state (Ended Unfinished points) h e = let f : phases.Unfinished ≡ phases.Plan = sym h.0 ∙ e in cc

  -- where a tree begins
  pub tree_state : (state : State) (rest : Bool) → Keeps m k state → k.phase ≡ phases.Tree rest → state ≡ InTree (goal_of k rest) Begins k.path
  tree_state Begin rest h e = let f : phases.Begin ≡ phases.Tree rest = sym h.0 ∙ e in cc
  tree_state (BetweenPoints version points) rest h e = let f : phases.Between ≡ phases.Tree rest = sym h.0 ∙ e in cc
  tree_state (InPlan version before sums slabs) rest h e = let f : phases.Plan ≡ phases.Tree rest = sym h.0 ∙ e in cc
  tree_state (InTree goal Begins path) rest h e = let f : phases.Tree (is_rest goal.owner) ≡ phases.Tree rest = sym h.3 ∙ e in ap₂ (λ g p. InTree g Begins p) (goal_is goal rest h.0 h.1 cc) (sym h.2)
  tree_state (InTree goal Marked path) rest h e = let f : phases.Question (is_rest goal.owner) ≡ phases.Tree rest = sym h.3 ∙ e in cc
  tree_state (InTree goal (InSpread d shares) path) rest h e = let f : phases.Spread (is_rest goal.owner) ≡ phases.Tree rest = sym h.3.0 ∙ e in cc
  tree_state (InOpenTree points path) rest h e = let f : phases.Open ≡ phases.Tree rest = sym h.0 ∙ e in cc
  tree_state (Ended Proved points) rest h e = let f : phases.Proved ≡ phases.Tree rest = sym h.0 ∙ e in cc
  tree_state (Ended Unfinished points) rest h e = let f : phases.Unfinished ≡ phases.Tree rest = sym h.0 ∙ e in cc

  -- after a mark
  pub question_state : (state : State) (rest : Bool) → Keeps m k state → k.phase ≡ phases.Question rest → state ≡ InTree (goal_of k rest) Marked k.path
  question_state Begin rest h e = let f : phases.Begin ≡ phases.Question rest = sym h.0 ∙ e in cc
  question_state (BetweenPoints version points) rest h e = let f : phases.Between ≡ phases.Question rest = sym h.0 ∙ e in cc
  question_state (InPlan version before sums slabs) rest h e = let f : phases.Plan ≡ phases.Question rest = sym h.0 ∙ e in cc
  question_state (InTree goal Begins path) rest h e = let f : phases.Tree (is_rest goal.owner) ≡ phases.Question rest = sym h.3 ∙ e in cc
  question_state (InTree goal Marked path) rest h e = let f : phases.Question (is_rest goal.owner) ≡ phases.Question rest = sym h.3 ∙ e in ap₂ (λ g p. InTree g Marked p) (goal_is goal rest h.0 h.1 cc) (sym h.2)
  question_state (InTree goal (InSpread d shares) path) rest h e = let f : phases.Spread (is_rest goal.owner) ≡ phases.Question rest = sym h.3.0 ∙ e in cc
  question_state (InOpenTree points path) rest h e = let f : phases.Open ≡ phases.Question rest = sym h.0 ∙ e in cc
  question_state (Ended Proved points) rest h e = let f : phases.Proved ≡ phases.Question rest = sym h.0 ∙ e in cc
  question_state (Ended Unfinished points) rest h e = let f : phases.Unfinished ≡ phases.Question rest = sym h.0 ∙ e in cc

  pub record IsSpreadState (rest : Bool) (state : State) : Type 0 where
    pub shares : List Share
    pub is : state ≡ InTree (goal_of k rest) (InSpread k.tally.d shares) k.path
    pub tally : IsTally m k.tally.d shares k.tally

  -- in a spread
  pub spread_state : (state : State) (rest : Bool) → Keeps m k state → k.phase ≡ phases.Spread rest → IsSpreadState rest state
  spread_state Begin rest h e = let f : phases.Begin ≡ phases.Spread rest = sym h.0 ∙ e in cc
  spread_state (BetweenPoints version points) rest h e = let f : phases.Between ≡ phases.Spread rest = sym h.0 ∙ e in cc
  spread_state (InPlan version before sums slabs) rest h e = let f : phases.Plan ≡ phases.Spread rest = sym h.0 ∙ e in cc
  spread_state (InTree goal Begins path) rest h e = let f : phases.Tree (is_rest goal.owner) ≡ phases.Spread rest = sym h.3 ∙ e in cc
  spread_state (InTree goal Marked path) rest h e = let f : phases.Question (is_rest goal.owner) ≡ phases.Spread rest = sym h.3 ∙ e in cc
  spread_state (InTree goal (InSpread d shares) path) rest h e = let f : phases.Spread (is_rest goal.owner) ≡ phases.Spread rest = sym h.3.0 ∙ e in record { shares = shares; is = ap (λ g. InTree g (InSpread d shares) path) (goal_is goal rest h.0 h.1 cc) ∙ ap₂ (λ z p. InTree (goal_of k rest) (InSpread z shares) p) (sym h.3.1.d_is) (sym h.2); tally = subst (λ z. IsTally m z shares k.tally) (sym h.3.1.d_is) h.3.1 }
  spread_state (InOpenTree points path) rest h e = let f : phases.Open ≡ phases.Spread rest = sym h.0 ∙ e in cc
  spread_state (Ended Proved points) rest h e = let f : phases.Proved ≡ phases.Spread rest = sym h.0 ∙ e in cc
  spread_state (Ended Unfinished points) rest h e = let f : phases.Unfinished ≡ phases.Spread rest = sym h.0 ∙ e in cc

  -- in the open tree
  pub open_state : (state : State) → Keeps m k state → k.phase ≡ phases.Open → state ≡ InOpenTree (reverse k.points) k.path
  open_state Begin h e = let f : phases.Begin ≡ phases.Open = sym h.0 ∙ e in cc
  open_state (BetweenPoints version points) h e = let f : phases.Between ≡ phases.Open = sym h.0 ∙ e in cc
  open_state (InPlan version before sums slabs) h e = let f : phases.Plan ≡ phases.Open = sym h.0 ∙ e in cc
  open_state (InTree goal Begins path) h e = let f : phases.Tree (is_rest goal.owner) ≡ phases.Open = sym h.3 ∙ e in cc
  open_state (InTree goal Marked path) h e = let f : phases.Question (is_rest goal.owner) ≡ phases.Open = sym h.3 ∙ e in cc
  open_state (InTree goal (InSpread d shares) path) h e = let f : phases.Spread (is_rest goal.owner) ≡ phases.Open = sym h.3.0 ∙ e in cc
  open_state (InOpenTree points path) h e = ap₂ (λ ps p. InOpenTree ps p) (sym h.1) (sym h.2)
  open_state (Ended Proved points) h e = let f : phases.Proved ≡ phases.Open = sym h.0 ∙ e in cc
  open_state (Ended Unfinished points) h e = let f : phases.Unfinished ≡ phases.Open = sym h.0 ∙ e in cc

  -- at the end of a whole certificate
  pub proved_state : (state : State) → Keeps m k state → k.phase ≡ phases.Proved → state ≡ Ended Proved (reverse k.points)
  proved_state Begin h e = let f : phases.Begin ≡ phases.Proved = sym h.0 ∙ e in cc
  proved_state (BetweenPoints version points) h e = let f : phases.Between ≡ phases.Proved = sym h.0 ∙ e in cc
  proved_state (InPlan version before sums slabs) h e = let f : phases.Plan ≡ phases.Proved = sym h.0 ∙ e in cc
  proved_state (InTree goal Begins path) h e = let f : phases.Tree (is_rest goal.owner) ≡ phases.Proved = sym h.3 ∙ e in cc
  proved_state (InTree goal Marked path) h e = let f : phases.Question (is_rest goal.owner) ≡ phases.Proved = sym h.3 ∙ e in cc
  proved_state (InTree goal (InSpread d shares) path) h e = let f : phases.Spread (is_rest goal.owner) ≡ phases.Proved = sym h.3.0 ∙ e in cc
  proved_state (InOpenTree points path) h e = let f : phases.Open ≡ phases.Proved = sym h.0 ∙ e in cc
  proved_state (Ended Proved points) h e = ap (λ ps. Ended Proved ps) (sym h.1)
  proved_state (Ended Unfinished points) h e = let f : phases.Unfinished ≡ phases.Proved = sym h.0 ∙ e in cc

  -- at the end of a cut
  pub unfinished_state : (state : State) → Keeps m k state → k.phase ≡ phases.Unfinished → state ≡ Ended Unfinished (reverse k.points)
  unfinished_state Begin h e = let f : phases.Begin ≡ phases.Unfinished = sym h.0 ∙ e in cc
  unfinished_state (BetweenPoints version points) h e = let f : phases.Between ≡ phases.Unfinished = sym h.0 ∙ e in cc
  unfinished_state (InPlan version before sums slabs) h e = let f : phases.Plan ≡ phases.Unfinished = sym h.0 ∙ e in cc
  unfinished_state (InTree goal Begins path) h e = let f : phases.Tree (is_rest goal.owner) ≡ phases.Unfinished = sym h.3 ∙ e in cc
  unfinished_state (InTree goal Marked path) h e = let f : phases.Question (is_rest goal.owner) ≡ phases.Unfinished = sym h.3 ∙ e in cc
  unfinished_state (InTree goal (InSpread d shares) path) h e = let f : phases.Spread (is_rest goal.owner) ≡ phases.Unfinished = sym h.3.0 ∙ e in cc
  unfinished_state (InOpenTree points path) h e = let f : phases.Open ≡ phases.Unfinished = sym h.0 ∙ e in cc
  unfinished_state (Ended Proved points) h e = let f : phases.Proved ≡ phases.Unfinished = sym h.0 ∙ e in cc
  unfinished_state (Ended Unfinished points) h e = ap (λ ps. Ended Unfinished ps) (sym h.1)
