-- Trees, finished or not, as lines walk through them: each question may have a mark of any number of lines before it.
use Rattle.std.proofs.Common.{◌≡◌, ℕ, zero, suc, ◌<◌, true, false, List, [], ◌∷◌, ◌++◌, length, sym, ap, ◌∙◌, subst, append_assoc, length-append, arith, ◌⊎◌, inl, inr}
use Rattle.mill_model.specs.declared.ask.Ask.{Ask}
use Rattle.mill_model.specs.Mill.{Mill}
use Rattle.mill_model.specs.Decisions.{Decision, IsAsk}
use Rattle.mill_model.specs.Paths.{next_branch}
use Rattle.mill_model.specs.Trees.{Tree, IsTree, EverySplit, IsFresh}
use Rattle.mill_model.specs.Trees.Tree.{End, Split}
use Rattle.cert_view.specs.declared.line.Line.{Line}
use Rattle.cert_text.specs.Lines.{ask_line}
use Rattle.cert_rules.specs.States.{State, branch_or}

-- Comes says of lines that they go on from a state. Trees have marks M and ends E, each with its lines
module _ (Comes : State → List Line → Type 0) (m : Mill) (M E : Type 0) (at : List Decision → State) (done : State) (ending : E → Line) (marking : M → List Line) (Holds : E → List Decision → Type 0) (IsRight : M → Ask → List Decision → Type 0) where
  abbrev pub lines_of : Tree M E → List Line
  lines_of (End e) = ending e ∷ []
  lines_of (Split mark ask y n) = marking mark ++ (ask_line ask ∷ (lines_of y ++ lines_of n))

  -- an end that holds, and what follows goes on at the next branch
  pub record EndsHere (path : List Decision) (xs : List Line) : Type 0 where
    pub end : E
    pub rest : List Line
    pub lines_are : xs ≡ ending end ∷ rest
    pub holds : Holds end path
    pub others : Comes (branch_or done at (next_branch path)) rest

  -- a right mark and a new question, and what follows goes on at its answer yes
  pub record AsksHere (path : List Decision) (xs : List Line) : Type 0 where
    pub mark : M
    pub ask : Ask
    pub rest : List Line
    pub lines_are : xs ≡ marking mark ++ (ask_line ask ∷ rest)
    pub asks : IsAsk m ask
    pub fresh : IsFresh ask path
    pub right : IsRight mark ask path
    pub others : Comes (at ((ask, true) ∷ path)) rest

  -- the lines begin with a tree for the path, and Then says how they go on
  pub record TreeThen (path : List Decision) (Then : List Line → Type 0) (xs : List Line) : Type 0 where
    pub tree : Tree M E
    pub rest : List Line
    pub lines_are : xs ≡ lines_of tree ++ rest
    pub holds : IsTree m Holds tree path
    pub right : EverySplit IsRight tree path
    pub others : Then rest

  -- what is still to come after a branch: a tree for each answer yes above it, the latest first, and then what follows the tree
  abbrev pub ToCome : List Decision → List Line → Type 0
  ToCome [] xs = Comes done xs
  ToCome ((ask, true) ∷ path) xs = TreeThen ((ask, false) ∷ path) (ToCome path) xs
  ToCome ((ask, false) ∷ path) xs = ToCome path xs

  -- lines in a tree begin with an end or with a question
  abbrev pub Begins : Type 0
  Begins = (path : List Decision) (xs : List Line) → Comes (at path) xs → EndsHere path xs ⊎ AsksHere path xs

  to_come : (path : List Decision) (rest : List Line) → ((other : List Decision) → Comes (at other) rest → TreeThen other (ToCome other) rest) → Comes (branch_or done at (next_branch path)) rest → ToCome path rest
  to_come [] rest go h = h
  to_come ((ask, true) ∷ path) rest go h = go ((ask, false) ∷ path) h
  to_come ((ask, false) ∷ path) rest go h = to_come path rest go h

  joined : (marks : List Line) (line : Line) (a b c d rest xs : List Line) → xs ≡ marks ++ (line ∷ rest) → rest ≡ a ++ b → b ≡ c ++ d → xs ≡ (marks ++ (line ∷ (a ++ c))) ++ d
  joined marks line a b c d rest xs f g h = f ∙ ap (λ ys. marks ++ (line ∷ ys)) (g ∙ ap (λ ys. a ++ ys) h ∙ sym (append_assoc a c d)) ∙ sym (append_assoc marks (line ∷ (a ++ c)) d)

  pub tree_from : Begins → (fuel : ℕ) (xs : List Line) (path : List Decision) → length xs < fuel → Comes (at path) xs → TreeThen path (ToCome path) xs
  tree_from begins zero xs path l h = absurd (omega (arith, l))
  tree_from begins (suc fuel) xs path l h = elim (begins path xs h) [
    | inl x ↦
        let shorter : length x.rest < fuel = omega (arith, l, ap length x.lines_are) in
        record { tree = End x.end; rest = x.rest; lines_are = x.lines_are; holds = x.holds; right = tt; others = to_come path x.rest (λ other g. tree_from begins fuel x.rest other shorter g) x.others }
    | inr x ↦
        let shorter : length x.rest < fuel = omega (arith, l, ap length x.lines_are, length-append (marking x.mark) (ask_line x.ask ∷ x.rest)) in
        let yes : TreeThen ((x.ask, true) ∷ path) (ToCome ((x.ask, true) ∷ path)) x.rest = tree_from begins fuel x.rest ((x.ask, true) ∷ path) shorter x.others in
        let no : TreeThen ((x.ask, false) ∷ path) (ToCome path) yes.rest = yes.others in
        record {
          tree = Split x.mark x.ask yes.tree no.tree;
          rest = no.rest;
          lines_are = joined (marking x.mark) (ask_line x.ask) (lines_of yes.tree) yes.rest (lines_of no.tree) no.rest x.rest xs x.lines_are yes.lines_are no.lines_are;
          holds = (x.asks, x.fresh, yes.holds, no.holds);
          right = (x.right, yes.right, no.right);
          others = no.others;
        }
  ]

  -- ends and questions with their marks go on
  abbrev pub GoOn : Type 0
  GoOn = ((path : List Decision) (e : E) (rest : List Line) → Holds e path → Comes (branch_or done at (next_branch path)) rest → Comes (at path) (ending e ∷ rest))
      × ((path : List Decision) (mark : M) (ask : Ask) (rest : List Line) → IsAsk m ask → IsFresh ask path → IsRight mark ask path → Comes (at ((ask, true) ∷ path)) rest → Comes (at path) (marking mark ++ (ask_line ask ∷ rest)))

  pub tree_goes_on : GoOn → (t : Tree M E) (path : List Decision) (rest : List Line) → IsTree m Holds t path → EverySplit IsRight t path → Comes (branch_or done at (next_branch path)) rest → Comes (at path) (lines_of t ++ rest)
  tree_goes_on go (End e) path rest holds right h = go.0 path e rest holds h
  tree_goes_on go (Split mark ask y n) path rest holds right h =
      let same : (marking mark ++ (ask_line ask ∷ (lines_of y ++ lines_of n))) ++ rest ≡ marking mark ++ (ask_line ask ∷ (lines_of y ++ (lines_of n ++ rest))) =
      append_assoc (marking mark) (ask_line ask ∷ (lines_of y ++ lines_of n)) rest ∙ ap (λ ys. marking mark ++ (ask_line ask ∷ ys)) (append_assoc (lines_of y) (lines_of n) rest) in
      subst (λ ys. Comes (at path) ys) (sym same)
      (go.1 path mark ask (lines_of y ++ (lines_of n ++ rest)) holds.0 holds.1 right.0
      (tree_goes_on go y ((ask, true) ∷ path) (lines_of n ++ rest) holds.2 right.1
      (tree_goes_on go n ((ask, false) ∷ path) rest holds.3 right.2 h)))
