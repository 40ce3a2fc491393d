-- What each move does to where the walk stands.
use Rattle.std.proofs.Common.{◌≡◌, ℕ, zero, suc, ◌+◌, ◌-◌, ◌<◌, ◌≤◌, ◌^◌, Bool, true, false, List, [], ◌∷◌, ◌++◌, take, get_or, length, refl, sym, ap, subst, ◌∙◌, inl, inr, arith, length-append, append_assoc, append-nil}
use Rattle.std.specs.Prelude.{Result, Ok, Err, OnOk, OnErr, is_err, Contains, if◌then◌else◌}
use Rattle.std.proofs.Math.Seq.{take-append_seam, get_or-append_seam}
use Rattle.mill_model.specs.declared.mark.Mark.TheVariants.{Spread}
use Rattle.mill_model.specs.Marks.{HasRightMarks}
use Rattle.mill_model.specs.Shares.{Shown}
use Rattle.price_check.specs.declared.bad.Bad.{Bad}
use Rattle.price_check.specs.Path.{asks_of}
use Rattle.mill_model.specs.declared.ask.Ask.{Ask}
use Rattle.mill_model.specs.declared.limits.Limits.{Limits}
use Rattle.mill_model.specs.declared.mark.Mark.{Mark}
use Rattle.mill_model.specs.Mill.{Mill}
use Rattle.mill_model.specs.Prices.{Prices, Refutes}
use Rattle.mill_model.specs.Decisions.{Decision, IsAsk}
use Rattle.mill_model.specs.Trees.{Tree, IsFresh, RefutingTree}
use Rattle.mill_model.specs.Trees.Tree.{End, Split}
use Rattle.tree_nodes.specs.declared.node.Node.{Node}
use Rattle.tree_nodes.specs.declared.node.Node.TheVariants.{Closed, Branched}
use Rattle.cert_trim.specs.declared.walk.Walk.{Walk}
use Rattle.tree_nodes.specs.Nodes.{nodes_of}
use Rattle.cert_trim.specs.Levels.{Level, decisions_of, written_of, coming_of, places_of, NoneRefutesAbove, forest_nodes, lead_nodes, IsLead, IsAtRoot, IsWithin, IsClimbing, IsFinished, IsDone}
use Rattle.cert_trim.specs.Levels.Level.{InYes, InNo}
use Rattle.cert_trim.specs.Walks.{StandsAt, IsGoing, IsUp, IsStopped, IsEnd, IsCoveredAbove, AreTrimmedNodes}
use Rattle.cert_trim.proofs.Walking.{root_ask, root_fresh, root_split, root_leaf, within_split, within_leaf, climb_yes, climb_no, none_where_shown, stays_within, stays_finished, finished_yes, finished_no, finished_whole}

pub path_rest : (a b : Decision) (xs ys : List Decision) → a ∷ xs ≡ b ∷ ys → xs ≡ ys
path_rest a b xs ys e = cc

answers : (a b : Ask) (x y : Bool) (xs ys : List Decision) → (a, x) ∷ xs ≡ (b, y) ∷ ys → x ≡ y
answers a b x y xs ys e = ap (λ (d : Decision). d.1) (path_first (a, x) (b, y) xs ys e)
  where
    path_first : (a b : Decision) (xs ys : List Decision) → a ∷ xs ≡ b ∷ ys → a ≡ b
    path_first a b xs ys e = cc

asks : (a b : Ask) (x y : Bool) (xs ys : List Decision) → (a, x) ∷ xs ≡ (b, y) ∷ ys → a ≡ b
asks a b x y xs ys e = ap (λ (d : Decision). d.0) (path_first (a, x) (b, y) xs ys e)
  where
    path_first : (a b : Decision) (xs ys : List Decision) → a ∷ xs ≡ b ∷ ys → a ≡ b
    path_first a b xs ys e = cc

yes_no : true ≡ false → ⊥
yes_no e = cc

pub some_none : (d : Decision) (xs : List Decision) → [] ≡ d ∷ xs → ⊥
some_none d xs e = cc

-- what the test of prices says
pub refuted : (m : Mill) (limits : Limits) (decisions : List Decision) (p : Prices) (r : Result (Unit {0}) Bad) → is_err r ≡ false → OnOk r (Refutes m limits decisions p) → Refutes m limits decisions p
refuted m limits decisions p (Ok x) e h = h
refuted m limits decisions p (Err bad) e h = cc

pub not_refuted : (m : Mill) (limits : Limits) (decisions : List Decision) (p : Prices) (r : Result (Unit {0}) Bad) → is_err r ≡ true → OnErr r (¬ Refutes m limits decisions p) → Refutes m limits decisions p → ⊥
not_refuted m limits decisions p (Ok x) e h = cc
not_refuted m limits decisions p (Err bad) e h = h

abbrev mark_of : Level → Mark
mark_of (InYes mark ask if_no) = mark
mark_of (InNo mark ask if_yes tree) = mark

abbrev ask_of : Level → Ask
ask_of (InYes mark ask if_no) = ask
ask_of (InNo mark ask if_yes tree) = ask

-- what was written goes on with the question above
lead_rest : (leads : Bool) (p leaf : Prices) (level : Level) (levels : List Level) (written : List Node) → IsLead leads p leaf (level ∷ levels) written → (more : List Node) × (written ≡ written_of levels ++ Branched (ask_of level) (mark_of level) ∷ more)
lead_rest true p leaf (InYes mark ask if_no) levels written h = ([], h.1)
lead_rest true p leaf (InNo mark ask if_yes tree) levels written h = (nodes_of tree, h.1)
lead_rest false p leaf (InYes mark ask if_no) levels written h = (Closed leaf ∷ [], h ∙ append_assoc (written_of levels) (Branched ask mark ∷ []) (Closed leaf ∷ []))
lead_rest false p leaf (InNo mark ask if_yes tree) levels written h = (nodes_of tree ++ Closed leaf ∷ [], h ∙ append_assoc (written_of levels) (Branched ask mark ∷ nodes_of tree) (Closed leaf ∷ []))

-- the last of two lists that are the same
append_last : (xs ys : List ℕ) (x y : ℕ) → xs ++ x ∷ [] ≡ ys ++ y ∷ [] → x ≡ y
append_last [] [] x y e = cc
append_last [] (b ∷ []) x y e = cc
append_last [] (b ∷ c ∷ ys) x y e = cc
append_last (a ∷ []) [] x y e = cc
append_last (a ∷ c ∷ xs) [] x y e = cc
append_last (a ∷ xs) (b ∷ ys) x y e = append_last xs ys x y (tails e)
  where
    tails : a ∷ (xs ++ x ∷ []) ≡ b ∷ (ys ++ y ∷ []) → xs ++ x ∷ [] ≡ ys ++ y ∷ []
    tails e = cc

module _ (m : Mill) (limits : Limits) (whole : Tree Mark Prices) (rest : List Node) (w v : Walk) where
  -- ---- going up from a finished tree

  pub up_whole : IsEnd m limits whole w rest → w.path.decisions ≡ [] → v.written.items ≡ w.written.items → IsGoing m limits whole v rest
  up_whole h none written = by h.levels h.has.decisions h.finished
    where
      by : (levels : List Level) → w.path.decisions ≡ decisions_of levels → IsFinished m limits whole levels w.written.items rest → IsGoing m limits whole v rest
      by [] e f = inr (subst (λ ns. IsDone m limits whole ns rest) (sym written) (finished_whole m limits whole w.written.items rest f))
      by (InYes mark ask if_no ∷ levels) e f = absurd (some_none (ask, true) (decisions_of levels) (sym none ∙ e))
      by (InNo mark ask if_yes new ∷ levels) e f = absurd (some_none (ask, false) (decisions_of levels) (sym none ∙ e))

  pub up_yes : (ask : Ask) (path : List Decision) → IsEnd m limits whole w rest → w.path.decisions ≡ (ask, true) ∷ path → v.path.decisions ≡ (ask, false) ∷ path → v.places.items ≡ w.places.items → v.left ≡ w.left → v.written.items ≡ w.written.items → IsGoing m limits whole v rest
  up_yes ask path h old new places left written = by h.levels h.has.decisions h.has.places h.finished
    where
      by : (levels : List Level) → w.path.decisions ≡ decisions_of levels → w.places.items ≡ places_of levels → IsFinished m limits whole levels w.written.items rest → IsGoing m limits whole v rest
      by [] e p f = absurd (some_none (ask, true) path (sym e ∙ old))
      by (InNo mark asked if_yes tree ∷ levels) e p f = absurd (yes_no (answers ask asked true false path (decisions_of levels) (sym old ∙ e)))
      by (InYes mark asked if_no ∷ levels) e p f =
          let same : (ask, true) ∷ path ≡ (asked, true) ∷ decisions_of levels = sym old ∙ e in
          let next = finished_yes m limits whole mark asked if_no levels w.written.items rest f in
          inl (record {
            levels = InNo mark asked next.0 next.1 ∷ levels;
            has = record {
              decisions = new ∙ ap (λ a. (a, false) ∷ path) (asks ask asked true true path (decisions_of levels) same) ∙ ap (λ ds. (asked, false) ∷ ds) (path_rest (ask, true) (asked, true) path (decisions_of levels) same);
              places = places ∙ p;
            };
            stands = subst (λ k. StandsAt m limits whole (InNo mark asked next.0 next.1 ∷ levels) k v.written.items rest) (sym (left ∙ h.left)) (subst (λ ns. IsAtRoot m limits whole (InNo mark asked next.0 next.1 ∷ levels) ns rest) (sym written) next.2);
          })

  pub up_no : (ask : Ask) (path : List Decision) → IsEnd m limits whole w rest → w.path.decisions ≡ (ask, false) ∷ path → v.path.decisions ≡ path → ((before : List ℕ) (place : ℕ) → w.places.items ≡ before ++ place ∷ [] → v.places.items ≡ before) → v.left ≡ w.left → v.written.items ≡ w.written.items → IsEnd m limits whole v rest
  up_no ask path h old new places left written = by h.levels h.has.decisions h.has.places h.finished
    where
      by : (levels : List Level) → w.path.decisions ≡ decisions_of levels → w.places.items ≡ places_of levels → IsFinished m limits whole levels w.written.items rest → IsEnd m limits whole v rest
      by [] e p f = absurd (some_none (ask, false) path (sym e ∙ old))
      by (InYes mark asked if_no ∷ levels) e p f = absurd (yes_no (answers asked ask true false (decisions_of levels) path (sym e ∙ old)))
      by (InNo mark asked if_yes tree ∷ levels) e p f = record {
        levels = levels;
        has = record {
          decisions = new ∙ path_rest (ask, false) (asked, false) path (decisions_of levels) (sym old ∙ e);
          places = places (places_of levels) (length (written_of levels)) p;
        };
        left = left ∙ h.left;
        finished = subst (λ ns. IsFinished m limits whole levels ns rest) (sym written) (finished_no m limits whole mark asked if_yes tree levels w.written.items rest f);
      }

  -- ---- going up from a leaf

  pub stops : (leads : Bool) (p : Prices) → IsUp m limits whole w leads p rest → (not : (d : Decision) (path : List Decision) → w.path.decisions ≡ d ∷ path → Refutes m limits path p → ⊥) → v.path.decisions ≡ w.path.decisions → v.places.items ≡ w.places.items → v.left ≡ w.left → v.written.items ≡ w.written.items → IsStopped m limits whole v leads p rest
  stops leads p h not path places left written = record {
    up = record {
      levels = h.levels;
      has = record { decisions = path ∙ h.has.decisions; places = places ∙ h.has.places };
      climbing = subst (λ ns. IsClimbing m limits whole h.levels v.left leads p ns rest) (sym written) (subst (λ k. IsClimbing m limits whole h.levels k leads p w.written.items rest) (sym left) h.climbing);
    };
    not = by h.levels h.has.decisions;
  }
    where
      by : (levels : List Level) → w.path.decisions ≡ decisions_of levels → NoneRefutesAbove m limits levels (p ∷ [])
      by [] e = tt
      by (InYes mark ask if_no ∷ levels) e = (not (ask, true) (decisions_of levels) e, tt)
      by (InNo mark ask if_yes tree ∷ levels) e = (not (ask, false) (decisions_of levels) e, tt)

  -- what stands where the question above was written
  above_node : (leads : Bool) (p leaf : Prices) (levels : List Level) (written : List Node) (more : List Node) (mark : Mark) (ask : Ask) (d : Node) → written ≡ written_of levels ++ Branched ask mark ∷ more → get_or written (length (written_of levels)) d ≡ Branched ask mark
  above_node leads p leaf levels written more mark ask d e = ap (λ ns. get_or ns (length (written_of levels)) d) e ∙ get_or-append_seam (written_of levels) (Branched ask mark) more d

  one_mark : (ask other : Ask) (mark : Mark) (shown : Shown) → Branched ask mark ≡ Branched other (Spread shown) → mark ≡ Spread shown
  one_mark ask other mark shown e = cc

  -- what was written below the question above is given up
  given_up : (leads : Bool) (p leaf : Prices) (level : Level) (levels : List Level) (written : List Node) → IsLead leads p leaf (level ∷ levels) written → take (length (written_of levels)) written ≡ written_of levels
  given_up true p leaf (InYes mark ask if_no) levels written h = ap (take (length (written_of levels))) h.1 ∙ take-append_seam (written_of levels) (Branched ask mark ∷ [])
  given_up true p leaf (InNo mark ask if_yes tree) levels written h = ap (take (length (written_of levels))) h.1 ∙ take-append_seam (written_of levels) (Branched ask mark ∷ nodes_of tree)
  given_up false p leaf (InYes mark ask if_no) levels written h = ap (take (length (written_of levels))) (h ∙ append_assoc (written_of levels) (Branched ask mark ∷ []) (Closed leaf ∷ [])) ∙ take-append_seam (written_of levels) (Branched ask mark ∷ Closed leaf ∷ [])
  given_up false p leaf (InNo mark ask if_yes tree) levels written h = ap (take (length (written_of levels))) (h ∙ append_assoc (written_of levels) (Branched ask mark ∷ nodes_of tree) (Closed leaf ∷ [])) ∙ take-append_seam (written_of levels) (Branched ask mark ∷ (nodes_of tree ++ Closed leaf ∷ []))

  few_parts : (parts : List (Tree Mark Prices)) → length parts ≤ length (forest_nodes parts)
  few_parts [] = omega arith
  few_parts (t ∷ parts) = omega (arith, few_parts parts, length-append (nodes_of t) (forest_nodes parts), some t)
    where
      some : (t : Tree Mark Prices) → 1 ≤ length (nodes_of t)
      some (End q) = omega arith
      some (Split mark ask if_yes if_no) = omega arith

  pub rises : (leads : Bool) (p : Prices) (ask : Ask) (answer : Bool) (path : List Decision) (place : ℕ) → length rest < 2 ^ 63 → IsUp m limits whole w leads p rest → w.path.decisions ≡ (ask, answer) ∷ path → v.path.decisions ≡ path → Refutes m limits path p
      → ((before : List ℕ) (last : ℕ) → w.places.items ≡ before ++ last ∷ [] → (v.places.items ≡ before) × (place ≡ last)) → v.written.items ≡ take place w.written.items → (answer ≡ false → v.left ≡ w.left) → (answer ≡ true → w.left < 2 ^ 64 - 1 → v.left ≡ w.left + 1) → IsUp m limits whole v true p rest
  rises leads p ask answer path place few h old new refutes places written on_no on_yes = by h.levels h.has.decisions h.has.places h.climbing
    where
      by : (levels : List Level) → w.path.decisions ≡ decisions_of levels → w.places.items ≡ places_of levels → IsClimbing m limits whole levels w.left leads p w.written.items rest → IsUp m limits whole v true p rest
      by [] e q f = absurd (some_none (ask, answer) path (sym e ∙ old))
      by (InYes mark asked if_no ∷ levels) e q f =
          let same : (ask, answer) ∷ path ≡ (asked, true) ∷ decisions_of levels = sym old ∙ e in
          let above : path ≡ decisions_of levels = path_rest (ask, answer) (asked, true) path (decisions_of levels) same in
          let at = places (places_of levels) (length (written_of levels)) q in
          let small : w.left < 2 ^ 64 - 1 = omega (arith, few, f.left_is, few_parts f.parts, ap length f.rest_is, length-append (forest_nodes f.parts) (coming_of (InYes mark asked if_no ∷ levels))) in
          let left : v.left ≡ w.left + 1 = on_yes (answers ask asked answer true path (decisions_of levels) same) small in
          let back : v.written.items ≡ written_of levels = written ∙ ap (λ k. take k w.written.items) at.1 ∙ given_up leads p f.leaf (InYes mark asked if_no) levels w.written.items f.lead in
          record {
            levels = levels;
            has = record { decisions = new ∙ above; places = at.0 };
            climbing = subst (λ ns. IsClimbing m limits whole levels v.left true p ns rest) (sym back) (subst (λ k. IsClimbing m limits whole levels k true p (written_of levels) rest) (sym left) (climb_yes m limits whole mark asked if_no levels w.left leads p w.written.items rest (subst (λ ds. Refutes m limits ds p) above refutes) f));
          }
      by (InNo mark asked if_yes tree ∷ levels) e q f =
          let same : (ask, answer) ∷ path ≡ (asked, false) ∷ decisions_of levels = sym old ∙ e in
          let above : path ≡ decisions_of levels = path_rest (ask, answer) (asked, false) path (decisions_of levels) same in
          let at = places (places_of levels) (length (written_of levels)) q in
          let left : v.left ≡ w.left = on_no (answers ask asked answer false path (decisions_of levels) same) in
          let back : v.written.items ≡ written_of levels = written ∙ ap (λ k. take k w.written.items) at.1 ∙ given_up leads p f.leaf (InNo mark asked if_yes tree) levels w.written.items f.lead in
          record {
            levels = levels;
            has = record { decisions = new ∙ above; places = at.0 };
            climbing = subst (λ ns. IsClimbing m limits whole levels v.left true p ns rest) (sym back) (subst (λ k. IsClimbing m limits whole levels k true p (written_of levels) rest) (sym left) (climb_no m limits whole mark asked if_yes tree levels w.left leads p w.written.items rest (subst (λ ds. Refutes m limits ds p) above refutes) f));
          }

  -- where the question above shows a cover, no prices refute there
  pub stops_covered : (leads : Bool) (p : Prices) → HasRightMarks m limits whole [] → IsCoveredAbove w → IsUp m limits whole w leads p rest → IsStopped m limits whole w leads p rest
  stops_covered leads p right covered h = record { up = h; not = by h.levels h.has.places h.climbing }
    where
      last_is : (xs ys : List ℕ) (x y : ℕ) → xs ++ x ∷ [] ≡ ys ++ y ∷ [] → x ≡ y
      last_is xs ys x y e = append_last xs ys x y e

      by : (levels : List Level) → w.places.items ≡ places_of levels → IsClimbing m limits whole levels w.left leads p w.written.items rest → NoneRefutesAbove m limits levels (p ∷ [])
      by [] q f = tt
      by (InYes mark ask if_no ∷ levels) q f =
          let place : covered.place ≡ length (written_of levels) = last_is covered.before (places_of levels) covered.place (length (written_of levels)) (sym covered.places ∙ q) in
          let stands : get_or w.written.items (length (written_of levels)) (Closed p) ≡ Branched covered.ask (Spread covered.shown) = ap (λ k. get_or w.written.items k (Closed p)) (sym place) ∙ covered.stands (Closed p) in
          let more = lead_rest leads p f.leaf (InYes mark ask if_no) levels w.written.items f.lead in
          let same : mark ≡ Spread covered.shown = one_mark ask covered.ask mark covered.shown (sym (above_node leads p f.leaf levels w.written.items more.0 mark ask (Closed p) more.1) ∙ stands) in
          (none_where_shown m limits whole mark ask levels f.tree if_no covered.shown p right f.whole_is same, tt)
      by (InNo mark ask if_yes tree ∷ levels) q f =
          let place : covered.place ≡ length (written_of levels) = last_is covered.before (places_of levels) covered.place (length (written_of levels)) (sym covered.places ∙ q) in
          let stands : get_or w.written.items (length (written_of levels)) (Closed p) ≡ Branched covered.ask (Spread covered.shown) = ap (λ k. get_or w.written.items k (Closed p)) (sym place) ∙ covered.stands (Closed p) in
          let more = lead_rest leads p f.leaf (InNo mark ask if_yes tree) levels w.written.items f.lead in
          let same : mark ≡ Spread covered.shown = one_mark ask covered.ask mark covered.shown (sym (above_node leads p f.leaf levels w.written.items more.0 mark ask (Closed p) more.1) ∙ stands) in
          (none_where_shown m limits whole mark ask levels if_yes f.tree covered.shown p right f.whole_is same, tt)

  -- ---- a question

  pub splits_within : (mark : Mark) (ask : Ask) → length rest < 2 ^ 63 → 0 < w.left → IsGoing m limits whole w (Branched ask mark ∷ rest) → v.path.decisions ≡ w.path.decisions → v.places.items ≡ w.places.items → (w.left < 2 ^ 64 - 1 → v.left ≡ w.left + 1) → v.written.items ≡ w.written.items → IsGoing m limits whole v rest
  splits_within mark ask few some (inr done) path places left written = absurd (nothing done.rest_is)
    where
      nothing : Branched ask mark ∷ rest ≡ [] → ⊥
      nothing e = cc
  splits_within mark ask few some (inl h) path places left written = by w.left refl some h.stands
    where
      by : (k : ℕ) → w.left ≡ k → 0 < k → StandsAt m limits whole h.levels k w.written.items (Branched ask mark ∷ rest) → IsGoing m limits whole v rest
      by zero e p s = absurd (omega (arith, p))
      by (suc k) e p s =
          let small : w.left < 2 ^ 64 - 1 = omega (arith, few, e, s.left_is, few_parts s.parts, ap length s.rest_is, length-append (forest_nodes s.parts) (coming_of h.levels)) in
          let more : v.left ≡ suc (suc k) = omega (arith, left small, e) in
          let within : IsWithin m limits whole h.levels (suc (suc k)) w.written.items rest =
          subst (λ n. IsWithin m limits whole h.levels n w.written.items rest) (omega arith) (within_split m limits whole h.levels (suc k) mark ask w.written.items rest (omega arith) s) in
          inl (record {
            levels = h.levels;
            has = record { decisions = path ∙ h.has.decisions; places = places ∙ h.has.places };
            stands = subst (λ n. StandsAt m limits whole h.levels n v.written.items rest) (sym more) (subst (λ ns. IsWithin m limits whole h.levels (suc (suc k)) ns rest) (sym written) within);
          })

  -- the question isn't on the path
  pub is_fresh : (mark : Mark) (ask : Ask) → RefutingTree m limits whole [] → w.left ≡ 0 → IsGoing m limits whole w (Branched ask mark ∷ rest) → IsFresh ask w.path.decisions
  is_fresh mark ask tree none (inr done) = absurd (nothing done.rest_is)
    where
      nothing : Branched ask mark ∷ rest ≡ [] → ⊥
      nothing e = cc
  is_fresh mark ask tree none (inl h) = by w.left none h.stands
    where
      by : (k : ℕ) → k ≡ 0 → StandsAt m limits whole h.levels k w.written.items (Branched ask mark ∷ rest) → IsFresh ask w.path.decisions
      by (suc k) e s = absurd (omega (arith, e))
      by zero e s = subst (IsFresh ask) (sym h.has.decisions) (root_fresh m limits whole h.levels mark ask w.written.items rest tree s)

  pub splits_root : (mark : Mark) (ask : Ask) → w.left ≡ 0 → IsGoing m limits whole w (Branched ask mark ∷ rest) → v.path.decisions ≡ (ask, true) ∷ w.path.decisions → v.places.items ≡ w.places.items ++ length w.written.items ∷ [] → v.left ≡ w.left → v.written.items ≡ w.written.items ++ Branched ask mark ∷ [] → IsGoing m limits whole v rest
  splits_root mark ask none (inr done) path places left written = absurd (nothing done.rest_is)
    where
      nothing : Branched ask mark ∷ rest ≡ [] → ⊥
      nothing e = cc
  splits_root mark ask none (inl h) path places left written = by w.left none h.stands
    where
      by : (k : ℕ) → k ≡ 0 → StandsAt m limits whole h.levels k w.written.items (Branched ask mark ∷ rest) → IsGoing m limits whole v rest
      by (suc k) e s = absurd (omega (arith, e))
      by zero e s =
          let next = root_split m limits whole h.levels mark ask w.written.items rest s in
          inl (record {
            levels = InYes mark ask next.0 ∷ h.levels;
            has = record {
              decisions = path ∙ ap (λ ds. (ask, true) ∷ ds) h.has.decisions;
              places = places ∙ ap (λ ks. ks ++ length w.written.items ∷ []) h.has.places ∙ ap (λ ns. places_of h.levels ++ length ns ∷ []) s.written_is;
            };
            stands = subst (λ n. StandsAt m limits whole (InYes mark ask next.0 ∷ h.levels) n v.written.items rest) (sym (left ∙ none)) (subst (λ ns. IsAtRoot m limits whole (InYes mark ask next.0 ∷ h.levels) ns rest) (sym written) next.1);
          })

  -- ---- a leaf

  -- it is read, as the first to refute here or below an earlier one
  pub reads_root : (p : Prices) → RefutingTree m limits whole [] → w.left ≡ 0 → IsGoing m limits whole w (Closed p ∷ rest) → v.path.decisions ≡ w.path.decisions → v.places.items ≡ w.places.items → v.left ≡ 0 → v.written.items ≡ w.written.items → IsUp m limits whole v true p rest
  reads_root p tree none (inr done) path places left written = absurd (nothing done.rest_is)
    where
      nothing : Closed p ∷ rest ≡ [] → ⊥
      nothing e = cc
  reads_root p tree none (inl h) path places left written = by w.left none h.stands
    where
      by : (k : ℕ) → k ≡ 0 → StandsAt m limits whole h.levels k w.written.items (Closed p ∷ rest) → IsUp m limits whole v true p rest
      by (suc k) e s = absurd (omega (arith, e))
      by zero e s = record {
        levels = h.levels;
        has = record { decisions = path ∙ h.has.decisions; places = places ∙ h.has.places };
        climbing = subst (λ n. IsClimbing m limits whole h.levels n true p v.written.items rest) (sym left) (subst (λ ns. IsClimbing m limits whole h.levels 0 true p ns rest) (sym written) (root_leaf m limits whole h.levels p w.written.items rest tree s));
      }

  pub reads_within : (p : Prices) → 0 < w.left → IsGoing m limits whole w (Closed p ∷ rest) → v.path.decisions ≡ w.path.decisions → v.places.items ≡ w.places.items → v.left + 1 ≡ w.left → v.written.items ≡ w.written.items → IsUp m limits whole v false p rest
  reads_within p some (inr done) path places left written = absurd (nothing done.rest_is)
    where
      nothing : Closed p ∷ rest ≡ [] → ⊥
      nothing e = cc
  reads_within p some (inl h) path places left written = by w.left refl some h.stands
    where
      by : (k : ℕ) → w.left ≡ k → 0 < k → StandsAt m limits whole h.levels k w.written.items (Closed p ∷ rest) → IsUp m limits whole v false p rest
      by zero e q s = absurd (omega (arith, q))
      by (suc k) e q s =
          let same : v.left ≡ k = omega (arith, left, e) in
          record {
            levels = h.levels;
            has = record { decisions = path ∙ h.has.decisions; places = places ∙ h.has.places };
            climbing = subst (λ n. IsClimbing m limits whole h.levels n false p v.written.items rest) (sym same) (subst (λ ns. IsClimbing m limits whole h.levels k false p ns rest) (sym written) (within_leaf m limits whole h.levels k p w.written.items rest s));
          }

  -- the walk goes on below the leaf that stands there
  pub goes_on : (leads : Bool) (p : Prices) → 0 < w.left → IsStopped m limits whole w leads p rest → v.path.decisions ≡ w.path.decisions → v.places.items ≡ w.places.items → v.left ≡ w.left → v.written.items ≡ w.written.items ++ lead_nodes leads p → IsGoing m limits whole v rest
  goes_on leads p some h path places left written = by w.left refl some (stays_within m limits whole h.up.levels w.left leads p w.written.items rest h.not h.up.climbing)
    where
      by : (k : ℕ) → w.left ≡ k → 0 < k → IsWithin m limits whole h.up.levels w.left (w.written.items ++ lead_nodes leads p) rest → IsGoing m limits whole v rest
      by zero e q s = absurd (omega (arith, q))
      by (suc k) e q s = inl (record {
        levels = h.up.levels;
        has = record { decisions = path ∙ h.up.has.decisions; places = places ∙ h.up.has.places };
        stands = subst (λ n. StandsAt m limits whole h.up.levels n v.written.items rest) (sym (left ∙ e)) (subst (λ ns. IsWithin m limits whole h.up.levels (suc k) ns rest) (sym written) (subst (λ n. IsWithin m limits whole h.up.levels n (w.written.items ++ lead_nodes leads p) rest) e s));
      })

  -- or the tree is done
  pub ends_here : (leads : Bool) (p : Prices) → w.left ≡ 0 → IsStopped m limits whole w leads p rest → v.path.decisions ≡ w.path.decisions → v.places.items ≡ w.places.items → v.left ≡ w.left → v.written.items ≡ w.written.items ++ lead_nodes leads p → IsEnd m limits whole v rest
  ends_here leads p none h path places left written = record {
    levels = h.up.levels;
    has = record { decisions = path ∙ h.up.has.decisions; places = places ∙ h.up.has.places };
    left = left ∙ none;
    finished = subst (λ ns. IsFinished m limits whole h.up.levels ns rest) (sym written) (stays_finished m limits whole h.up.levels w.left leads p w.written.items rest none h.not h.up.climbing);
  }

-- a fresh question is added
pub pushed : (ask : Ask) (decisions : List Decision) (result : Bool) → (result ≡ false → Contains (asks_of decisions) ask) → IsFresh ask decisions → (if result then (ask, true) ∷ decisions else decisions) ≡ (ask, true) ∷ decisions
pushed ask decisions true stands fresh = refl
pushed ask decisions false stands fresh = absurd (fresh (stands refl))

-- ---- the whole walk

module _ (m : Mill) (limits : Limits) (whole : Tree Mark Prices) where
  -- before the first node
  pub starts : (w : Walk) (nodes : List Node) → w.path.decisions ≡ [] → w.places.items ≡ [] → w.left ≡ 0 → w.written.items ≡ [] → nodes ≡ nodes_of whole → IsGoing m limits whole w nodes
  starts w nodes path places left written e = inl (record {
    levels = [];
    has = record { decisions = path; places = places };
    stands = subst (λ n. StandsAt m limits whole [] n w.written.items nodes) (sym left) (record { tree = whole; whole_is = refl; trimmed = tt; written_is = written; rest_is = e ∙ sym (append-nil (nodes_of whole)) });
  })

  -- a question that is read for itself is one of the mill
  pub is_asked : (w : Walk) (mark : Mark) (ask : Ask) (rest : List Node) → RefutingTree m limits whole [] → w.left ≡ 0 → IsGoing m limits whole w (Branched ask mark ∷ rest) → IsAsk m ask
  is_asked w mark ask rest tree none (inr done) = absurd (nothing done.rest_is)
    where
      nothing : Branched ask mark ∷ rest ≡ [] → ⊥
      nothing e = cc
  is_asked w mark ask rest tree none (inl h) = by w.left none h.stands
    where
      by : (k : ℕ) → k ≡ 0 → StandsAt m limits whole h.levels k w.written.items (Branched ask mark ∷ rest) → IsAsk m ask
      by (suc k) e s = absurd (omega (arith, e))
      by zero e s = root_ask m limits whole h.levels mark ask w.written.items rest tree s

  -- after the last
  pub ends : (w : Walk) → IsGoing m limits whole w [] → AreTrimmedNodes m limits whole w.written.items
  ends w (inr done) = record { new = done.new; trimmed = done.trimmed; nodes_are = done.written_is }
  ends w (inl h) = absurd (by w.left h.stands)
    where
      no_nodes : (t : Tree Mark Prices) (more : List Node) → [] ≡ nodes_of t ++ more → ⊥
      no_nodes (End p) more e = cc
      no_nodes (Split mark ask if_yes if_no) more e = cc

      by : (k : ℕ) → StandsAt m limits whole h.levels k w.written.items [] → ⊥
      by zero s = no_nodes s.tree (coming_of h.levels) s.rest_is
      by (suc k) s = parts s.parts s.left_is s.rest_is
        where
          parts : (ts : List (Tree Mark Prices)) → suc k ≡ length ts → [] ≡ forest_nodes ts ++ coming_of h.levels → ⊥
          parts [] l e = omega (arith, l)
          parts (t ∷ ts) l e = no_nodes t (forest_nodes ts ++ coming_of h.levels) (e ∙ append_assoc (nodes_of t) (forest_nodes ts) (coming_of h.levels))
