-- How a walk's standing changes: a node is closed, a node is split, the limits fall.
use Rattle.std.proofs.Common.{◌≡◌, suc, Bool, true, false, List, [], ◌∷◌, ◌++◌, map, Option, Some, None, refl, sym, ap, subst, ◌∙◌, append_assoc, arith, Contains, inl, inr, not, length, ℕ, length-append}
use Rattle.std.specs.Prelude.{◌⊎◌}
use Rattle.mill_model.specs.declared.ask.Ask.{Ask}
use Rattle.mill_model.specs.declared.limits.Limits.{Limits}
use Rattle.mill_model.specs.declared.mark.Mark.{Mark}
use Rattle.mill_model.specs.Mill.{Mill}
use Rattle.mill_model.specs.Prices.{Prices, Refutes}
use Rattle.mill_model.specs.Limits.{AreSmaller}
use Rattle.mill_model.specs.Assignments.{Follows, IsLean, answer}
use Rattle.mill_model.specs.Decisions.{Decision, AreAsks, IsAskAmong}
use Rattle.mill_model.specs.Paths.{next_branch}
use Rattle.mill_model.specs.Trees.{Tree, IsFresh, EverySplit}
use Rattle.mill_model.specs.Trees.Tree.{End, Split}
use Rattle.mill_model.proofs.Gap.{Contains-cases}
use Rattle.mill_model.proofs.TreeLaws.{tree_smaller}
use Rattle.slab_decide.specs.Decided.{Decisions, AreConsistent, HasDecided, IsOpen}
use Rattle.slab_node.specs.Turns.{IsOpenAsk, IsUndecided}
use Rattle.slab_tree.specs.declared.node.Node.{Node}
use Rattle.slab_tree.specs.declared.node.Node.TheVariants.{Closed, Branched}
use Rattle.slab_tree.specs.Asking.{IsOpenAskOf}
use Rattle.slab_tree.specs.Marking.{MarkRule}
use Rattle.slab_tree.specs.Standing.{IsSplit, IsDone, nodes_of, Stands, waiting, GoesOn, IsOpenPath}

-- ---- open questions

-- a question that doesn't follow isn't answered yet
pub open_fresh : (m : Mill) (path : List Decision) (ask : Ask) → IsOpenAsk m path ask → IsFresh ask path
open_fresh m path ask h found = fresh path found h.undecided
  where
    fresh : (ds : List Decision) → Contains (map (λ (d : Decision). d.0) ds) ask → IsUndecided ds ask → ⊥
    fresh [] c undecided = absurd (omega (arith, c.1))
    fresh (d ∷ ds) c undecided = elim (Contains-cases d.0 (map (λ (x : Decision). x.0) ds) ask c) [
      | inl e ↦ undecided d.1 (λ a agree. subst (λ (x : Ask). answer a x ≡ d.1) e agree.0)
      | inr r ↦ fresh ds r (λ b f. undecided b (λ a agree. f a agree.1))
    ]

-- where the question is open, either answer to it agrees with some assignment: a clash can't come
pub no_clash : (list : List Decision) (ask : Ask) (b : Bool) → IsUndecided list ask → (AreConsistent ((ask, b) ∷ list) → ⊥) → ⊥
no_clash list ask b undecided clash = undecided (not b) (λ a agree. other (answer a ask) b (λ e. clash (a, (e, agree))))
  where
    other : (x y : Bool) → (x ≡ y → ⊥) → x ≡ not y
    other true true h = absurd (h refl)
    other true false h = refl
    other false true h = refl
    other false false h = absurd (h refl)

-- nor does the decision stand already
not_decided : (list : List Decision) (ask : Ask) (b : Bool) → IsUndecided list ask → Contains list (ask, b) → ⊥
not_decided [] ask b undecided c = absurd (omega (arith, c.1))
not_decided (d ∷ ds) ask b undecided c = elim (Contains-cases d ds (ask, b) c) [
  | inl e ↦ undecided b (λ a agree. subst (λ (x : Decision). answer a x.0 ≡ x.1) e agree.0)
  | inr r ↦ not_decided ds ask b (λ x f. undecided x (λ a agree. f a agree.1)) r
]

pub decided : (old new : Decisions) (ask : Ask) (b : Bool) → IsUndecided old.list ask → HasDecided old new (ask, b) → new ≡ record old { list = (ask, b) ∷ old.list }
decided old new ask b undecided (inl h) = absurd (not_decided old.list ask b undecided h.0)
decided old new ask b undecided (inr h) = h.1

-- ---- open paths

pub open_path_rest : (orders slabs : ℕ) (later earlier : List Decision) → IsOpenPath orders slabs (later ++ earlier) → IsOpenPath orders slabs earlier
open_path_rest orders slabs [] earlier h = h
open_path_rest orders slabs (d ∷ later) earlier h = open_path_rest orders slabs later earlier h.2

-- the questions of the next branch are open too
pub open_branch : (orders slabs : ℕ) (path branch : List Decision) → next_branch path ≡ Some branch → IsOpenPath orders slabs path → IsOpenPath orders slabs branch
open_branch orders slabs [] branch e h = cc
open_branch orders slabs ((ask, true) ∷ path) branch e h = subst (λ (p : List Decision). IsOpenPath orders slabs p) (same e) h
  where
    same : Some ((ask, false) ∷ path) ≡ Some branch → (ask, false) ∷ path ≡ branch
    same w = cc
open_branch orders slabs ((ask, false) ∷ path) branch e h = open_branch orders slabs path branch e h.2

-- ---- the walk

module _ (m : Mill) (Rule : MarkRule) (limits : Limits) where
  -- the part of a tree at a split
  pub join : (mark : Mark) (ask : Ask) (left right : Tree Mark Prices) (path : List Decision) → IsSplit m Rule mark ask path → IsDone m Rule limits left ((ask, true) ∷ path) → IsDone m Rule limits right ((ask, false) ∷ path) → IsDone m Rule limits (Split mark ask left right) path
  join mark ask left right path s y n = record { refutes = (s.opened.asked, open_fresh m path ask s.opened, y.refutes, n.refutes); splits = (s, y.splits, n.splits) }

  -- the next node is the root of a finished part of the tree
  pub closes : (path : List Decision) (before : List Node) (t : Tree Mark Prices) → Stands m Rule limits path before → IsDone m Rule limits t path → GoesOn m Rule limits (next_branch path) (before ++ nodes_of t)
  closes [] before t h done = record { tree = t; done = done; nodes_are = ap (λ ns. ns ++ nodes_of t) h }
  closes ((ask, true) ∷ path) before t h done = record {
    mark = h.mark;
    before = h.before;
    if_yes = t;
    split = h.split;
    done = done;
    nodes_are = ap (λ ns. ns ++ nodes_of t) h.nodes_are ∙ append_assoc h.before (Branched ask h.mark ∷ []) (nodes_of t);
    stands = h.stands;
  }
  closes ((ask, false) ∷ path) before t h done =
      subst (λ (ns : List Node). GoesOn m Rule limits (next_branch path) ns)
      (sym (ap (λ ns. ns ++ nodes_of t) h.nodes_are ∙ append_assoc h.before (Branched ask h.mark ∷ nodes_of h.if_yes) (nodes_of t)))
      (closes path h.before (Split h.mark ask h.if_yes t) h.stands (join h.mark ask h.if_yes t path h.split h.done done))

  pub closes_leaf : (path : List Decision) (before : List Node) (p : Prices) → Stands m Rule limits path before → Refutes m limits path p → GoesOn m Rule limits (next_branch path) (before ++ Closed p ∷ [])
  closes_leaf path before p h refutes = closes path before (End p) h (record { refutes = refutes; splits = tt })

  pub splits_at : (path : List Decision) (before : List Node) (ask : Ask) (mark : Mark) → Stands m Rule limits path before → IsSplit m Rule mark ask path → Stands m Rule limits ((ask, true) ∷ path) (before ++ Branched ask mark ∷ [])
  splits_at path before ask mark h s = record { mark = mark; before = before; split = s; nodes_are = refl; stands = h }

  -- each question of the path is open under those before it
  pub path_open : (path : List Decision) (before : List Node) → Stands m Rule limits path before → IsOpenPath (length m.orders) (length m.yard) path
  path_open [] before h = tt
  path_open ((ask, true) ∷ path) before h = (h.split.opened.asked, h.split.opened.undecided, path_open path h.before h.stands)
  path_open ((ask, false) ∷ path) before h = (h.split.opened.asked, h.split.opened.undecided, path_open path h.before h.stands)

  -- with no node before it a node is the root
  pub at_root : (path : List Decision) (before : List Node) → Stands m Rule limits path before → before ≡ [] → path ≡ []
  at_root [] before h e = refl
  at_root ((ask, true) ∷ path) before h e = absurd (omega (arith, ap length (sym h.nodes_are ∙ e), length-append h.before (Branched ask h.mark ∷ [])))
  at_root ((ask, false) ∷ path) before h e = absurd (omega (arith, ap length (sym h.nodes_are ∙ e), length-append h.before (Branched ask h.mark ∷ nodes_of h.if_yes)))

-- the questions of an open path are the mill's
pub path_asks : (m : Mill) (path : List Decision) → IsOpenPath (length m.orders) (length m.yard) path → AreAsks m path
path_asks m [] h = tt
path_asks m (d ∷ path) h = (h.0, path_asks m path h.2)

-- one branch less waits
pub waiting_next : (path branch : List Decision) → next_branch path ≡ Some branch → waiting path ≡ suc (waiting branch)
waiting_next [] branch e = cc
waiting_next ((ask, true) ∷ path) branch e = ap suc (ap waiting (same e))
  where
    same : Some ((ask, false) ∷ path) ≡ Some branch → (ask, false) ∷ path ≡ branch
    same h = cc
waiting_next ((ask, false) ∷ path) branch e = waiting_next path branch e

-- the last node of a tree has no waiting branch
pub none_waits : (path : List Decision) → next_branch path ≡ None → waiting path ≡ 0
none_waits [] e = refl
none_waits ((ask, true) ∷ path) e = cc
none_waits ((ask, false) ∷ path) e = none_waits path e

-- the limits fall
module _ (m : Mill) (Rule : MarkRule) (smaller limits : Limits) (fall : AreSmaller smaller limits) where
  pub done_smaller : (t : Tree Mark Prices) (path : List Decision) → IsDone m Rule limits t path → IsDone m Rule smaller t path
  done_smaller t path h = record { refutes = tree_smaller m smaller limits t path fall h.refutes; splits = h.splits }

  pub stands_smaller : (path : List Decision) (before : List Node) → Stands m Rule limits path before → Stands m Rule smaller path before
  stands_smaller [] before h = h
  stands_smaller ((ask, true) ∷ path) before h = record { mark = h.mark; before = h.before; split = h.split; nodes_are = h.nodes_are; stands = stands_smaller path h.before h.stands }
  stands_smaller ((ask, false) ∷ path) before h = record { mark = h.mark; before = h.before; if_yes = h.if_yes; split = h.split; done = done_smaller h.if_yes ((ask, true) ∷ path) h.done; nodes_are = h.nodes_are; stands = stands_smaller path h.before h.stands }

-- ---- whole trees

pub lean : {E : Type 0} (m : Mill) (Rule : MarkRule) (t : Tree Mark E) (path : List Decision) → EverySplit (IsSplit m Rule) t path → IsLean t path
lean m Rule (End e) path h = tt
lean m Rule (Split mark ask left right) path h = (h.0.opened.undecided, lean m Rule left ((ask, true) ∷ path) h.1, lean m Rule right ((ask, false) ∷ path) h.2)

-- a question that either answer may be given to doesn't follow
open_undecided : (list : List Decision) (ask : Ask) → IsOpen list ask → IsUndecided list ask
open_undecided list ask h true f = absurd (differ (sym (f h.may_be_no.0 h.may_be_no.1.1) ∙ h.may_be_no.1.0))
  where
    differ : true ≡ false → ⊥
    differ e = cc
open_undecided list ask h false f = absurd (differ (sym (f h.may_be_yes.0 h.may_be_yes.1.1) ∙ h.may_be_yes.1.0))
  where
    differ : false ≡ true → ⊥
    differ e = cc

-- the question that was chosen is open
pub chosen_open : (m : Mill) (decisions : Decisions) (path : List Decision) (first ask : Ask) → decisions.orders ≡ length m.orders → decisions.yard ≡ length m.yard → decisions.list ≡ path → IsOpenAsk m path first → (ask ≡ first) ⊎ IsOpenAskOf decisions ask → IsOpenAsk m path ask
chosen_open m decisions path first ask orders yard list h (inl e) = subst (λ (a : Ask). IsOpenAsk m path a) (sym e) h
chosen_open m decisions path first ask orders yard list h (inr w) = record {
  asked = subst (λ (n : ℕ × ℕ). IsAskAmong n.0 n.1 ask) (λ i. (orders i, yard i)) w.asked;
  undecided = subst (λ (l : List Decision). IsUndecided l ask) list (open_undecided decisions.list ask w.opened);
}
