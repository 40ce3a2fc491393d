-- How the walk through a tree goes on.
use Rattle.std.proofs.Common.{◌≡◌, ℕ, suc, ◌+◌, ◌<◌, Bool, true, false, ◌&&◌, List, [], ◌∷◌, ◌++◌, length, refl, sym, ap, subst, ◌∙◌, append_assoc, append-nil, inl, inr, arith, length-append}
use Rattle.mill_model.specs.declared.ask.Ask.{Ask}
use Rattle.mill_model.specs.declared.limits.Limits.{Limits}
use Rattle.mill_model.specs.declared.mark.Mark.{Mark}
use Rattle.mill_model.specs.declared.mark.Mark.TheVariants.{Spread}
use Rattle.mill_model.specs.Marks.{IsRight, HasRightMarks}
use Rattle.mill_model.specs.Shares.{Shown}
use Rattle.mill_model.proofs.MarkLaws.{no_prices_where_shown}
use Rattle.mill_model.specs.Mill.{Mill}
use Rattle.mill_model.specs.Columns.{Column}
use Rattle.mill_model.specs.Prices.{Prices, Refutes}
use Rattle.mill_model.specs.Decisions.{Decision, IsAsk, column_agrees, agrees}
use Rattle.mill_model.specs.Trees.{Tree, IsFresh, IsTree, EverySplit, RefutingTree}
use Rattle.mill_model.specs.Trees.Tree.{End, Split}
use Rattle.tree_nodes.specs.declared.node.Node.{Node}
use Rattle.tree_nodes.specs.declared.node.Node.TheVariants.{Closed, Branched}
use Rattle.cert_trim.specs.Trimming.{ends_of, NoneRefutes, IsFirst, IsTrimmed}
use Rattle.tree_nodes.specs.Nodes.{nodes_of}
use Rattle.cert_trim.specs.Levels.{Level, decisions_of, whole_of, written_of, coming_of, NoneRefutesAbove, forest_nodes, forest_ends, IsLead, lead_nodes, IsFinished, IsAtRoot, IsWithin, IsClimbing, IsDone}
use Rattle.cert_trim.specs.Levels.Level.{InYes, InNo}

-- ---- more decisions, fewer columns

agrees_less : (d : Decision) (decisions : List Decision) (c : Column) → column_agrees (d ∷ decisions) c ≡ true → column_agrees decisions c ≡ true
agrees_less d decisions c e = second (agrees c d) (column_agrees decisions c) e
  where
    second : (a b : Bool) → a && b ≡ true → b ≡ true
    second true b e = e
    second false b e = cc

-- what refutes goes on refuting under one decision more
pub refutes_more : (m : Mill) (limits : Limits) (d : Decision) (decisions : List Decision) (p : Prices) → Refutes m limits decisions p → Refutes m limits (d ∷ decisions) p
refutes_more m limits d decisions p r = record {
  range = r.range;
  pi_length = r.pi_length;
  sigma_length = r.sigma_length;
  lambda_sign = r.lambda_sign;
  mu_sign = r.mu_sign;
  sigma_sign = r.sigma_sign;
  lambda_missing = r.lambda_missing;
  mu_missing = r.mu_missing;
  columns = λ c legal agree. r.columns c legal (agrees_less d decisions c agree);
  worth = r.worth;
}

none_less : (m : Mill) (limits : Limits) (d : Decision) (decisions : List Decision) (leaves : List Prices) → NoneRefutes m limits (d ∷ decisions) leaves → NoneRefutes m limits decisions leaves
none_less m limits d decisions [] h = tt
none_less m limits d decisions (p ∷ leaves) h = (λ r. h.0 (refutes_more m limits d decisions p r), none_less m limits d decisions leaves h.1)

pub none_append : (m : Mill) (limits : Limits) (decisions : List Decision) (xs ys : List Prices) → NoneRefutes m limits decisions xs → NoneRefutes m limits decisions ys → NoneRefutes m limits decisions (xs ++ ys)
none_append m limits decisions [] ys h k = k
none_append m limits decisions (x ∷ xs) ys h k = (h.0, none_append m limits decisions xs ys h.1 k)

-- what doesn't refute at a question doesn't at the question above it
none_above : (m : Mill) (limits : Limits) (levels : List Level) (leaves : List Prices) → NoneRefutes m limits (decisions_of levels) leaves → NoneRefutesAbove m limits levels leaves
none_above m limits [] leaves h = tt
none_above m limits (InYes mark ask if_no ∷ levels) leaves h = none_less m limits (ask, true) (decisions_of levels) leaves h
none_above m limits (InNo mark ask if_yes written ∷ levels) leaves h = none_less m limits (ask, false) (decisions_of levels) leaves h

-- ---- a tree at its place

-- what holds of the whole tree holds of the tree here
pub tree_at : (m : Mill) (H : Prices → List Decision → Type 0) (levels : List Level) (t : Tree Mark Prices) → IsTree m H (whole_of levels t) [] → IsTree m H t (decisions_of levels)
tree_at m H [] t h = h
tree_at m H (InYes mark ask if_no ∷ levels) t h = (tree_at m H levels (Split mark ask t if_no) h).2
tree_at m H (InNo mark ask if_yes written ∷ levels) t h = (tree_at m H levels (Split mark ask if_yes t) h).3

pub splits_at : (H : Mark → Ask → List Decision → Type 0) (levels : List Level) (t : Tree Mark Prices) → EverySplit H (whole_of levels t) [] → EverySplit H t (decisions_of levels)
splits_at H [] t h = h
splits_at H (InYes mark ask if_no ∷ levels) t h = (splits_at H levels (Split mark ask t if_no) h).1
splits_at H (InNo mark ask if_yes written ∷ levels) t h = (splits_at H levels (Split mark ask if_yes t) h).2

-- ---- a tree is done

-- one leaf that is the first to refute is the trimmed tree
replaced : (m : Mill) (limits : Limits) (decisions : List Decision) (t : Tree Mark Prices) (p : Prices) → IsFirst m limits decisions (ends_of t) p → IsTrimmed m limits decisions t (End p)
replaced m limits decisions (End q) p h = ap End (by h.before h.after h.leaves_are)
  where
    by : (before after : List Prices) → q ∷ [] ≡ before ++ p ∷ after → p ≡ q
    by [] after e = cc
    by (x ∷ []) after e = cc
    by (x ∷ y ∷ before) after e = cc
replaced m limits decisions (Split mark ask if_yes if_no) p h = inl (record { leaf = p; first = h; new_is = refl })

-- ---- a step of the walk

-- where the next node is a leaf, the tree is that leaf
leaf_tree : (p : Prices) (rest more : List Node) (t : Tree Mark Prices) → Closed p ∷ rest ≡ nodes_of t ++ more → (t ≡ End p) × (rest ≡ more)
leaf_tree p rest more (End q) e = (ap End (sym (same e)), tails e)
  where
    same : Closed p ∷ rest ≡ Closed q ∷ more → p ≡ q
    same e = cc

    tails : Closed p ∷ rest ≡ Closed q ∷ more → rest ≡ more
    tails e = cc
leaf_tree p rest more (Split mark ask if_yes if_no) e = cc

-- where it is a question, the tree is split on it
pub record IsSplitBy (mark : Mark) (ask : Ask) (rest more : List Node) (t : Tree Mark Prices) : Type 0 where
  pub if_yes : Tree Mark Prices
  pub if_no : Tree Mark Prices
  pub tree_is : t ≡ Split mark ask if_yes if_no
  pub rest_is : rest ≡ nodes_of if_yes ++ (nodes_of if_no ++ more)

split_tree : (mark : Mark) (ask : Ask) (rest more : List Node) (t : Tree Mark Prices) → Branched ask mark ∷ rest ≡ nodes_of t ++ more → IsSplitBy mark ask rest more t
split_tree mark ask rest more (End q) e = cc
split_tree mark ask rest more (Split other asked if_yes if_no) e = record {
  if_yes = if_yes;
  if_no = if_no;
  tree_is = λ i. Split (marks e i) (asks e i) if_yes if_no;
  rest_is = tails e ∙ append_assoc (nodes_of if_yes) (nodes_of if_no) more;
}
  where
    marks : Branched ask mark ∷ rest ≡ Branched asked other ∷ ((nodes_of if_yes ++ nodes_of if_no) ++ more) → other ≡ mark
    marks e = cc

    asks : Branched ask mark ∷ rest ≡ Branched asked other ∷ ((nodes_of if_yes ++ nodes_of if_no) ++ more) → asked ≡ ask
    asks e = cc

    tails : Branched ask mark ∷ rest ≡ Branched asked other ∷ ((nodes_of if_yes ++ nodes_of if_no) ++ more) → rest ≡ (nodes_of if_yes ++ nodes_of if_no) ++ more
    tails e = cc

forest_nodes-push : (ts : List (Tree Mark Prices)) (t : Tree Mark Prices) → forest_nodes (ts ++ t ∷ []) ≡ forest_nodes ts ++ nodes_of t
forest_nodes-push [] t = append-nil (nodes_of t)
forest_nodes-push (u ∷ ts) t = ap (λ ns. nodes_of u ++ ns) (forest_nodes-push ts t) ∙ sym (append_assoc (nodes_of u) (forest_nodes ts) (nodes_of t))

forest_ends-push : (ts : List (Tree Mark Prices)) (t : Tree Mark Prices) → forest_ends (ts ++ t ∷ []) ≡ forest_ends ts ++ ends_of t
forest_ends-push [] t = append-nil (ends_of t)
forest_ends-push (u ∷ ts) t = ap (λ ps. ends_of u ++ ps) (forest_ends-push ts t) ∙ sym (append_assoc (ends_of u) (forest_ends ts) (ends_of t))

-- what is written of the leaf that was read
lead_written : (leads : Bool) (p leaf : Prices) (levels : List Level) (written : List Node) → IsLead leads p leaf levels written → written ++ lead_nodes leads p ≡ written_of levels ++ Closed leaf ∷ []
lead_written true p leaf levels written h = ap (λ ns. ns ++ Closed p ∷ []) h.1 ∙ ap (λ q. written_of levels ++ Closed q ∷ []) (sym h.0)
lead_written false p leaf levels written h = append-nil written ∙ h

module _ (m : Mill) (limits : Limits) (whole : Tree Mark Prices) where
  none_both : (levels : List Level) (xs ys : List Prices) → NoneRefutesAbove m limits levels xs → NoneRefutesAbove m limits levels ys → NoneRefutesAbove m limits levels (xs ++ ys)
  none_both [] xs ys h k = tt
  none_both (level ∷ levels) xs ys h k = none_append m limits (decisions_of levels) xs ys h k

  -- a question that is read for itself is written, and the branch for yes is read
  pub root_split : (levels : List Level) (mark : Mark) (ask : Ask) (written rest : List Node) → IsAtRoot m limits whole levels written (Branched ask mark ∷ rest)
      → (if_no : Tree Mark Prices) × IsAtRoot m limits whole (InYes mark ask if_no ∷ levels) (written ++ Branched ask mark ∷ []) rest
  root_split levels mark ask written rest h =
      let s : IsSplitBy mark ask rest (coming_of levels) h.tree = split_tree mark ask rest (coming_of levels) h.tree h.rest_is in (
        s.if_no,
        record {
          tree = s.if_yes;
          whole_is = h.whole_is ∙ ap (whole_of levels) s.tree_is;
          trimmed = h.trimmed;
          written_is = ap (λ ns. ns ++ Branched ask mark ∷ []) h.written_is;
          rest_is = s.rest_is;
        },
      )

  -- its question is one of the mill
  pub root_ask : (levels : List Level) (mark : Mark) (ask : Ask) (written rest : List Node) → RefutingTree m limits whole [] → IsAtRoot m limits whole levels written (Branched ask mark ∷ rest) → IsAsk m ask
  root_ask levels mark ask written rest tree h =
      let s : IsSplitBy mark ask rest (coming_of levels) h.tree = split_tree mark ask rest (coming_of levels) h.tree h.rest_is in
      let whole_is : whole ≡ whole_of levels (Split mark ask s.if_yes s.if_no) = h.whole_is ∙ ap (whole_of levels) s.tree_is in
      (tree_at m (λ q decisions. Refutes m limits decisions q) levels (Split mark ask s.if_yes s.if_no) (subst (λ w. RefutingTree m limits w []) whole_is tree)).0

  -- its question isn't among the decisions
  pub root_fresh : (levels : List Level) (mark : Mark) (ask : Ask) (written rest : List Node) → RefutingTree m limits whole [] → IsAtRoot m limits whole levels written (Branched ask mark ∷ rest) → IsFresh ask (decisions_of levels)
  root_fresh levels mark ask written rest tree h =
      let s : IsSplitBy mark ask rest (coming_of levels) h.tree = split_tree mark ask rest (coming_of levels) h.tree h.rest_is in
      let whole_is : whole ≡ whole_of levels (Split mark ask s.if_yes s.if_no) = h.whole_is ∙ ap (whole_of levels) s.tree_is in
      (tree_at m (λ q decisions. Refutes m limits decisions q) levels (Split mark ask s.if_yes s.if_no) (subst (λ w. RefutingTree m limits w []) whole_is tree)).1

  -- a leaf that is read for itself refutes here
  pub root_leaf : (levels : List Level) (p : Prices) (written rest : List Node) → RefutingTree m limits whole [] → IsAtRoot m limits whole levels written (Closed p ∷ rest) → IsClimbing m limits whole levels 0 true p written rest
  root_leaf levels p written rest tree h =
      let t : (h.tree ≡ End p) × (rest ≡ coming_of levels) = leaf_tree p rest (coming_of levels) h.tree h.rest_is in
      let whole_is : whole ≡ whole_of levels (End p) = h.whole_is ∙ ap (whole_of levels) t.0 in
      let refutes : Refutes m limits (decisions_of levels) p = tree_at m (λ q decisions. Refutes m limits decisions q) levels (End p) (subst (λ w. RefutingTree m limits w []) whole_is tree) in
      record {
        tree = End p;
        leaf = p;
        read = [];
        parts = [];
        whole_is = whole_is;
        trimmed = h.trimmed;
        lead = (refl, h.written_is);
        rest_is = t.1;
        left_is = refl;
        ends_are = refl;
        first = record { before = []; after = []; leaves_are = refl; none = tt; refutes = refutes };
        above = none_above m limits levels [] tt;
      }

  -- a question below a leaf that stands for it leaves two parts in its place
  pub within_split : (levels : List Level) (left : ℕ) (mark : Mark) (ask : Ask) (written rest : List Node) → 0 < left → IsWithin m limits whole levels left written (Branched ask mark ∷ rest) → IsWithin m limits whole levels (left + 1) written rest
  within_split levels left mark ask written rest some h = by h.parts h.left_is h.rest_is h.ends_are
    where
      by : (parts : List (Tree Mark Prices)) → left ≡ length parts → Branched ask mark ∷ rest ≡ forest_nodes parts ++ coming_of levels → ends_of h.tree ≡ h.read ++ forest_ends parts → IsWithin m limits whole levels (left + 1) written rest
      by [] l r e = absurd (omega (arith, some, l))
      by (t ∷ parts) l r e =
          let s : IsSplitBy mark ask rest (forest_nodes parts ++ coming_of levels) t = split_tree mark ask rest (forest_nodes parts ++ coming_of levels) t (r ∙ append_assoc (nodes_of t) (forest_nodes parts) (coming_of levels)) in
          record {
            tree = h.tree;
            leaf = h.leaf;
            read = h.read;
            parts = s.if_yes ∷ s.if_no ∷ parts;
            whole_is = h.whole_is;
            trimmed = h.trimmed;
            written_is = h.written_is;
            rest_is = s.rest_is ∙ nested (nodes_of s.if_yes) (nodes_of s.if_no) (forest_nodes parts) (coming_of levels);
            left_is = omega (arith, l);
            ends_are = e ∙ ap (λ u. h.read ++ (ends_of u ++ forest_ends parts)) s.tree_is ∙ ap (λ ps. h.read ++ ps) (append_assoc (ends_of s.if_yes) (ends_of s.if_no) (forest_ends parts));
            first = h.first;
            above = h.above;
          }
        where
          nested : (a b c d : List Node) → a ++ (b ++ (c ++ d)) ≡ (a ++ (b ++ c)) ++ d
          nested a b c d = sym (append_assoc a (b ++ c) d ∙ ap (λ ns. a ++ ns) (append_assoc b c d))

  -- a leaf below one that stands for it
  pub within_leaf : (levels : List Level) (left : ℕ) (p : Prices) (written rest : List Node) → IsWithin m limits whole levels (suc left) written (Closed p ∷ rest) → IsClimbing m limits whole levels left false p written rest
  within_leaf levels left p written rest h = by h.parts h.left_is h.rest_is h.ends_are
    where
      by : (parts : List (Tree Mark Prices)) → suc left ≡ length parts → Closed p ∷ rest ≡ forest_nodes parts ++ coming_of levels → ends_of h.tree ≡ h.read ++ forest_ends parts → IsClimbing m limits whole levels left false p written rest
      by [] l r e = absurd (omega (arith, l))
      by (t ∷ parts) l r e =
          let s : (t ≡ End p) × (rest ≡ forest_nodes parts ++ coming_of levels) = leaf_tree p rest (forest_nodes parts ++ coming_of levels) t (r ∙ append_assoc (nodes_of t) (forest_nodes parts) (coming_of levels)) in
          record {
            tree = h.tree;
            leaf = h.leaf;
            read = h.read;
            parts = parts;
            whole_is = h.whole_is;
            trimmed = h.trimmed;
            lead = h.written_is;
            rest_is = s.1;
            left_is = omega (arith, l);
            ends_are = e ∙ ap (λ u. h.read ++ (ends_of u ++ forest_ends parts)) s.0;
            first = record {
              before = h.first.before;
              after = h.first.after ++ p ∷ [];
              leaves_are = ap (λ ps. ps ++ p ∷ []) h.first.leaves_are ∙ append_assoc h.first.before (h.leaf ∷ h.first.after) (p ∷ []);
              none = h.first.none;
              refutes = h.first.refutes;
            };
            above = h.above;
          }

  -- the leaf refutes at the question above too: it stands for the tree there
  pub climb_yes : (mark : Mark) (ask : Ask) (if_no : Tree Mark Prices) (levels : List Level) (left : ℕ) (leads : Bool) (p : Prices) (written rest : List Node) → Refutes m limits (decisions_of levels) p → IsClimbing m limits whole (InYes mark ask if_no ∷ levels) left leads p written rest
      → IsClimbing m limits whole levels (left + 1) true p (written_of levels) rest
  climb_yes mark ask if_no levels left leads p written rest refutes h = record {
    tree = Split mark ask h.tree if_no;
    leaf = p;
    read = h.read;
    parts = h.parts ++ if_no ∷ [];
    whole_is = h.whole_is;
    trimmed = h.trimmed;
    lead = (refl, refl);
    rest_is = h.rest_is ∙ sym (append_assoc (forest_nodes h.parts) (nodes_of if_no) (coming_of levels)) ∙ ap (λ ns. ns ++ coming_of levels) (sym (forest_nodes-push h.parts if_no));
    left_is = omega (arith, h.left_is, length-append h.parts (if_no ∷ []));
    ends_are = ap (λ ps. ps ++ ends_of if_no) h.ends_are ∙ append_assoc h.read (p ∷ forest_ends h.parts) (ends_of if_no) ∙ ap (λ ps. h.read ++ p ∷ ps) (sym (forest_ends-push h.parts if_no));
    first = record { before = h.read; after = []; leaves_are = refl; none = h.above; refutes = refutes };
    above = none_above m limits levels h.read h.above;
  }

  pub climb_no : (mark : Mark) (ask : Ask) (if_yes new : Tree Mark Prices) (levels : List Level) (left : ℕ) (leads : Bool) (p : Prices) (written rest : List Node) → Refutes m limits (decisions_of levels) p → IsClimbing m limits whole (InNo mark ask if_yes new ∷ levels) left leads p written rest
      → IsClimbing m limits whole levels left true p (written_of levels) rest
  climb_no mark ask if_yes new levels left leads p written rest refutes h =
      let none : NoneRefutes m limits (decisions_of levels) (ends_of if_yes ++ h.read) = none_append m limits (decisions_of levels) (ends_of if_yes) h.read h.trimmed.1 h.above in
      record {
        tree = Split mark ask if_yes h.tree;
        leaf = p;
        read = ends_of if_yes ++ h.read;
        parts = h.parts;
        whole_is = h.whole_is;
        trimmed = h.trimmed.2;
        lead = (refl, refl);
        rest_is = h.rest_is;
        left_is = h.left_is;
        ends_are = ap (λ ps. ends_of if_yes ++ ps) h.ends_are ∙ sym (append_assoc (ends_of if_yes) h.read (p ∷ forest_ends h.parts));
        first = record { before = ends_of if_yes ++ h.read; after = []; leaves_are = refl; none = none; refutes = refutes };
        above = none_above m limits levels (ends_of if_yes ++ h.read) none;
      }

  -- it doesn't, or there is no question above, and parts of the tree are left
  pub stays_within : (levels : List Level) (left : ℕ) (leads : Bool) (p : Prices) (written rest : List Node) → NoneRefutesAbove m limits levels (p ∷ []) → IsClimbing m limits whole levels left leads p written rest
      → IsWithin m limits whole levels left (written ++ lead_nodes leads p) rest
  stays_within levels left leads p written rest not h = record {
    tree = h.tree;
    leaf = h.leaf;
    read = h.read ++ p ∷ [];
    parts = h.parts;
    whole_is = h.whole_is;
    trimmed = h.trimmed;
    written_is = lead_written leads p h.leaf levels written h.lead;
    rest_is = h.rest_is;
    left_is = h.left_is;
    ends_are = h.ends_are ∙ sym (append_assoc h.read (p ∷ []) (forest_ends h.parts));
    first = h.first;
    above = none_both levels h.read (p ∷ []) h.above not;
  }

  -- none is left
  pub stays_finished : (levels : List Level) (left : ℕ) (leads : Bool) (p : Prices) (written rest : List Node) → left ≡ 0 → NoneRefutesAbove m limits levels (p ∷ []) → IsClimbing m limits whole levels left leads p written rest
      → IsFinished m limits whole levels (written ++ lead_nodes leads p) rest
  stays_finished levels left leads p written rest none not h = by h.parts h.left_is h.rest_is h.ends_are
    where
      by : (parts : List (Tree Mark Prices)) → left ≡ length parts → rest ≡ forest_nodes parts ++ coming_of levels → ends_of h.tree ≡ h.read ++ p ∷ forest_ends parts → IsFinished m limits whole levels (written ++ lead_nodes leads p) rest
      by (t ∷ parts) l r e = absurd (omega (arith, l, none))
      by [] l r e = record {
        tree = h.tree;
        new = End h.leaf;
        whole_is = h.whole_is;
        trimmed = h.trimmed;
        written_is = lead_written leads p h.leaf levels written h.lead;
        rest_is = r;
        is_trimmed = replaced m limits (decisions_of levels) h.tree h.leaf (subst (λ ps. IsFirst m limits (decisions_of levels) ps h.leaf) (sym e) h.first);
        above = subst (NoneRefutesAbove m limits levels) (sym e) (none_both levels h.read (p ∷ []) h.above not);
      }

  -- the branch for yes is finished, and that for no comes next
  pub finished_yes : (mark : Mark) (ask : Ask) (if_no : Tree Mark Prices) (levels : List Level) (written rest : List Node) → IsFinished m limits whole (InYes mark ask if_no ∷ levels) written rest
      → (if_yes new : Tree Mark Prices) × IsAtRoot m limits whole (InNo mark ask if_yes new ∷ levels) written rest
  finished_yes mark ask if_no levels written rest h = (
    h.tree,
    h.new,
    record {
      tree = if_no;
      whole_is = h.whole_is;
      trimmed = (h.is_trimmed, h.above, h.trimmed);
      written_is = h.written_is ∙ append_assoc (written_of levels) (Branched ask mark ∷ []) (nodes_of h.new);
      rest_is = h.rest_is;
    },
  )

  -- the branch for no is finished, and so is the question
  pub finished_no : (mark : Mark) (ask : Ask) (if_yes new : Tree Mark Prices) (levels : List Level) (written rest : List Node) → IsFinished m limits whole (InNo mark ask if_yes new ∷ levels) written rest → IsFinished m limits whole levels written rest
  finished_no mark ask if_yes new levels written rest h =
      let none : NoneRefutes m limits (decisions_of levels) (ends_of if_yes ++ ends_of h.tree) = none_append m limits (decisions_of levels) (ends_of if_yes) (ends_of h.tree) h.trimmed.1 h.above in
      record {
        tree = Split mark ask if_yes h.tree;
        new = Split mark ask new h.new;
        whole_is = h.whole_is;
        trimmed = h.trimmed.2;
        written_is = h.written_is ∙ append_assoc (written_of levels) (Branched ask mark ∷ nodes_of new) (nodes_of h.new);
        rest_is = h.rest_is;
        is_trimmed = inr (record { if_yes = new; if_no = h.new; none = none; is_yes = h.trimmed.0; is_no = h.is_trimmed; new_is = refl });
        above = none_above m limits levels (ends_of if_yes ++ ends_of h.tree) none;
      }

  -- the root is finished
  pub finished_whole : (written rest : List Node) → IsFinished m limits whole [] written rest → IsDone m limits whole written rest
  finished_whole written rest h = record {
    new = h.new;
    trimmed = subst (λ t. IsTrimmed m limits [] t h.new) (sym h.whole_is) h.is_trimmed;
    written_is = h.written_is;
    rest_is = h.rest_is;
  }

  -- where a cover is shown, nothing refutes
  pub none_where_shown : (mark : Mark) (ask : Ask) (levels : List Level) (if_yes if_no : Tree Mark Prices) (shown : Shown) (p : Prices) → HasRightMarks m limits whole [] → whole ≡ whole_of levels (Split mark ask if_yes if_no) → mark ≡ Spread shown → Refutes m limits (decisions_of levels) p → ⊥
  none_where_shown mark ask levels if_yes if_no shown p right e same refutes =
      let here : IsRight m limits mark (decisions_of levels) = (splits_at (λ x _ decisions. IsRight m limits x decisions) levels (Split mark ask if_yes if_no) (subst (λ w. HasRightMarks m limits w []) e right)).0 in
      no_prices_where_shown m limits (decisions_of levels) shown p (subst (λ x. IsRight m limits x (decisions_of levels)) same here) refutes
