-- Bare splits: how many there may be, and how they are counted while a tree is written anew.
use Rattle.std.proofs.Common.{◌≡◌, ℕ, zero, suc, ◌+◌, ◌-◌, ◌<◌, ◌≤◌, Bool, true, false, not, List, [], ◌∷◌, length, refl, sym, ap, subst, ◌∙◌, arith, inl, inr, cond}
use Rattle.std.specs.Prelude.{◌⊎◌, nat_lt, OnOk, OnErr, Result, Ok, Err}
use Rattle.std.proofs.lemmas.Bool.{cases_lt}
use Rattle.std.proofs.lemmas.Bool.Decides.{nat_tests}
use Rattle.std.proofs.lemmas.List.Sums.{sum_by-cons}
use Rattle.mill_model.specs.declared.ask.Ask.{Ask}
use Rattle.mill_model.specs.declared.mark.Mark.{Mark}
use Rattle.mill_model.specs.Paths.{next_branch}
use Rattle.mill_model.specs.Prices.{Prices}
use Rattle.slab_counter.specs.Counter.{last_count}
use Rattle.slab_relax.specs.declared.tally.Tally.{Tally}
use Rattle.slab_relax.specs.Tallies.{AreNoLess, HasCause, HaveCauses}
use Rattle.slab_tree.specs.declared.node.Node.{Node}
use Rattle.slab_tree.specs.declared.node.Node.TheVariants.{Closed, Branched}
use Rattle.slab_tree.specs.Counts.{Counts, AreRaised}
use Rattle.slab_tree.specs.Marking.{is_bare, bare_marks}
use Rattle.slab_tree.specs.Remainders.{after_trees}
use Rattle.slab_tree.specs.Rewriting.{IsTallied, AreKept, IsNoted}
use Rattle.slab_tree.specs.Searches.{Search, bare_count}
use Rattle.slab_tree.specs.Stepping.{IsClosed, IsBranched}
use Rattle.slab_tree.specs.Tightening.{covered_count, HasRoom, MayCountBare}
use Rattle.slab_tree.specs.Unfinished.{marks_in}
use Rattle.slab_tree.proofs.Gains.{closed_bares, bare_branched}
use Rattle.slab_relax.proofs.Counting.{causes_same, causes_more}

-- a split is bare or covered
one_or_other : (b : Bool) → cond b 1 0 + cond (not b) 1 0 ≡ 1
one_or_other true = omega arith
one_or_other false = omega arith

-- bare and covered splits together are at most the nodes
pub splits_few : (ns : List Node) → bare_count ns + covered_count ns ≤ length ns
splits_few [] = omega arith
splits_few (Closed p ∷ ns) = omega (arith, splits_few ns)
splits_few (Branched ask mark ∷ ns) = omega (arith, splits_few ns, sum_by-cons (λ x. cond (is_bare x) 1 0) mark (marks_in ns), sum_by-cons (λ x. cond (not (is_bare x)) 1 0) mark (marks_in ns), one_or_other (is_bare mark))

-- a run that began with a new tree leaves room to count its covered splits
pub may_count : (n k : Counts) (first t : Search) → n.bare ≤ n.opened → first.nodes ≡ [] → first.opened ≡ 0 → AreRaised n k first.opened t.opened (bare_count first.nodes) (bare_count t.nodes) → t.opened ≡ length t.nodes → MayCountBare k t
may_count n k first t fewer none unopened raised all = elim (cases_lt (n.opened + t.opened) last_count) [
  | inl lt ↦ inr (omega (arith, raised.opened, raised.bare, splits_few t.nodes, ap bare_count none))
  | inr ge ↦ inl (omega (arith, raised.opened))
]

-- ---- bare splits while a tree is written anew

bare-cons : (ask : Ask) (mark : Mark) (ns : List Node) → bare_count (Branched ask mark ∷ ns) ≡ cond (is_bare mark) 1 0 + bare_count ns
bare-cons ask mark ns = sum_by-cons (λ x. cond (is_bare x) 1 0) mark (marks_in ns)

covered-cons : (ask : Ask) (mark : Mark) (ns : List Node) → covered_count (Branched ask mark ∷ ns) ≡ cond (not (is_bare mark)) 1 0 + covered_count ns
covered-cons ask mark ns = sum_by-cons (λ x. cond (not (is_bare x)) 1 0) mark (marks_in ns)

-- none are gained by passing over trees
after_fewer : (k : ℕ) (ns : List Node) → (bare_count (after_trees k ns) ≤ bare_count ns) × (covered_count (after_trees k ns) ≤ covered_count ns)
after_fewer k [] = (omega arith, omega arith)
after_fewer zero (n ∷ ns) = (omega arith, omega arith)
after_fewer (suc k) (Closed p ∷ ns) = after_fewer k ns
after_fewer (suc k) (Branched ask mark ∷ ns) =
    let h : (bare_count (after_trees (suc (suc k)) ns) ≤ bare_count ns) × (covered_count (after_trees (suc (suc k)) ns) ≤ covered_count ns) = after_fewer (suc (suc k)) ns in
    (omega (arith, h.0, bare-cons ask mark ns), omega (arith, h.1, covered-cons ask mark ns))

-- a leaf was written, and nodes were read that may have been bare
tallied_leaf : (n : Counts) (first last before after : List Node) → bare_count last ≡ bare_count first → bare_count after ≤ bare_count before → covered_count after ≤ covered_count before → IsTallied n n first last before after
tallied_leaf n first last before after e bares covers = record { no_more = omega arith; once = omega arith; counted = inl (omega arith) }

fewer_room : (n : Counts) (before after : List Node) → covered_count after ≤ covered_count before → HasRoom n before → HasRoom n after
fewer_room n before after le (inl last) = inl last
fewer_room n before after le (inr room) = inr (omega arith)

-- a closed leaf and what it does to the counts
module _ (n : Counts) (old new : Search) (p : Prices) (closed : IsClosed p old new) where
  leaf_bares : bare_count new.nodes ≡ bare_count old.nodes
  leaf_bares = closed_bares p old new (next_branch old.path) closed

  pub leaf_tallied : (q : Prices) (rest : List Node) → IsTallied n n old.nodes new.nodes (Closed q ∷ rest) rest
  leaf_tallied q rest = tallied_leaf n old.nodes new.nodes (Closed q ∷ rest) rest leaf_bares (omega arith) (omega arith)

  pub refuted_tallied : (ask : Ask) (mark : Mark) (before after : List Node) → after ≡ after_trees 2 before → IsTallied n n old.nodes new.nodes (Branched ask mark ∷ before) after
  refuted_tallied ask mark before after e = tallied_leaf n old.nodes new.nodes (Branched ask mark ∷ before) after leaf_bares (omega (arith, bare-cons ask mark before, (after_fewer 2 before).0, ap bare_count e)) (omega (arith, covered-cons ask mark before, (after_fewer 2 before).1, ap covered_count e))

pub leaf_room : (n : Counts) (p : Prices) (rest : List Node) → HasRoom n (Closed p ∷ rest) → HasRoom n rest
leaf_room n p rest h = fewer_room n (Closed p ∷ rest) rest (omega arith) h

pub refuted_room : (n : Counts) (ask : Ask) (mark : Mark) (before after : List Node) → after ≡ after_trees 2 before → HasRoom n (Branched ask mark ∷ before) → HasRoom n after
refuted_room n ask mark before after e h = fewer_room n (Branched ask mark ∷ before) after (omega (arith, covered-cons ask mark before, (after_fewer 2 before).1, ap covered_count e)) h

-- ---- a split that is kept

below_or_not : (a b : ℕ) → ((a < b) × (nat_lt a b ≡ true)) ⊎ ((b ≤ a) × (nat_lt a b ≡ false))
below_or_not a b = elim (cases_lt a b) [ inl lt ↦ inl (lt, grind (arith, nat_tests)) | inr ge ↦ inr (ge, grind (arith, nat_tests)) ]

module _ (n k : Counts) (first last rest : List Node) (ask : Ask) (mark : Mark) where
  note : (b c : Bool) → is_bare mark ≡ c → bare_count last ≡ bare_count first + cond b 1 0 → IsNoted b c n k → HasRoom n (Branched ask mark ∷ rest) → IsTallied n k first last (Branched ask mark ∷ rest) rest × HasRoom k rest
  note true true e f h room = (
    record { no_more = omega (arith, ap (λ (x : Counts). x.bare) h); once = omega (arith, ap (λ (x : Counts). x.bare) h, covered-cons ask mark rest); counted = inl (omega (arith, ap (λ (x : Counts). x.bare) h, bare-cons ask mark rest, ap (λ b. cond {A = ℕ} b 1 0) e)) },
    subst (λ (x : Counts). HasRoom x rest) (sym h) (fewer_room n (Branched ask mark ∷ rest) rest (omega (arith, covered-cons ask mark rest)) room),
  )
  note false c e f h room = (
    record { no_more = omega (arith, ap (λ (x : Counts). x.bare) h); once = omega (arith, ap (λ (x : Counts). x.bare) h, covered-cons ask mark rest); counted = inl (omega (arith, ap (λ (x : Counts). x.bare) h, bare-cons ask mark rest)) },
    subst (λ (x : Counts). HasRoom x rest) (sym h) (fewer_room n (Branched ask mark ∷ rest) rest (omega (arith, covered-cons ask mark rest)) room),
  )
  note true false e f h room = elim (below_or_not n.bare n.opened) [
    | inl below ↦ (let bare : k.bare ≡ n.bare + 1 = ap (λ (x : Counts). x.bare) h ∙ ap (λ b. cond {A = ℕ} b (n.bare + 1) n.bare) below.1 in
        (record { no_more = omega arith; once = omega (arith, covered); counted = inl (omega (arith, bare-cons ask mark rest, bare)) }, counted_room bare room))
    | inr full ↦ (let bare : k.bare ≡ n.bare = ap (λ (x : Counts). x.bare) h ∙ ap (λ b. cond {A = ℕ} b (n.bare + 1) n.bare) full.1 in
        (record { no_more = omega arith; once = omega (arith, covered); counted = full_counted bare full.0 room }, full_room bare full.0 room))
  ]
    where
      opened : k.opened ≡ n.opened
      opened = ap (λ (x : Counts). x.opened) h

      covered : covered_count (Branched ask mark ∷ rest) ≡ 1 + covered_count rest
      covered = covered-cons ask mark rest ∙ ap (λ b. cond {A = ℕ} (not b) 1 0 + covered_count rest) e

      counted_room : k.bare ≡ n.bare + 1 → HasRoom n (Branched ask mark ∷ rest) → HasRoom k rest
      counted_room bare (inl full) = inl (omega (arith, opened))
      counted_room bare (inr room) = inr (omega (arith, opened, covered))

      full_counted : k.bare ≡ n.bare → n.opened ≤ n.bare → HasRoom n (Branched ask mark ∷ rest) → (bare_count last + bare_count rest + n.bare ≤ bare_count first + bare_count (Branched ask mark ∷ rest) + k.bare) ⊎ (last_count ≤ k.bare)
      full_counted bare full (inl last) = inr (omega arith)
      full_counted bare full (inr room) = absurd (omega (arith, covered))

      full_room : k.bare ≡ n.bare → n.opened ≤ n.bare → HasRoom n (Branched ask mark ∷ rest) → HasRoom k rest
      full_room bare full (inl last) = inl (omega (arith, opened))
      full_room bare full (inr room) = absurd (omega (arith, covered))

branched_gain : (ask : Ask) (shown : Mark) (old new : Search) → IsBranched ask shown old new → bare_count new.nodes ≡ bare_count old.nodes + cond (is_bare shown) 1 0
branched_gain ask shown old new h = ap (λ (t : Search). bare_count t.nodes) h ∙ bare_branched old.nodes ask shown

pub kept_tallied : (n k : Counts) (old new : Search) (rest : List Node) (ask : Ask) (mark shown : Mark) → IsBranched ask shown old new → IsNoted (is_bare shown) (is_bare mark) n k → HasRoom n (Branched ask mark ∷ rest) → IsTallied n k old.nodes new.nodes (Branched ask mark ∷ rest) rest × HasRoom k rest
kept_tallied n k old new rest ask mark shown h noted room = note n k old.nodes new.nodes rest ask mark (is_bare shown) (is_bare mark) refl (branched_gain ask shown old new h) noted room

noted_cases : (b c : Bool) (n k : Counts) → IsNoted b c n k → (k ≡ n) ⊎ ((b ≡ true) × (k ≡ record n { bare = n.bare + 1 }))
noted_cases true true n k h = inl h
noted_cases false c n k h = inl h
noted_cases true false n k h = elim (below_or_not n.bare n.opened) [
  | inl below ↦ inr (refl, h ∙ ap (λ b. record n { bare = cond {A = ℕ} b (n.bare + 1) n.bare }) below.1)
  | inr full ↦ inl (h ∙ ap (λ b. record n { bare = cond {A = ℕ} b (n.bare + 1) n.bare }) full.1)
]

same_kept : (n k : Counts) → k ≡ n → AreKept n k
same_kept n k e = record { limit = ap (λ (x : Counts). x.limit) e; opened = ap (λ (x : Counts). x.opened) e; rises = omega (arith, ap (λ (x : Counts). x.bare) e) }

more_kept : (n k : Counts) → k ≡ record n { bare = n.bare + 1 } → AreKept n k
more_kept n k e = record { limit = ap (λ (x : Counts). x.limit) e; opened = ap (λ (x : Counts). x.opened) e; rises = omega (arith, ap (λ (x : Counts). x.bare) e) }

-- what a split that is kept does to the counts, also where memory is wanting
module _ {E : Type 0} (r : Result (Unit {0}) E) (n k : Counts) (mark shown : Mark) (noted : OnOk r (IsNoted (is_bare shown) (is_bare mark) n k)) (unnoted : OnErr r (k ≡ n)) where
  either : (k ≡ n) ⊎ ((is_bare shown ≡ true) × (k ≡ record n { bare = n.bare + 1 }))
  either = by r noted unnoted
    where
      by : (r : Result (Unit {0}) E) → OnOk r (IsNoted (is_bare shown) (is_bare mark) n k) → OnErr r (k ≡ n) → (k ≡ n) ⊎ ((is_bare shown ≡ true) × (k ≡ record n { bare = n.bare + 1 }))
      by (Ok x) h e = noted_cases (is_bare shown) (is_bare mark) n k h
      by (Err x) h e = inl e

  pub counts_kept : AreKept n k
  counts_kept = elim either [ inl e ↦ same_kept n k e | inr w ↦ more_kept n k w.1 ]

  pub bare_causes : (s t : Tally) → AreNoLess s t → (is_bare shown ≡ true → HasCause s t) → HaveCauses n.bare s k.bare t
  bare_causes s t rises cause = elim either [
    | inl e ↦ causes_same n.bare k.bare s t (ap (λ (x : Counts). x.bare) e) rises
    | inr w ↦ subst (λ (b : ℕ). HaveCauses n.bare s b t) (sym (ap (λ (x : Counts). x.bare) w.1)) (causes_more n.bare s t rises (cause w.0))
  ]

pub kept_causes : (old new : Search) (s t : Tally) (ask : Ask) (shown : Mark) → AreNoLess s t → (is_bare shown ≡ true → HasCause s t) → IsBranched ask shown old new → HaveCauses (bare_count old.nodes) s (bare_count new.nodes) t
kept_causes old new s t ask shown rises cause h = by (is_bare shown) cause (branched_gain ask shown old new h)
  where
    by : (b : Bool) → (b ≡ true → HasCause s t) → bare_count new.nodes ≡ bare_count old.nodes + cond b 1 0 → HaveCauses (bare_count old.nodes) s (bare_count new.nodes) t
    by false cause e = causes_same (bare_count old.nodes) (bare_count new.nodes) s t (omega arith) rises
    by true cause e = subst (λ (b : ℕ). HaveCauses (bare_count old.nodes) s b t) (sym e) (causes_more (bare_count old.nodes) s t rises (cause refl))

-- ---- one step after another

pub tallied_trans : (a b c : Counts) (f l z x y w : List Node) → b.bare ≤ c.bare → IsTallied a b f l x y → IsTallied b c l z y w → IsTallied a c f z x w
tallied_trans a b c f l z x y w rises h k = record { no_more = omega arith; once = omega (arith, h.once, k.once); counted = by h.counted k.counted }
  where
    by : (bare_count l + bare_count y + a.bare ≤ bare_count f + bare_count x + b.bare) ⊎ (last_count ≤ b.bare) → (bare_count z + bare_count w + b.bare ≤ bare_count l + bare_count y + c.bare) ⊎ (last_count ≤ c.bare) → (bare_count z + bare_count w + a.bare ≤ bare_count f + bare_count x + c.bare) ⊎ (last_count ≤ c.bare)
    by (inl u) (inl v) = inl (omega arith)
    by (inl u) (inr v) = inr v
    by (inr u) v = inr (omega arith)

pub kept_trans : (a b c : Counts) → AreKept a b → AreKept b c → AreKept a c
kept_trans a b c h k = record { limit = k.limit ∙ h.limit; opened = k.opened ∙ h.opened; rises = omega (arith, h.rises, k.rises) }
