-- The points that were handed in stay, and the next one comes to those that were made.
use Rattle.std.proofs.Common.{◌≡◌, ℕ, suc, ◌+◌, ◌<◌, ◌≤◌, List, [], ◌∷◌, ◌++◌, length, drop, refl, sym, ap, subst, ◌∙◌, inl, inr, arith, Option, Some, None, append-nil}
use Rattle.std.specs.Prelude.{◌⊎◌}
use Rattle.std.proofs.Math.Seq.{drop-append_seam}
use Rattle.mill_model.specs.declared.sums.Sums.{Sums}
use Rattle.mill_model.specs.Mill.{Mill}
use Rattle.mill_model.specs.Fronts.{Point, below, last_sums}
use Rattle.slab_tree.specs.Marking.{bare_marks}
use Rattle.slab_sweep.specs.Openings.{Telling, count_after, opening_after}
use Rattle.slab_sweep.specs.Made.{IsMade, IsFound, AreMadeFrom, AreKept, GoesOnFrom, nodes_of, bares_of}
use Rattle.slab_sweep.specs.Placing.{placed}
use Rattle.slab_sweep.specs.Swept.{AreWithin, added_to}
use Rattle.slab_sweep.proofs.Heads.{place_cases}

-- ---- points that are kept

pub kept_all : (points : List Point) → AreKept points points
kept_all [] = refl
kept_all (point ∷ []) = (point, refl, refl)
kept_all (point ∷ next ∷ points) = (next ∷ points, refl, kept_all (next ∷ points))

length_kept : (before kept : List Point) → AreKept before kept → length kept ≡ length before
length_kept [] kept h = ap length h
length_kept (point ∷ []) kept h = ap length h.1
length_kept (point ∷ next ∷ points) kept h = ap length h.1 ∙ ap suc (length_kept (next ∷ points) h.0 h.2)

added_part : (before kept added : List Point) → AreKept before kept → added_to before (kept ++ added) ≡ added
added_part before kept added h = ap (λ (n : ℕ). drop n (kept ++ added)) (sym (length_kept before kept h)) ∙ drop-append_seam kept added

pub added_is : (told : Telling) (m : Mill) (before points : List Point) (w : GoesOnFrom told m before points) → added_to before points ≡ w.added
added_is told m before points w = ap (added_to before) w.points_are ∙ added_part before w.kept w.added w.are_kept

pub goes_on_at_first : (told : Telling) (m : Mill) (head : List Point) → GoesOnFrom told m head head
goes_on_at_first told m head = record { kept = head; added = []; points_are = sym (append-nil head); are_kept = kept_all head; made = tt }

-- where there is no point, none was handed in
pub none_before : (told : Telling) (m : Mill) (before points : List Point) → GoesOnFrom told m before points → points ≡ [] → before ≡ []
none_before told m before points w none = by before (omega (arith, length_kept before w.kept w.are_kept, ap length (sym w.points_are ∙ none), few w.kept w.added))
  where
    few : (xs ys : List Point) → length xs ≤ length (xs ++ ys)
    few [] ys = omega arith
    few (x ∷ xs) ys = omega (arith, few xs ys)

    by : (xs : List Point) → length xs ≡ 0 → xs ≡ []
    by [] e = refl
    by (x ∷ xs) e = absurd (omega (arith, e))

-- ---- the next point

placed_later : (x : Point) (rest : List Point) (point : Point) → 0 < length rest → placed (x ∷ rest) point ≡ x ∷ placed rest point
placed_later x [] point some = absurd (omega (arith, some))
placed_later x (y ∷ rest) point some = refl

-- it takes the place of the last one that was handed in, or comes after it
placed_kept : (before kept : List Point) (point : Point) → AreKept before kept → AreKept before (placed kept point) ⊎ (placed kept point ≡ kept ++ point ∷ [])
placed_kept [] kept point h = inr (subst (λ (ks : List Point). placed ks point ≡ ks ++ point ∷ []) (sym h) refl)
placed_kept (p ∷ []) kept point h =
    subst (λ (ks : List Point). AreKept (p ∷ []) (placed ks point) ⊎ (placed ks point ≡ ks ++ point ∷ [])) (sym h.1)
    (place_cases h.0 point (λ zs. AreKept (p ∷ []) zs ⊎ (zs ≡ h.0 ∷ point ∷ [])) (λ same. inl (record point { steps = h.0.steps }, refl, h.2)) (λ other. inr refl))
placed_kept (p ∷ next ∷ points) kept point h =
    let step : placed (p ∷ h.0) point ≡ p ∷ placed h.0 point = placed_later p h.0 point (omega (arith, length_kept (next ∷ points) h.0 h.2)) in
    subst (λ (ks : List Point). AreKept (p ∷ next ∷ points) (placed ks point) ⊎ (placed ks point ≡ ks ++ point ∷ [])) (sym h.1) (by step (placed_kept (next ∷ points) h.0 point h.2))
  where
    by : placed (p ∷ h.0) point ≡ p ∷ placed h.0 point → AreKept (next ∷ points) (placed h.0 point) ⊎ (placed h.0 point ≡ h.0 ++ point ∷ []) → AreKept (p ∷ next ∷ points) (placed (p ∷ h.0) point) ⊎ (placed (p ∷ h.0) point ≡ (p ∷ h.0) ++ point ∷ [])
    by step (inl k) = inl (placed h.0 point, step, k)
    by step (inr e) = inr (step ∙ ap (λ (zs : List Point). p ∷ zs) e)

placed-append : (xs : List Point) (y : Point) (ys : List Point) (point : Point) → placed (xs ++ (y ∷ ys)) point ≡ xs ++ placed (y ∷ ys) point
placed-append [] y ys point = refl
placed-append (x ∷ []) y ys point = refl
placed-append (x ∷ z ∷ xs) y ys point = ap (λ (zs : List Point). x ∷ zs) (placed-append (z ∷ xs) y ys point)

last_append : (before : Option Sums) (xs ys : List Point) → last_sums before (xs ++ ys) ≡ last_sums (last_sums before xs) ys
last_append before [] ys = refl
last_append before (x ∷ xs) ys = last_append (Some x.sums) xs ys

nodes_placed : (points : List Point) (point : Point) → nodes_of (placed points point) ≤ nodes_of points + length point.steps.steps
nodes_placed [] point = omega arith
nodes_placed (last ∷ []) point = place_cases last point (λ zs. nodes_of zs ≤ nodes_of (last ∷ []) + length point.steps.steps) (λ same. omega arith) (λ other. omega arith)
nodes_placed (first ∷ next ∷ points) point = omega (arith, nodes_placed (next ∷ points) point)

bares_placed : (points : List Point) (point : Point) → bares_of (placed points point) ≤ bares_of points + bare_marks point.steps.marks
bares_placed [] point = omega arith
bares_placed (last ∷ []) point = place_cases last point (λ zs. bares_of zs ≤ bares_of (last ∷ []) + bare_marks point.steps.marks) (λ same. omega arith) (λ other. omega arith)
bares_placed (first ∷ next ∷ points) point = omega (arith, bares_placed (next ∷ points) point)

within_placed : (limit : ℕ) (points : List Point) (point : Point) → AreWithin limit points → length point.steps.steps ≤ limit → AreWithin limit (placed points point)
within_placed limit [] point all few = (few, tt)
within_placed limit (last ∷ []) point all few = place_cases last point (λ zs. AreWithin limit zs) (λ same. (all.0, tt)) (λ other. (all.0, (few, tt)))
within_placed limit (first ∷ next ∷ points) point all few = (all.0, within_placed limit (next ∷ points) point all.1 few)

-- where a point was placed, the trees of the new points have few nodes and bare splits more
pub record IsPlacedOn (told : Telling) (m : Mill) (before points : List Point) (point : Point) : Type 0 where
  pub goes_on : GoesOnFrom told m before (placed points point)
  pub few_nodes : nodes_of (added_to before (placed points point)) ≤ nodes_of (added_to before points) + length point.steps.steps
  pub few_bares : bares_of (added_to before (placed points point)) ≤ bares_of (added_to before points) + bare_marks point.steps.marks
  pub within : (limit : ℕ) → AreWithin limit (added_to before points) → length point.steps.steps ≤ limit → AreWithin limit (added_to before (placed points point))

module _ (told : Telling) (m : Mill) (before : List Point) where
  made_placed : (b : Option Sums) (added : List Point) (point : Point) → 0 < length added → AreMadeFrom told m b added → IsFound m (opening_after told m (last_sums b added)) point → AreMadeFrom told m b (placed added point)
  made_placed b [] point some made found = absurd (omega (arith, some))
  made_placed b (last ∷ []) point some made found = place_cases last point (λ zs. AreMadeFrom told m b zs)
      (λ same. (subst (λ (n : ℕ). IsMade m (opening_after told m b) (record { loss = below (Some n); count = count_after b }) last.steps) same made.0, tt))
      (λ other. (made.0, (found.tree, tt)))
  made_placed b (x ∷ next ∷ added) point some made found = (made.0, made_placed (Some x.sums) (next ∷ added) point (omega arith) made.1 found)

  counted : (points : List Point) (point : Point) (w : GoesOnFrom told m before points) (v : GoesOnFrom told m before (placed points point)) → nodes_of v.added ≤ nodes_of w.added + length point.steps.steps → bares_of v.added ≤ bares_of w.added + bare_marks point.steps.marks
      → ((limit : ℕ) → AreWithin limit w.added → length point.steps.steps ≤ limit → AreWithin limit v.added) → IsPlacedOn told m before points point
  counted points point w v nodes bares within = record {
    goes_on = v;
    few_nodes = omega (arith, nodes, ap nodes_of (added_is told m before points w), ap nodes_of (added_is told m before (placed points point) v));
    few_bares = omega (arith, bares, ap bares_of (added_is told m before points w), ap bares_of (added_is told m before (placed points point) v));
    within = λ limit all few. subst (λ (ps : List Point). AreWithin limit ps) (sym (added_is told m before (placed points point) v)) (within limit (subst (λ (ps : List Point). AreWithin limit ps) (added_is told m before points w) all) few);
  }

  parts : (kept added : List Point) (point : Point) → AreKept before kept → AreMadeFrom told m (last_sums None kept) added → IsFound m (opening_after told m (last_sums None (kept ++ added))) point → IsPlacedOn told m before (kept ++ added) point
  parts kept [] point h made found = subst (λ (ks : List Point). IsPlacedOn told m before ks point) (sym (append-nil kept)) (by (placed_kept before kept point h))
    where
      now : GoesOnFrom told m before kept
      now = record { kept = kept; added = []; points_are = sym (append-nil kept); are_kept = h; made = tt }

      by : AreKept before (placed kept point) ⊎ (placed kept point ≡ kept ++ point ∷ []) → IsPlacedOn told m before kept point
      by (inl k) = counted kept point now (record { kept = placed kept point; added = []; points_are = sym (append-nil (placed kept point)); are_kept = k; made = tt }) (omega arith) (omega arith) (λ limit all few. all)
      by (inr e) =
          let here : IsFound m (opening_after told m (last_sums None kept)) point = subst (λ (ks : List Point). IsFound m (opening_after told m (last_sums None ks)) point) (append-nil kept) found in
          counted kept point now (record { kept = kept; added = point ∷ []; points_are = e; are_kept = h; made = (here.tree, tt) }) (omega arith) (omega arith) (λ limit all few. (few, tt))
  parts kept (a ∷ added) point h made found =
      let here : IsFound m (opening_after told m (last_sums (last_sums None kept) (a ∷ added))) point = subst (λ (b : Option Sums). IsFound m (opening_after told m b) point) (last_append None kept (a ∷ added)) found in
      counted (kept ++ (a ∷ added)) point
      (record { kept = kept; added = a ∷ added; points_are = refl; are_kept = h; made = made })
      (record { kept = kept; added = placed (a ∷ added) point; points_are = placed-append kept a added point; are_kept = h; made = made_placed (last_sums None kept) (a ∷ added) point (omega arith) made here })
      (nodes_placed (a ∷ added) point)
      (bares_placed (a ∷ added) point)
      (λ limit all few. within_placed limit (a ∷ added) point all few)

  pub placed_on : (points : List Point) (point : Point) → GoesOnFrom told m before points → IsFound m (opening_after told m (last_sums None points)) point → IsPlacedOn told m before points point
  placed_on points point w found =
      subst (λ (ps : List Point). IsPlacedOn told m before ps point) (sym w.points_are)
      (parts w.kept w.added point w.are_kept w.made (subst (λ (ps : List Point). IsFound m (opening_after told m (last_sums None ps)) point) w.points_are found))
