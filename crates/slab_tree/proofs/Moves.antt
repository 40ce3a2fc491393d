-- What each move of a search does to its tree's facts.
use Rattle.std.proofs.Common.{◌≡◌, ℕ, zero, suc, ◌+◌, ◌-◌, ◌^◌, ◌<◌, ◌≤◌, ℤ, pos, negsuc, ◌-ℤ◌, ◌≤ℤ◌, Bool, true, false, List, [], ◌∷◌, ◌++◌, length, Option, Some, None, refl, sym, ap, subst, ◌∙◌, arith, inl, inr, length-append, unsigned_abs}
use Rattle.std.specs.Prelude.{◌⊎◌, IsSome, IsTrue, ◌↔◌, IsSomeAnd}
use Rattle.std.proofs.lemmas.Int.{ints}
use Rattle.mill_model.specs.declared.ask.Ask.{Ask}
use Rattle.mill_model.specs.declared.limits.Limits.{Limits}
use Rattle.mill_model.specs.declared.mark.Mark.{Mark}
use Rattle.mill_model.specs.Mill.{Mill, IsInLimits}
use Rattle.mill_model.specs.Plans.{Plan, sums_of}
use Rattle.mill_model.specs.Prices.{Prices, Refutes}
use Rattle.mill_model.specs.Limits.{AtMost, AreSmaller, number_of}
use Rattle.mill_model.specs.Decisions.{Decision}
use Rattle.mill_model.specs.Paths.{next_branch}
use Rattle.slab_master.specs.Given.{IsSmall}
use Rattle.slab_node.specs.Turns.{IsOpenAsk}
use Rattle.slab_repack.specs.FoundPlans.{IsFoundPlan}
use Rattle.slab_tree.specs.declared.node.Node.{Node}
use Rattle.slab_tree.specs.declared.node.Node.TheVariants.{Closed, Branched}
use Rattle.slab_tree.specs.declared.tree.Phase.TheVariants.{Done, Refused}
use Rattle.slab_tree.specs.Marking.{is_bare, HoldsCover}
use Rattle.slab_tree.specs.Standing.{Stands, IsWhole, GoesOn, waiting}
use Rattle.slab_tree.specs.Searches.{Search, limits_of, opening_of, loss_below, IsLater, IsRunning, HasLimitsBelow}
use Rattle.slab_tree.specs.Stepping.{MayHaveLowered, after_leaf, IsClosed, IsBranched, fall_room, GoesOnFrom, IsComplete, IsOver, IsStepped, IsSplitUnder, IsSteppedBy, IsClosedAtOnce}
use Rattle.slab_tree.proofs.Limits.{at_most_refl, at_most_trans, holds_greater, holds_cover}
use Rattle.slab_tree.proofs.Plainly.{none_within}
use Rattle.slab_tree.proofs.Standing.{closes_leaf, splits_at, waiting_next, none_waits, stands_smaller}

pub same_later : (m : Mill) (old new : Search) → new.count ≡ old.count → new.opening ≡ old.opening → new.loss ≡ old.loss → new.best ≡ old.best → IsLater m old new
same_later m old new count opening loss best = record { count = count; opening = opening; loss = subst (λ a. AtMost a old.loss) (sym loss) (at_most_refl old.loss); best = inl best }

pub later_refl : (m : Mill) (t : Search) → IsLater m t t
later_refl m t = same_later m t t refl refl refl refl

pub later_trans : (m : Mill) (a b c : Search) → IsLater m a b → IsLater m b c → IsLater m a c
later_trans m a b c h k = record { count = k.count ∙ h.count; opening = k.opening ∙ h.opening; loss = at_most_trans c.loss b.loss a.loss k.loss h.loss; best = best k.best }
  where
    best : (c.best ≡ b.best) ⊎ IsSomeAnd c.best (λ p. AtMost (Some (pos (sums_of m p).loss)) b.loss) → (c.best ≡ a.best) ⊎ IsSomeAnd c.best (λ p. AtMost (Some (pos (sums_of m p).loss)) a.loss)
    best (inl e) = elim h.best [
      | inl d ↦ inl (e ∙ d)
      | inr d ↦ inr (subst (λ (o : Option Plan). IsSomeAnd o (λ p. AtMost (Some (pos (sums_of m p).loss)) a.loss)) (sym e) d)
    ]
    best (inr e) = inr (up c.best e)
      where
        up : (o : Option Plan) → IsSomeAnd o (λ p. AtMost (Some (pos (sums_of m p).loss)) b.loss) → IsSomeAnd o (λ p. AtMost (Some (pos (sums_of m p).loss)) a.loss)
        up None w = w
        up (Some p) w = at_most_trans (Some (pos (sums_of m p).loss)) b.loss a.loss w h.loss

module _ (m : Mill) (limit : ℕ) (old new : Search) (run : IsRunning m old) (room : old.opened ≤ limit) where
  closed_step : (p : Prices) → Refutes m (limits_of old) old.path p → (next : Option (List Decision)) → next_branch old.path ≡ next → after_leaf next (record old { nodes = old.nodes ++ Closed p ∷ [] }) new → IsSteppedBy next m limit old new
  closed_step p refutes next e h = by next e h (subst (λ b. GoesOn m (HoldsCover m (opening_of old)) (limits_of old) b (old.nodes ++ Closed p ∷ [])) e (closes_leaf m (HoldsCover m (opening_of old)) (limits_of old) old.path old.nodes p run.stands refutes))
    where
      by : (next : Option (List Decision)) → next_branch old.path ≡ next → after_leaf next (record old { nodes = old.nodes ++ Closed p ∷ [] }) new → GoesOn m (HoldsCover m (opening_of old)) (limits_of old) next (old.nodes ++ Closed p ∷ []) → IsSteppedBy next m limit old new
      by None e h goes =
          subst (λ (t : Search). IsComplete m limit t × IsLater m old t) (sym h) (
            record {
              search = record { limits = record { falls = run.search.limits.falls; loss = run.search.limits.loss; count = run.search.limits.count }; best = run.search.best };
              tree = record {
                limits = record { falls = run.search.limits.falls; loss = run.search.limits.loss; count = run.search.limits.count };
                finished = refl;
                whole = goes;
                opened = omega (arith, run.opened, none_waits old.path e, length-append old.nodes (Closed p ∷ []));
              };
              within = room;
            },
            same_later m old _ refl refl refl refl,
          )
      by (Some branch) e h goes =
          subst (λ (t : Search). GoesOnFrom m limit old t × IsLater m old t) (sym h) (
            record {
              running = record {
                search = record { limits = record { falls = run.search.limits.falls; loss = run.search.limits.loss; count = run.search.limits.count }; best = run.search.best };
                running = run.running;
                stands = goes;
                opened = omega (arith, run.opened, waiting_next old.path branch e, length-append old.nodes (Closed p ∷ []));
              };
              room = room;
              falls = omega (arith, run.opened, room, length-append old.nodes (Closed p ∷ []));
            },
            same_later m old _ refl refl refl refl,
          )

  pub close_step : (p : Prices) → Refutes m (limits_of old) old.path p → (on : Bool) → (IsTrue on ↔ IsSome (next_branch old.path)) → IsClosed p old new → IsStepped m limit old new on
  close_step p refutes on is h = by (next_branch old.path) refl on is
    where
      by : (next : Option (List Decision)) → next_branch old.path ≡ next → (on : Bool) → (IsTrue on ↔ IsSome (next_branch old.path)) → IsStepped m limit old new on
      by None e true is = absurd (nothing (next_branch old.path) e (is.0 refl))
        where
          nothing : (o : Option (List Decision)) → o ≡ None → IsSome o → ⊥
          nothing None e w = cc
          nothing (Some x) e w = cc
      by None e false is = let w = closed_step p refutes None e (subst (λ b. after_leaf b (record old { nodes = old.nodes ++ Closed p ∷ [] }) new) e h) in (inl w.0, w.1)
      by (Some branch) e true is = closed_step p refutes (Some branch) e (subst (λ b. after_leaf b (record old { nodes = old.nodes ++ Closed p ∷ [] }) new) e h)
      by (Some branch) e false is = absurd (something (is.1 (subst (λ b. IsSome b) (sym e) refl)))
        where
          something : IsTrue false → ⊥
          something w = cc

  -- with no node yet, the tree is closed at once
  pub close_root : (p : Prices) (on : Bool) → old.path ≡ [] → (IsTrue on ↔ IsSome (next_branch old.path)) → IsClosed p old new → IsClosedAtOnce old new on
  close_root p on root is h =
      let w : after_leaf None (record old { nodes = old.nodes ++ Closed p ∷ [] }) new = subst (λ (path : List Decision). after_leaf (next_branch path) (record old { nodes = old.nodes ++ Closed p ∷ [] }) new) root h in
      record { over = over on (λ e. (subst (λ (path : List Decision). IsTrue on ↔ IsSome (next_branch path)) root is).0 e); finished = ap (λ (t : Search). t.phase) w; opened = ap (λ (t : Search). t.opened) w }
    where
      over : (on : Bool) → (IsTrue on → IsSome (next_branch [])) → on ≡ false
      over true f = absurd (nothing (f refl))
        where
          nothing : IsSome (next_branch []) → ⊥
          nothing w = cc
      over false f = refl

  branch_step : (ask : Ask) (mark : Mark) → IsOpenAsk m old.path ask → HoldsCover m (limits_of old) mark old.path → old.opened + 2 ≤ limit → IsBranched ask mark (record old { opened = old.opened + 2 }) new → GoesOnFrom m limit old new × IsLater m old new
  branch_step ask mark opened covered more h =
      subst (λ (t : Search). GoesOnFrom m limit old t × IsLater m old t) (sym h) (
        record {
          running = record {
            search = record { limits = record { falls = run.search.limits.falls; loss = run.search.limits.loss; count = run.search.limits.count }; best = run.search.best };
            running = run.running;
            stands = splits_at m (HoldsCover m (opening_of old)) (limits_of old) old.path old.nodes ask mark run.stands (record { opened = opened; marked = holds_greater m (limits_of old) (opening_of old) mark old.path run.search.limits.falls covered });
            opened = omega (arith, run.opened, length-append old.nodes (Branched ask mark ∷ []));
          };
          room = more;
          falls = omega (arith, run.opened, room, length-append old.nodes (Branched ask mark ∷ []));
        },
        same_later m old _ refl refl refl refl,
      )

  pub split_step : (ask : Ask) (mark : Mark) → IsOpenAsk m old.path ask → HoldsCover m (limits_of old) mark old.path → (on : Bool) → IsSplitUnder ask mark limit old new on → IsStepped m limit old new on
  split_step ask mark opened covered true h = branch_step ask mark opened covered h.0 h.1
  split_step ask mark opened covered false h =
      subst (λ (t : Search). IsOver m limit t × IsLater m old t) (sym h.1) (
        inr (record {
          search = record { limits = record { falls = run.search.limits.falls; loss = run.search.limits.loss; count = run.search.limits.count }; best = run.search.best };
          bare = is_bare mark;
          refused = refl;
          stands = run.stands;
          opened = run.opened;
          within = room;
          full = h.0;
          ask = ask;
          asks = opened;
          covered = holds_cover m (limits_of old) mark old.path covered;
        }),
        same_later m old _ refl refl refl refl,
      )

  -- a plan's loss limit is below the old one
  below_old : (n : ℕ) (a : Option ℤ) → AtMost (Some (pos n)) a → AtMost (Some (pos n -ℤ pos 1)) a
  below_old n None h = tt
  below_old n (Some a) h = omega (arith, ints)

  one_below : (k : ℕ) → pos (suc k) -ℤ pos 1 ≡ pos k
  one_below k = omega (arith, ints)

  room_of : (n : ℕ) → fall_room (Some (pos n -ℤ pos 1)) ≡ n
  room_of zero = refl
  room_of (suc k) = ap (λ z. fall_room (Some z)) (one_below k) ∙ omega arith

  room_falls : (n : ℕ) (a : Option ℤ) → n < 2 ^ 63 → AtMost (Some (pos n)) a → fall_room (Some (pos n -ℤ pos 1)) < fall_room a
  room_falls n a small h = subst (λ r. r < fall_room a) (sym (room_of n)) (by a h)
    where
      by : (a : Option ℤ) → AtMost (Some (pos n)) a → n < fall_room a
      by None h = small
      by (Some (pos k)) h = omega (arith, ints)
      by (Some (negsuc k)) h = absurd (omega (arith, ints))

  small_below : (n : ℕ) → n < 2 ^ 32 → IsSmall (pos n -ℤ pos 1)
  small_below n h = omega (arith, ints)

  pub lower_step : (p : Plan) → IsFoundPlan m (limits_of old) p → (sums_of m p).loss < 2 ^ 32 → new ≡ record old { loss = loss_below m p; best = Some p } → GoesOnFrom m limit old new × IsLater m old new
  lower_step p inside small h =
      let below : AtMost (loss_below m p) old.loss = below_old (sums_of m p).loss old.loss inside.within.loss in
      subst (λ (t : Search). GoesOnFrom m limit old t × IsLater m old t) (sym h) (
        record {
          running = record {
            search = record {
              limits = record {
                falls = record { loss = at_most_trans (loss_below m p) old.loss old.opening below run.search.limits.falls.loss; count = at_most_refl old.count };
                loss = small_below (sums_of m p).loss small;
                count = run.search.limits.count;
              };
              best = (record { legal = inside.legal; order = inside.order; count = inside.within.count }, refl);
            };
            running = run.running;
            stands = stands_smaller m (HoldsCover m (opening_of old)) (record { loss = loss_below m p; count = old.count }) (limits_of old) (record { loss = below; count = at_most_refl old.count }) old.path old.nodes run.stands;
            opened = run.opened;
          };
          room = room;
          falls = omega (arith, room_falls (sums_of m p).loss old.loss (omega (arith, small)) inside.within.loss);
        },
        record { count = refl; opening = refl; loss = below; best = inr inside.within.loss },
      )

-- a plan within the limits is taken
pub lowered_by : (m : Mill) (old new : Search) (p : Plan) → IsRunning m old → IsInLimits m → IsFoundPlan m (limits_of old) p → (sums_of m p).loss < 2 ^ 32 → new ≡ record old { loss = loss_below m p; best = Some p } → MayHaveLowered m old new
lowered_by m old new p run limited found small h =
    let w : GoesOnFrom m old.opened old new × IsLater m old new = lower_step m old.opened old new run (omega arith) p found small h in
    record {
      running = w.0.running;
      later = w.1;
      nodes = ap (λ (t : Search). t.nodes) h;
      opened = ap (λ (t : Search). t.opened) h;
      plain = λ refuted. absurd (none_within m (limits_of old) p limited refuted found.legal found.within);
    }

-- no plan is taken
pub lowered_same : (m : Mill) (t : Search) → IsRunning m t → MayHaveLowered m t t
lowered_same m t run = record { running = run; later = later_refl m t; nodes = refl; opened = refl; plain = λ refuted. refl }
