-- A search begins, or goes on.
use Rattle.std.proofs.Common.{◌≡◌, ℕ, ◌≤◌, List, [], Option, refl, sym, ap, subst, ◌∙◌, arith, inl, inr, length}
use Rattle.std.specs.Prelude.{◌⊎◌}
use Rattle.slab_counter.specs.Counter.{last_count}
use Rattle.mill_model.specs.declared.limits.Limits.{Limits}
use Rattle.mill_model.specs.Mill.{Mill}
use Rattle.mill_model.specs.Plain.{IsPlainlyRefuted}
use Rattle.mill_model.specs.Decisions.{Decision}
use Rattle.slab_tree.specs.declared.node.Node.{Node}
use Rattle.slab_tree.specs.declared.tree.Phase.{Phase}
use Rattle.slab_tree.specs.declared.tree.Phase.TheVariants.{New, Running}
use Rattle.slab_tree.specs.Counts.{Counts}
use Rattle.slab_tree.specs.Marking.{HoldsCover}
use Rattle.slab_tree.specs.Standing.{Stands, waiting}
use Rattle.slab_tree.specs.Searches.{Search, limits_of, opening_of, IsNew, IsRunning, IsReady, IsLater, IsSearch, bare_count}
use Rattle.slab_tree.specs.Stepping.{IsStarted, HasRoot, HasBegun, MayHaveLowered}
use Rattle.slab_tree.proofs.Counts.{raised_none, raised_same}
use Rattle.slab_tree.proofs.Moves.{later_trans, same_later}

module _ (m : Mill) (old new : Search) (n k : Counts) (some : 1 ≤ n.limit) (room : old.opened ≤ n.limit) (small : n.opened ≤ last_count) (fewer : n.bare ≤ n.opened) where
  begins : IsNew m old → IsStarted New old new n k → HasRoot m old new n k
  begins is h =
      subst (λ (t : Search). HasRoot m old t n k) (sym h.0) (subst (λ (c : Counts). HasRoot m old (record old { phase = Running; opened = 1 }) n c) (sym h.1) (record {
        running = record {
          search = record { limits = record { falls = is.search.limits.falls; loss = is.search.limits.loss; count = is.search.limits.count }; best = is.search.best };
          running = refl;
          stands = subst (λ (p : List Decision). Stands m (HoldsCover m (opening_of old)) (limits_of old) p old.nodes) (sym is.no_path) is.no_nodes;
          opened = omega (arith, ap (λ (ns : List Node). length ns) is.no_nodes, ap waiting is.no_path);
        };
        room = some;
        limit = refl;
        count = refl;
        opening = refl;
        best = refl;
        loss = refl;
        nodes = refl;
        counts = record { limit = refl; more = omega (arith, is.none_opened); more_bare = omega arith; opened = omega (arith, is.none_opened); bare = omega arith };
      }))

  goes_on : IsRunning m old → (new ≡ old) × (k ≡ n) → HasRoot m old new n k
  goes_on run h =
      subst (λ (t : Search). HasRoot m old t n k) (sym h.0) (subst (λ (c : Counts). HasRoot m old old n c) (sym h.1) (record {
        running = run;
        room = room;
        limit = refl;
        count = refl;
        opening = refl;
        best = refl;
        loss = refl;
        nodes = refl;
        counts = raised_none n old.opened old.opened (bare_count old.nodes) (bare_count old.nodes) small (omega arith) refl refl;
      }))

  pub has_root : IsReady m old → IsStarted old.phase old new n k → HasRoot m old new n k
  has_root (inl is) h = begins is (subst (λ (f : Phase). IsStarted f old new n k) is.unstarted h)
  has_root (inr run) h = goes_on run (subst (λ (f : Phase). IsStarted f old new n k) run.running h)

-- what the root leaves as it was
root_limits : (m : Mill) (old new : Search) (n k : Counts) → HasRoot m old new n k → limits_of new ≡ limits_of old
root_limits m old new n k root = λ i. record { loss = root.loss i; count = root.count i }

root_later : (m : Mill) (old new : Search) (n k : Counts) → HasRoot m old new n k → IsLater m old new
root_later m old new n k root = same_later m old new root.count root.opening root.loss root.best

-- no plan was taken
pub begun_at : (m : Mill) (old new : Search) (n k : Counts) → HasRoot m old new n k → HasBegun m old new n k
begun_at m old new n k root = record {
  running = root.running;
  room = omega (arith, root.room, root.limit);
  later = root_later m old new n k root;
  nodes = root.nodes;
  counts = root.counts;
  plain = λ refuted. root_limits m old new n k root;
}

-- a plan may have been taken
pub begun_after : (m : Mill) (old root new : Search) (n k : Counts) → HasRoot m old root n k → MayHaveLowered m root new → HasBegun m old new n k
begun_after m old root new n k at lowered = record {
  running = lowered.running;
  room = omega (arith, at.room, at.limit, lowered.opened);
  later = later_trans m old root new (root_later m old root n k at) lowered.later;
  nodes = lowered.nodes ∙ at.nodes;
  counts = raised_same n k old.opened root.opened new.opened (bare_count old.nodes) (bare_count root.nodes) (bare_count new.nodes) (sym lowered.opened) (sym (ap bare_count lowered.nodes)) at.counts;
  plain = λ refuted. ap limits_of (lowered.plain (subst (λ (l : Limits). IsPlainlyRefuted m l) (sym (root_limits m old root n k at)) refuted)) ∙ root_limits m old root n k at;
}

pub search_of : (m : Mill) (t : Search) → IsReady m t → IsSearch m t
search_of m t (inl is) = is.search
search_of m t (inr run) = run.search
