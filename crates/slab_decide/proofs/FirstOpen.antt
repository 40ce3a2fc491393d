-- The first open pair or put is the first ask that doesn't follow.
use Rattle.std.proofs.Common.{◌≡◌, ◌+◌, ◌<◌, Bool, true, false, refl, subst, inl, inr, arith}
use Rattle.mill_model.specs.declared.ask.Ask.{Ask}
use Rattle.mill_model.specs.declared.ask.Ask.TheVariants.{Pair, Put}
use Rattle.mill_model.specs.Assignments.{Follows}
use Rattle.slab_closure.specs.declared.relation.Relation.{Relation}
use Rattle.slab_closure.specs.declared.relation.Relation.TheVariants.{Open, Same, Apart}
use Rattle.slab_closure.specs.Relations.{Relations, relation_at}
use Rattle.slab_decide.specs.Decided.{Decisions, IsAskOf, IsBefore, IsFirstOpen, AreSettledFor}
use Rattle.slab_decide.specs.Nodes.{first_node, second_node}
use Rattle.slab_decide.specs.Kept.{IsKept}
use Rattle.slab_decide.specs.OpenAsks.{ArePairsClosed, ArePutsClosed, IsFirstPair, IsFirstPut}
use Rattle.slab_decide.proofs.Kept.{kept_follows, kept_open}

module _ (v : Decisions) (r : Relations) (kept : IsKept v r) where
  -- an ask that isn't open follows
  settled : (ask : Ask) → IsAskOf v ask → (relation_at r (first_node v.yard ask) (second_node v.yard ask) ≡ Open → ⊥) → (b : Bool) × Follows v.list ask b
  settled ask h closed = by_relation (relation_at r (first_node v.yard ask) (second_node v.yard ask)) refl
    where
      by_relation : (t : Relation) → relation_at r (first_node v.yard ask) (second_node v.yard ask) ≡ t → (b : Bool) × Follows v.list ask b
      by_relation Open e = absurd (closed e)
      by_relation Same e = (true, kept_follows v r kept ask h true e)
      by_relation Apart e = (false, kept_follows v r kept ask h false e)

  pub first_pair : (ask : Ask) → IsFirstPair r v.orders v.yard ask → IsFirstOpen v ask
  first_pair (Pair i j) h = record {
    asked = (h.0.above, h.0.within);
    open_there = kept_open v r kept (Pair i j) (h.0.above, h.0.within) h.0.opened;
    first = before;
  }
    where
      before : (other : Ask) → IsAskOf v other → IsBefore other (Pair i j) → (b : Bool) × Follows v.list other b
      before (Pair k l) asked (inl q) = settled (Pair k l) asked (h.1 k q l asked.0 asked.1)
      before (Pair k l) asked (inr q) = settled (Pair k l) asked (λ e. h.0.before l (omega (arith, asked.0, q.0)) q.1 (subst (λ n. relation_at r (v.yard + n) (v.yard + l) ≡ Open) q.0 e))
      before (Put o s) asked q = absurd q
  first_pair (Put o s) h = absurd h

  pub first_put : (ask : Ask) → ArePairsClosed r v.yard v.orders v.orders → IsFirstPut r v.orders v.yard ask → IsFirstOpen v ask
  first_put (Pair i j) pairs h = absurd h
  first_put (Put o s) pairs h = record {
    asked = (h.0, h.1.within);
    open_there = kept_open v r kept (Put o s) (h.0, h.1.within) h.1.opened;
    first = before;
  }
    where
      before : (other : Ask) → IsAskOf v other → IsBefore other (Put o s) → (b : Bool) × Follows v.list other b
      before (Pair k l) asked q = settled (Pair k l) asked (pairs k (omega (arith, asked.0, asked.1)) l asked.0 asked.1)
      before (Put p t) asked (inl q) = settled (Put p t) asked (h.2 p q t asked.1)
      before (Put p t) asked (inr q) = settled (Put p t) asked (λ e. h.1.before t q.1 (subst (λ n. relation_at r (v.yard + n) t ≡ Open) q.0 e))

  pub all_settled : ArePairsClosed r v.yard v.orders v.orders → ArePutsClosed r v.yard v.orders → AreSettledFor v
  all_settled pairs puts m orders yard (Pair i j) h =
      let j_in : j < v.orders = subst (λ n. j < n) orders h.1 in
      settled (Pair i j) (h.0, j_in) (pairs i (omega (arith, h.0, j_in)) j h.0 j_in)
  all_settled pairs puts m orders yard (Put o s) h =
      let o_in : o < v.orders = subst (λ n. o < n) orders h.0 in
      let s_in : s < v.yard = subst (λ n. s < n) yard h.1 in
      settled (Put o s) (o_in, s_in) (puts o o_in s s_in)
