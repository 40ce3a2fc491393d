use Rattle.std.proofs.Common.{◌≡◌, List, Bool, true, subst}
use Rattle.mill_model.specs.declared.limits.Limits.{Limits}
use Rattle.mill_model.specs.Mill.{Mill}
use Rattle.mill_model.specs.Decisions.{Decision}
use Rattle.slab_relax.specs.declared.tally.Tally.{Tally}
use Rattle.slab_node.specs.declared.turned.Turned.{Turned}
use Rattle.slab_node.specs.declared.turned.Turned.TheVariants.{Refuted, InBox, Bare as BareTurn}
use Rattle.slab_relax.specs.PoolCovers.{IsPoolCover}
use Rattle.slab_relax.specs.Tallies.{HasCause}
use Rattle.slab_node.specs.Turns.{IsTurn, IfSpread}
use Rattle.slab_tree.specs.Marking.{is_bare}
use Rattle.slab_tree.specs.Searches.{limits_of}
use Rattle.slab_relax.proofs.Counting.{cause_earlier}
use Rattle.slab_tree.proofs.tree.Tree.decide_anew.Goals as goal

-- the turn's promise, at the tree's limits and path
turn_at : (m : Mill) (l k : Limits) (p q : List Decision) (a b : Tally) (t u : Turned) → l ≡ k → p ≡ q → t ≡ u → IsTurn m l p a b t → IsTurn m k q a b u
turn_at m l k p q a b t u e f h w = subst (λ (x : Turned). IsTurn m k q a b x) h (subst (λ (x : List Decision). IsTurn m k x a b t) f (subst (λ (x : Limits). IsTurn m x p a b t) e w))

pub returns-in-Refuted-clause-renewed : goal.returns-in-Refuted-clause-renewed
returns-in-Refuted-clause-renewed c =
    turn_at c.args.mill.now c.limits-limits.result (limits_of c.args.self.now) c.args.decisions.now.list c.args.self.now.path c.args.tally.now c.turn.new.tally c.in_ok-prices.field-0 (Refuted c.in-Refuted.prices) c.limits-limits.ensures c.requires.place.list c.in-Refuted.is c.in_ok-prices.ensures.turned

pub returns-in_ok-shown-in-Spread-clause-renewed : goal.returns-in_ok-shown-in-Spread-clause-renewed
returns-in_ok-shown-in-Spread-clause-renewed c =
    let covered : IsPoolCover c.args.mill.now (limits_of c.args.self.now) c.args.self.now.path c.turn.new.pool.columns c.in-Spread.cover =
    subst (λ (l : Limits). IsPoolCover c.args.mill.now l c.args.self.now.path c.turn.new.pool.columns c.in-Spread.cover) c.limits-limits.ensures
    (subst (λ (p : List Decision). IsPoolCover c.args.mill.now c.limits-limits.result p c.turn.new.pool.columns c.in-Spread.cover) c.requires.place.list
    (subst (λ (t : Turned). IfSpread t (IsPoolCover c.args.mill.now c.limits-limits.result c.args.decisions.now.list c.turn.new.pool.columns)) c.in-Spread.is c.in_ok-prices.ensures.cover)) in
    let cause : is_bare c.in_ok-shown-in-Spread.shown ≡ true → HasCause c.args.tally.now c.mark_of.new.tally = λ e. cause_earlier c.args.tally.now c.turn.new.tally c.mark_of.new.tally c.in_ok-prices.ensures.counters (c.in_ok-shown-in-Spread.ensures.cause e) in
    (c.in_ok-shown-in-Spread.ensures.shows c.args.mill.now (limits_of c.args.self.now) c.args.self.now.path covered, cause)

pub returns-in-Bare-clause-renewed : goal.returns-in-Bare-clause-renewed
returns-in-Bare-clause-renewed c =
    (tt, λ _. (turn_at c.args.mill.now c.limits-limits.result (limits_of c.args.self.now) c.args.decisions.now.list c.args.self.now.path c.args.tally.now c.turn.new.tally c.in_ok-prices.field-0 (BareTurn c.in-Bare.field-0) c.limits-limits.ensures c.requires.place.list c.in-Bare.is c.in_ok-prices.ensures.turned).0)

pub unreachable-requires : goal.unreachable-requires
unreachable-requires c =
    c.requires.none c.in-InBox.field-0
    (turn_at c.args.mill.now c.limits-limits.result (limits_of c.args.self.now) c.args.decisions.now.list c.args.self.now.path c.args.tally.now c.turn.new.tally c.in_ok-prices.field-0 (InBox c.in-InBox.field-0) c.limits-limits.ensures c.requires.place.list c.in-InBox.is c.in_ok-prices.ensures.turned)
