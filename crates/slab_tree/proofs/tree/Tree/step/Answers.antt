use Rattle.std.proofs.Common.{◌≡◌, ℕ, List, true, false, Bool, refl, sym, ap, subst}
use Rattle.std.specs.Prelude.{IfOk, OnOk, Result, Ok, Err, IsTrue, IsSome, ◌↔◌}
use Rattle.std.proofs.lemmas.Result.{IfOk-weaker}
use Rattle.mill_model.specs.declared.limits.Limits.{Limits}
use Rattle.mill_model.specs.declared.mark.Mark.{Mark}
use Rattle.mill_model.specs.declared.mark.Mark.TheVariants.{Bare}
use Rattle.mill_model.specs.Mill.{Mill}
use Rattle.mill_model.specs.Paths.{next_branch}
use Rattle.mill_model.specs.Prices.{Refutes}
use Rattle.mill_model.specs.Decisions.{Decision}
use Rattle.slab_decide.specs.Decided.{Decisions}
use Rattle.slab_relax.specs.declared.tally.Tally.{Tally}
use Rattle.slab_node.specs.declared.turned.Turned.{Turned}
use Rattle.slab_node.specs.declared.turned.Turned.TheVariants.{Refuted, InBox, Spread, Bare as BareTurn}
use Rattle.slab_relax.specs.Tallies.{HasCause}
use Rattle.slab_node.specs.Turns.{IsTurn, HasCover, IsOpenAsk, IsInBox, IfSpread}
use Rattle.slab_relax.specs.PoolCovers.{IsPoolCover}
use Rattle.slab_tree.specs.Searches.{limits_of, opening_of, Search, bare_count}
use Rattle.slab_tree.specs.Standing.{IsOpenPath}
use Rattle.slab_tree.specs.Stepping.{IsStepped, IsSplitUnder, IsClosed, IsClosedAtOnce}
use Rattle.slab_tree.specs.Marking.{HoldsCover}
use Rattle.slab_tree.proofs.Standing.{path_open}
use Rattle.slab_tree.proofs.Moves.{close_step, close_root, split_step, lower_step}
use Rattle.slab_tree.proofs.Finds.{box_found}
use Rattle.slab_relax.proofs.Counting.{causes_same, no_less_trans}
use Rattle.slab_tree.proofs.Gains.{close_causes, split_causes, close_counts, split_counts}
use Rattle.slab_tree.proofs.tree.Tree.step.Goals as goal

pub close_next-requires : goal.close_next-requires
close_next-requires c =
    rw (c.args.place.now.extent.orders, c.args.place.now.extent.yard)
    (path_open c.args.place.now.mill.now (HoldsCover c.args.place.now.mill.now (opening_of c.args.self.now)) (limits_of c.args.self.now) c.args.self.now.path c.args.self.now.nodes c.requires.tree.stands)

-- the turn's promise, at the tree's limits and path
turn_at : (m : Mill) (l k : Limits) (p q : List Decision) (a b : Tally) (t u : Turned) → l ≡ k → p ≡ q → t ≡ u → IsTurn m l p a b t → IsTurn m k q a b u
turn_at m l k p q a b t u e f h w = subst (λ (x : Turned). IsTurn m k q a b x) h (subst (λ (x : List Decision). IsTurn m k x a b t) f (subst (λ (x : Limits). IsTurn m x p a b t) e w))

ok_both : {E : Type 0} (r : Result Bool E) (P : Type 0) (Q S : Bool → Type 0) → OnOk r P → IfOk r Q → ((on : Bool) → P → Q on → S on) → IfOk r S
ok_both (Ok on) P Q S p q f = f on p q
ok_both (Err e) P Q S p q f = tt

-- ---- refuting prices

pub returns-in-Refuted-clause-ok : goal.returns-in-Refuted-clause-ok
returns-in-Refuted-clause-ok c =
    let t : Refutes c.args.place.now.mill.now (limits_of c.args.self.now) c.args.self.now.path c.in-Refuted.prices =
    turn_at c.args.place.now.mill.now c.limits-limits.result (limits_of c.args.self.now) c.args.place.now.decisions.list c.args.self.now.path c.args.tally.now c.bounded_turn.new.tally c.in_ok-prices.field-0 (Refuted c.in-Refuted.prices) c.limits-limits.ensures c.requires.place.list c.in-Refuted.is c.in_ok-prices.ensures.turned in
    ok_both c.close_next.result (IsClosed c.in-Refuted.prices c.args.self.now c.close_next.new.self) (λ on. IsTrue on ↔ IsSome (next_branch c.args.self.now.path)) (IsStepped c.args.place.now.mill.now c.args.nodes.now.limit c.args.self.now c.close_next.new.self) c.close_next.ensures.ok c.close_next.ensures.on
    (λ on closed is. close_step c.args.place.now.mill.now c.args.nodes.now.limit c.args.self.now c.close_next.new.self c.requires.tree c.requires.room c.in-Refuted.prices t on is closed)

pub returns-in-Refuted-clause-plain : goal.returns-in-Refuted-clause-plain
returns-in-Refuted-clause-plain c = λ _ root.
    ok_both c.close_next.result (IsClosed c.in-Refuted.prices c.args.self.now c.close_next.new.self) (λ on. IsTrue on ↔ IsSome (next_branch c.args.self.now.path)) (IsClosedAtOnce c.args.self.now c.close_next.new.self) c.close_next.ensures.ok c.close_next.ensures.on
    (λ on closed is. close_root c.args.place.now.mill.now c.args.nodes.now.limit c.args.self.now c.close_next.new.self c.requires.tree c.requires.room c.in-Refuted.prices on root is closed)

pub returns-in-Refuted-clause-causes : goal.returns-in-Refuted-clause-causes
returns-in-Refuted-clause-causes c = close_causes c.args.self.now c.close_next.new.self c.args.tally.now c.bounded_turn.new.tally c.in_ok-prices.ensures.counters c.close_next.result c.in-Refuted.prices c.close_next.ensures.ok c.close_next.ensures.err

pub returns-in-Refuted-clause-counts : goal.returns-in-Refuted-clause-counts
returns-in-Refuted-clause-counts c = close_counts c.args.nodes.now c.opened-counted.ensures.last c.opened-counted.ensures.bare c.args.self.now c.close_next.new.self c.close_next.result c.in-Refuted.prices c.close_next.ensures.ok c.close_next.ensures.err

-- ---- a plan

pub returns-in-InBox-clause-ok : goal.returns-in-InBox-clause-ok
returns-in-InBox-clause-ok c =
    let t : IsInBox c.args.place.now.mill.now (limits_of c.args.self.now) c.args.self.now.path c.in-InBox.plan =
    turn_at c.args.place.now.mill.now c.limits-limits.result (limits_of c.args.self.now) c.args.place.now.decisions.list c.args.self.now.path c.args.tally.now c.bounded_turn.new.tally c.in_ok-prices.field-0 (InBox c.in-InBox.plan) c.limits-limits.ensures c.requires.place.list c.in-InBox.is c.in_ok-prices.ensures.turned in
    lower_step c.args.place.now.mill.now c.args.nodes.now.limit c.args.self.now c.lower.new.self c.requires.tree c.requires.room c.in-InBox.plan (box_found c.args.place.now.mill.now (limits_of c.args.self.now) c.args.self.now.path c.in-InBox.plan t) c.lower.ensures.small c.lower.ensures.tree

-- ---- a split

pub split_next-requires-clause-first : goal.split_next-requires-clause-first
split_next-requires-clause-first c =
    (turn_at c.args.place.now.mill.now c.limits-limits.result (limits_of c.args.self.now) c.args.place.now.decisions.list c.args.self.now.path c.args.tally.now c.bounded_turn.new.tally c.in_ok-prices.field-0 (Spread c.in-Spread.cover c.in-Spread.first) c.limits-limits.ensures c.requires.place.list c.in-Spread.is c.in_ok-prices.ensures.turned).1

pub split_next-requires-clause-cover : goal.split_next-requires-clause-cover
split_next-requires-clause-cover c =
    subst (λ (l : Limits). IsPoolCover c.args.place.now.mill.now l c.args.self.now.path c.bounded_turn.new.pool.columns c.in-Spread.cover) c.limits-limits.ensures
    (subst (λ (p : List Decision). IsPoolCover c.args.place.now.mill.now c.limits-limits.result p c.bounded_turn.new.pool.columns c.in-Spread.cover) c.requires.place.list
    (subst (λ (t : Turned). IfSpread t (IsPoolCover c.args.place.now.mill.now c.limits-limits.result c.args.place.now.decisions.list c.bounded_turn.new.pool.columns)) c.in-Spread.is c.in_ok-prices.ensures.cover))

pub returns-in-Spread-clause-causes : goal.returns-in-Spread-clause-causes
returns-in-Spread-clause-causes c =
    causes_same (bare_count c.args.self.now.nodes) (bare_count c.split_next.new.self.nodes) c.args.tally.now c.split_next.new.tally c.split_next.ensures.bares
    (no_less_trans c.args.tally.now c.bounded_turn.new.tally c.split_next.new.tally c.in_ok-prices.ensures.counters c.split_next.ensures.counters)

-- ---- a bare split

pub returns-in-Bare-clause-ok : goal.returns-in-Bare-clause-ok
returns-in-Bare-clause-ok c =
    let t : HasCause c.args.tally.now c.bounded_turn.new.tally × IsOpenAsk c.args.place.now.mill.now c.args.self.now.path c.in-Bare.ask =
    turn_at c.args.place.now.mill.now c.limits-limits.result (limits_of c.args.self.now) c.args.place.now.decisions.list c.args.self.now.path c.args.tally.now c.bounded_turn.new.tally c.in_ok-prices.field-0 (BareTurn c.in-Bare.ask) c.limits-limits.ensures c.requires.place.list c.in-Bare.is c.in_ok-prices.ensures.turned in
    IfOk-weaker c.go_down.result (IsSplitUnder c.in-Bare.ask Bare c.args.nodes.now.limit c.args.self.now c.go_down.new.self) (IsStepped c.args.place.now.mill.now c.args.nodes.now.limit c.args.self.now c.go_down.new.self)
    (split_step c.args.place.now.mill.now c.args.nodes.now.limit c.args.self.now c.go_down.new.self c.requires.tree c.requires.room c.in-Bare.ask Bare t.1 tt) c.go_down.ensures.ok

pub returns-in-Bare-clause-causes : goal.returns-in-Bare-clause-causes
returns-in-Bare-clause-causes c =
    let t : HasCause c.args.tally.now c.bounded_turn.new.tally × IsOpenAsk c.args.place.now.mill.now c.args.self.now.path c.in-Bare.ask =
    turn_at c.args.place.now.mill.now c.limits-limits.result (limits_of c.args.self.now) c.args.place.now.decisions.list c.args.self.now.path c.args.tally.now c.bounded_turn.new.tally c.in_ok-prices.field-0 (BareTurn c.in-Bare.ask) c.limits-limits.ensures c.requires.place.list c.in-Bare.is c.in_ok-prices.ensures.turned in
    split_causes c.args.self.now c.go_down.new.self c.args.tally.now c.bounded_turn.new.tally c.in_ok-prices.ensures.counters c.go_down.result c.in-Bare.ask Bare c.args.nodes.now.limit (λ _. t.0) c.go_down.ensures.ok c.go_down.ensures.err

pub returns-in-Bare-clause-counts : goal.returns-in-Bare-clause-counts
returns-in-Bare-clause-counts c =
    split_counts c.args.nodes.now c.opened-counted.ensures.last c.opened-counted.ensures.bare c.args.self.now c.go_down.new.self c.go_down.result c.go_down.new.nodes c.in-Bare.ask Bare c.args.nodes.now.limit c.go_down.ensures.ok c.go_down.ensures.err c.go_down.ensures.counted c.go_down.ensures.uncounted
