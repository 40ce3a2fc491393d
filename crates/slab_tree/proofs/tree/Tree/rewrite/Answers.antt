use Rattle.std.proofs.Common.{◌≡◌, ◌∙◌, ◌∷◌, List, Bool, true, false, sym, subst}
use Rattle.std.specs.Prelude.{OnOk, Result, Ok, Err}
use Rattle.std.proofs.lemmas.Result.{on_ok_weaker}
use Rattle.mill_model.specs.declared.ask.Ask.{Ask}
use Rattle.mill_model.specs.declared.mark.Mark.{Mark}
use Rattle.mill_model.specs.Mill.{Mill}
use Rattle.mill_model.specs.Prices.{Refutes}
use Rattle.slab_tree.specs.declared.node.Node.{Node}
use Rattle.slab_tree.specs.declared.node.Node.TheVariants.{Closed, Branched}
use Rattle.slab_tree.specs.declared.tree.tighten.Renewed.{Renewed}
use Rattle.slab_tree.specs.Marking.{ShowsCoverUnlessBare, is_bare}
use Rattle.slab_tree.specs.Rewriting.{IsRenewed, IsRewriting, MovesOn, IsTallied, IsNoted, StillShows}
use Rattle.slab_relax.specs.Tallies.{HasCause}
use Rattle.slab_tree.specs.Searches.{Search, limits_of}
use Rattle.slab_tree.specs.Stepping.{IsBranched}
use Rattle.slab_tree.specs.Tightening.{HasRoom}
use Rattle.slab_tree.proofs.BareMarks.{leaf_tallied, refuted_tallied, refuted_room, kept_tallied, kept_causes}
use Rattle.slab_tree.proofs.Gains.{close_causes}
use Rattle.slab_tree.proofs.Rewriting.{leaf_moves, refuted_moves, kept_moves, split_asks, marked_at, no_plan_left}
use Rattle.slab_tree.proofs.Standing.{path_open}
use Rattle.slab_relax.proofs.Counting.{causes_same, no_less_same}
use Rattle.slab_tree.proofs.tree.Tree.rewrite.Goals as goal

pub turn_back-requires : goal.turn_back-requires
turn_back-requires c =
    rw (c.requires.place.orders, c.requires.place.yard)
    (path_open c.args.mill.now (ShowsCoverUnlessBare c.args.mill.now (limits_of c.args.self.now)) (limits_of c.args.self.now) c.args.self.now.path c.args.self.now.nodes c.requires.walk.stands)

pub returns-in-Closed-clause-moves : goal.returns-in-Closed-clause-moves
returns-in-Closed-clause-moves c =
    subst (λ (n : Node). MovesOn c.args.mill.now c.args.self.now c.turn_back.new.self n c.args.rest.now c.args.rest.now) (sym c.in-Closed.is)
    (leaf_moves c.args.mill.now c.args.self.now c.turn_back.new.self c.in-Closed.prices c.args.rest.now (subst (λ (n : Node). IsRewriting c.args.mill.now c.args.self.now (n ∷ c.args.rest.now)) c.in-Closed.is c.requires.walk) c.in_ok-turn_back-in-Closed.ensures.ok)

pub returns-in-Closed-clause-tallied : goal.returns-in-Closed-clause-tallied
returns-in-Closed-clause-tallied c = λ room.
    subst (λ (n : Node). IsTallied c.args.nodes.now c.args.nodes.now c.args.self.now.nodes c.turn_back.new.self.nodes (n ∷ c.args.rest.now) c.args.rest.now) (sym c.in-Closed.is)
    (leaf_tallied c.args.nodes.now c.args.self.now c.turn_back.new.self c.in-Closed.prices c.in_ok-turn_back-in-Closed.ensures.ok c.in-Closed.prices c.args.rest.now)

pub returns-in-Closed-clause-causes : goal.returns-in-Closed-clause-causes
returns-in-Closed-clause-causes c =
    close_causes c.args.self.now c.turn_back.new.self c.args.tally.now c.args.tally.now (no_less_same c.args.tally.now) c.turn_back.result c.in-Closed.prices c.turn_back.ensures.ok c.turn_back.ensures.err

-- ---- a mark that still shows

pub keep-requires-clause-asked : goal.keep-requires-clause-asked
keep-requires-clause-asked c =
    rw (c.requires.place.orders, c.requires.place.yard)
    (split_asks c.args.mill.now c.args.self.now c.in-Branched.ask c.in-Branched.mark c.args.rest.now (subst (λ (n : Node). IsRewriting c.args.mill.now c.args.self.now (n ∷ c.args.rest.now)) c.in-Branched.is c.requires.walk)).asked

pub keep-requires-clause-undecided : goal.keep-requires-clause-undecided
keep-requires-clause-undecided c =
    rw c.requires.place.list
    (split_asks c.args.mill.now c.args.self.now c.in-Branched.ask c.in-Branched.mark c.args.rest.now (subst (λ (n : Node). IsRewriting c.args.mill.now c.args.self.now (n ∷ c.args.rest.now)) c.in-Branched.is c.requires.walk)).undecided

pub returns-in-Branched-clause-moves : goal.returns-in-Branched-clause-moves
returns-in-Branched-clause-moves c =
    let still : StillShows c.args.mill.now c.args.self.now c.in-Branched.mark = c.still_shows.ensures c.if-still_shows.true in
    let walk : IsRewriting c.args.mill.now c.args.self.now (Branched c.in-Branched.ask c.in-Branched.mark ∷ c.args.rest.now) = subst (λ (n : Node). IsRewriting c.args.mill.now c.args.self.now (n ∷ c.args.rest.now)) c.in-Branched.is c.requires.walk in
    subst (λ (n : Node). OnOk c.keep.result (MovesOn c.args.mill.now c.args.self.now c.keep.new.self n c.args.rest.now c.args.rest.now)) (sym c.in-Branched.is)
    (on_ok_weaker c.keep.result
    (kept_moves c.args.mill.now c.args.self.now c.keep.new.self c.in-Branched.ask c.in-Branched.mark c.in-Branched.mark c.args.rest.now walk (still.shows c.args.self.now.path (marked_at c.args.mill.now c.args.self.now c.in-Branched.ask c.in-Branched.mark c.args.rest.now walk)))
    c.keep.ensures.ok)

ok_both : {T E : Type 0} (r : Result T E) (P Q S : Type 0) → OnOk r P → OnOk r Q → (P → Q → S) → OnOk r S
ok_both (Ok x) P Q S p q f = f p q
ok_both (Err e) P Q S p q f = tt

pub returns-in-Branched-clause-tallied : goal.returns-in-Branched-clause-tallied
returns-in-Branched-clause-tallied c =
    let still : StillShows c.args.mill.now c.args.self.now c.in-Branched.mark = c.still_shows.ensures c.if-still_shows.true in
    ok_both c.keep.result (IsBranched c.in-Branched.ask c.in-Branched.mark c.args.self.now c.keep.new.self) (IsNoted (is_bare c.in-Branched.mark) false c.args.nodes.now c.keep.new.nodes) _ c.keep.ensures.ok c.keep.ensures.noted
    (λ branched noted room.
    subst (λ (n : Node). IsTallied c.args.nodes.now c.keep.new.nodes c.args.self.now.nodes c.keep.new.self.nodes (n ∷ c.args.rest.now) c.args.rest.now) (sym c.in-Branched.is)
    (kept_tallied c.args.nodes.now c.keep.new.nodes c.args.self.now c.keep.new.self c.args.rest.now c.in-Branched.ask c.in-Branched.mark c.in-Branched.mark branched
    (subst (λ (b : Bool). IsNoted (is_bare c.in-Branched.mark) b c.args.nodes.now c.keep.new.nodes) (sym still.covered) noted)
    (subst (λ (n : Node). HasRoom c.args.nodes.now (n ∷ c.args.rest.now)) c.in-Branched.is room)).0)

pub returns-in-Branched-clause-causes : goal.returns-in-Branched-clause-causes
returns-in-Branched-clause-causes c =
    let still : StillShows c.args.mill.now c.args.self.now c.in-Branched.mark = c.still_shows.ensures c.if-still_shows.true in
    let never : is_bare c.in-Branched.mark ≡ true → HasCause c.args.tally.now c.args.tally.now = λ e. absurd (true_false (sym e ∙ still.covered)) in
    on_ok_weaker c.keep.result (kept_causes c.args.self.now c.keep.new.self c.args.tally.now c.args.tally.now c.in-Branched.ask c.in-Branched.mark (no_less_same c.args.tally.now) never) c.keep.ensures.ok
  where
    true_false : true ≡ false → ⊥
    true_false e = cc

-- ---- a split that is decided anew

at_split : (m : Mill) (t : Search) (node : Node) (ask : Ask) (mark : Mark) (rest : List Node) → node ≡ Branched ask mark → IsRewriting m t (node ∷ rest) → IsRewriting m t (Branched ask mark ∷ rest)
at_split m t node ask mark rest e walk = subst (λ (n : Node). IsRewriting m t (n ∷ rest)) e walk

pub decide_anew-requires-clause-none : goal.decide_anew-requires-clause-none
decide_anew-requires-clause-none c = λ p inside. no_plan_left c.args.mill.now c.args.self.now (c.args.node ∷ c.args.rest.now) p c.requires.walk inside

-- prices refute it

pub turn_back-requires-in-Leaf : goal.turn_back-requires-in-Leaf
turn_back-requires-in-Leaf c =
    rw (c.requires.place.orders, c.requires.place.yard)
    (path_open c.args.mill.now (ShowsCoverUnlessBare c.args.mill.now (limits_of c.args.self.now)) (limits_of c.args.self.now) c.args.self.now.path c.args.self.now.nodes c.requires.walk.stands)

pub returns-in-Leaf-clause-moves : goal.returns-in-Leaf-clause-moves
returns-in-Leaf-clause-moves c =
    let walk : IsRewriting c.args.mill.now c.args.self.now (Branched c.in-Branched.ask c.in-Branched.mark ∷ c.args.rest.now) = at_split c.args.mill.now c.args.self.now c.args.node c.in-Branched.ask c.in-Branched.mark c.args.rest.now c.in-Branched.is c.requires.walk in
    let refutes : Refutes c.args.mill.now (limits_of c.args.self.now) c.args.self.now.path c.in-Leaf.prices = subst (λ (r : Renewed). IsRenewed c.args.mill.now (limits_of c.args.self.now) c.args.self.now.path c.args.tally.now c.decide_anew.new.tally r) c.in-Leaf.is c.in_ok-prices-in-Branched-2.ensures.renewed in
    subst (λ (n : Node). MovesOn c.args.mill.now c.args.self.now c.turn_back-in-Leaf.new.self n c.args.rest.now c.pass_two.new.self) (sym c.in-Branched.is)
    (refuted_moves c.args.mill.now c.args.self.now c.turn_back-in-Leaf.new.self c.in-Branched.ask c.in-Branched.mark c.args.rest.now c.pass_two.new.self c.in-Leaf.prices walk refutes c.pass_two.ensures c.in_ok-turn_back-in-Leaf.ensures.ok)

pub returns-in-Leaf-clause-tallied : goal.returns-in-Leaf-clause-tallied
returns-in-Leaf-clause-tallied c = λ room.
    subst (λ (n : Node). IsTallied c.args.nodes.now c.args.nodes.now c.args.self.now.nodes c.turn_back-in-Leaf.new.self.nodes (n ∷ c.args.rest.now) c.pass_two.new.self) (sym c.in-Branched.is)
    (refuted_tallied c.args.nodes.now c.args.self.now c.turn_back-in-Leaf.new.self c.in-Leaf.prices c.in_ok-turn_back-in-Leaf.ensures.ok c.in-Branched.ask c.in-Branched.mark c.args.rest.now c.pass_two.new.self c.pass_two.ensures)

pub returns-in-Leaf-clause-room : goal.returns-in-Leaf-clause-room
returns-in-Leaf-clause-room c = λ room.
    refuted_room c.args.nodes.now c.in-Branched.ask c.in-Branched.mark c.args.rest.now c.pass_two.new.self c.pass_two.ensures (subst (λ (n : Node). HasRoom c.args.nodes.now (n ∷ c.args.rest.now)) c.in-Branched.is room)

pub returns-in-Leaf-clause-causes : goal.returns-in-Leaf-clause-causes
returns-in-Leaf-clause-causes c =
    close_causes c.args.self.now c.turn_back-in-Leaf.new.self c.args.tally.now c.decide_anew.new.tally c.in_ok-prices-in-Branched-2.ensures.counters c.turn_back-in-Leaf.result c.in-Leaf.prices c.turn_back-in-Leaf.ensures.ok c.turn_back-in-Leaf.ensures.err

-- it stays a split

pub keep-requires-in-Split-clause-asked : goal.keep-requires-in-Split-clause-asked
keep-requires-in-Split-clause-asked c =
    rw (c.requires.place.orders, c.requires.place.yard)
    (split_asks c.args.mill.now c.args.self.now c.in-Branched.ask c.in-Branched.mark c.args.rest.now (at_split c.args.mill.now c.args.self.now c.args.node c.in-Branched.ask c.in-Branched.mark c.args.rest.now c.in-Branched.is c.requires.walk)).asked

pub keep-requires-in-Split-clause-undecided : goal.keep-requires-in-Split-clause-undecided
keep-requires-in-Split-clause-undecided c =
    rw c.requires.place.list
    (split_asks c.args.mill.now c.args.self.now c.in-Branched.ask c.in-Branched.mark c.args.rest.now (at_split c.args.mill.now c.args.self.now c.args.node c.in-Branched.ask c.in-Branched.mark c.args.rest.now c.in-Branched.is c.requires.walk)).undecided

pub returns-clause-moves : goal.returns-clause-moves
returns-clause-moves c =
    let walk : IsRewriting c.args.mill.now c.args.self.now (Branched c.in-Branched.ask c.in-Branched.mark ∷ c.args.rest.now) = at_split c.args.mill.now c.args.self.now c.args.node c.in-Branched.ask c.in-Branched.mark c.args.rest.now c.in-Branched.is c.requires.walk in
    let right : ShowsCoverUnlessBare c.args.mill.now (limits_of c.args.self.now) c.in-Split.shown c.args.self.now.path = (subst (λ (r : Renewed). IsRenewed c.args.mill.now (limits_of c.args.self.now) c.args.self.now.path c.args.tally.now c.decide_anew.new.tally r) c.in-Split.is c.in_ok-prices-in-Branched-2.ensures.renewed).0 in
    subst (λ (n : Node). OnOk c.keep-in-Split.result (MovesOn c.args.mill.now c.args.self.now c.keep-in-Split.new.self n c.args.rest.now c.args.rest.now)) (sym c.in-Branched.is)
    (on_ok_weaker c.keep-in-Split.result (kept_moves c.args.mill.now c.args.self.now c.keep-in-Split.new.self c.in-Branched.ask c.in-Branched.mark c.in-Split.shown c.args.rest.now walk right) c.keep-in-Split.ensures.ok)

pub returns-clause-tallied : goal.returns-clause-tallied
returns-clause-tallied c =
    ok_both c.keep-in-Split.result (IsBranched c.in-Branched.ask c.in-Split.shown c.args.self.now c.keep-in-Split.new.self) (IsNoted (is_bare c.in-Split.shown) c.is_bare.result c.args.nodes.now c.keep-in-Split.new.nodes) _ c.keep-in-Split.ensures.ok c.keep-in-Split.ensures.noted
    (λ branched noted room.
    subst (λ (n : Node). IsTallied c.args.nodes.now c.keep-in-Split.new.nodes c.args.self.now.nodes c.keep-in-Split.new.self.nodes (n ∷ c.args.rest.now) c.args.rest.now) (sym c.in-Branched.is)
    (kept_tallied c.args.nodes.now c.keep-in-Split.new.nodes c.args.self.now c.keep-in-Split.new.self c.args.rest.now c.in-Branched.ask c.in-Branched.mark c.in-Split.shown branched
    (subst (λ (b : Bool). IsNoted (is_bare c.in-Split.shown) b c.args.nodes.now c.keep-in-Split.new.nodes) c.is_bare.ensures noted)
    (subst (λ (n : Node). HasRoom c.args.nodes.now (n ∷ c.args.rest.now)) c.in-Branched.is room)).0)

pub returns-clause-room : goal.returns-clause-room
returns-clause-room c =
    ok_both c.keep-in-Split.result (IsBranched c.in-Branched.ask c.in-Split.shown c.args.self.now c.keep-in-Split.new.self) (IsNoted (is_bare c.in-Split.shown) c.is_bare.result c.args.nodes.now c.keep-in-Split.new.nodes) _ c.keep-in-Split.ensures.ok c.keep-in-Split.ensures.noted
    (λ branched noted room.
    (kept_tallied c.args.nodes.now c.keep-in-Split.new.nodes c.args.self.now c.keep-in-Split.new.self c.args.rest.now c.in-Branched.ask c.in-Branched.mark c.in-Split.shown branched
    (subst (λ (b : Bool). IsNoted (is_bare c.in-Split.shown) b c.args.nodes.now c.keep-in-Split.new.nodes) c.is_bare.ensures noted)
    (subst (λ (n : Node). HasRoom c.args.nodes.now (n ∷ c.args.rest.now)) c.in-Branched.is room)).1)

pub returns-clause-causes : goal.returns-clause-causes
returns-clause-causes c =
    let cause : is_bare c.in-Split.shown ≡ true → HasCause c.args.tally.now c.decide_anew.new.tally = (subst (λ (r : Renewed). IsRenewed c.args.mill.now (limits_of c.args.self.now) c.args.self.now.path c.args.tally.now c.decide_anew.new.tally r) c.in-Split.is c.in_ok-prices-in-Branched-2.ensures.renewed).1 in
    on_ok_weaker c.keep-in-Split.result (kept_causes c.args.self.now c.keep-in-Split.new.self c.args.tally.now c.decide_anew.new.tally c.in-Branched.ask c.in-Split.shown c.in_ok-prices-in-Branched-2.ensures.counters cause) c.keep-in-Split.ensures.ok
