use Rattle.std.proofs.Common.{◌≡◌, ℕ, true, false, List, reverse, sym, subst, ◌∙◌, rules}
use Rattle.mill_model.specs.Columns.{Column, Rises}
use Rattle.mill_model.specs.Decisions.{Decision, column_agrees}
use Rattle.slab_decide.specs.Decided.{Decisions}
use Rattle.slab_decide.proofs.Allowing.{nodes, refused, answered, agrees_alike}
use Rattle.slab_decide.proofs.decisions.Decisions.allows.Goals as goal

abbrev seen : ℕ → ℕ → List Decision → Decisions
seen orders yard items = record { orders = orders; yard = yard; list = reverse items }

pub is_slab_whole-requires : goal.is_slab_whole-requires
is_slab_whole-requires c =
    let v : Decisions = seen c.self.inside.orders c.self.inside.yard c.self.inside.list.items in
    let rises : Rises 0 v.orders c.args.orders.now = subst (λ (w : Decisions). Rises 0 w.orders c.args.orders.now) (sym c.self.view_is) c.requires in
    nodes v c.self.inside.relations c.self.invariant.0 (record { kind = c.known_kind-known.result; orders = c.args.orders.now }) c.known_kind-known.ensures.known rises

pub are_orders_whole-requires : goal.are_orders_whole-requires
are_orders_whole-requires c =
    let v : Decisions = seen c.self.inside.orders c.self.inside.yard c.self.inside.list.items in
    let rises : Rises 0 v.orders c.args.orders.now = subst (λ (w : Decisions). Rises 0 w.orders c.args.orders.now) (sym c.self.view_is) c.requires in
    nodes v c.self.inside.relations c.self.invariant.0 (record { kind = c.known_kind-known.result; orders = c.args.orders.now }) c.known_kind-known.ensures.known rises

pub returns-then-not-is_slab_whole : goal.returns-then-not-is_slab_whole
returns-then-not-is_slab_whole c =
    let v : Decisions = seen c.self.inside.orders c.self.inside.yard c.self.inside.list.items in
    let column : Column = record { kind = c.known_kind-known.result; orders = c.args.orders.now } in
    let rises : Rises 0 v.orders c.args.orders.now = subst (λ (w : Decisions). Rises 0 w.orders c.args.orders.now) (sym c.self.view_is) c.requires in
    let no : c.is_slab_whole.result ≡ false = search rules in
    let told : false ≡ column_agrees v.list column = refused v c.self.inside.relations c.self.invariant.0 column c.known_kind-known.ensures.known rises c.is_slab_whole.result no c.is_slab_whole.ensures.1 in
    let alike = agrees_alike v v.list c.known_kind-known.result c.args.kind c.args.orders.now c.self.invariant.0.decisions.asks c.known_kind-known.ensures.alike in
    subst (λ (w : Decisions). false ≡ column_agrees w.list (record { kind = c.args.kind; orders = c.args.orders.now })) c.self.view_is (told ∙ alike)

pub returns : goal.returns
returns c =
    let v : Decisions = seen c.self.inside.orders c.self.inside.yard c.self.inside.list.items in
    let column : Column = record { kind = c.known_kind-known.result; orders = c.args.orders.now } in
    let rises : Rises 0 v.orders c.args.orders.now = subst (λ (w : Decisions). Rises 0 w.orders c.args.orders.now) (sym c.self.view_is) c.requires in
    let slab_is : c.is_slab_whole.result ≡ true = search rules in
    let told : c.are_orders_whole.result ≡ column_agrees v.list column = answered v c.self.inside.relations c.self.invariant.0 column c.known_kind-known.ensures.known rises c.are_orders_whole.result (c.is_slab_whole.ensures.0 slab_is) c.are_orders_whole.ensures.0 c.are_orders_whole.ensures.1 in
    let alike = agrees_alike v v.list c.known_kind-known.result c.args.kind c.args.orders.now c.self.invariant.0.decisions.asks c.known_kind-known.ensures.alike in
    subst (λ (w : Decisions). c.are_orders_whole.result ≡ column_agrees w.list (record { kind = c.args.kind; orders = c.args.orders.now })) c.self.view_is (told ∙ alike)
