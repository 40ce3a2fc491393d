use Rattle.std.proofs.Common.{◌≡◌, ◌<◌, ℕ, List, [], ◌∷◌, ◌++◌, Some, set, length, sym, ap, ◌∙◌, arith}
use Rattle.mill_model.specs.declared.kind.Kind.TheVariants.{New}
use Rattle.mill_model.specs.Columns.{Column}
use Rattle.slab_filling.specs.Slabs.{empty, with_order}
use Rattle.slab_lns.specs.Options.{ways, placed}
use Rattle.slab_lns.proofs.Ranges.{any_default}
use Rattle.slab_lns.proofs.EachWay.{placed_by, on_within}
use Rattle.slab_lns.proofs.placing.Placing.place.Goals as goal

pub index_mut-requires : goal.index_mut-requires
index_mut-requires c =
    let slabs = c.args.slabs.now.items in
    let listed : c.list_ways.new.ways.items ≡ ways c.args.mill.now c.args.limit c.args.order slabs = c.in_ok-list_ways.ensures ∙ ap (ways c.args.mill.now c.args.limit c.args.order) c.deref.ensures.value in
    omega (
      arith,
      on_within c.args.mill.now c.args.limit c.args.order slabs c.args.self.now.draws.last c.list_ways.new.ways.items c.len-count.result c.among-drawn.new.self.last c.among-drawn.result c.index.result.now listed
          (omega (arith, c.len-count.ensures)) c.if-count-eq0.false c.among-drawn.ensures.number c.among-drawn.ensures.drawn c.index.ensures c.in-On.k c.in-On.is,
    )

pub returns-in_ok-put-in-On : goal.returns-in_ok-put-in-On
returns-in_ok-put-in-On c =
    let slabs = c.args.slabs.now.items in
    let o = c.args.order in
    let listed : c.list_ways.new.ways.items ≡ ways c.args.mill.now c.args.limit o slabs = c.in_ok-list_ways.ensures ∙ ap (ways c.args.mill.now c.args.limit o) c.deref.ensures.value in
    let count : c.len-count.result ≡ length c.list_ways.new.ways.items = omega (arith, c.len-count.ensures) in
    let inside : c.in-On.k < length slabs =
    on_within c.args.mill.now c.args.limit o slabs c.args.self.now.draws.last c.list_ways.new.ways.items c.len-count.result c.among-drawn.new.self.last c.among-drawn.result c.index.result.now listed
    count c.if-count-eq0.false c.among-drawn.ensures.number c.among-drawn.ensures.drawn c.index.ensures c.in-On.k c.in-On.is in
    placed_by c.args.mill.now c.args.limit o slabs c.args.self.now.draws.last c.list_ways.new.ways.items c.len-count.result c.among-drawn.new.self.last c.among-drawn.result c.index.result.now listed
    count c.if-count-eq0.false c.among-drawn.ensures.number c.among-drawn.ensures.drawn c.index.ensures
    ∙ ap (λ (ss : List Column). record { found = Some ss; last = c.among-drawn.new.self.last })
    (ap (placed o slabs) c.in-On.is ∙ ap (λ (s : Column). set slabs c.in-On.k s) (ap (with_order o) (any_default slabs c.in-On.k (empty (New 0)) c.index_mut.result.now inside ∙ sym c.index_mut.ensures.value) ∙ sym c.in_ok-put-in-On.ensures))

pub returns-in_ok-push-in-Open : goal.returns-in_ok-push-in-Open
returns-in_ok-push-in-Open c =
    let slabs = c.args.slabs.now.items in
    let o = c.args.order in
    let listed : c.list_ways.new.ways.items ≡ ways c.args.mill.now c.args.limit o slabs = c.in_ok-list_ways.ensures ∙ ap (ways c.args.mill.now c.args.limit o) c.deref.ensures.value in
    let count : c.len-count.result ≡ length c.list_ways.new.ways.items = omega (arith, c.len-count.ensures) in
    let fresh : c.new-slab.result ≡ empty c.in-Open.kind = c.new-slab.ensures ∙ ap (λ (os : List ℕ). record { kind = c.in-Open.kind; orders = os }) c.take.ensures in
    placed_by c.args.mill.now c.args.limit o slabs c.args.self.now.draws.last c.list_ways.new.ways.items c.len-count.result c.among-drawn.new.self.last c.among-drawn.result c.index.result.now listed
    count c.if-count-eq0.false c.among-drawn.ensures.number c.among-drawn.ensures.drawn c.index.ensures
    ∙ ap (λ (ss : List Column). record { found = Some ss; last = c.among-drawn.new.self.last })
    (ap (placed o slabs) c.in-Open.is ∙ ap (λ (s : Column). slabs ++ s ∷ []) (ap (with_order o) (sym fresh) ∙ sym c.in_ok-put-in-Open.ensures) ∙ sym c.in_ok-push-in-Open.ensures.items)
