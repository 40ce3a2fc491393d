use Rattle.std.proofs.Common.{◌≡◌, refl, ◌<◌, ◌+◌, false, true, ap, sym, subst, ◌∙◌, length, get_or, List, Bool, arith}
use Rattle.std.proofs.lemmas.Bool.{false≢true}
use Rattle.cert_slabs.specs.Drafts.{Draft}
use Rattle.cert_slabs.proofs.Rising.{rises_at, all_at, all_from, get_in_range}
use Rattle.cert_slabs.proofs.draft.Draft.are_next.Goals as goal

pub index-requires : goal.index-requires
index-requires c = omega (arith, (rises_at 0 (length c.args.self.now.placed) c.args.orders.now c.loop-order.order-index c.requires.rise c.loop-order-test.true).1, c.from-in-loop-order.ensures, ap (λ (d : Draft). length d.placed) c.self.view_is, c.self.inside.placed.ok)

pub returns-then-index : goal.returns-then-index
returns-then-index c =
    let e = ap (λ (d : Draft). d.placed) c.self.view_is in
    let within = (rises_at 0 (length c.args.self.now.placed) c.args.orders.now c.loop-order.order-index c.requires.rise c.loop-order-test.true).1 in
    let at : get_or c.self.inside.placed.items c.from-in-loop-order.result true ≡ get_or c.self.inside.placed.items c.from-in-loop-order.result false = get_in_range c.self.inside.placed.items c.from-in-loop-order.result true false (omega (arith, within, c.from-in-loop-order.ensures, ap length e)) in
    let there : true ≡ get_or c.self.inside.placed.items c.from-in-loop-order.result true = subst (λ b. b ≡ get_or c.self.inside.placed.items c.from-in-loop-order.result b) c.if-index.true c.index.ensures in (
      λ f. absurd (false≢true f),
      λ next.
          let free : get_or c.args.self.now.placed (get_or c.args.orders.now c.loop-order.order-index 0) false ≡ false = all_at (λ o. get_or c.args.self.now.placed o false ≡ false) c.args.orders.now c.loop-order.order-index next.free c.loop-order-test.true in
          let same : get_or c.self.inside.placed.items c.from-in-loop-order.result false ≡ get_or c.args.self.now.placed (get_or c.args.orders.now c.loop-order.order-index 0) false = ap (λ (ps : List Bool). get_or ps c.from-in-loop-order.result false) e ∙ ap (λ o. get_or c.args.self.now.placed o false) c.from-in-loop-order.ensures in
          let wrong : true ≡ false = there ∙ at ∙ same ∙ free in absurd cc,
    )

pub returns : goal.returns
returns c =
    let e = ap (λ (d : Draft). d.placed) c.self.view_is in (
      λ t. record {
        some = c.requires.some;
        rise = c.requires.rise;
        free = all_from (λ o. get_or c.args.self.now.placed o false ≡ false) c.args.orders.now (λ i h. subst (λ (ps : List Bool). get_or ps (get_or c.args.orders.now i 0) false ≡ false) e (c.loop-order.invariant i (omega (arith, h, c.loop-order-test.false))));
        least = λ o below. subst (λ (ps : List Bool). get_or ps o false ≡ true) e (c.self.invariant.below o (omega (arith, below, c.from.ensures, c.if-from-self.false)));
      },
      λ next. refl,
    )
