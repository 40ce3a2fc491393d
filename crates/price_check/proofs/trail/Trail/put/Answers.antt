use Rattle.std.proofs.Common.{reverse, sym, subst, arith}
use Rattle.std.proofs.lemmas.List.{reverse-append, length-reverse}
use Rattle.mill_model.specs.Trees.{IsFresh}
use Rattle.price_check.specs.Path.{Trail}
use Rattle.price_check.proofs.Marks.{ArePath-from_marks}
use Rattle.mill_model.specs.Decisions.{IsAskAmong}
use Rattle.price_check.proofs.Trails.{place_within, trail_put, trail_room}
use Rattle.price_check.proofs.trail.Trail.put.Goals as goal

pub index_mut-requires : goal.index_mut-requires
index_mut-requires c =
    let asked : IsAskAmong c.self.inside.orders c.self.inside.slabs c.args.ask = subst (λ (p : Trail). IsAskAmong p.orders p.slabs c.args.ask) (sym c.self.view_is) c.requires.asked in
    omega (arith, place_within c.self.inside.orders c.self.inside.slabs (reverse c.self.inside.decisions.items) c.self.inside.marks.items _ c.self.invariant c.args.ask asked, c.place_of-place.ensures)

pub push_reserved-requires : goal.push_reserved-requires
push_reserved-requires c =
    let asked : IsAskAmong c.self.inside.orders c.self.inside.slabs c.args.ask = subst (λ (p : Trail). IsAskAmong p.orders p.slabs c.args.ask) (sym c.self.view_is) c.requires.asked in
    let fresh : IsFresh c.args.ask (reverse c.self.inside.decisions.items) = subst (λ (p : Trail). IsFresh c.args.ask p.decisions) (sym c.self.view_is) c.requires.fresh in
    omega (arith, trail_room c.self.inside.orders c.self.inside.slabs (reverse c.self.inside.decisions.items) c.self.inside.marks.items _ c.self.invariant c.args.ask asked fresh, length-reverse c.self.inside.decisions.items)

pub invariant_of-self : goal.invariant_of-self
invariant_of-self c =
    let asked : IsAskAmong c.self.inside.orders c.self.inside.slabs c.args.ask = subst (λ (p : Trail). IsAskAmong p.orders p.slabs c.args.ask) (sym c.self.view_is) c.requires.asked in
    let fresh : IsFresh c.args.ask (reverse c.self.inside.decisions.items) = subst (λ (p : Trail). IsFresh c.args.ask p.decisions) (sym c.self.view_is) c.requires.fresh in
    rw (c.place_of-place.ensures, c.push_reserved.ensures.capacity, c.push_reserved.ensures.items, reverse-append c.self.inside.decisions.items _)
    (trail_put c.self.inside.orders c.self.inside.slabs (reverse c.self.inside.decisions.items) c.self.inside.marks.items _ c.self.invariant c.args.ask asked c.args.answer fresh)

pub returns-clause-path : goal.returns-clause-path
returns-clause-path c =
    let asked : IsAskAmong c.self.inside.orders c.self.inside.slabs c.args.ask = subst (λ (p : Trail). IsAskAmong p.orders p.slabs c.args.ask) (sym c.self.view_is) c.requires.asked in
    let fresh : IsFresh c.args.ask (reverse c.self.inside.decisions.items) = subst (λ (p : Trail). IsFresh c.args.ask p.decisions) (sym c.self.view_is) c.requires.fresh in
    let put = trail_put c.self.inside.orders c.self.inside.slabs (reverse c.self.inside.decisions.items) c.self.inside.marks.items _ c.self.invariant c.args.ask asked c.args.answer fresh in
    rw (c.push_reserved.ensures.items, reverse-append c.self.inside.decisions.items _) (ArePath-from_marks c.self.inside.orders c.self.inside.slabs _ _ put.marked put.size)
