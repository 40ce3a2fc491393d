use Rattle.std.proofs.Common.{◌≡◌, ◌<◌, false, length, get_or, reverse, sym, subst, ◌∙◌, arith}
use Rattle.std.specs.Prelude.{Contains}
use Rattle.std.proofs.lemmas.List.{get_or_read}
use Rattle.price_check.specs.Path.{Trail, ArePath, asks_of}
use Rattle.mill_model.specs.Decisions.{IsAskAmong}
use Rattle.price_check.specs.Marks.{place_of}
use Rattle.price_check.proofs.Marks.{marked_where_asked, asked_where_marked, ArePath-from_marks}
use Rattle.price_check.proofs.Trails.{place_within}
use Rattle.price_check.proofs.trail.Trail.stands.Goals as goal

pub index-requires : goal.index-requires
index-requires c =
    let asked : IsAskAmong c.self.inside.orders c.self.inside.slabs c.args.ask = subst (λ (p : Trail). IsAskAmong p.orders p.slabs c.args.ask) (sym c.self.view_is) c.requires in
    omega (arith, place_within c.self.inside.orders c.self.inside.slabs (reverse c.self.inside.decisions.items) c.self.inside.marks.items _ c.self.invariant c.args.ask asked, c.place_of.ensures)

pub returns-clause-stands : goal.returns-clause-stands
returns-clause-stands c =
    let n = c.self.inside.orders in
    let s = c.self.inside.slabs in
    let marks = c.self.inside.marks.items in
    let asked : IsAskAmong c.self.inside.orders c.self.inside.slabs c.args.ask = subst (λ (p : Trail). IsAskAmong p.orders p.slabs c.args.ask) (sym c.self.view_is) c.requires in
    let within : place_of c.self.inside.orders c.self.inside.slabs c.args.ask < length c.self.inside.marks.items = place_within c.self.inside.orders c.self.inside.slabs (reverse c.self.inside.decisions.items) c.self.inside.marks.items _ c.self.invariant c.args.ask asked in
    let mark : c.index.result.now ≡ get_or c.self.inside.marks.items (place_of c.self.inside.orders c.self.inside.slabs c.args.ask) false =
    get_or_read c.self.inside.marks.items (place_of c.self.inside.orders c.self.inside.slabs c.args.ask) c.index.result.now within (rw c.place_of.ensures at c.index.ensures) false in (
      λ e. subst (λ (p : Trail). Contains (asks_of p.decisions) c.args.ask) c.self.view_is (asked_where_marked n s (reverse c.self.inside.decisions.items) marks c.args.ask c.self.invariant.marked asked (sym mark ∙ e)),
      λ found. mark ∙ marked_where_asked n s (reverse c.self.inside.decisions.items) marks c.args.ask c.self.invariant.marked (subst (λ (p : Trail). Contains (asks_of p.decisions) c.args.ask) (sym c.self.view_is) found),
    )

pub returns-clause-path : goal.returns-clause-path
returns-clause-path c =
    subst (λ (p : Trail). ArePath p.orders p.slabs p.decisions) c.self.view_is (ArePath-from_marks c.self.inside.orders c.self.inside.slabs (reverse c.self.inside.decisions.items) c.self.inside.marks.items c.self.invariant.marked c.self.invariant.size)
