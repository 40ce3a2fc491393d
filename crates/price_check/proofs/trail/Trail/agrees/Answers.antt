use Rattle.std.proofs.Common.{List, reverse, sym, ap, subst, ◌∙◌}
use Rattle.mill_model.specs.Decisions.{Decision, agrees, column_agrees}
use Rattle.mill_model.specs.Columns.{Column}
use Rattle.price_check.specs.Path.{Trail, ArePath}
use Rattle.price_check.proofs.Marks.{ArePath-from_marks}
use Rattle.price_check.proofs.Reversed.{list_all-reverse}
use Rattle.price_check.proofs.trail.Trail.agrees.Goals as goal

pub returns-clause-value : goal.returns-clause-value
returns-clause-value c =
    let column : Column = record { kind = c.args.kind; orders = c.args.orders.now } in
    c.agrees_with_all.ensures ∙ ap (λ (ds : List Decision). column_agrees ds column) c.deref.ensures.value
    ∙ sym (list_all-reverse (agrees column) c.self.inside.decisions.items)
    ∙ ap (λ (p : Trail). column_agrees p.decisions column) c.self.view_is

pub returns-clause-path : goal.returns-clause-path
returns-clause-path c =
    subst (λ (p : Trail). ArePath p.orders p.slabs p.decisions) c.self.view_is (ArePath-from_marks c.self.inside.orders c.self.inside.slabs (reverse c.self.inside.decisions.items) c.self.inside.marks.items c.self.invariant.marked c.self.invariant.size)
