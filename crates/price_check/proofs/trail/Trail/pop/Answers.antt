use Rattle.std.proofs.Common.{◌≡◌, ◌∷◌, ◌++◌, [], List, reverse, sym, ap, subst, ◌∙◌}
use Rattle.std.proofs.lemmas.List.{reverse-append}
use Rattle.mill_model.specs.Decisions.{Decision}
use Rattle.price_check.specs.Path.{Trail}
use Rattle.price_check.specs.Marks.{AreMarked}
use Rattle.price_check.proofs.Marks.{latest_fresh}
use Rattle.price_check.proofs.trail.Trail.pop.Goals as goal

pub returns : goal.returns
returns c =
    let d : Decision = (c.in_ok-ask.ask, c.in_ok-ask.answer) in
    let rest : List Decision = reverse c.pop.new.self.items in
    let items : c.self.inside.decisions.items ≡ c.pop.new.self.items ++ d ∷ [] = c.in_ok-ask.ensures.items in
    let whole : reverse c.self.inside.decisions.items ≡ d ∷ rest = ap (λ (ds : List Decision). reverse ds) items ∙ reverse-append c.pop.new.self.items (d ∷ []) in
    let marked : AreMarked c.self.inside.orders c.self.inside.slabs (d ∷ rest) c.self.inside.marks.items = subst (λ (ds : List Decision). AreMarked c.self.inside.orders c.self.inside.slabs ds c.self.inside.marks.items) whole c.self.invariant.marked in
    let value : (ds : List Decision) → Trail = λ ds. record { orders = c.self.inside.orders; slabs = c.self.inside.slabs; decisions = ds } in
    (sym c.self.view_is ∙ ap value whole, marked.0, latest_fresh c.self.inside.orders c.self.inside.slabs d rest c.self.inside.marks.items marked)
