use Rattle.std.proofs.Common.{reverse, subst}
use Rattle.price_check.specs.Path.{Trail, ArePath}
use Rattle.price_check.proofs.Marks.{ArePath-from_marks}
use Rattle.price_check.proofs.trail.Trail.decisions.Goals as goal

pub returns-clause-path : goal.returns-clause-path
returns-clause-path c =
    subst (λ (p : Trail). ArePath p.orders p.slabs p.decisions) c.self.view_is (ArePath-from_marks c.self.inside.orders c.self.inside.slabs (reverse c.self.inside.decisions.items) c.self.inside.marks.items c.self.invariant.marked c.self.invariant.size)
