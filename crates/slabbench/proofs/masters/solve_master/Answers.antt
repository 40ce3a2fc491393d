use Rattle.std.proofs.Common.{◌≡◌, length, ap, sym, ◌∙◌}
use Rattle.slabbench.proofs.masters.solve_master.Goals as goal

-- src/masters.rt:59:5
pub steps-init : goal.steps-init
steps-init c =
    let same : length c.in_ok-master.master.rows ≡ length c.deref.result.now = ap (λ m. length m.rows) c.in_ok-master.ensures in
    same ∙ (c.deref.ensures.len ∙ sym c.len-count.ensures)
