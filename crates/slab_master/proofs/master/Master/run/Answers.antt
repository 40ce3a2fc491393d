use Rattle.std.proofs.Common.{sym, subst, ap, ◌∙◌, List, length, Vec, Global}
use Rattle.std.specs.Prelude.{All}
use Rattle.std.proofs.lemmas.List.{length-map}
use Rattle.slab_master.specs.Given.{Given, Row, Entry, IsColumn, AreRows}
use Rattle.slab_master.proofs.Columns.{columns_at}
use Rattle.slab_master.proofs.master.Master.run.Goals as goal

pub invariant_of-problem : goal.invariant_of-problem
invariant_of-problem c =
    let rows = c.self.inside.rows.items in
    let columns = c.self.inside.columns.items in
    record {
      small_rows = subst AreRows (sym c.deref.ensures.value) c.self.invariant.0.rows;
      within = subst (λ (cs : List (Vec Entry Global)). All (λ (v : Vec Entry Global). IsColumn (length c.deref.result.now) v.items) cs) (sym c.deref-2.ensures.value)
          (subst (λ (rs : List Row). All (λ (v : Vec Entry Global). IsColumn (length rs) v.items) columns) (sym c.deref.ensures.value)
          (columns_at (length rows) columns c.self.invariant.0.columns));
      small_costs = c.requires.small;
      priced = λ lessen. c.requires.priced lessen ∙ ap (λ (g : Given). length g.columns) (sym c.self.view_is) ∙ simp length-map (ap length (sym c.deref-2.ensures.value));
    }
