use Rattle.std.proofs.Common.{ℕ, ◌<◌, ◌≤◌, arith, ap, sym, subst, List, length, Vec, Global, vec_len}
use Rattle.std.proofs.lemmas.List.Elements.{All-weaker}
use Rattle.slab_master.specs.Given.{Given, Row, Entry, Column, columns_of, IsColumn, IsGiven}
use Rattle.slab_master.proofs.Columns.{IsGiven-push}
use Rattle.slab_master.proofs.master.Master.add_column.Goals as goal

pub invariant_of-self-2 : goal.invariant_of-self-2
invariant_of-self-2 c =
    let column : IsColumn (length c.self.inside.rows.items) c.in_ok-entries.entries.items =
    subst (λ (es : Column). IsColumn (length c.self.inside.rows.items) es) (sym c.in_ok-entries.ensures.items)
    (subst (λ (rs : List Row). IsColumn (length rs) c.args.entries.now) (sym (ap (λ (g : Given). g.rows) c.self.view_is)) c.requires) in
    let grown : vec_len c.self.inside.columns ≤ vec_len c.push.new.self = omega (arith, c.in_ok-push.ensures.len) in (
      subst (λ (cs : List (Vec Entry Global)). IsGiven (record { rows = c.self.inside.rows.items; columns = columns_of cs })) (sym c.in_ok-push.ensures.items)
          (IsGiven-push c.self.inside.rows.items c.self.inside.columns.items c.in_ok-entries.entries c.self.invariant.0 column),
      c.self.invariant.1,
      All-weaker (λ (j : ℕ). j < vec_len c.self.inside.columns) (λ (j : ℕ). j < vec_len c.push.new.self) (λ j below. omega (arith, below, grown)) c.self.inside.likely.items c.self.invariant.2,
    )
