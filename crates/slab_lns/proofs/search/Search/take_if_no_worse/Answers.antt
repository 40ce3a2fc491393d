use Rattle.std.proofs.Common.{◌≡◌, ℕ, List, [], length, subst, sym, ap, ◌∙◌, arith}
use Rattle.mill_model.specs.Columns.{Column}
use Rattle.mill_model.specs.Starts.{IsStart}
use Rattle.mill_model.specs.Plans.{sums_of}
use Rattle.slab_filling.specs.Closing.{plan_of, plan_of_filled, closed_onto, closed_slabs}
use Rattle.slab_filling.proofs.Closed.{length-closed}
use Rattle.slab_lns.specs.Neighbourhoods.{slabs_of}
use Rattle.slab_lns.proofs.search.Search.take_if_no_worse.Goals as goal

pub returns-in_ok-close_onto-clause-sound : goal.returns-in_ok-close_onto-clause-sound
returns-in_ok-close_onto-clause-sound c =
    let m = c.args.mill.now in
    let n : ℕ = length m.orders in
    let made : List Column = c.args.self.now.made.items in
    let closed : c.close_onto.new.closed.items ≡ closed_slabs m made = c.in_ok-close_onto.ensures.closed ∙ ap (λ (others : List Column). closed_onto m others made) c.in_ok-take_back.ensures in
    record {
      start = subst (λ (slabs : List Column). IsStart m c.args.self.now.limit (plan_of n slabs)) (sym closed) c.requires.made;
      slabs = ap (λ (slabs : List Column). slabs_of (plan_of n slabs)) closed ∙ c.requires.slabs ∙ sym closed;
      sums = c.closed_sums-sums.ensures ∙ ap (λ (slabs : List Column). sums_of m (plan_of_filled m slabs)) c.deref.ensures.value ∙ ap (λ (slabs : List Column). sums_of m (plan_of n slabs)) (sym closed);
      sizes = c.requires.sound.sizes;
      few = omega (arith, ap (λ (slabs : List Column). length slabs) closed, length-closed m [] made, c.requires.few);
    }
