-- A round as the search makes it.
use Rattle.std.proofs.Common.{◌≡◌, ℕ, zero, suc, ◌<◌, ℤ, Bool, true, List, length, Option, Some, None, sym, ap, ◌∙◌, arith}
use Rattle.std.specs.Bool.{then_some}
use Rattle.std.specs.Option.{option_map}
use Rattle.mill_model.specs.Mill.{Mill, IsInLimits}
use Rattle.mill_model.specs.Starts.{IsStart, IsAsTold}
use Rattle.mill_model.specs.Columns.{Column}
use Rattle.mill_model.specs.Plans.{Plan}
use Rattle.number_draws.specs.Draws.{next_draw}
use Rattle.slab_filling.specs.Closing.{closed_slabs, plan_of_filled}
use Rattle.slab_filling.proofs.Closed.{AreClosed, close_all, start}
use Rattle.slab_lns.specs.Drawn.{Drawn}
use Rattle.number_draws.specs.Draws.{among}
use Rattle.slab_lns.specs.Neighbourhoods.{slabs_of, kept, released}
use Rattle.slab_lns.specs.Options.{place_all}
use Rattle.slab_lns.specs.Rounds.{Round, no_worse_plan, renewed, round_among, round, plan_after_rounds, told_after_rounds}
use Rattle.slab_lns.proofs.PlanSlabs.{length-slabs_of, start_closed, slabs_same}
use Rattle.slab_lns.proofs.Kept.{kept_filled}
use Rattle.slab_lns.proofs.Placed.{all_filled}

pub round_none : (m : Mill) (limit : Option ℤ) (r : Round) → length r.plan.kinds ≡ 0 → round m limit r ≡ r
round_none m limit r e = ap (λ n. round_among n m limit r) e

pub round_is : (m : Mill) (limit : Option ℤ) (r : Round) (n : ℕ) → length r.plan.kinds ≡ n → 0 < n
    → round m limit r ≡ renewed m limit r.plan (among n (next_draw r.last)) (among n (next_draw (next_draw r.last))) (next_draw (next_draw r.last))
round_is m limit r zero e h = absurd (omega arith)
round_is m limit r (suc n) e h = ap (λ k. round_among k m limit r) e

pub renewed_as : (m : Mill) (limit : Option ℤ) (p : Plan) (slabs : List Column) (a b last : ℕ) (placed : Drawn (List Column)) → slabs_of p ≡ slabs
    → place_all m limit (released m a b slabs) (kept m a b slabs) last ≡ placed → renewed m limit p a b last ≡ record { plan = no_worse_plan m p placed.found; last = placed.last }
renewed_as m limit p slabs a b last placed e f =
    ap (λ (d : Drawn (List Column)). record { plan = no_worse_plan m p d.found; last = d.last }) (ap (λ ss. place_all m limit (released m a b ss) (kept m a b ss) last) e ∙ f)

pub round_made : (m : Mill) (limit : Option ℤ) (r : Round) (slabs : List Column) (n a b first second : ℕ) (placed : Drawn (List Column)) → slabs_of r.plan ≡ slabs → length r.plan.kinds ≡ n → 0 < n
    → first ≡ next_draw r.last → a ≡ among n first → second ≡ next_draw first → b ≡ among n second
    → place_all m limit (released m a b slabs) (kept m a b slabs) second ≡ placed → round m limit r ≡ record { plan = no_worse_plan m r.plan placed.found; last = placed.last }
round_made m limit r slabs n a b first second placed e l h f1 f2 f3 f4 p =
    let two : next_draw (next_draw r.last) ≡ second = ap next_draw (sym f1) ∙ sym f3 in
    let at_a : among n (next_draw r.last) ≡ a = ap (among n) (sym f1) ∙ sym f2 in
    let at_b : among n (next_draw (next_draw r.last)) ≡ b = ap (among n) two ∙ sym f4 in
    round_is m limit r n l h
    ∙ ap (λ x. renewed m limit r.plan x (among n (next_draw (next_draw r.last))) (next_draw (next_draw r.last))) at_a
    ∙ ap (λ x. renewed m limit r.plan a x (next_draw (next_draw r.last))) at_b
    ∙ ap (renewed m limit r.plan a b) two
    ∙ renewed_as m limit r.plan slabs a b second placed e p

-- what a round makes
pub record IsMade (m : Mill) (limit : Option ℤ) (made : List Column) : Type 0 where
  pub start : IsStart m limit (plan_of_filled m made)
  pub slabs : slabs_of (plan_of_filled m made) ≡ closed_slabs m made

pub made_starts : (m : Mill) (limit : Option ℤ) (p : Plan) (a b last : ℕ) (made : List Column) → IsInLimits m → IsStart m limit p → a < length p.kinds → b < length p.kinds
    → (place_all m limit (released m a b (slabs_of p)) (kept m a b (slabs_of p)) last).found ≡ Some made → IsMade m limit made
made_starts m limit p a b last made limits s la lb e =
    let slabs = slabs_of p in
    let closed : AreClosed m limit (closed_slabs m made) =
    close_all m limit made limits (all_filled m limit (released m a b slabs) (kept m a b slabs) last made
    (kept_filled m limit slabs a b (omega (arith, length-slabs_of p)) (omega (arith, length-slabs_of p)) (start_closed m limit p s)) e) in
    record { start = start m limit (closed_slabs m made) closed; slabs = slabs_same m limit (closed_slabs m made) closed }

pub made_by : (m : Mill) (limit : Option ℤ) (p : Plan) (slabs : List Column) (n a b last after : ℕ) (yes : Bool) (made : List Column) → IsInLimits m → IsStart m limit p → slabs_of p ≡ slabs → length p.kinds ≡ n → a < n → b < n
    → place_all m limit (released m a b slabs) (kept m a b slabs) last ≡ record { found = then_some yes made; last = after } → yes ≡ true → IsMade m limit made
made_by m limit p slabs n a b last after all made limits s e l la lb placed t =
    made_starts m limit p a b last made limits s (omega (arith, l)) (omega (arith, l))
    (ap (λ ss. (place_all m limit (released m a b ss) (kept m a b ss) last).found) e ∙ ap (λ (d : Drawn (List Column)). d.found) placed ∙ ap (λ t'. then_some t' made) t)

-- ---- what is told

pub told_after : (told : Option (Mill → Option ℤ → Option Plan)) (m : Mill) (limit : Option ℤ) (inner answer : Option Plan) (rounds seed : ℕ)
    → IsAsTold told m limit inner → answer ≡ option_map (plan_after_rounds rounds seed m limit) inner → IsAsTold (told_after_rounds rounds seed told) m limit answer
told_after None m limit inner answer rounds seed t e = tt
told_after (Some answers) m limit inner answer rounds seed t e = e ∙ ap (option_map (plan_after_rounds rounds seed m limit)) t
