use Rattle.std.proofs.Common.{◌≡◌, ℕ, Bool, List, length, Option, refl, sym, ap, ap₂, ◌∙◌, arith}
use Rattle.std.specs.Bool.{then_some}
use Rattle.std.proofs.lemmas.List.{length-map}
use Rattle.mill_model.specs.Columns.{Column}
use Rattle.mill_model.specs.Plans.{Plan}
use Rattle.slab_filling.specs.Closing.{plan_of}
use Rattle.slab_lns.specs.Rounds.{no_worse_plan}
use Rattle.slab_lns.specs.Searches.{plan_at, round_at}
use Rattle.slab_lns.proofs.ClosedSizes.{few_made}
use Rattle.slab_lns.proofs.Rounded.{made_by, round_made}
use Rattle.slab_lns.proofs.search.Search.round.Goals as goal

pub take_if_no_worse-requires-clause-few : goal.take_if_no_worse-requires-clause-few
take_if_no_worse-requires-clause-few c =
    let m = c.args.mill.now in
    let s = c.args.self.now in
    let kinds : length (plan_at m s).kinds ≡ c.len-count.result = length-map s.slabs.items (λ (x : Column). x.kind) ∙ omega (arith, c.len-count.ensures) in
    let made = c.place_anew.new.self.made.items in
    few_made m s.limit made c.place_anew.ensures.mill
    (made_by m s.limit (plan_at m s) s.slabs.items c.len-count.result c.among-first.result c.among-second.result c.among-second.new.self.last c.place_anew.new.self.placing.draws.last c.in_ok-place_anew.field-0 made c.place_anew.ensures.mill c.requires.start c.requires.slabs kinds
    c.among-first.ensures.within c.among-second.ensures.within c.in_ok-place_anew.ensures.placed c.if-branch.true).start

pub take_if_no_worse-requires-clause-made : goal.take_if_no_worse-requires-clause-made
take_if_no_worse-requires-clause-made c =
    let m = c.args.mill.now in
    let s = c.args.self.now in
    let kinds : length (plan_at m s).kinds ≡ c.len-count.result = length-map s.slabs.items (λ (x : Column). x.kind) ∙ omega (arith, c.len-count.ensures) in
    rw c.in_ok-place_anew.ensures.limit (made_by m s.limit (plan_at m s) s.slabs.items c.len-count.result c.among-first.result c.among-second.result c.among-second.new.self.last c.place_anew.new.self.placing.draws.last c.in_ok-place_anew.field-0 c.place_anew.new.self.made.items c.place_anew.ensures.mill c.requires.start c.requires.slabs kinds
    c.among-first.ensures.within c.among-second.ensures.within c.in_ok-place_anew.ensures.placed c.if-branch.true).start

pub take_if_no_worse-requires-clause-slabs : goal.take_if_no_worse-requires-clause-slabs
take_if_no_worse-requires-clause-slabs c =
    let m = c.args.mill.now in
    let s = c.args.self.now in
    let kinds : length (plan_at m s).kinds ≡ c.len-count.result = length-map s.slabs.items (λ (x : Column). x.kind) ∙ omega (arith, c.len-count.ensures) in
    (made_by m s.limit (plan_at m s) s.slabs.items c.len-count.result c.among-first.result c.among-second.result c.among-second.new.self.last c.place_anew.new.self.placing.draws.last c.in_ok-place_anew.field-0 c.place_anew.new.self.made.items c.place_anew.ensures.mill c.requires.start c.requires.slabs kinds
    c.among-first.ensures.within c.among-second.ensures.within c.in_ok-place_anew.ensures.placed c.if-branch.true).slabs

pub returns-in_ok-take_if_no_worse-clause-at : goal.returns-in_ok-take_if_no_worse-clause-at
returns-in_ok-take_if_no_worse-clause-at c =
    let m = c.args.mill.now in
    let s = c.args.self.now in
    let kinds : length (plan_at m s).kinds ≡ c.len-count.result = length-map s.slabs.items (λ (x : Column). x.kind) ∙ omega (arith, c.len-count.ensures) in
    let same : plan_at m c.place_anew.new.self ≡ plan_at m s = ap (λ (slabs : List Column). plan_of (length m.orders) slabs) (ap (λ v. v.items) c.in_ok-place_anew.ensures.slabs) in
    let found : Option (List Column) = then_some c.in_ok-place_anew.field-0 c.place_anew.new.self.made.items in
    ap₂ (λ (p : Plan) (l : ℕ). record { plan = p; last = l })
    (c.in_ok-take_if_no_worse.ensures.plan ∙ ap₂ (λ (p : Plan) (f : Option (List Column)). no_worse_plan m p f) same (ap (λ (b : Bool). then_some b c.place_anew.new.self.made.items) (sym c.if-branch.true)))
    c.in_ok-take_if_no_worse.ensures.last
    ∙ sym (round_made m s.limit (round_at m s) s.slabs.items c.len-count.result c.among-first.result c.among-second.result c.among-first.new.self.last c.among-second.new.self.last (record { found = found; last = c.place_anew.new.self.placing.draws.last }) c.requires.slabs kinds (omega (arith, c.if-count-eq0.false))
    c.among-first.ensures.number c.among-first.ensures.drawn c.among-second.ensures.number c.among-second.ensures.drawn c.in_ok-place_anew.ensures.placed)

pub returns-else-branch-clause-at : goal.returns-else-branch-clause-at
returns-else-branch-clause-at c =
    let m = c.args.mill.now in
    let s = c.args.self.now in
    let kinds : length (plan_at m s).kinds ≡ c.len-count.result = length-map s.slabs.items (λ (x : Column). x.kind) ∙ omega (arith, c.len-count.ensures) in
    let same : plan_at m c.place_anew.new.self ≡ plan_at m s = ap (λ (slabs : List Column). plan_of (length m.orders) slabs) (ap (λ v. v.items) c.in_ok-place_anew.ensures.slabs) in
    let found : Option (List Column) = then_some c.in_ok-place_anew.field-0 c.place_anew.new.self.made.items in
    ap₂ (λ (p : Plan) (l : ℕ). record { plan = p; last = l })
    (same ∙ ap (λ (b : Bool). no_worse_plan m (plan_at m s) (then_some b c.place_anew.new.self.made.items)) (sym c.if-branch.false))
    refl
    ∙ sym (round_made m s.limit (round_at m s) s.slabs.items c.len-count.result c.among-first.result c.among-second.result c.among-first.new.self.last c.among-second.new.self.last (record { found = found; last = c.place_anew.new.self.placing.draws.last }) c.requires.slabs kinds (omega (arith, c.if-count-eq0.false))
    c.among-first.ensures.number c.among-first.ensures.drawn c.among-second.ensures.number c.among-second.ensures.drawn c.in_ok-place_anew.ensures.placed)
