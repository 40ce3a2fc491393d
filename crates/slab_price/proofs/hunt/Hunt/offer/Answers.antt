use Rattle.std.proofs.Common.{◌≡◌, ℕ, ◌<◌, ℤ, List, length, sym, subst, ◌∙◌, ap, arith, to_z, of_z}
use Rattle.std.specs.Int.{w128}
use Rattle.std.specs.Vec.{vec_len}
use Rattle.std.proofs.lemmas.Int.{ints}
use Rattle.std.proofs.lemmas.Bool.{eqb-false}
use Rattle.pricing_laws.specs.Groups.{members}
use Rattle.pricing_laws.proofs.Choices.{choice_end}
use Rattle.pricing_laws.specs.Packs.{IsPack}
use Rattle.pricing_laws.specs.Hunts.{IsChoiceIn}
use Rattle.slab_price.specs.Tasks.{problem_of}
use Rattle.pricing_laws.proofs.Hunting.{taken_pack, taken_small}
use Rattle.slab_price.proofs.Improving.{improved_less}
use Rattle.slab_price.specs.Hunts.{hunt_of}
use Rattle.slab_price.proofs.hunt.Hunt.offer.Goals as goal

pub offer-requires : goal.offer-requires
offer-requires c =
    let h = c.args.self.now in
    let chosen = c.args.picks.now.chosen.items in
    let orders : List ℕ = members h.search.frame.now.groups.heads chosen in
    let listed : c.list_members.new.orders.items ≡ orders = c.list_members.ensures.members ∙ ap (λ (hs : List ℕ). members hs c.deref.result.now) c.heads-heads.ensures ∙ ap (members h.search.frame.now.groups.heads) c.deref.ensures.value in
    let back : to_z w128 (of_z w128 c.args.gain) ≡ c.args.gain = omega (arith, ints, taken_small (hunt_of h) 0 chosen c.args.weight c.args.gain c.requires) in
    let filled : length c.list_members.new.orders.items ≡ 0 → ⊥ = λ e. eqb-false (vec_len c.list_members.new.orders) 0 (sym c.if-not-is_empty.ensures) (omega (arith, e, c.list_members.new.orders.ok.0)) in
    let some : 0 < length orders = omega (arith, filled, ap (λ (os : List ℕ). length os) listed) in
    subst (λ (os : List ℕ). IsPack (problem_of h.search.task) os c.args.weight (to_z w128 (of_z w128 c.args.gain))) (sym (c.deref-then-not-is_empty.ensures.value ∙ listed))
    (subst (λ (z : ℤ). IsPack (problem_of h.search.task) orders c.args.weight z) (sym back) (taken_pack (hunt_of h) chosen c.args.weight c.args.gain c.requires some))

pub returns-then-not-is_empty-clause-improved : goal.returns-then-not-is_empty-clause-improved
returns-then-not-is_empty-clause-improved c =
    let h = c.args.self.now in
    let chosen = c.args.picks.now.chosen.items in
    let listed : c.deref-then-not-is_empty.result.now ≡ members h.search.frame.now.groups.heads chosen =
    c.deref-then-not-is_empty.ensures.value ∙ c.list_members.ensures.members ∙ ap (λ (hs : List ℕ). members hs c.deref.result.now) c.heads-heads.ensures ∙ ap (members h.search.frame.now.groups.heads) c.deref.ensures.value in
    improved_less (problem_of h.search.task) c.args.picks.now.best c.offer.new.best (λ d. d.orders ≡ c.deref-then-not-is_empty.result.now) (IsChoiceIn (hunt_of h) chosen 0) (λ d allowed choice. choice_end h.search.frame.now.groups.heads chosen d choice ∙ sym listed) c.offer.ensures
