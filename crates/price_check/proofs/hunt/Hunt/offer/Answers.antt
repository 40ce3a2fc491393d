use Rattle.std.proofs.Common.{◌≡◌, ℕ, ◌<◌, ℤ, List, length, sym, subst, ◌∙◌, ap, arith, to_z, of_z}
use Rattle.std.specs.Int.{w128}
use Rattle.std.specs.Vec.{vec_len}
use Rattle.std.proofs.lemmas.Int.{ints}
use Rattle.std.proofs.lemmas.Bool.{eqb-false, eqb-true}
use Rattle.pricing_laws.specs.Groups.{members}
use Rattle.pricing_laws.proofs.Choices.{choice_end}
use Rattle.pricing_laws.proofs.Problems.{exceed_none}
use Rattle.pricing_laws.specs.Packs.{IsPack}
use Rattle.price_check.specs.Finds.{IsAnswer}
use Rattle.pricing_laws.specs.Hunts.{IsChoiceIn}
use Rattle.price_check.specs.Leaves.{problem_of}
use Rattle.price_check.proofs.Answering.{answer_less, answer_none}
use Rattle.pricing_laws.proofs.Hunting.{taken_pack, taken_small}
use Rattle.price_check.specs.Hunts.{hunt_of}
use Rattle.price_check.proofs.hunt.Hunt.offer.Goals as goal

pub offer-requires : goal.offer-requires
offer-requires c =
    let h = c.args.self.now in
    let chosen = c.args.picks.now.chosen.items in
    let orders : List ℕ = members h.search.frame.now.groups.heads chosen in
    let listed : c.list_members.new.orders.items ≡ orders = c.list_members.ensures.members ∙ ap (λ (hs : List ℕ). members hs c.deref.result.now) c.heads-heads.ensures ∙ ap (members h.search.frame.now.groups.heads) c.deref.ensures.value in
    let back : to_z w128 (of_z w128 c.args.gain) ≡ c.args.gain = omega (arith, ints, taken_small (hunt_of h) 0 chosen c.args.weight c.args.gain c.requires) in
    let filled : length c.list_members.new.orders.items ≡ 0 → ⊥ = λ e. eqb-false (vec_len c.list_members.new.orders) 0 (sym c.is_empty.ensures ∙ c.if-is_empty.false) (omega (arith, e, c.list_members.new.orders.ok.0)) in
    let some : 0 < length orders = omega (arith, filled, ap (λ (os : List ℕ). length os) listed) in
    subst (λ (os : List ℕ). IsPack (problem_of h.search.leaf) os c.args.weight (to_z w128 (of_z w128 c.args.gain))) (sym (c.deref-2.ensures.value ∙ listed))
    (subst (λ (z : ℤ). IsPack (problem_of h.search.leaf) orders c.args.weight z) (sym back) (taken_pack (hunt_of h) chosen c.args.weight c.args.gain c.requires some))

pub returns-then-is_empty-clause-answer : goal.returns-then-is_empty-clause-answer
returns-then-is_empty-clause-answer c =
    let h = c.args.self.now in
    let chosen = c.args.picks.now.chosen.items in
    let q = problem_of h.search.leaf in
    let orders : List ℕ = members h.search.frame.now.groups.heads chosen in
    let listed : c.list_members.new.orders.items ≡ orders = c.list_members.ensures.members ∙ ap (λ (hs : List ℕ). members hs c.deref.result.now) c.heads-heads.ensures ∙ ap (members h.search.frame.now.groups.heads) c.deref.ensures.value in
    let empty : vec_len c.list_members.new.orders ≡ 0 = eqb-true (vec_len c.list_members.new.orders) 0 (sym c.is_empty.ensures ∙ c.if-is_empty.true) in
    let none : length orders ≡ 0 = omega (arith, empty, c.list_members.new.orders.ok.0, ap (λ (os : List ℕ). length os) listed) in
    answer_none q c.list_members.new.orders.items (IsChoiceIn (hunt_of h) chosen 0)
    (exceed_none q _ (IsChoiceIn (hunt_of h) chosen 0) (λ d allowed choice. omega (arith, none, ap (λ (os : List ℕ). length os) (choice_end h.search.frame.now.groups.heads chosen d choice), allowed.legal.fits.some)))

pub returns-clause-answer : goal.returns-clause-answer
returns-clause-answer c =
    let h = c.args.self.now in
    let q = problem_of h.search.leaf in
    let chosen = c.args.picks.now.chosen.items in
    let listed : c.deref-2.result.now ≡ members h.search.frame.now.groups.heads chosen =
    c.deref-2.ensures.value ∙ c.list_members.ensures.members ∙ ap (λ (hs : List ℕ). members hs c.deref.result.now) c.heads-heads.ensures ∙ ap (members h.search.frame.now.groups.heads) c.deref.ensures.value in
    subst (λ (os : List ℕ). IsAnswer q os c.offer.result (IsChoiceIn (hunt_of h) chosen 0)) c.deref-2.ensures.value
    (answer_less q c.deref-2.result.now c.offer.result (λ d. d.orders ≡ c.deref-2.result.now) (IsChoiceIn (hunt_of h) chosen 0) (λ d allowed choice. choice_end h.search.frame.now.groups.heads chosen d choice ∙ sym listed) c.offer.ensures)
