use Rattle.std.proofs.Common.{◌≡◌, ℕ, List, length, subst, ap, ◌∙◌}
use Rattle.std.specs.Vec.{with_items}
use Rattle.std.proofs.lemmas.List.{with_items_is}
use Rattle.pricing_laws.specs.Groupings.{Groups, AreWeights, AreGains}
use Rattle.pricing_laws.proofs.Groupings.{groups_at}
use Rattle.slab_price.proofs.groups.Groups.form.Goals as goal

pub returns : goal.returns
returns c =
    let heads : (with_items c.self.inside.heads c.find_heads.new.heads).items ≡ c.find_heads.new.heads = with_items_is c.self.inside.heads c.find_heads.new.heads (c.find_heads.auto.heads ∙ c.deref_mut.ensures.len) in
    let weights : (with_items c.self.inside.weights c.weigh_groups.new.weights).items ≡ c.weigh_groups.new.weights = with_items_is c.self.inside.weights c.weigh_groups.new.weights (c.weigh_groups.auto.weights ∙ c.deref_mut-2.ensures.len) in
    let gains : (with_items c.self.inside.gains c.price_groups.new.gains).items ≡ c.price_groups.new.gains = with_items_is c.self.inside.gains c.price_groups.new.gains (c.price_groups.auto.gains ∙ c.deref_mut-3.ensures.len) in
    groups_at c.args.mill.now c.args.decisions.now.list c.args.prices.now _ c.find_heads.new.heads c.weigh_groups.new.weights c.price_groups.new.gains heads weights gains
    (c.find_heads.auto.heads ∙ ap length c.deref_mut.ensures.value ∙ ap (λ (g : Groups). length g.heads) c.self.view_is ∙ c.requires.room.heads)
    c.find_heads.ensures
    (subst (λ (hs : List ℕ). AreWeights c.args.mill.now hs c.weigh_groups.new.weights) (c.deref.ensures.value ∙ heads) c.weigh_groups.ensures)
    (subst (λ (hs : List ℕ). AreGains c.args.mill.now c.args.prices.now hs c.price_groups.new.gains) (c.deref-2.ensures.value ∙ heads) c.price_groups.ensures)
