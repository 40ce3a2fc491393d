use Rattle.std.proofs.Common.{◌≡◌, ℕ, ◌+◌, ◌<◌, ℤ, List, length, get_or, subst, ap, ◌∙◌, arith}
use Rattle.mill_model.specs.declared.order.Order.{Order}
use Rattle.std.proofs.lemmas.Int.{ints}
use Rattle.pricing_laws.specs.Groups.{head_of}
use Rattle.pricing_laws.specs.Groupings.{AreGroups}
use Rattle.pricing_laws.specs.Worths.{IsRanking}
use Rattle.pricing_laws.specs.Chains.{AreChains}
use Rattle.pricing_laws.specs.Frames.{colour_key}
use Rattle.slab_price.specs.Frames.{chains_of}
use Rattle.pricing_laws.proofs.Chains.{chains_told}
use Rattle.slab_price.proofs.task.Task.frame.Goals as goal

-- a list as a function
abbrev get_or_zero : List ℕ → ℕ → ℕ
get_or_zero xs k = get_or xs k 0

pub returns : goal.returns
returns c =
    let t = c.args.self.now in
    let g = c.form.new.self in
    let n : ℕ = length t.mill.now.orders in
    let formed : AreGroups t.mill.now t.decisions.now.list t.prices.now g = c.form.ensures in
    let m = t.mill.now in
    let keys : List ℕ = c.in_ok-keys.keys.items in
    let listed : (i : ℕ) → i < n → get_or keys i 0 ≡ colour_key m g.heads i =
    λ i h. c.in_ok-keys.ensures.keys i (omega (arith, h, formed.room.heads, ap (λ (hs : List ℕ). length hs) c.heads.ensures)) ∙ ap (λ (hs : List ℕ). colour_key m hs i) c.heads.ensures in
    let many : length keys ≡ n = c.in_ok-keys.ensures.size ∙ ap (λ (hs : List ℕ). length hs) c.heads.ensures ∙ formed.room.heads in
    let by_keys : AreChains (get_or_zero keys) n (m.colours + 1) (chains_of c.in_ok-by_colour.by_colour) =
    subst (λ (k : ℕ). AreChains (get_or_zero keys) k (m.colours + 1) (chains_of c.in_ok-by_colour.by_colour)) many
    (subst (λ (k : ℕ). AreChains (get_or_zero keys) (length keys) (k + 1) (chains_of c.in_ok-by_colour.by_colour)) c.colours.ensures.value
    (subst (λ (xs : List ℕ). AreChains (get_or_zero xs) (length xs) (c.colours.result + 1) (chains_of c.in_ok-by_colour.by_colour)) c.deref.ensures.value c.in_ok-by_colour.ensures)) in
    let by_heads : AreChains (head_of g.heads) (length g.heads) n (chains_of c.in_ok-by_head.by_head) =
    subst (λ (k : ℕ). AreChains (head_of g.heads) (length g.heads) k (chains_of c.in_ok-by_head.by_head)) (ap (λ (os : List Order). length os) c.orders-count.ensures.value)
    (subst (λ (hs : List ℕ). AreChains (head_of hs) (length hs) (length c.orders-count.result.now) (chains_of c.in_ok-by_head.by_head)) c.heads-2.ensures c.in_ok-by_head.ensures) in
    rw c.groups.view_is (record {
      groups = formed;
      by_colour = chains_told (get_or_zero keys) (colour_key m g.heads) n listed (m.colours + 1) (chains_of c.in_ok-by_colour.by_colour) by_keys;
      by_head = subst (λ (k : ℕ). AreChains (head_of g.heads) k n (chains_of c.in_ok-by_head.by_head)) formed.room.heads by_heads;
      ends = c.in_ok-ends.ensures;
      worths = c.in_ok-worths.ensures;
      ranking = subst (λ (ws : List ℤ). IsRanking m ws c.in_ok-ranking.ranking.items) c.deref-2.ensures.value c.in_ok-ranking.ensures;
      floor = λ kind stock. omega (arith, ints, c.least_charge.ensures.small, c.least_charge.ensures.least kind stock);
      small = omega (arith, ints, c.least_charge.ensures.small);
    })
