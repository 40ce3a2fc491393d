use Rattle.std.proofs.Common.{refl, ◌∙◌, rules}
use Rattle.slab_start.proofs.MadeLimits.{made_in_limits}
use Rattle.slab_start.proofs.made.make_mill.Goals as goal

pub new-requires : goal.new-requires
new-requires c =
    let sizes = c.in_ok-sizes.ensures.items_if_clones_equal (λ y h. search rules) in
    rw (sizes, c.in_ok-list.ensures) (made_in_limits c.args.orders c.args.seed c.requires)

pub returns : goal.returns
returns c =
    let sizes = c.in_ok-sizes.ensures.items_if_clones_equal (λ y h. search rules) in
    c.new.ensures ∙ rw (sizes, c.in_ok-list.ensures) refl
