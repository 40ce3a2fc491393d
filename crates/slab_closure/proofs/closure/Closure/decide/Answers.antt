use Rattle.std.proofs.Common.{◌≡◌, ◌<◌, length, get_or, arith, sym, ◌∙◌}
use Rattle.slab_closure.proofs.GroupSizes.{joined_sizes, parted_sizes, few_in_group, read_size, written}
use Rattle.slab_closure.proofs.closure.Closure.decide.Goals as goal

pub overflow_add-size : goal.overflow_add-size
overflow_add-size c =
    let p : c.args.a < c.self.inside.square.count = rw (← c.self.view_is) at c.requires.a in
    let q : c.args.b < c.self.inside.square.count = rw (← c.self.view_is) at c.requires.b in
    let first = read_size c.self.inside.sizes.items c.args.a c.index.result.now (omega (arith, c.self.invariant.1, p)) c.index.ensures in
    let second = read_size c.self.inside.sizes.items c.args.b c.index-then-yes.result.now (omega (arith, c.self.invariant.1, q)) c.index-then-yes.ensures in
    omega (arith, first, second, few_in_group c.self.inside.square c.self.inside.sizes.items c.args.a c.self.invariant.2 c.self.invariant.0 p, few_in_group c.self.inside.square c.self.inside.sizes.items c.args.b c.self.invariant.2 c.self.invariant.0 q)

pub invariant_of-self : goal.invariant_of-self
invariant_of-self c =
    let p : c.args.a < c.self.inside.square.count = rw (← c.self.view_is) at c.requires.a in
    let q : c.args.b < c.self.inside.square.count = rw (← c.self.view_is) at c.requires.b in
    let first : c.index.result.now ≡ get_or c.self.inside.sizes.items c.args.a 0 = read_size c.self.inside.sizes.items c.args.a c.index.result.now (omega (arith, c.self.invariant.1, p)) c.index.ensures in
    let second : c.index-then-yes.result.now ≡ get_or c.self.inside.sizes.items c.args.b 0 = read_size c.self.inside.sizes.items c.args.b c.index-then-yes.result.now (omega (arith, c.self.invariant.1, q)) c.index-then-yes.ensures in
    let long : length c.write_size.new.sizes ≡ c.self.inside.sizes.len = c.write_size.auto.sizes ∙ c.deref_mut.ensures.len in (
      c.join.ensures.relations,
      c.self.invariant.1 ∙ sym c.join.ensures.decided.count,
      rw (written c.self.inside.sizes.len c.write_size.new.sizes c.self.inside.sizes.items long)
          (joined_sizes c.self.inside.square c.join.new.square c.args.a c.args.b _ c.self.inside.sizes.items c.write_size.new.sizes c.self.invariant.0 c.join.ensures.decided p q (rw (← c.self.view_is) at c.requires.open) c.self.invariant.2
          (omega (arith, first, second)) (rw c.deref_mut.ensures.value at c.write_size.ensures)),
    )

pub invariant_of-self-else-yes : goal.invariant_of-self-else-yes
invariant_of-self-else-yes c = (
  c.part.ensures.relations,
  c.self.invariant.1 ∙ sym c.part.ensures.decided.count,
  parted_sizes c.self.inside.square c.part.new.square c.args.a c.args.b c.self.inside.sizes.items c.self.invariant.0 c.part.ensures.decided (rw (← c.self.view_is) at c.requires.a) (rw (← c.self.view_is) at c.requires.b) (rw (← c.self.view_is) at c.requires.open) c.self.invariant.2,
)
