use Rattle.std.proofs.Common.{arith, ◌≡◌, sym, ap, ◌∙◌, length, drop}
use Rattle.std.specs.Prelude.{unsigned_abs}
use Rattle.slab_relax.specs.Rows.{row_count}
use Rattle.slab_relax.specs.Duals.{prices_of}
use Rattle.slab_relax.proofs.Steps.{length_scaled, front_is}
use Rattle.slab_relax.proofs.restricted.Restricted.prices.Goals as goal

pub returns-clause-some : goal.returns-clause-some
returns-clause-some c =
    let form = c.in-Some.ensures.value in
    let same_length = length_scaled (unsigned_abs c.in-Some._denominator) c.args.list.now c.scale_all.new.out form.scaled in
    let size : length c.scale_all.new.out ≡ row_count c.args.mill.now = sym same_length ∙ c.requires.prices.count ∙ c.requires.rows in
    let room : length c.scale_all.new.out ≡ c.in_ok-numbers.numbers.len = omega (arith, c.in_ok-numbers.ensures.len, same_length) in
    let same = front_is c.in_ok-numbers.numbers.len c.scale_all.new.out (drop (length c.scale_all.new.out) c.in_ok-numbers.numbers.items) room in
    record {
      numbers = c.scale_all.new.out;
      size = size;
      range = form.in_range.1;
      refuting = c.requires.prices.every (unsigned_abs c.in-Some._denominator) c.scale_all.new.out form.least.positive form.scaled;
      prices_are = c.in_ok-prices_of.ensures ∙ ap (prices_of c.args.mill.now c.args.limits) (c.deref.ensures.value ∙ same);
    }
