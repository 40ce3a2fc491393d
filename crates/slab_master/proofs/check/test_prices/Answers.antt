use Rattle.std.proofs.Common.{arith, subst, sym, refl, ◌∙◌, Vec, Global}
use Rattle.std.specs.Prelude.{ℤ, pos, ◌≤ℤ◌, ◌<ℤ◌, unsigned_abs}
use Rattle.std.proofs.lemmas.Int.{ints}
use Rattle.std.proofs.lemmas.List.Elements.{All-map}
use Rattle.slab_master.specs.Given.{Entry, Column, columns_of}
use Rattle.slab_master.specs.Sums.{product_of}
use Rattle.slab_master.proofs.Columns.{entries_within}
use Rattle.slab_master.proofs.Ratios.{prices_at_every}
use Rattle.slab_master.proofs.check.test_prices.Goals as goal

pub products_hold-requires : goal.products_hold-requires
products_hold-requires c =
    entries_within _ _ c.args.problem.now.columns.now (sym (c.scale_all.auto.out ∙ c.requires.scaled)) c.args.problem.now.within

pub returns-in-Some-right_total-clause-holds : goal.returns-in-Some-right_total-clause-holds
returns-in-Some-right_total-clause-holds c d same =
    let signs = c.if-not-signs_hold.ensures in
    let products = c.if-not-products_hold.ensures in
    let right = c.in-Some-right_total.ensures in
    let form = c.in-Some.ensures.value in
    let above : pos 0 <ℤ c.in-Some-right_total.total = omega (arith, ints, c.if-total-gt0.true) in
    record {
      count = c.requires.prices;
      denominator = unsigned_abs c.in-Some.denominator;
      numbers = c.scale_all.new.out;
      positive = form.least.positive;
      scaled = form.scaled;
      every = prices_at_every c.args.problem.now.rows.now (columns_of c.args.problem.now.columns.now) c.args.prices.now _ _ form.least.positive form.scaled
          record {
            signs = signs refl;
            products = All-map (λ (col : Column). product_of c.scale_all.new.out col ≤ℤ pos 0) (λ (v : Vec Entry Global). v.items) c.args.problem.now.columns.now (products refl);
            above = subst (λ (z : ℤ). pos 0 <ℤ z) right above;
          };
    }
