use Rattle.std.proofs.Common.{rules, ◌≡◌, ℕ, sym, subst, ◌∙◌, refl, get_or, to_z, of_z}
use Rattle.std.specs.Prelude.{ℤ, pos, FitsSigned, unsigned_abs, ◌*ℤ◌, ◌≤ℤ◌}
use Rattle.std.specs.Int.{w64}
use Rattle.std.proofs.lemmas.Int.{to_z-of_z}
use Rattle.slab_master.specs.Given.{Column, columns_of}
use Rattle.slab_master.specs.Sums.{number_at, product_of}
use Rattle.slab_master.proofs.Columns.{entries_within, at_columns}
use Rattle.slab_master.proofs.Ratios.{duals_at_every, stands_over}
use Rattle.slab_master.proofs.check_least.test_duals.Goals as goal

pub costs_hold-requires-clause-within : goal.costs_hold-requires-clause-within
costs_hold-requires-clause-within c =
    entries_within _ _ c.args.problem.now.columns.now (sym (c.scale_all.auto.out ∙ c.requires.scaled)) c.args.problem.now.within

pub returns-then-costs_hold-clause-holds : goal.returns-then-costs_hold-clause-holds
returns-then-costs_hold-clause-holds c e same =
    let form = c.in-Some.ensures.value in
    let fits : FitsSigned w64 c.in-Some.denominator = search rules in
    let is : to_z w64 (of_z w64 c.in-Some.denominator) ≡ pos (unsigned_abs c.in-Some.denominator) =
    to_z-of_z w64 c.in-Some.denominator fits ∙ sym form.positive in
    let numbers = c.scale_all.new.out in
    let costs = c.args.problem.now.costs.now in
    record {
      count = c.requires.prices;
      denominator = unsigned_abs c.in-Some.denominator;
      numbers = numbers;
      positive = form.least.positive;
      scaled = form.scaled;
      every = duals_at_every c.args.problem.now.rows.now (columns_of c.args.problem.now.columns.now) costs c.args.prices.now _ _ form.least.positive form.scaled
          record {
            signs = c.if-signs_hold.ensures refl;
            products = at_columns (λ (j : ℕ) (column : Column). product_of numbers column ≤ℤ (number_at costs j *ℤ pos (unsigned_abs c.in-Some.denominator))) c.args.problem.now.columns.now
                (λ j v below. subst (λ (z : ℤ). product_of numbers (get_or c.args.problem.now.columns.now j v).items ≤ℤ (number_at costs j *ℤ z)) is (c.if-costs_hold.ensures refl j v below));
          };
    }

pub returns-then-costs_hold-clause-scaled : goal.returns-then-costs_hold-clause-scaled
returns-then-costs_hold-clause-scaled c e same =
    let fits : FitsSigned w64 c.in-Some.denominator = search rules in
    let is : to_z w64 (of_z w64 c.in-Some.denominator) ≡ e = cc in
    stands_over c.args.prices.now c.in-Some.denominator e c.scale_all.new.out c.in-Some.ensures.value (sym (to_z-of_z w64 c.in-Some.denominator fits) ∙ is)
