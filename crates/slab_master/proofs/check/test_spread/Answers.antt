use Rattle.std.proofs.Common.{rules, ◌≡◌, ℕ, ◌<◌, sym, subst, ◌∙◌, refl, get_or, length, to_z, of_z}
use Rattle.std.specs.Prelude.{ℤ, FitsSigned, unsigned_abs}
use Rattle.std.specs.Int.{w64}
use Rattle.std.proofs.lemmas.Int.{to_z-of_z}
use Rattle.std.proofs.lemmas.List.{length-map}
use Rattle.slab_master.specs.Given.{Row, columns_of}
use Rattle.slab_master.specs.Sums.{row_sum}
use Rattle.slab_master.proofs.Ratios.{spread_at_every, stands_over}
use Rattle.slab_master.specs.Spread.{Meets}
use Rattle.slab_master.proofs.check.test_spread.Goals as goal

pub returns-then-rows_hold-clause-holds : goal.returns-then-rows_hold-clause-holds
returns-then-rows_hold-clause-holds c d same =
    let form = c.in-Some.ensures.value in
    let fits : FitsSigned w64 c.in-Some.denominator = search rules in
    let rows = c.args.problem.now.rows.now in
    let columns = c.args.problem.now.columns.now in
    record {
      count = simp length-map c.requires.spread;
      denominator = unsigned_abs c.in-Some.denominator;
      multipliers = c.scale_all.new.out;
      positive = form.least.positive;
      scaled = form.scaled;
      every = spread_at_every rows (columns_of columns) c.args.spread.now _ _ form.least.positive form.scaled
          record {
            not_negative = c.if-none_negative.ensures refl;
            met = subst (λ (z : ℤ). (i : ℕ) (row : Row) → i < length rows → Meets (unsigned_abs z) (get_or rows i row) (row_sum c.scale_all.new.out (columns_of columns) i))
                (to_z-of_z w64 c.in-Some.denominator fits) (c.if-rows_hold.ensures refl);
          };
    }

pub returns-then-rows_hold-clause-scaled : goal.returns-then-rows_hold-clause-scaled
returns-then-rows_hold-clause-scaled c d same =
    let fits : FitsSigned w64 c.in-Some.denominator = search rules in
    let is : to_z w64 (of_z w64 c.in-Some.denominator) ≡ d = cc in
    stands_over c.args.spread.now c.in-Some.denominator d c.scale_all.new.out c.in-Some.ensures.value (sym (to_z-of_z w64 c.in-Some.denominator fits) ∙ is)
