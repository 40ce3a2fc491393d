use Rattle.std.proofs.Common.{◌≡◌, ◌^◌, ◌≤◌, ℤ, List, ap, ap₂, subst, sym, ◌∙◌, arith, to_z, of_z, unsigned_abs}
use Rattle.std.specs.Int.{w64}
use Rattle.std.proofs.lemmas.Int.{ints}
use Rattle.mill_model.specs.Shares.{Shown, IsShown}
use Rattle.slab_frac.specs.Fraction.{Fraction}
use Rattle.slab_frac.specs.Scaled.{IsCommonForm}
use Rattle.slab_relax.specs.PoolCovers.{multipliers}
use Rattle.slab_tree.specs.Showing.{shares_of}
use Rattle.slab_tree.proofs.ShownCovers.{shows}
use Rattle.slab_tree.proofs.showing.mark_over.Goals as goal

back : (z : ℤ) → unsigned_abs z ≤ 2 ^ 62 → to_z w64 (of_z w64 z) ≡ z
back z h = omega (arith, ints)

pub returns-in_ok-shares-in-Some-clause-shows : goal.returns-in_ok-shares-in-Some-clause-shows
returns-in_ok-shares-in-Some-clause-shows c = λ m limits decisions h.
    let form : IsCommonForm (multipliers c.args.parts.now) c.in-Some.denominator c.scale_all.new.out = subst (λ (xs : List Fraction). IsCommonForm xs c.in-Some.denominator c.scale_all.new.out) c.requires.same c.in-Some.ensures.value in
    let d : to_z w64 (of_z w64 c.in-Some.denominator) ≡ c.in-Some.denominator = back c.in-Some.denominator form.in_range.0 in
    let same : c.new.result ≡ record { d = c.in-Some.denominator; shares = shares_of c.args.pool.now.columns c.args.parts.now c.scale_all.new.out } =
    c.new.ensures ∙ (λ i. record { d = d i; shares = c.in_ok-shares-in-Some.ensures i }) in
    subst (λ (s : Shown). IsShown m limits decisions s) (sym same) (shows m limits decisions c.args.pool.now.columns c.args.parts.now c.in-Some.denominator c.scale_all.new.out h form)
