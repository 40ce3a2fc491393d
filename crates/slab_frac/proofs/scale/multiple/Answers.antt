use Rattle.std.proofs.Common.{rules, ap, ◌∙◌, ◌/◌, to_z, of_z}
use Rattle.std.specs.Prelude.{ℤ, pos, ◌*ℤ◌, FitsSigned}
use Rattle.std.specs.Int.{w64, w128}
use Rattle.std.proofs.lemmas.Int.{to_z-of_z}
use Rattle.slab_frac.proofs.Scaling.{multiple_by}
use Rattle.slab_frac.proofs.scale.multiple.Goals as goal

pub returns : goal.returns
returns c =
    let fits : FitsSigned w64 c.num.result = search rules in
    let product_fits : FitsSigned w128 c.cross.result = search rules in
    multiple_by c.args.shared c.args.x.now _ c.denominator.ensures.kept.lowest.positive c.requires.divides
    (to_z-of_z w128 c.cross.result product_fits
    ∙ c.cross.ensures.value
    ∙ ap (λ n. to_z w64 (of_z w64 c.num.result) *ℤ pos n) c.word_quotient.ensures
    ∙ ap (λ (z : ℤ). z *ℤ pos (c.args.shared / c.denominator.result)) (to_z-of_z w64 c.num.result fits ∙ c.num.ensures.value)
    ∙ ap (λ n. c.args.x.now.num *ℤ pos (c.args.shared / n)) c.denominator.ensures.value)
