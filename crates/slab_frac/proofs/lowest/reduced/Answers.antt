use Rattle.std.proofs.Common.{rules, ◌≡◌, ℕ, ◌^◌, ◌<◌, ◌≤◌, ap, sym, subst, ◌∙◌, to_z, of_z, inl, inr, Some}
use Rattle.std.specs.Prelude.{ℤ, pos, unsigned_abs, FitsSigned}
use Rattle.std.specs.Int.{w64, w128}
use Rattle.std.proofs.lemmas.Int.{to_z-of_z}
use Rattle.slab_frac.specs.Fraction.{Fraction, IsReduced, IsInRange, IsExactly, signed_like}
use Rattle.slab_frac.specs.Lowest.{AreLowest}
use Rattle.slab_frac.proofs.Reducing.{out_of_range, reduced_kept}
use Rattle.slab_frac.proofs.lowest.reduced.Goals as goal

pub returns-then-top-gt-LIMIT-clause-exact : goal.returns-then-top-gt-LIMIT-clause-exact
returns-then-top-gt-LIMIT-clause-exact c =
    let num : ℤ = c.args.num in
    let fits : FitsSigned w128 num = c.ranges.num in
    let size : c.unsigned_abs.result ≡ unsigned_abs num = c.unsigned_abs.ensures.value ∙ ap unsigned_abs (to_z-of_z w128 num fits) in
    record {
      value = tt;
      none = out_of_range num c.args.den c.lowest-top.result.0 c.lowest-top.result.1 c.requires
          (subst (λ (n : ℕ). AreLowest n c.args.den c.lowest-top.result.0 c.lowest-top.result.1) size c.lowest-top.ensures)
          (elim c.then-top-gt-LIMIT.either [ inl above ↦ inl above | inr above ↦ inr above.1 ]);
    }

-- the parts that the code makes, with its casts
made : (num : ℤ) (n den a b : ℕ) (s r : ℤ) → FitsSigned w128 num → 0 < den → n ≡ unsigned_abs (to_z w128 (of_z w128 num)) → AreLowest n den a b → s ≡ signed_like (to_z w128 (of_z w128 num)) (pos a) → r ≡ s → a ≤ 2 ^ 62 → b ≤ 2 ^ 62 → IsReduced (record { num = num; den = den }) (record { num = r; den = b }) × IsInRange (record { num = r; den = b })
made num n den a b s r fits above e l f g top bottom =
    let same : to_z w128 (of_z w128 num) ≡ num = to_z-of_z w128 num fits in
    reduced_kept num r den a b above
    (subst (λ (k : ℕ). AreLowest k den a b) (e ∙ ap unsigned_abs same) l)
    (g ∙ f ∙ ap (λ (z : ℤ). signed_like z (pos a)) same)
    top bottom

pub in_lowest_terms-requires : goal.in_lowest_terms-requires
in_lowest_terms-requires c =
    let fits : FitsSigned w64 c.signed.result = search rules in
    let done : IsReduced (record { num = c.args.num; den = c.args.den }) (record { num = to_z w64 (of_z w64 c.signed.result); den = c.lowest-top.result.1 }) × IsInRange (record { num = to_z w64 (of_z w64 c.signed.result); den = c.lowest-top.result.1 }) =
    made c.args.num _ _ _ _ _ _ c.ranges.num c.requires c.unsigned_abs.ensures.value c.lowest-top.ensures c.signed.ensures (to_z-of_z w64 c.signed.result fits) c.if-top-gt-LIMIT.false c.if-bottom-gt-LIMIT.false in
    record { lowest = done.0.lowest; in_range = done.1 }

pub returns-clause-exact : goal.returns-clause-exact
returns-clause-exact c =
    let fits : FitsSigned w64 c.signed.result = search rules in
    subst (λ (r : Fraction). IsExactly (record { num = c.args.num; den = c.args.den }) (Some r)) (sym c.in_lowest_terms.ensures)
    record {
      value = made c.args.num _ _ _ _ _ _ c.ranges.num c.requires c.unsigned_abs.ensures.value c.lowest-top.ensures c.signed.ensures (to_z-of_z w64 c.signed.result fits) c.if-top-gt-LIMIT.false c.if-bottom-gt-LIMIT.false;
      none = tt;
    }
