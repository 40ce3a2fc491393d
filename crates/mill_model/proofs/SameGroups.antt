-- Groups that are the same.
use Rattle.std.proofs.Common.{◌≡◌, true, refl, ap, subst}
use Rattle.std.proofs.lemmas.Bool.{eqb-true, eq-eqb}
use Rattle.mill_model.specs.Assignments.{Group, same_group}
use Rattle.mill_model.specs.Assignments.Group.{On, Loose}

pub same_group-true : (x y : Group) → same_group x y ≡ true → x ≡ y
same_group-true (On s) (On t) e = ap On (eqb-true s t e)
same_group-true (On s) (Loose b) e = cc
same_group-true (Loose a) (On t) e = cc
same_group-true (Loose a) (Loose b) e = ap Loose (eqb-true a b e)

pub same_group_refl : (x : Group) → same_group x x ≡ true
same_group_refl (On s) = eq-eqb s s refl
same_group_refl (Loose a) = eq-eqb a a refl

pub same_group_from : (x y : Group) → x ≡ y → same_group x y ≡ true
same_group_from x y e = subst (λ z. same_group x z ≡ true) e (same_group_refl x)
