use Rattle.std.proofs.Common.{rules, ◌≡◌, ◌<◌, ◌++◌, ◌∷◌, [], ℤ, true, false, length, get_or, to_z, of_z, ap, ap₂, ◌∙◌, subst, arith}
use Rattle.std.specs.Prelude.{FitsSigned}
use Rattle.std.specs.Int.{w64, is_positive}
use Rattle.std.proofs.lemmas.Int.{to_z-of_z}
use Rattle.slab_frac.specs.Fraction.{Fraction}
use Rattle.slab_columns.specs.declared.column.ColId.{ColId}
use Rattle.slab_relax.proofs.Using.{used_more, used_same}
use Rattle.slab_relax.proofs.restricted.Restricted.used.Goals as goal
use Rattle.slab_relax.proofs.restricted.Restricted.used.Goals.{then-num-gt0+in_ok-push, else-num-gt0}

pub loop-i-preserved : goal.loop-i-preserved
loop-i-preserved c =
    let fits : FitsSigned w64 c.num.result = search rules in
    let num : to_z w64 (of_z w64 c.num.result) ≡ (get_or c.args.multipliers.now c.loop-i.i c.index-multipliers-i.result).num = to_z-of_z w64 c.num.result fits ∙ c.num.ensures.value ∙ ap (λ (f : Fraction). f.num) c.index-multipliers-i.is in
    let inside : c.loop-i.i < length c.args.multipliers.now = omega arith in
    let within : c.loop-i.i < length c.args.self.now.ids.items = omega (arith, c.requires) in
    elim c.if-num-gt0.branch [
      | then-num-gt0+in_ok-push w ↦
          let above = subst (λ (z : ℤ). is_positive z ≡ true) num w.if-num-gt0.true in
          ap (λ (l : _). l.items) w.list-is ∙ w.in_ok-push.ensures.items
          ∙ ap₂ (λ (id : ColId) (x : Fraction). c.loop-i.list.items ++ (id, x) ∷ []) w.index.ensures c.index-multipliers-i.is
          ∙ used_more c.args.self.now.ids.items c.args.multipliers.now c.loop-i.i w.index.result.now c.index-multipliers-i.result c.loop-i.list.items within inside above c.loop-i.invariant
      | else-num-gt0 w ↦
          let none = subst (λ (z : ℤ). is_positive z ≡ false) num w.if-num-gt0.false in
          rw w.list-is (used_same c.args.self.now.ids.items c.args.multipliers.now c.loop-i.i (record { 0 = 0 }) c.index-multipliers-i.result c.loop-i.list.items within inside none c.loop-i.invariant)
    ]
