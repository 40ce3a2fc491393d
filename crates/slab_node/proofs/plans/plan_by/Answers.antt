use Rattle.std.proofs.Common.{rules, arith, ◌≡◌, ◌<◌, ℕ, [], ◌∷◌, ◌++◌, length, get_or, ap, ◌∙◌, length-append}
use Rattle.std.proofs.lemmas.Grind.{get_or_default_zero}
use Rattle.mill_model.specs.declared.kind.Kind.TheVariants.{New}
use Rattle.pricing_laws.specs.Groups.{head_of}
use Rattle.slab_node.proofs.Building.{built_old, built_new}
use Rattle.slab_node.proofs.plans.plan_by.Goals as goal
use Rattle.slab_node.proofs.plans.plan_by.Goals.{then-head-o+in_ok-push+in_ok-push-2, else-head-o+in_ok-push-3}

pub loop-o-preserved : goal.loop-o-preserved
loop-o-preserved c =
    elim c.if-head-o.branch [
      | then-head-o+in_ok-push+in_ok-push-2 w ↦
          let first : head_of c.args.heads.now c.loop-o.o ≡ c.loop-o.o = w.if-head-o.true in
          let used : c.if-head-o.used.items ≡ c.loop-o.used.items ++ get_or c.args.kinds.now c.loop-o.o (New 0) ∷ [] = search rules in
          let place : c.if-head-o.place.items ≡ c.loop-o.place.items ++ length c.loop-o.used.items ∷ [] = search rules in
          record {
            built = rw (used, place) (built_new c.args.heads.now c.args.kinds.now c.loop-o.o c.loop-o.used.items c.loop-o.place.items c.requires.heads c.loop-o-test.true first c.loop-o.invariant.built);
            few = rw (used, length-append) (omega (arith, c.loop-o.invariant.few));
          }
      | else-head-o+in_ok-push-3 w ↦
          let used : c.if-head-o.used.items ≡ c.loop-o.used.items = search rules in
          let earlier : head_of c.args.heads.now c.loop-o.o < c.loop-o.o = omega (arith, c.requires.heads.before c.loop-o.o c.loop-o-test.true, w.if-head-o.false) in
          let inside : head_of c.args.heads.now c.loop-o.o < length c.loop-o.place.items = omega (arith, c.loop-o.invariant.built.size) in
          let pushed : c.if-head-o.place.items ≡ c.loop-o.place.items ++ w.index-there.result.now ∷ [] = search rules in
          let read : w.index-there.result.now ≡ get_or c.loop-o.place.items (head_of c.args.heads.now c.loop-o.o) 0 = w.index-there.ensures ∙ get_or_default_zero c.loop-o.place.items (head_of c.args.heads.now c.loop-o.o) w.index-there.result.now inside in
          let place : c.if-head-o.place.items ≡ c.loop-o.place.items ++ get_or c.loop-o.place.items (head_of c.args.heads.now c.loop-o.o) 0 ∷ [] = pushed ∙ ap (λ (x : ℕ). c.loop-o.place.items ++ x ∷ []) read in
          record {
            built = rw (used, place) (built_old c.args.heads.now c.args.kinds.now c.loop-o.o c.loop-o.used.items c.loop-o.place.items c.requires.heads c.loop-o-test.true earlier c.loop-o.invariant.built);
            few = rw used (omega (arith, c.loop-o.invariant.few));
          }
    ]
