use Rattle.std.proofs.Common.{ℕ, Bool, not, List, [], ◌∷◌, ◌++◌, sym, ap, ◌∙◌, append_assoc}
use Rattle.std.specs.List.{list_any}
use Rattle.mill_model.specs.declared.kind.Kind.{Kind}
use Rattle.mill_model.specs.declared.kind.Kind.TheVariants.{Old}
use Rattle.mill_model.specs.Columns.{is_old}
use Rattle.slab_filling.specs.Slabs.{empty, takes}
use Rattle.slab_filling.specs.Placing.{kinds_of}
use Rattle.slab_lns.specs.declared.ways.Way.{Way}
use Rattle.slab_lns.specs.declared.ways.Way.TheVariants.{Open}
use Rattle.slab_lns.proofs.EachWay.{to_surplus, surplus_taken, surplus_open, surplus_refused}
use Rattle.slab_lns.proofs.ways.add_surplus.Goals as goal
use Rattle.slab_lns.proofs.ways.add_surplus.Goals.{then-takes+then-not-is_open+in_ok-push, else-takes, else-takes-via-then-takes+else-not-is_open, else-takes-via-else-takes}

pub loop-s-preserved : goal.loop-s-preserved
loop-s-preserved c =
    let m = c.args.mill.now in
    let slabs = c.args.slabs.now in
    let s = c.loop-s.s in
    let before = c.args.ways.now.items in
    let free : ℕ → Bool = λ i. not (list_any (is_old i) (kinds_of slabs)) in
    let test : Kind → Bool = λ kind. takes m c.args.order (empty kind) in
    elim c.if-takes.branch [
      | then-takes+then-not-is_open+in_ok-push w ↦
          rw w.ways-is (w.in_ok-push.ensures.items ∙ ap (λ (xs : List Way). xs ++ Open (Old s) ∷ []) c.loop-s.invariant ∙ append_assoc before (to_surplus free test s) (Open (Old s) ∷ [])
          ∙ ap (λ (xs : List Way). before ++ xs) (sym (surplus_taken free test s (ap not (sym w.is_open.ensures ∙ w.if-not-is_open.true)) (sym c.takes.ensures ∙ w.if-takes.true))))
      | else-takes w ↦ rw w.ways-is (c.loop-s.invariant ∙ ap (λ (xs : List Way). before ++ xs) (sym (elim w.else-takes.branch [
        | else-takes-via-then-takes+else-not-is_open v ↦ surplus_open free test s (ap not (sym v.is_open.ensures ∙ v.if-not-is_open.false))
        | else-takes-via-else-takes v ↦ surplus_refused free test s (sym c.takes.ensures ∙ v.if-takes.false)
      ])))
    ]
