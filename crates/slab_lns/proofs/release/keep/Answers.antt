use Rattle.std.proofs.Common.{◌≡◌, ℕ, Bool, not, List, [], ◌∷◌, ◌++◌, sym, ap, ap₂, ◌∙◌}
use Rattle.mill_model.specs.declared.kind.Kind.TheVariants.{New}
use Rattle.mill_model.specs.Columns.{Column}
use Rattle.slab_filling.specs.Slabs.{empty}
use Rattle.slab_lns.specs.Neighbourhoods.{slab_at, opened, is_one_of}
use Rattle.slab_lns.proofs.Ranges.{map_passed, map_failed, any_default}
use Rattle.slab_lns.proofs.release.keep.Goals as goal
use Rattle.slab_lns.proofs.release.keep.Goals.{then-not-is_one_of+in_ok-opened+in_ok-push, else-not-is_one_of}

pub loop-k-preserved : goal.loop-k-preserved
loop-k-preserved c =
    let m = c.args.mill.now in
    let slabs = c.args.slabs.now in
    let f : ℕ → Column = λ k. opened m (slab_at slabs k) in
    let test : ℕ → Bool = λ k. not (is_one_of c.args.pair.0 c.args.pair.1 k) in
    elim c.if-not-is_one_of.branch [
      | then-not-is_one_of+in_ok-opened+in_ok-push w ↦
          let here : w.index-slabs-k.result ≡ slab_at slabs c.loop-k.k = w.index-slabs-k.is ∙ any_default slabs c.loop-k.k w.index-slabs-k.result (empty (New 0)) c.loop-k-test.true in
          rw w.kept-is (w.in_ok-push.ensures.items ∙ ap₂ (λ (xs : List Column) (x : Column). xs ++ x ∷ []) c.loop-k.invariant (w.in_ok-opened.ensures ∙ ap (opened m) here)
          ∙ sym (map_passed f test c.loop-k.k (ap not (sym c.is_one_of.ensures ∙ w.if-not-is_one_of.true))))
      | else-not-is_one_of w ↦ rw w.kept-is (c.loop-k.invariant ∙ sym (map_failed f test c.loop-k.k (ap not (sym c.is_one_of.ensures ∙ w.if-not-is_one_of.false))))
    ]
