use Rattle.std.proofs.Common.{◌≡◌, ℕ, Bool, List, [], ◌∷◌, ◌++◌, map, sym, ap, ◌∙◌, append_assoc}
use Rattle.std.specs.List.{filter, range_with_len}
use Rattle.mill_model.specs.declared.kind.Kind.TheVariants.{New}
use Rattle.slab_filling.specs.Slabs.{empty, takes}
use Rattle.slab_lns.specs.declared.ways.Way.{Way}
use Rattle.slab_lns.specs.declared.ways.Way.TheVariants.{On}
use Rattle.slab_lns.specs.Neighbourhoods.{slab_at}
use Rattle.slab_lns.proofs.Ranges.{map_passed, map_failed, any_default}
use Rattle.slab_lns.proofs.ways.add_open.Goals as goal
use Rattle.slab_lns.proofs.ways.add_open.Goals.{then-takes+in_ok-push, else-takes}

pub loop-k-preserved : goal.loop-k-preserved
loop-k-preserved c =
    let m = c.args.mill.now in
    let slabs = c.args.slabs.now in
    let k = c.loop-k.k in
    let before = c.args.ways.now.items in
    let test : ℕ → Bool = λ i. takes m c.args.order (slab_at slabs i) in
    let here : c.index-slabs-k.result ≡ slab_at slabs k = c.index-slabs-k.is ∙ any_default slabs k c.index-slabs-k.result (empty (New 0)) c.loop-k-test.true in
    let told : test k ≡ c.takes.result = ap (takes m c.args.order) (sym here) ∙ sym c.takes.ensures in
    elim c.if-takes.branch [
      | then-takes+in_ok-push w ↦
          rw w.ways-is (w.in_ok-push.ensures.items ∙ ap (λ (xs : List Way). xs ++ On k ∷ []) c.loop-k.invariant ∙ append_assoc before (map On (filter test (range_with_len 0 k))) (On k ∷ [])
          ∙ ap (λ (xs : List Way). before ++ xs) (sym (map_passed On test k (told ∙ w.if-takes.true))))
      | else-takes w ↦ rw w.ways-is (c.loop-k.invariant ∙ ap (λ (xs : List Way). before ++ xs) (sym (map_failed On test k (told ∙ w.if-takes.false))))
    ]
