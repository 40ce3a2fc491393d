use Rattle.std.proofs.Common.{◌+◌, Bool, cond, length, get_or, ap, refl, arith, length-set}
use Rattle.slab_relax.proofs.Putting.{below_high}
use Rattle.slab_node.proofs.Adding.{not_before, added_more}
use Rattle.slab_node.proofs.wholes.add_at.Goals as goal

pub bounds-sums-place : goal.bounds-sums-place
bounds-sums-place c = omega (arith, below_high 0 (length c.args.sums.now) c.args.places.now c.loop-place.place-index 0 c.requires.rises c.loop-place-test.true, c.loop-place.invariant.size)

pub overflow_add-sums : goal.overflow_add-sums
overflow_add-sums c =
    let inside = below_high 0 (length c.args.sums.now) c.args.places.now c.loop-place.place-index 0 c.requires.rises c.loop-place-test.true in
    omega (
      arith,
      c.requires.room (get_or c.args.places.now c.loop-place.place-index 0) inside,
      c.loop-place.invariant.added (get_or c.args.places.now c.loop-place.place-index 0) inside,
      ap (λ (b : Bool). cond b c.args.amount 0) (not_before 0 (length c.args.sums.now) c.args.places.now c.loop-place.place-index 0 c.requires.rises c.loop-place-test.true).0,
    )

pub bounds-sums-place-in-loop-place : goal.bounds-sums-place-in-loop-place
bounds-sums-place-in-loop-place c = omega (arith, below_high 0 (length c.args.sums.now) c.args.places.now c.loop-place.place-index 0 c.requires.rises c.loop-place-test.true, c.loop-place.invariant.size)

pub loop-place-preserved : goal.loop-place-preserved
loop-place-preserved c =
    let inside = below_high 0 (length c.args.sums.now) c.args.places.now c.loop-place.place-index 0 c.requires.rises c.loop-place-test.true in
    record {
      size = omega (arith, length-set c.loop-place.sums (get_or c.args.places.now c.loop-place.place-index 0) (get_or c.loop-place.sums (get_or c.args.places.now c.loop-place.place-index 0) 0 + c.args.amount), c.loop-place.invariant.size);
      added = added_more (length c.args.sums.now) c.args.places.now c.loop-place.place-index 0 c.args.amount (get_or c.loop-place.sums (get_or c.args.places.now c.loop-place.place-index 0) 0 + c.args.amount) c.args.sums.now c.loop-place.sums _ c.requires.rises c.loop-place-test.true refl c.loop-place.invariant.size inside refl refl c.loop-place.invariant.added;
    }
