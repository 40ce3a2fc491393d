use Rattle.std.proofs.Common.{◌≡◌, ◌<◌, ◌≤◌, ◌+◌, ◌*◌, ◌≢◌, ℕ, true, false, ◌||◌, cond, eqb, inl, inr, length, get_or, take, sum, ap, sym, subst, ◌∙◌, arith}
use Rattle.std.proofs.lemmas.Bool.{false≢true}
use Rattle.mill_model.specs.Columns.{has}
use Rattle.cert_slabs.proofs.Rising.{rises_at, new_at, sum_raised}
use Rattle.cert_slabs.proofs.Covering.{fits_more, added_more, within_more, at_index, still_there}
use Rattle.cert_slabs.proofs.tally.cover.Goals as goal

pub bounds-covered-place : goal.bounds-covered-place
bounds-covered-place c = omega (arith, (rises_at 0 (length c.args.covered.now) c.args.orders.now c.loop-order.order-index c.requires.rise c.loop-order-test.true).1, c.from-place.ensures)

pub returns-then-sum-most-clause-fits : goal.returns-then-sum-most-clause-fits
returns-then-sum-most-clause-fits c =
    let at = rises_at 0 (length c.args.covered.now) c.args.orders.now c.loop-order.order-index c.requires.rise c.loop-order-test.true in (
      λ f. absurd (false≢true f),
      λ fits. absurd (omega (
        arith,
        c.if-sum-most.true,
        at_index c.args.covered.now c.loop-order.covered c.args.orders.now c.args.times c.loop-order.order-index c.loop-order.invariant.added c.requires.rise c.loop-order-test.true c.from-place.result c.from-place.ensures,
        fits c.from-place.result (subst (λ o. has c.args.orders.now o ≡ true) (sym c.from-place.ensures) (still_there c.args.orders.now c.loop-order.order-index c.loop-order-test.true)),
      )),
    )

pub bounds-covered-place-in-loop-order : goal.bounds-covered-place-in-loop-order
bounds-covered-place-in-loop-order c = omega (arith, (rises_at 0 (length c.args.covered.now) c.args.orders.now c.loop-order.order-index c.requires.rise c.loop-order-test.true).1, c.from-place.ensures)

pub loop-order-preserved : goal.loop-order-preserved
loop-order-preserved c =
    let at = rises_at 0 (length c.args.covered.now) c.args.orders.now c.loop-order.order-index c.requires.rise c.loop-order-test.true in
    let here = at_index c.args.covered.now c.loop-order.covered c.args.orders.now c.args.times c.loop-order.order-index c.loop-order.invariant.added c.requires.rise c.loop-order-test.true c.from-place.result c.from-place.ensures in
    record {
      fits = fits_more c.args.covered.now c.args.orders.now c.args.times c.args.most c.loop-order.order-index c.loop-order-test.true c.loop-order.invariant.fits c.from-place.result c.from-place.ensures (omega (arith, here, c.if-sum-most.false));
      added = added_more c.args.covered.now c.loop-order.covered c.args.orders.now c.args.times c.loop-order.order-index c.loop-order.invariant.added c.requires.rise c.loop-order-test.true c.from-place.result c.from-place.ensures;
      sums = omega (arith, sum_raised c.loop-order.covered c.from-place.result c.args.times (omega (arith, at.1, c.from-place.ensures)), c.loop-order.invariant.sums);
      within = within_more c.args.most c.loop-order.covered c.from-place.result (get_or c.loop-order.covered c.from-place.result 0 + c.args.times) (omega (arith, at.1, c.from-place.ensures)) c.loop-order.invariant.within c.if-sum-most.false;
    }
