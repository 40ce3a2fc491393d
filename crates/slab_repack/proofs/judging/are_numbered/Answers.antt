use Rattle.std.proofs.Common.{ℕ, List, take, sym, subst}
use Rattle.std.proofs.lemmas.Bool.{false≢true, le-leb, leb-true}
use Rattle.std.proofs.lemmas.List.{take_all, take_more}
use Rattle.slab_repack.specs.FoundPlans.{AreNumberedSoFar}
use Rattle.slab_repack.proofs.Numbering.{beyond_next, fewer_numbered, none_left}
use Rattle.slab_repack.proofs.judging.are_numbered.Goals as goal

pub loop-slab-preserved : goal.loop-slab-preserved
loop-slab-preserved c =
    subst (λ (xs : List ℕ). AreNumberedSoFar xs c.in-Some.after)
    (sym (take_more c.args.place.now c.loop-slab.slab-index 0 c.loop-slab-test.true))
    (c.in-Some.ensures.next (take c.loop-slab.slab-index c.args.place.now) c.loop-slab.invariant)

pub returns-in-None : goal.returns-in-None
returns-in-None c = (
  (λ t. absurd (false≢true t)),
  (λ h. absurd (beyond_next c.args.place.now c.loop-slab.next c.args.slabs c.loop-slab.slab-index c.loop-slab-test.true (c.number_after.ensures.beyond c.in-None.is) c.loop-slab.invariant c.requires h)),
)

pub returns : goal.returns
returns c =
    let so_far : AreNumberedSoFar c.args.place.now c.loop-slab.next =
    subst (λ (xs : List ℕ). AreNumberedSoFar xs c.loop-slab.next) (take_all c.loop-slab.slab-index c.args.place.now c.loop-slab-test.false) c.loop-slab.invariant in (
      (λ t. fewer_numbered c.args.place.now c.loop-slab.next c.args.slabs (leb-true c.args.slabs c.loop-slab.next t) so_far),
      (λ h. le-leb c.args.slabs c.loop-slab.next (none_left c.args.place.now c.loop-slab.next c.args.slabs so_far c.requires)),
    )
