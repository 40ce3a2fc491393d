use Rattle.std.proofs.Common.{subst}
use Rattle.mill_model.specs.declared.mark.Mark.{Mark}
use Rattle.slab_tree.specs.Marking.{ShowsCoverUnlessBare}
use Rattle.slab_tree.proofs.showing.shown_or_plain.Goals as goal

pub returns-in-Spread-clause-holds : goal.returns-in-Spread-clause-holds
returns-in-Spread-clause-holds c = λ m limits decisions cover.
    subst (λ (mark : Mark). ShowsCoverUnlessBare m limits mark decisions) c.in-Spread.is (c.in_ok-shown.ensures.shows m limits decisions cover)
