use Rattle.std.proofs.Common.{◌≡◌, ap, subst, List, ℕ, sym, arith}
use Rattle.std.proofs.lemmas.Int.{ints}
use Rattle.std.proofs.lemmas.List.Elements.{All-contains}
use Rattle.mill_model.specs.Mill.{IsBetween, most_weight}
use Rattle.cert_rules.specs.Numbers.{natural}
use Rattle.cert_slabs.proofs.slab.listed_size.Goals as goal
use Rattle.cert_slabs.proofs.slab.listed_size.Goals.{then-number-lt0-via-then-number-lt0, then-number-lt0-via-else-number-lt0+then-number-from}

pub returns-then-number-lt0-clause-unlisted : goal.returns-then-number-lt0-clause-unlisted
returns-then-number-lt0-clause-unlisted c = λ h.
    let small = All-contains (IsBetween 1 most_weight) c.args.mill.now.sizes (natural c.args.number) c.sizes-sizes.ensures.limits.sizes h.1 in
    elim c.then-number-lt0.branch [
      | then-number-lt0-via-then-number-lt0 w ↦ omega (arith, ints, h.0, w.if-number-lt0.true)
      | then-number-lt0-via-else-number-lt0+then-number-from w ↦ omega (arith, ints, h.0, small.1, w.from.ensures, w.if-number-from.true)
    ]
