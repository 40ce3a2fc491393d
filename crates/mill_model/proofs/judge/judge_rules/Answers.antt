use Rattle.std.proofs.Common.{◌∷◌, map, length, flat_map}
use Rattle.std.specs.List.{range_with_len}
use Rattle.std.proofs.lemmas.Result.{err_from_is_err_and}
use Rattle.mill_model.specs.declared.illegal.Illegal.TheVariants.{Places, Place}
use Rattle.mill_model.specs.Judging.{breaks, slab_rules}
use Rattle.mill_model.proofs.FirstBroken.{find-some_append}
use Rattle.mill_model.proofs.Rules.{AnswersFirst-append}
use Rattle.mill_model.proofs.judge.judge_rules.Goals as goal

pub returns-in_err-judge_places : goal.returns-in_err-judge_places
returns-in_err-judge_places c =
    let p = err_from_is_err_and c.from_residual.result c.from_residual.ensures.1 in
    let plan = c.args.plan.now in
    rw (p.1, p.2) (find-some_append (breaks c.args.mill.now plan) (Places ∷ map Place (range_with_len 0 (length plan.place))) (flat_map slab_rules (range_with_len 0 (length plan.kinds))) c.in_err-judge_places.field-0.0 c.in_err-judge_places.ensures.first)

pub returns : goal.returns
returns c =
    let plan = c.args.plan.now in
    AnswersFirst-append c.args.mill.now plan (Places ∷ map Place (range_with_len 0 (length plan.place))) (flat_map slab_rules (range_with_len 0 (length plan.kinds))) c.judge_slabs.result c.in_ok-judge_places.ensures.first c.judge_slabs.ensures
