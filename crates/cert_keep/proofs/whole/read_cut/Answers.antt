use Rattle.std.proofs.Common.{[], ◌∙◌, subst}
use Rattle.mill_model.specs.Mill.{Mill}
use Rattle.cert_keep.specs.Reads.{IsCutRead, CutMeans}
use Rattle.cert_keep.proofs.whole.read_cut.Goals as goal

pub returns-in-Ok-clause-read : goal.returns-in-Ok-clause-read
returns-in-Ok-clause-read c = subst (λ (m : Mill). IsCutRead m c.args.bytes.now c.end.result) (c.in-Ok.ensures.mill ∙ c.in_ok-reader.ensures.mill) (c.end.ensures.read c.args.bytes.now (c.in-Ok.ensures.stands [] c.in_ok-reader.ensures.stands))

pub returns-in-Ok-clause-means : goal.returns-in-Ok-clause-means
returns-in-Ok-clause-means c = subst (λ (m : Mill). CutMeans m c.end.result) (c.in-Ok.ensures.mill ∙ c.in_ok-reader.ensures.mill) (c.end.ensures.means c.args.bytes.now (c.in-Ok.ensures.stands [] c.in_ok-reader.ensures.stands))
