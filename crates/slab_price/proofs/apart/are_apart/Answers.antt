use Rattle.std.specs.Bool.{OnTrue}
use Rattle.std.proofs.Common.{Bool, true, false, ℕ, List}
use Rattle.mill_model.specs.Decisions.{Decision}
use Rattle.pricing_laws.specs.Groups.{AreApart}
use Rattle.slab_price.proofs.apart.are_apart.Goals as goal

-- apart is apart either way round
turned : (b : Bool) (decisions : List Decision) (first second : ℕ) → OnTrue b (AreApart decisions first second) → OnTrue b (AreApart decisions second first)
turned true decisions first second apart = λ c agrees has_second has_first. apart c agrees has_first has_second
turned false decisions first second apart = tt

pub returns-then-other-one : goal.returns-then-other-one
returns-then-other-one c = turned c.keeps_apart-then-other-one.result c.args.decisions.now.list c.args.other c.args.one c.keeps_apart-then-other-one.ensures
