-- The rules of a leaf's line: its numbers are prices that refute.
use Rattle.std.specs.Prelude.{ℤ, List, [], ◌∷◌, length}
use Rattle.mill_model.specs.declared.limits.Limits.{Limits}
use Rattle.mill_model.specs.Mill.{Mill}
use Rattle.mill_model.specs.Decisions.{Decision}
use Rattle.mill_model.specs.Prices.{HasCount, HasSigns, HasLimits, IsWorth, NoneExceeds, prices_of}
use Rattle.cert_rules.specs.declared.why.Why.TheVariants as why
use Rattle.cert_rules.specs.Rules.{Rule, rule}

-- the prices of a leaf refute the limits under the path
abbrev pub leaf_rules : Mill → Limits → List Decision → List ℤ → List Rule
leaf_rules m limits path numbers =
    let p = prices_of (length m.orders) numbers in
    rule why.Count (HasCount m numbers) ∷ rule why.Sign (HasSigns p) ∷ rule why.Missing (HasLimits limits p) ∷ rule why.Sum (IsWorth limits p) ∷ rule why.Column (NoneExceeds m path p) ∷ []
