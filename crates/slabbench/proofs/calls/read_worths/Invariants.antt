use Rattle.std.proofs.Common.{◌≡◌, All, length}
use Rattle.mill_model.specs.Prices.{IsPrice}
use Rattle.slabbench.proofs.calls.read_worths.Given as goal

abbrev pub invariant-worths : goal.invariant-worths
invariant-worths l = record { prices : All IsPrice l.worths.items; count : length l.worths.items ≡ l.counter }
