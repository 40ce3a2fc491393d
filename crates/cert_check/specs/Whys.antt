-- Whys with the column that one of them carries, and without.
use Rattle.price_check.specs.declared.bad.Bad.{Bad}
use Rattle.price_check.specs.declared.bad.Bad.TheVariants as bads
use Rattle.cert_rules.specs.declared.why.Why.{Why}
use Rattle.cert_rules.specs.declared.why.Why.TheVariants as why
use Rattle.cert_check.specs.declared.line_why.LineWhy.{LineWhy}
use Rattle.cert_check.specs.declared.line_why.LineWhy.TheVariants as carried

-- the rule of a leaf that its test found broken
abbrev pub leaf_why : Bad → Why
leaf_why bads.Count = why.Count
leaf_why bads.Sign = why.Sign
leaf_why bads.Missing = why.Missing
leaf_why bads.Sum = why.Sum
leaf_why bads.Column = why.Column

-- the why alone
abbrev pub why_of : LineWhy → Why
why_of carried.Extra = why.Extra
why_of carried.End = why.End
why_of carried.Spelling = why.Spelling
why_of carried.Range = why.Range
why_of carried.Expect = why.Expect
why_of carried.Order = why.Order
why_of carried.Size = why.Size
why_of carried.Place = why.Place
why_of carried.Load = why.Load
why_of carried.Colours = why.Colours
why_of carried.Yard = why.Yard
why_of carried.Twice = why.Twice
why_of carried.Barred = why.Barred
why_of carried.Unplaced = why.Unplaced
why_of carried.Sums = why.Sums
why_of carried.Ask = why.Ask
why_of carried.Repeat = why.Repeat
why_of carried.Count = why.Count
why_of carried.Sign = why.Sign
why_of carried.Missing = why.Missing
why_of carried.Sum = why.Sum
why_of (carried.Column kind orders) = why.Column
why_of carried.Agree = why.Agree
why_of carried.Cover = why.Cover
why_of carried.Loss = why.Loss
why_of carried.New = why.New
