-- What both programs say. Each text is lines, each ended by a line feed; words and lines are numbered from 1.
use Rattle.std.specs.Prelude.{ℕ, List, [], ◌∷◌, ◌++◌, codes}
use Rattle.std.specs.Fmt.{decimal}
use Rattle.mill_read.specs.declared.fault.Why.{Why}
use Rattle.mill_read.specs.declared.fault.Why.TheVariants.{Missing, NotNumber, Range, Colour, Kind, Extra}
use Rattle.cert_rules.specs.declared.why.Why.{Why as LineRule}
use Rattle.cert_rules.specs.declared.why.Why.TheVariants as rules

-- words with a space before each, and a line feed
abbrev pub spaced : List (List ℕ) → List ℕ
spaced [] = 10 ∷ []
spaced (word ∷ words) = 32 ∷ (word ++ spaced words)

-- a line of one word and others
abbrev pub line : List ℕ → List (List ℕ) → List ℕ
line word words = word ++ spaced words

abbrev pub memory_text : List ℕ
memory_text = line (codes "memory") []

-- the word that can't stand
abbrev pub usage_text : ℕ → List ℕ
usage_text number = line (codes "usage") (codes "word" ∷ decimal number ∷ [])

-- why a file has no value
abbrev pub why_word : Why → List ℕ
why_word Missing = codes "missing"
why_word NotNumber = codes "number"
why_word Range = codes "range"
why_word Colour = codes "colour"
why_word Kind = codes "kind"
why_word Extra = codes "extra"

-- the rule that a line of a certificate breaks
abbrev pub rule_word : LineRule → List ℕ
rule_word rules.Extra = codes "extra"
rule_word rules.End = codes "end"
rule_word rules.Spelling = codes "spelling"
rule_word rules.Range = codes "range"
rule_word rules.Expect = codes "expect"
rule_word rules.Order = codes "order"
rule_word rules.Size = codes "size"
rule_word rules.Place = codes "place"
rule_word rules.Load = codes "load"
rule_word rules.Colours = codes "colours"
rule_word rules.Yard = codes "yard"
rule_word rules.Twice = codes "twice"
rule_word rules.Barred = codes "barred"
rule_word rules.Unplaced = codes "unplaced"
rule_word rules.Sums = codes "sums"
rule_word rules.Ask = codes "ask"
rule_word rules.Repeat = codes "repeat"
rule_word rules.Count = codes "count"
rule_word rules.Sign = codes "sign"
rule_word rules.Missing = codes "missing"
rule_word rules.Sum = codes "sum"
rule_word rules.Column = codes "column"
rule_word rules.Agree = codes "agree"
rule_word rules.Cover = codes "cover"
rule_word rules.Loss = codes "loss"
rule_word rules.New = codes "new"

-- the first bad line of a certificate, and the rule that it breaks
abbrev pub bad_line_text : ℕ → LineRule → List ℕ
bad_line_text number rule = line (codes "certificate") (codes "line" ∷ decimal number ∷ rule_word rule ∷ [])
