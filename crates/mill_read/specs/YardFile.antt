-- Yard files: the number of surplus slabs and their sizes, and then, unless the file ends there, the number of bars and the
-- bars.
use Rattle.std.specs.Prelude.{◌≡◌, ℕ, ◌+◌, ◌-◌, ◌≤◌, List, [], ◌∷◌, ◌++◌, length, Result, Ok, ◌↔◌, ◌⊎◌}
use Rattle.std.specs.List.{flat_map}
use Rattle.mill_model.specs.Mill.{Bar, Yard, IsYard, AreBarsAmong, most_weight, most_orders, most_slabs, most_bars}
use Rattle.mill_read.specs.WordsLeft.{WordsLeft}
use Rattle.mill_read.specs.Tokens.{Token, Numeral, numerals, AreWordsOf}
use Rattle.mill_read.specs.Reading.{Read, ◌>>=◌, number_at, list_at, unless_end, no_more, text}
use Rattle.mill_read.specs.declared.fault.TextFault.{TextFault}
use Rattle.mill_read.specs.declared.fault.Why.TheVariants.{Range}

-- an order and a surplus slab, from 1 in a file, and from 0 in a yard
unfoldable pub bar_at : ℕ → ℕ → WordsLeft → Read Bar
bar_at orders slabs left = do
  order ← number_at Range 1 orders left
  slab ← number_at Range 1 slabs order.1
  Ok ((order.0 - 1, slab.0 - 1), slab.1)

unfoldable pub bars_at : ℕ → ℕ → WordsLeft → Read (List Bar)
bars_at orders slabs left = do
  count ← number_at Range 0 most_bars left
  list_at (bar_at orders slabs) count.0 count.1

unfoldable pub yard_at : ℕ → WordsLeft → Result Yard TextFault
yard_at orders left = do
  count ← number_at Range 0 most_slabs left
  sizes ← list_at (number_at Range 1 most_weight) count.0 count.1
  bars ← unless_end [] (bars_at orders count.0) sizes.1.number sizes.1.words
  no_more (record { sizes = sizes.0; bars = bars.0 }) bars.1.number bars.1.words

-- the yard that a yard file gives for so many orders, or its first fault
abbrev pub yard_file : ℕ → List ℕ → Result Yard TextFault
yard_file orders bytes = yard_at orders (text bytes)

abbrev pub size_tokens : List ℕ → List Token
size_tokens sizes = Numeral (length sizes) ∷ numerals sizes

abbrev pub bar_tokens : Bar → List Token
bar_tokens bar = Numeral (bar.0 + 1) ∷ Numeral (bar.1 + 1) ∷ []

abbrev pub bar_list_tokens : List Bar → List Token
bar_list_tokens bars = Numeral (length bars) ∷ flat_map bar_tokens bars

-- the words spell the sizes and the bars, or the sizes alone, where there is no bar
abbrev pub AreWordsOfYard : List ℕ → Yard → Type 0
AreWordsOfYard bytes yard =
    AreWordsOf bytes (size_tokens yard.sizes ++ bar_list_tokens yard.bars)
    ⊎ (AreWordsOf bytes (size_tokens yard.sizes) × (yard.bars ≡ []))

-- the grammar: the words spell this yard, which is within its limits, and its bars are of so many orders
pub record IsYardFile (orders : ℕ) (bytes : List ℕ) (yard : Yard) : Type 0 where
  pub words : AreWordsOfYard bytes yard
  pub limits : IsYard yard
  pub bars : AreBarsAmong orders yard.bars

-- what is read is in the grammar, and what is in the grammar is read
abbrev pub YardFilesSpellYards : Type 0
YardFilesSpellYards = (orders : ℕ) (bytes : List ℕ) (yard : Yard) → orders ≤ most_orders →
    (yard_file orders bytes ≡ Ok yard) ↔ IsYardFile orders bytes yard
