-- Order files: the sizes, the number of colours, and the orders of a mill, with a count before each list.
use Rattle.std.specs.Prelude.{◌≡◌, ℕ, List, [], ◌∷◌, ◌++◌, length, Result, Ok, ◌↔◌}
use Rattle.std.specs.List.{flat_map}
use Rattle.mill_model.specs.Mill.{Mill, IsInLimits, bare_mill, usual_colour_limit, most_sizes, most_weight, most_colours, most_orders}
use Rattle.mill_model.specs.declared.order.Order.{Order}
use Rattle.mill_read.specs.WordsLeft.{WordsLeft}
use Rattle.mill_read.specs.Tokens.{Token, Numeral, numerals, AreWordsOf}
use Rattle.mill_read.specs.Reading.{Read, ◌>>=◌, number_at, list_at, no_more, text}
use Rattle.mill_read.specs.declared.fault.TextFault.{TextFault}
use Rattle.mill_read.specs.declared.fault.Why.TheVariants.{Range, Colour}

-- a weight and a colour
unfoldable pub order_at : ℕ → WordsLeft → Read Order
order_at colours left = do
  weight ← number_at Range 1 most_weight left
  colour ← number_at Colour 1 colours weight.1
  Ok (record { weight = weight.0; colour = colour.0 }, colour.1)

-- an order file says nothing of these
pub record IsBare (mill : Mill) : Type 0 where
  pub colour_limit : mill.colour_limit ≡ usual_colour_limit
  pub yard : mill.yard ≡ []
  pub bars : mill.bars ≡ []

unfoldable pub mill_at : WordsLeft → Result Mill TextFault
mill_at left = do
  size_count ← number_at Range 1 most_sizes left
  sizes ← list_at (number_at Range 1 most_weight) size_count.0 size_count.1
  colours ← number_at Range 1 most_colours sizes.1
  order_count ← number_at Range 0 most_orders colours.1
  orders ← list_at (order_at colours.0) order_count.0 order_count.1
  no_more (bare_mill sizes.0 colours.0 orders.0) orders.1.number orders.1.words

-- the mill of an order file, or its first fault
abbrev pub order_file : List ℕ → Result Mill TextFault
order_file bytes = mill_at (text bytes)

abbrev pub order_tokens : Order → List Token
order_tokens order = Numeral order.weight ∷ Numeral order.colour ∷ []

abbrev pub mill_tokens : Mill → List Token
mill_tokens mill =
    (Numeral (length mill.sizes) ∷ numerals mill.sizes)
    ++ (Numeral mill.colours ∷ Numeral (length mill.orders) ∷ flat_map order_tokens mill.orders)

-- the grammar: the words spell the numbers of this mill, which is bare and within its limits
pub record IsOrderFile (bytes : List ℕ) (mill : Mill) : Type 0 where
  pub words : AreWordsOf bytes (mill_tokens mill)
  pub limits : IsInLimits mill
  pub bare : IsBare mill

-- what is read is in the grammar, and what is in the grammar is read
abbrev pub OrderFilesSpellMills : Type 0
OrderFilesSpellMills = (bytes : List ℕ) (mill : Mill) →
    (order_file bytes ≡ Ok mill) ↔ IsOrderFile bytes mill
