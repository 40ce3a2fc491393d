-- Plan files: the slabs of a plan, with their number before them, then the slab of each order.
use Rattle.std.specs.Prelude.{◌≡◌, ℕ, ◌+◌, ◌-◌, ◌<◌, ◌≤◌, Bool, true, false, List, [], ◌∷◌, ◌++◌, length, map, All, Result, Ok, ◌↔◌}
use Rattle.std.specs.List.{flat_map}
use Rattle.mill_model.specs.Mill.{IsBetween}
use Rattle.mill_model.specs.Plans.{Plan}
use Rattle.mill_model.specs.declared.kind.Kind.{Kind}
use Rattle.mill_model.specs.declared.kind.Kind.TheVariants.{New, Old}
use Rattle.mill_read.specs.WordsLeft.{WordsLeft}
use Rattle.mill_read.specs.Tokens.{Token, Numeral, Keyword, AreWordsOf}
use Rattle.mill_read.specs.Reading.{Read, ◌>>=◌, number_at, list_at, no_more, text}
use Rattle.mill_read.specs.SlabWords.{is_new_at, new_word, old_word}
use Rattle.mill_read.specs.declared.fault.TextFault.{TextFault}
use Rattle.mill_read.specs.declared.fault.Why.TheVariants.{Range}

-- a plan has at most so many slabs
abbrev pub most_plan_slabs : ℕ
most_plan_slabs = 1000

-- no size and no number of a slab in a file is greater
abbrev pub most_number : ℕ
most_number = 65535

-- surplus slabs are numbered from 1 in a file, and from 0 in a plan
abbrev pub kind_of : Bool → ℕ → Kind
kind_of true size = New size
kind_of false slab = Old (slab - 1)

-- new and a size, or old and a surplus slab
unfoldable pub kind_at : WordsLeft → Read Kind
kind_at left = do
  is_new ← is_new_at left
  number ← number_at Range 1 most_number is_new.1
  Ok (kind_of is_new.0 number.0, number.1)

-- the slab of an order, from 1 in a file, and from 0 in a plan
unfoldable pub place_at : WordsLeft → Read ℕ
place_at left = do
  slab ← number_at Range 1 most_number left
  Ok (slab.0 - 1, slab.1)

unfoldable pub plan_at : ℕ → WordsLeft → Result Plan TextFault
plan_at order_count left = do
  slab_count ← number_at Range 0 most_plan_slabs left
  kinds ← list_at kind_at slab_count.0 slab_count.1
  place ← list_at place_at order_count kinds.1
  no_more (record { kinds = kinds.0; place = place.0 }) place.1.number place.1.words

-- the plan that a plan file gives for this many orders, or its first fault
abbrev pub plan_file : ℕ → List ℕ → Result Plan TextFault
plan_file order_count bytes = plan_at order_count (text bytes)

abbrev pub kind_tokens : Kind → List Token
kind_tokens (New size) = Keyword new_word ∷ Numeral size ∷ []
kind_tokens (Old slab) = Keyword old_word ∷ Numeral (slab + 1) ∷ []

abbrev pub plan_tokens : Plan → List Token
plan_tokens plan =
    (Numeral (length plan.kinds) ∷ flat_map kind_tokens plan.kinds)
    ++ map (λ slab. Numeral (slab + 1)) plan.place

abbrev pub IsKindInRange : Kind → Type 0
IsKindInRange (New size) = IsBetween 1 most_number size
IsKindInRange (Old slab) = slab < most_number

-- the grammar: the words spell this plan, with one place for each order, and its numbers are in range
pub record IsPlanFile (order_count : ℕ) (bytes : List ℕ) (plan : Plan) : Type 0 where
  pub words : AreWordsOf bytes (plan_tokens plan)
  pub slab_count : length plan.kinds ≤ most_plan_slabs
  pub kinds : All IsKindInRange plan.kinds
  pub place_count : length plan.place ≡ order_count
  pub place : All (λ slab. slab < most_number) plan.place

-- what is read is in the grammar, and what is in the grammar is read
abbrev pub PlanFilesSpellPlans : Type 0
PlanFilesSpellPlans = (order_count : ℕ) (bytes : List ℕ) (plan : Plan) →
    (plan_file order_count bytes ≡ Ok plan) ↔ IsPlanFile order_count bytes plan
