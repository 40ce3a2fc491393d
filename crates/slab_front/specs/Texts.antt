-- What is said, beside what both programs say (`run_words`). Each text is lines, each ended by a line feed; orders, slabs, words and lines are numbered from 1.
use Rattle.std.specs.Prelude.{◌≡◌, ℕ, ◌+◌, List, [], ◌∷◌, codes}
use Rattle.std.specs.Fmt.{decimal}
use Rattle.mill_model.specs.declared.sums.Sums.{Sums}
use Rattle.mill_model.specs.declared.illegal.Illegal.{Illegal}
use Rattle.mill_model.specs.declared.illegal.Illegal.TheVariants.{Places, Place, Empty, Size, Yard, Twice, Load, Colours, Barred}
use Rattle.mill_read.specs.declared.fault.TextFault.{TextFault}
use Rattle.run_words.specs.Texts.{line, why_word}
use Rattle.slab_front.specs.declared.texts.Source.{Source}
use Rattle.slab_front.specs.declared.texts.Source.TheVariants.{Orders, Yard as YardSource, Plan as PlanSource}

abbrev pub source_word : Source → List ℕ
source_word Orders = codes "orders"
source_word YardSource = codes "yard"
source_word PlanSource = codes "plan"

-- the first fault of a file
abbrev pub fault_text : Source → TextFault → List ℕ
fault_text source fault = line (codes "input") (source_word source ∷ codes "word" ∷ decimal fault.word ∷ why_word fault.why ∷ [])

-- a file that is too long
abbrev pub long_text : Source → List ℕ
long_text source = line (codes "input") (source_word source ∷ codes "long" ∷ [])

abbrev pub legal_text : Sums → List ℕ
legal_text sums = line (codes "legal") (decimal sums.loss ∷ decimal sums.count ∷ [])

abbrev pub slab_text : ℕ → List ℕ → List ℕ
slab_text slab rule = line (codes "illegal") (codes "slab" ∷ decimal (slab + 1) ∷ rule ∷ [])

-- the text says that the plan breaks this rule; none says that there isn't one place for each order
abbrev pub SaysBroken : Illegal → List ℕ → Type 0
SaysBroken Places text = ⊥
SaysBroken (Place order) text = text ≡ line (codes "illegal") (codes "order" ∷ decimal (order + 1) ∷ codes "place" ∷ [])
SaysBroken (Empty slab) text = text ≡ slab_text slab (codes "empty")
SaysBroken (Size slab) text = text ≡ slab_text slab (codes "size")
SaysBroken (Yard slab) text = text ≡ slab_text slab (codes "yard")
SaysBroken (Twice slab) text = text ≡ slab_text slab (codes "twice")
SaysBroken (Load slab) text = text ≡ slab_text slab (codes "load")
SaysBroken (Colours slab) text = text ≡ slab_text slab (codes "colours")
SaysBroken (Barred slab) text = text ≡ slab_text slab (codes "barred")
