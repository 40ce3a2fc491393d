-- Order files: a refusal is one of the first offence.
use Rattle.std.proofs.Common.{◌≡◌, ℕ, ◌+◌, ◌*◌, ◌≤◌, List, [], ◌∷◌, ◌++◌, length, Result, Ok, Err, refl, sym, ◌∙◌, subst, arith}
use Rattle.std.proofs.lemmas.List.{length-append}
use Rattle.std.specs.Str.Parse.{digits_value}
use Rattle.mill_model.specs.Mill.{Mill, bare_mill, most_sizes, most_weight, most_colours, most_orders}
use Rattle.mill_model.specs.declared.order.Order.{Order}
use Rattle.mill_read.specs.WordsLeft.{WordsLeft}
use Rattle.mill_read.specs.Words.{words}
use Rattle.mill_read.specs.Reading.{number_at, no_more}
use Rattle.mill_read.specs.OrderFile.{order_at, mill_at}
use Rattle.mill_read.specs.Offences.{EndWithWeight, order_grammar, IsSomeOrderFile, OrderFilesAreRefusedForFirstOffences}
use Rattle.mill_read.specs.declared.fault.TextFault.{TextFault}
use Rattle.mill_read.specs.declared.fault.Why.TheVariants.{Range, Colour}
use Rattle.mill_read.proofs.OrderGrammar.{order_file_is}
use Rattle.mill_read.proofs.Refusals.{at, Setting, GoesOn, Fine, Refused, ItemStep, then_number, then_item, then_list, two_numbers, one, nothing, fine_same, fine_number, fine_list, fine_end}
use Rattle.mill_read.proofs.WordsAfter.{HasAfter, one_after}
use Rattle.mill_read.proofs.FirstOffences.{Agrees, begins_shorter, begins_never, goes_begin, begins_before, refuses_first_offences}

abbrev reading : Setting Mill
reading = record { read = mill_at; Goes = GoesOn mill_at; Colours = EndWithWeight; Kinds = λ front. ⊥ }

-- ---- words before a colour

not_weight : (sizes others : ℕ) (front : List (List ℕ)) → HasAfter sizes others front → ((before : ℕ) → others ≡ sizes + 2 + 2 * before + 1 → ⊥) → EndWithWeight front → ⊥
not_weight sizes others front h never ends =
    let there : EndWithWeight (h.first ∷ h.after) = subst EndWithWeight h.whole ends in
    never there.0 (omega (arith, there.1, h.value, h.count))

weight : (sizes others : ℕ) (front : List (List ℕ)) → HasAfter sizes others front → (before : ℕ) → others ≡ sizes + 2 + 2 * before + 1 → EndWithWeight front
weight sizes others front h before is =
    let there : EndWithWeight (h.first ∷ h.after) = (before, omega (arith, is, h.value, h.count)) in
    subst EndWithWeight (sym h.whole) there

-- ---- sizes

abbrev SizeShape : ℕ → List ℕ → List (List ℕ) → Type 0
SizeShape sizes earlier front = HasAfter sizes (length earlier) front

size_step : (sizes : ℕ) → ItemStep reading (number_at Range 1 most_weight) (SizeShape sizes) sizes
size_step sizes earlier front k less shape fine =
    fine_number reading Range 1 most_weight front k (λ g. g) ((λ kind. kind), not_weight sizes (length earlier) front shape (λ before e. omega (arith, e, less))) (omega arith) one
    (λ word n is value between. fine n (front ++ word ∷ []) (subst (λ (c : ℕ). HasAfter sizes c (front ++ word ∷ [])) (sym (length-append earlier (n ∷ []))) (one_after sizes (length earlier) front word shape)))

-- ---- orders

abbrev order_of : ℕ → ℕ → Order
order_of weight colour = record { weight = weight; colour = colour }

same_order : (colours : ℕ) (k : Order → WordsLeft → Result Mill TextFault) (left : WordsLeft)
    → then_item (order_at colours) k left ≡ then_number Range 1 most_weight (λ w. then_number Colour 1 colours (λ c. k (order_of w c))) left
unfolding order_at
same_order colours k left = two_numbers Range 1 most_weight Colour 1 colours order_of k left

abbrev OrderShape : ℕ → List Order → List (List ℕ) → Type 0
OrderShape sizes earlier front = HasAfter sizes (sizes + 2 + 2 * length earlier) front

order_shape : (sizes : ℕ) (earlier : List Order) (o : Order) (front : List (List ℕ)) (a b : List ℕ) → OrderShape sizes earlier front → OrderShape sizes (earlier ++ o ∷ []) ((front ++ a ∷ []) ++ b ∷ [])
order_shape sizes earlier o front a b shape =
    let more : sizes + 2 + 2 * length earlier + 1 + 1 ≡ sizes + 2 + 2 * length (earlier ++ o ∷ []) = omega (arith, length-append earlier (o ∷ [])) in
    subst (λ (c : ℕ). HasAfter sizes c ((front ++ a ∷ []) ++ b ∷ [])) more
    (one_after sizes (sizes + 2 + 2 * length earlier + 1) (front ++ a ∷ []) b (one_after sizes (sizes + 2 + 2 * length earlier) front a shape))

order_step : (sizes colours total : ℕ) → 1 ≤ colours → ItemStep reading (order_at colours) (OrderShape sizes) total
order_step sizes colours total some earlier front k less shape fine =
    fine_same reading front (then_number Range 1 most_weight (λ w. then_number Colour 1 colours (λ c. k (order_of w c)))) (then_item (order_at colours) k) (same_order colours k)
    (fine_number reading Range 1 most_weight front (λ w. then_number Colour 1 colours (λ c. k (order_of w c))) (λ g. g)
    ((λ kind. kind), not_weight sizes (sizes + 2 + 2 * length earlier) front shape (λ before e. omega (arith, e))) (omega arith) one
    (λ a w is value between. fine_number reading Colour 1 colours (front ++ a ∷ []) (λ c. k (order_of w c)) (λ g. g)
    ((λ kind. kind), weight sizes (sizes + 2 + 2 * length earlier + 1) (front ++ a ∷ []) (one_after sizes (sizes + 2 + 2 * length earlier) front a shape) (length earlier) refl) some one
    (λ b c is_b value_b between_b. fine (order_of w c) ((front ++ a ∷ []) ++ b ∷ []) (order_shape sizes earlier (order_of w c) front a b shape))))

-- ---- the whole file

abbrev after_orders : List ℕ → ℕ → List Order → WordsLeft → Result Mill TextFault
after_orders sizes colours orders left = no_more (bare_mill sizes colours orders) left.number left.words

abbrev after_order_count : List ℕ → ℕ → ℕ → WordsLeft → Result Mill TextFault
after_order_count sizes colours count = then_list (order_at colours) count (after_orders sizes colours)

abbrev after_colours : List ℕ → ℕ → WordsLeft → Result Mill TextFault
after_colours sizes colours = then_number Range 0 most_orders (after_order_count sizes colours)

abbrev after_sizes : List ℕ → WordsLeft → Result Mill TextFault
after_sizes sizes = then_number Range 1 most_colours (after_colours sizes)

abbrev after_size_count : ℕ → WordsLeft → Result Mill TextFault
after_size_count count = then_list (number_at Range 1 most_weight) count after_sizes

fine_orders : (count : ℕ) (sizes : List ℕ) (colours n : ℕ) (front : List (List ℕ)) → 1 ≤ colours → HasAfter count (count + 2) front → Fine reading front (after_order_count sizes colours n)
fine_orders count sizes colours n front some shape =
    fine_list reading (order_at colours) (OrderShape count) n front (after_orders sizes colours) (order_step count colours n some)
    (subst (λ (c : ℕ). HasAfter count c front) (omega arith) shape)
    (λ orders now l sh. fine_end reading now (bare_mill sizes colours orders))

fine_order_count : (count : ℕ) (sizes : List ℕ) (colours : ℕ) (front : List (List ℕ)) → 1 ≤ colours → HasAfter count (count + 1) front → Fine reading front (after_colours sizes colours)
fine_order_count count sizes colours front some shape =
    fine_number reading Range 0 most_orders front (after_order_count sizes colours) (λ g. g) ((λ kind. kind), not_weight count (count + 1) front shape (λ before e. omega (arith, e))) (omega arith) nothing
    (λ word n is value between. fine_orders count sizes colours n (front ++ word ∷ []) some
    (subst (λ (c : ℕ). HasAfter count c (front ++ word ∷ [])) (omega arith) (one_after count (count + 1) front word shape)))

fine_colours : (count : ℕ) (sizes : List ℕ) (front : List (List ℕ)) → HasAfter count count front → Fine reading front (after_sizes sizes)
fine_colours count sizes front shape =
    fine_number reading Range 1 most_colours front (after_colours sizes) (λ g. g) ((λ kind. kind), not_weight count count front shape (λ before e. omega (arith, e))) (omega arith) one
    (λ word colours is value between. fine_order_count count sizes colours (front ++ word ∷ []) between.0 (one_after count count front word shape))

fine_sizes : (count : ℕ) (word : List ℕ) → digits_value 10 word ≡ count → Fine reading (word ∷ []) (after_size_count count)
fine_sizes count word value =
    fine_list reading (number_at Range 1 most_weight) (SizeShape count) count (word ∷ []) after_sizes (size_step count)
    (record { first = word; after = []; whole = refl; value = value; count = refl })
    (λ sizes now l shape. fine_colours count sizes now (subst (λ (c : ℕ). HasAfter count c now) l shape))

fine_file : Fine reading [] (then_number Range 1 most_sizes after_size_count)
fine_file = fine_number reading Range 1 most_sizes [] after_size_count (λ g. g) ((λ kind. kind), λ none. none) (omega arith) one (λ word count is value between. fine_sizes count word value)

same_file : (left : WordsLeft) → mill_at left ≡ then_number Range 1 most_sizes after_size_count left
unfolding mill_at
same_file left = refl

refuses : (ws : List (List ℕ)) (e : TextFault) → mill_at (at 1 ws) ≡ Err e → Refused reading ws e
refuses ws e h = fine_file.told (λ rest. same_file (at 1 rest)) ws e (sym (same_file (at 1 ws)) ∙ h)

-- ---- the law

reads : (file : List ℕ) (mill : Mill) → mill_at (at 1 (words file)) ≡ Ok mill → IsSomeOrderFile file
reads file mill h = (mill, (order_file_is file mill).0 h)

read_so : (file : List ℕ) → IsSomeOrderFile file → (mill : Mill) × (mill_at (at 1 (words file)) ≡ Ok mill)
read_so file is = (is.0, (order_file_is file is.0).1 is.1)

agrees : Agrees order_grammar reading
agrees = record {
  reads = reads;
  read_so = read_so;
  goes = λ front are g. begins_before IsSomeOrderFile front (g.word ∷ []) (goes_begin IsSomeOrderFile mill_at reads front are g);
  goes_on = λ front are g over. over.none_after g.word (goes_begin IsSomeOrderFile mill_at reads front are g);
  begins = λ front b. b;
  shorter = begins_shorter IsSomeOrderFile;
  never = λ front word e never missing can. begins_never IsSomeOrderFile mill_at read_so front word e never can;
  colours = λ front. ((λ c. c), (λ c. c));
  kinds = λ front. ((λ c. c), (λ c. c));
  refuses = refuses;
}

pub order_files_are_refused_for_first_offences : OrderFilesAreRefusedForFirstOffences
order_files_are_refused_for_first_offences = refuses_first_offences order_grammar reading agrees
