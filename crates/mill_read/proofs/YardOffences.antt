-- Yard files: a refusal is one of the first offence.
use Rattle.std.proofs.Common.{◌≡◌, ◌⊎◌, inl, inr, ℕ, zero, suc, ◌+◌, ◌-◌, ◌≤◌, true, List, [], ◌∷◌, ◌++◌, length, Result, Ok, Err, refl, sym, ap, ◌∙◌, subst, append_assoc, append-nil, arith}
use Rattle.std.proofs.lemmas.List.Elements.{All-from_recursion, recursion_from_All}
use Rattle.std.specs.List.{AllZip, AllByRecursion, flat_map}
use Rattle.std.specs.Str.Parse.{digits_value}
use Rattle.mill_model.specs.Mill.{Bar, Yard, IsBetween, most_weight, most_orders, most_slabs, most_bars}
use Rattle.mill_read.specs.WordsLeft.{WordsLeft}
use Rattle.mill_read.specs.Words.{words, is_number}
use Rattle.mill_read.specs.Tokens.{Token, Numeral, Spells, numerals}
use Rattle.mill_read.specs.Reading.{Read, ◌>>=◌, fault, number_at, list_at, unless_end, no_more}
use Rattle.mill_read.specs.YardFile.{bar_at, bars_at, yard_at, size_tokens}
use Rattle.mill_read.specs.Offences.{IsOver, AnnounceNoBar, yard_grammar, IsSomeYardFile, YardFilesAreRefusedForFirstOffences}
use Rattle.mill_read.specs.declared.fault.TextFault.{TextFault}
use Rattle.mill_read.specs.declared.fault.Why.TheVariants.{Missing, Range}
use Rattle.mill_read.proofs.Readers.{number_reader, list_reader, one_numeral, flat_map-one_numeral, zip_join, zip_parts, gives_word}
use Rattle.mill_read.proofs.YardGrammar.{yard_file_is}
use Rattle.mill_read.proofs.TextOfWords.{AreWords}
use Rattle.mill_read.proofs.Refusals.{at, same_err, fault_of, ok_not_err, Setting, GoesOn, Fine, Told, Refused, ItemStep, then_number, then_item, then_list, list_more, list_done, two_numbers, number_good, one, nothing, told_same, told_number, fine_same, fine_number, fine_list, fine_end}
use Rattle.mill_read.proofs.FirstOffences.{Agrees, regroup, begins_shorter, begins_never, goes_begin, begins_before, refuses_first_offences}

abbrev NoBarAfter : ℕ → List (List ℕ) → Type 0
NoBarAfter orders front = (rest : List (List ℕ)) × AnnounceNoBar orders (front ++ rest)

abbrev reading : ℕ → Setting Yard
reading orders = record { read = yard_at orders; Goes = λ front. GoesOn (yard_at orders) front ⊎ NoBarAfter orders front; Colours = λ front. ⊥; Kinds = λ front. ⊥ }

abbrev yard_of : List ℕ → List Bar → Yard
yard_of sizes bars = record { sizes = sizes; bars = bars }

abbrev bar_of : ℕ → ℕ → Bar
bar_of order slab = (order - 1, slab - 1)

-- a word that spells a number, after others
spelled_more : (front : List (List ℕ)) (tokens : List Token) (word : List ℕ) (n : ℕ) → AllZip Spells front tokens → is_number word ≡ true → digits_value 10 word ≡ n → AllZip Spells (front ++ word ∷ []) (tokens ++ Numeral n ∷ [])
spelled_more front tokens word n spells is value = zip_join front (word ∷ []) tokens (Numeral n ∷ []) spells ((is, value), tt)

-- ---- sizes

-- the sizes so far
record Begun (slabs : ℕ) (sizes : List ℕ) (front : List (List ℕ)) : Type 0 where
  spells : AllZip Spells front (Numeral slabs ∷ numerals sizes)
  each : AllByRecursion (IsBetween 1 most_weight) sizes

numerals_more : (sizes : List ℕ) (n : ℕ) → numerals sizes ++ Numeral n ∷ [] ≡ numerals (sizes ++ n ∷ [])
numerals_more [] n = refl
numerals_more (size ∷ sizes) n = ap (λ (l : List Token). Numeral size ∷ l) (numerals_more sizes n)

each_more : (sizes : List ℕ) (n : ℕ) → AllByRecursion (IsBetween 1 most_weight) sizes → IsBetween 1 most_weight n → AllByRecursion (IsBetween 1 most_weight) (sizes ++ n ∷ [])
each_more [] n h i = (i, tt)
each_more (size ∷ sizes) n h i = (h.0, each_more sizes n h.1 i)

begun_more : (slabs : ℕ) (sizes : List ℕ) (front : List (List ℕ)) (word : List ℕ) (n : ℕ) → Begun slabs sizes front → is_number word ≡ true → digits_value 10 word ≡ n → IsBetween 1 most_weight n → Begun slabs (sizes ++ n ∷ []) (front ++ word ∷ [])
begun_more slabs sizes front word n begun is value between = record {
  spells = subst (λ (l : List Token). AllZip Spells (front ++ word ∷ []) (Numeral slabs ∷ l)) (numerals_more sizes n) (spelled_more front (Numeral slabs ∷ numerals sizes) word n begun.spells is value);
  each = each_more sizes n begun.each between;
}

size_step : (orders slabs : ℕ) → ItemStep (reading orders) (number_at Range 1 most_weight) (Begun slabs) slabs
size_step orders slabs earlier front k less begun fine =
    fine_number (reading orders) Range 1 most_weight front k (λ g. inl g) ((λ kind. kind), λ none. none) (omega arith) one
    (λ word n is value between. fine n (front ++ word ∷ []) (begun_more slabs earlier front word n begun is value between))

-- ---- bars

abbrev after_bars : List ℕ → List Bar → WordsLeft → Result Yard TextFault
after_bars sizes bars left = no_more (yard_of sizes bars) left.number left.words

abbrev after_bar_count : ℕ → ℕ → List ℕ → ℕ → WordsLeft → Result Yard TextFault
after_bar_count orders slabs sizes count = then_list (bar_at orders slabs) count (after_bars sizes)

same_bar : (orders slabs : ℕ) (k : Bar → WordsLeft → Result Yard TextFault) (left : WordsLeft)
    → then_item (bar_at orders slabs) k left ≡ then_number Range 1 orders (λ o. then_number Range 1 slabs (λ s. k (bar_of o s))) left
unfolding bar_at
same_bar orders slabs k left = two_numbers Range 1 orders Range 1 slabs bar_of k left

abbrev BarShape : List Bar → List (List ℕ) → Type 0
BarShape earlier front = Unit {0}

bar_step : (orders slabs total : ℕ) → 1 ≤ orders → 1 ≤ slabs → ItemStep (reading orders) (bar_at orders slabs) BarShape total
bar_step orders slabs total some_order some_slab earlier front k less shape fine =
    fine_same (reading orders) front (then_number Range 1 orders (λ o. then_number Range 1 slabs (λ s. k (bar_of o s)))) (then_item (bar_at orders slabs) k) (same_bar orders slabs k)
    (fine_number (reading orders) Range 1 orders front (λ o. then_number Range 1 slabs (λ s. k (bar_of o s))) (λ g. inl g) ((λ kind. kind), λ none. none) some_order one
    (λ a o is value between. fine_number (reading orders) Range 1 slabs (front ++ a ∷ []) (λ s. k (bar_of o s)) (λ g. inl g) ((λ kind. kind), λ none. none) some_slab one
    (λ b s is_b value_b between_b. fine (bar_of o s) ((front ++ a ∷ []) ++ b ∷ []) tt)))

-- a first bar, and the others
abbrev first_bar : ℕ → ℕ → List ℕ → ℕ → ℕ → WordsLeft → Result Yard TextFault
first_bar orders slabs sizes others order = then_number Range 1 slabs (λ s. then_list (bar_at orders slabs) others (λ bars. after_bars sizes (bar_of order s ∷ bars)))

same_bars : (orders slabs : ℕ) (sizes : List ℕ) (others : ℕ) (left : WordsLeft) → after_bar_count orders slabs sizes (suc others) left ≡ then_number Range 1 orders (first_bar orders slabs sizes others) left
same_bars orders slabs sizes others left =
    list_more (bar_at orders slabs) others (after_bars sizes) left
    ∙ same_bar orders slabs (λ x. then_list (bar_at orders slabs) others (λ bars. after_bars sizes (x ∷ bars))) left

-- what was read before the bars
record Announced (sizes : List ℕ) (count : ℕ) (front : List (List ℕ)) : Type 0 where
  few : length sizes ≤ most_slabs
  each : AllByRecursion (IsBetween 1 most_weight) sizes
  count_is : IsBetween 0 most_bars count
  spells : AllZip Spells front (size_tokens sizes ++ Numeral count ∷ [])

-- without an order no bar can stand
no_order : (sizes : List ℕ) (others : ℕ) (front : List (List ℕ)) → Announced sizes (suc others) front → AnnounceNoBar 0 (front ++ [])
no_order sizes others front a = record {
  sizes = sizes;
  bar_count = suc others;
  few = a.few;
  in_range = All-from_recursion (IsBetween 1 most_weight) sizes a.each;
  some = (omega arith, a.count_is.1);
  words_are = inl (refl, subst (λ (ws : List (List ℕ)). AllZip Spells ws (size_tokens sizes ++ Numeral (suc others) ∷ [])) (sym (append-nil front)) a.spells);
}

told_no_order : (sizes : List ℕ) (others : ℕ) (front : List (List ℕ)) → Announced sizes (suc others) front → Told (reading 0) front (after_bar_count 0 (length sizes) sizes (suc others))
told_no_order sizes others front a =
    told_same (reading 0) front (then_number Range 1 0 (first_bar 0 (length sizes) sizes others)) (after_bar_count 0 (length sizes) sizes (suc others)) (same_bars 0 (length sizes) sizes others)
    (λ resumes ws e h. told_number (reading 0) Range 1 0 front (first_bar 0 (length sizes) sizes others) ((λ kind. kind), λ none. none) (inr ([], no_order sizes others front a))
    (λ word n is value between. absurd (omega (arith, between))) (λ word rest. resumes (word ∷ rest)) ws e h)

-- without a surplus slab none can either, but for the number of its order
no_slab : (orders order others : ℕ) (front : List (List ℕ)) (word : List ℕ) → Announced [] (suc others) front → is_number word ≡ true → digits_value 10 word ≡ order → IsBetween 1 orders order → AnnounceNoBar orders (front ++ word ∷ [])
no_slab orders order others front word a is value between = record {
  sizes = [];
  bar_count = suc others;
  few = a.few;
  in_range = All-from_recursion (IsBetween 1 most_weight) [] a.each;
  some = (omega arith, a.count_is.1);
  words_are = inr (order, between, refl, spelled_more front (size_tokens [] ++ Numeral (suc others) ∷ []) word order a.spells is value);
}

told_slab_of_none : (orders order others : ℕ) (front : List (List ℕ)) (word : List ℕ) → Announced [] (suc others) front → is_number word ≡ true → digits_value 10 word ≡ order → IsBetween 1 orders order
    → Told (reading orders) (front ++ word ∷ []) (first_bar orders 0 [] others order)
told_slab_of_none orders order others front word a is value between resumes ws e h =
    told_number (reading orders) Range 1 0 (front ++ word ∷ []) (λ s. then_list (bar_at orders 0) others (λ bars. after_bars [] (bar_of order s ∷ bars))) ((λ kind. kind), λ none. none)
    (inr ([], subst (AnnounceNoBar orders) (sym (append-nil (front ++ word ∷ []))) (no_slab orders order others front word a is value between)))
    (λ v n is_v value_v between_v. absurd (omega (arith, between_v))) (λ v rest. resumes (v ∷ rest)) ws e h

told_no_slab : (orders others : ℕ) (front : List (List ℕ)) → 1 ≤ orders → Announced [] (suc others) front → Told (reading orders) front (after_bar_count orders 0 [] (suc others))
told_no_slab orders others front some a =
    told_same (reading orders) front (then_number Range 1 orders (first_bar orders 0 [] others)) (after_bar_count orders 0 [] (suc others)) (same_bars orders 0 [] others)
    (λ resumes ws e h. told_number (reading orders) Range 1 orders front (first_bar orders 0 [] others) ((λ kind. kind), λ none. none)
    (inr (one.word ∷ [], no_slab orders 1 others front one.word a one.number one.value (omega arith, some)))
    (λ word order is value between. told_slab_of_none orders order others front word a is value between) (λ word rest. resumes (word ∷ rest)) ws e h)

told_bars : (orders : ℕ) (sizes : List ℕ) (count : ℕ) (front : List (List ℕ)) → Announced sizes count front → Told (reading orders) front (after_bar_count orders (length sizes) sizes count)
told_bars orders sizes zero front a =
    told_same (reading orders) front (after_bars sizes []) (after_bar_count orders (length sizes) sizes 0) (λ left. list_done (bar_at orders (length sizes)) (after_bars sizes) left)
    ((fine_end (reading orders) front (yard_of sizes [])).told)
told_bars zero sizes (suc others) front a = told_no_order sizes others front a
told_bars (suc orders) [] (suc others) front a = told_no_slab (suc orders) others front (omega arith) a
told_bars (suc orders) (size ∷ sizes) (suc others) front a =
    (fine_list (reading (suc orders)) (bar_at (suc orders) (length (size ∷ sizes))) BarShape (suc others) front (after_bars (size ∷ sizes))
    (bar_step (suc orders) (length (size ∷ sizes)) (suc others) (omega arith) (omega arith)) tt
    (λ bars now l shape. fine_end (reading (suc orders)) now (yard_of (size ∷ sizes) bars))).told

-- ---- bars, or the end

abbrev after_sizes : ℕ → ℕ → List ℕ → WordsLeft → Result Yard TextFault
after_sizes orders slabs sizes left = unless_end [] (bars_at orders slabs) left.number left.words >>= λ bars. after_bars sizes bars.0 bars.1

bind_bars : (orders slabs : ℕ) (sizes : List ℕ) (r : Read ℕ)
    → ((r >>= λ count. list_at (bar_at orders slabs) count.0 count.1) >>= λ bars. after_bars sizes bars.0 bars.1) ≡ (r >>= λ count. after_bar_count orders slabs sizes count.0 count.1)
bind_bars orders slabs sizes (Ok count) = refl
bind_bars orders slabs sizes (Err e) = refl

same_after : (orders slabs : ℕ) (sizes : List ℕ) (number : ℕ) (word : List ℕ) (rest : List (List ℕ))
    → after_sizes orders slabs sizes (at number (word ∷ rest)) ≡ then_number Range 0 most_bars (after_bar_count orders slabs sizes) (at number (word ∷ rest))
unfolding bars_at
same_after orders slabs sizes number word rest = bind_bars orders slabs sizes (number_at Range 0 most_bars (at number (word ∷ rest)))

no_bars_read : (orders slabs : ℕ) (sizes : List ℕ) (number : ℕ) → after_sizes orders slabs sizes (at number (nothing.word ∷ [])) ≡ Ok (yard_of sizes [])
no_bars_read orders slabs sizes number =
    same_after orders slabs sizes number nothing.word []
    ∙ number_good Range 0 most_bars (after_bar_count orders slabs sizes) number 0 nothing.word [] (gives_word Range 0 most_bars number nothing.word 0 (omega arith, omega arith) (nothing.number, nothing.value))
    ∙ list_done (bar_at orders slabs) (after_bars sizes) (at (number + 1) [])

told_after : (orders : ℕ) (sizes : List ℕ) (front : List (List ℕ)) → length sizes ≤ most_slabs → Begun (length sizes) sizes front → Told (reading orders) front (after_sizes orders (length sizes) sizes)
told_after orders sizes front few begun resumes [] e h = absurd (ok_not_err (yard_of sizes []) e h)
told_after orders sizes front few begun resumes (word ∷ rest) e h =
    told_number (reading orders) Range 0 most_bars front (after_bar_count orders (length sizes) sizes) ((λ kind. kind), λ none. none)
    (inl (record {
      word = nothing.word;
      more = [];
      are_words = (nothing.is_word, tt);
      value = yard_of sizes [];
      reads = resumes (nothing.word ∷ []) ∙ no_bars_read orders (length sizes) sizes (length front + 1);
    }))
    (λ w n is value between. told_bars orders sizes n (front ++ w ∷ []) (record { few = few; each = begun.each; count_is = between; spells = spelled_more front (size_tokens sizes) w n begun.spells is value }))
    (λ w after. resumes (w ∷ after) ∙ same_after orders (length sizes) sizes (length front + 1) w after)
    (word ∷ rest) e (sym (same_after orders (length sizes) sizes (length front + 1) word rest) ∙ h)

fine_after : (orders : ℕ) (sizes : List ℕ) (front : List (List ℕ)) → length sizes ≤ most_slabs → Begun (length sizes) sizes front → Fine (reading orders) front (after_sizes orders (length sizes) sizes)
fine_after orders sizes front few begun = record { done = ([], tt, yard_of sizes [], refl); told = told_after orders sizes front few begun }

-- ---- the whole file

abbrev after_size_count : ℕ → ℕ → WordsLeft → Result Yard TextFault
after_size_count orders slabs = then_list (number_at Range 1 most_weight) slabs (after_sizes orders slabs)

fine_later : (orders slabs : ℕ) (sizes : List ℕ) (front : List (List ℕ)) → length sizes ≡ slabs → slabs ≤ most_slabs → Begun slabs sizes front → Fine (reading orders) front (after_sizes orders slabs sizes)
fine_later orders slabs sizes front same few begun =
    subst (λ (n : ℕ). Fine (reading orders) front (after_sizes orders n sizes)) same
    (fine_after orders sizes front (omega (arith, same, few)) (subst (λ (n : ℕ). Begun n sizes front) (sym same) begun))

fine_sizes : (orders slabs : ℕ) (word : List ℕ) → is_number word ≡ true → digits_value 10 word ≡ slabs → slabs ≤ most_slabs → Fine (reading orders) (word ∷ []) (after_size_count orders slabs)
fine_sizes orders slabs word is value few =
    fine_list (reading orders) (number_at Range 1 most_weight) (Begun slabs) slabs (word ∷ []) (after_sizes orders slabs) (size_step orders slabs)
    (record { spells = ((is, value), tt); each = tt })
    (λ sizes now same begun. fine_later orders slabs sizes now same few begun)

fine_file : (orders : ℕ) → Fine (reading orders) [] (then_number Range 0 most_slabs (after_size_count orders))
fine_file orders = fine_number (reading orders) Range 0 most_slabs [] (after_size_count orders) (λ g. inl g) ((λ kind. kind), λ none. none) (omega arith) nothing (λ word slabs is value between. fine_sizes orders slabs word is value between.1)

same_file : (orders : ℕ) (left : WordsLeft) → yard_at orders left ≡ then_number Range 0 most_slabs (after_size_count orders) left
unfolding yard_at
same_file orders left = refl

refuses : (orders : ℕ) (ws : List (List ℕ)) (e : TextFault) → yard_at orders (at 1 ws) ≡ Err e → Refused (reading orders) ws e
refuses orders ws e h = (fine_file orders).told (λ rest. same_file orders (at 1 rest)) ws e (sym (same_file orders (at 1 ws)) ∙ h)

-- ---- where bars are announced that can't stand, a word is missing

abbrev Lacks : {A : Type 0} → Result A TextFault → Type 0
Lacks r = (n : ℕ) × (r ≡ fault n Missing)

list_fails : {A : Type 0} (item : WordsLeft → Read A) (count : ℕ) (left : WordsLeft) (e : TextFault) → 1 ≤ count → item left ≡ Err e → list_at item count left ≡ Err e
unfolding list_at
list_fails item zero left e some h = absurd (omega (arith, some))
list_fails {A} item (suc count) left e some h = ap (λ (r : Read A). r >>= λ first. list_at item count first.1 >>= λ others. Ok (first.0 ∷ others.0, others.1)) h

no_bar_at_end : (orders slabs n : ℕ) → bar_at orders slabs (at n []) ≡ fault n Missing
unfolding bar_at number_at
no_bar_at_end orders slabs n = refl

no_slab_at_end : (slabs n : ℕ) → number_at Range 1 slabs (at n []) ≡ fault n Missing
unfolding number_at
no_slab_at_end slabs n = refl

half_a_bar : (orders slabs order number : ℕ) (word : List ℕ) → IsBetween 1 orders order → Spells word (Numeral order) → Lacks (bar_at orders slabs (at number (word ∷ [])))
unfolding bar_at
half_a_bar orders slabs order number word between spells =
    let a = (number_reader Range 1 orders).again (at number (word ∷ [])) (word ∷ []) [] order between (spells, tt) refl in (
      a.0,
      ap (λ (r : Read ℕ). r >>= λ o. number_at Range 1 slabs o.1 >>= λ s. Ok ((o.0 - 1, s.0 - 1), s.1)) a.1
          ∙ ap (λ (r : Read ℕ). r >>= λ s. Ok ((order - 1, s.0 - 1), s.1)) (no_slab_at_end slabs a.0),
    )

lacks_bar : (orders slabs count number : ℕ) (word : List ℕ) → IsBetween 1 most_bars count → Spells word (Numeral count) → Lacks (bars_at orders slabs (at number (word ∷ [])))
unfolding bars_at
lacks_bar orders slabs count number word some spells =
    let a = (number_reader Range 0 most_bars).again (at number (word ∷ [])) (word ∷ []) [] count (omega arith, some.1) (spells, tt) refl in
    (a.0, ap (λ (r : Read ℕ). r >>= λ n. list_at (bar_at orders slabs) n.0 n.1) a.1 ∙ list_fails (bar_at orders slabs) count (at a.0 []) (fault_of a.0 Missing) some.0 (no_bar_at_end orders slabs a.0))

lacks_slab : (orders slabs count order number : ℕ) (word other : List ℕ) → IsBetween 1 most_bars count → IsBetween 1 orders order → Spells word (Numeral count) → Spells other (Numeral order)
    → Lacks (bars_at orders slabs (at number (word ∷ other ∷ [])))
unfolding bars_at
lacks_slab orders slabs count order number word other some between spells spells_other =
    let a = (number_reader Range 0 most_bars).again (at number (word ∷ other ∷ [])) (word ∷ []) (other ∷ []) count (omega arith, some.1) (spells, tt) refl in
    let b = half_a_bar orders slabs order a.0 other between spells_other in
    (b.0, ap (λ (r : Read ℕ). r >>= λ n. list_at (bar_at orders slabs) n.0 n.1) a.1 ∙ list_fails (bar_at orders slabs) count (at a.0 (other ∷ [])) (fault_of b.0 Missing) some.0 b.1)

lacks_one : (orders slabs count : ℕ) (back : List (List ℕ)) → IsBetween 1 most_bars count → AllZip Spells back (Numeral count ∷ []) → (number : ℕ) → Lacks (unless_end [] (bars_at orders slabs) number back)
lacks_one orders slabs count [] some spells number = absurd spells
lacks_one orders slabs count (word ∷ []) some spells number = lacks_bar orders slabs count number word some spells.0
lacks_one orders slabs count (word ∷ other ∷ back) some spells number = absurd spells.1

lacks_two : (orders slabs count order : ℕ) (back : List (List ℕ)) → IsBetween 1 most_bars count → IsBetween 1 orders order → AllZip Spells back (Numeral count ∷ Numeral order ∷ []) → (number : ℕ)
    → Lacks (unless_end [] (bars_at orders slabs) number back)
lacks_two orders slabs count order [] some between spells number = absurd spells
lacks_two orders slabs count order (word ∷ []) some between spells number = absurd spells.1
lacks_two orders slabs count order (word ∷ other ∷ []) some between spells number = lacks_slab orders slabs count order number word other some between spells.0 spells.1.0
lacks_two orders slabs count order (word ∷ other ∷ more ∷ back) some between spells number = absurd spells.1.1

lacks_parts : (orders : ℕ) (left : WordsLeft) (fa fb fd : List (List ℕ)) (sizes : List ℕ) → length sizes ≤ most_slabs → AllByRecursion (IsBetween 1 most_weight) sizes → left.words ≡ fa ++ (fb ++ fd)
    → AllZip Spells fa (Numeral (length sizes) ∷ []) → AllZip Spells fb (flat_map one_numeral sizes)
    → ((number : ℕ) → Lacks (unless_end [] (bars_at orders (length sizes)) number fd)) → Lacks (yard_at orders left)
unfolding yard_at
lacks_parts orders left fa fb fd sizes few each whole sa sb lacks =
    let a = (number_reader Range 0 most_slabs).again left fa (fb ++ fd) (length sizes) (omega arith, few) sa whole in
    let b = (list_reader (number_reader Range 1 most_weight) (length sizes)).again (at a.0 (fb ++ fd)) fb fd sizes (record { length = refl; each = each }) sb refl in
    let d = lacks b.0 in (
      d.0,
      ap (λ (r : Read ℕ). r >>= λ k. list_at (number_at Range 1 most_weight) k.0 k.1 >>= λ s. unless_end [] (bars_at orders k.0) s.1.number s.1.words >>= λ x. no_more (yard_of s.0 x.0) x.1.number x.1.words) a.1
          ∙ ap (λ (r : Read (List ℕ)). r >>= λ s. unless_end [] (bars_at orders (length sizes)) s.1.number s.1.words >>= λ x. no_more (yard_of s.0 x.0) x.1.number x.1.words) b.1
          ∙ ap (λ (r : Read (List Bar)). r >>= λ x. no_more (yard_of sizes x.0) x.1.number x.1.words) d.1,
    )

lacks_after_sizes : (orders : ℕ) (ws : List (List ℕ)) (sizes : List ℕ) (tail : List Token) → length sizes ≤ most_slabs → AllByRecursion (IsBetween 1 most_weight) sizes → AllZip Spells ws (size_tokens sizes ++ tail)
    → ((back : List (List ℕ)) → AllZip Spells back tail → (number : ℕ) → Lacks (unless_end [] (bars_at orders (length sizes)) number back)) → Lacks (yard_at orders (at 1 ws))
lacks_after_sizes orders ws sizes tail few each spells lacks =
    let p = zip_parts ws (size_tokens sizes) tail spells in
    let spelled : AllZip Spells p.first (Numeral (length sizes) ∷ flat_map one_numeral sizes) =
    subst (λ (l : List Token). AllZip Spells p.first (Numeral (length sizes) ∷ l)) (sym (flat_map-one_numeral sizes)) p.firsts in
    let q = zip_parts p.first (Numeral (length sizes) ∷ []) (flat_map one_numeral sizes) spelled in
    lacks_parts orders (at 1 ws) q.first q.second p.second sizes few each
    (p.whole ∙ ap (λ (l : List (List ℕ)). l ++ p.second) q.whole ∙ append_assoc q.first q.second p.second) q.firsts q.seconds (lacks p.second p.seconds)

lacks_word : (orders : ℕ) (ws : List (List ℕ)) → (a : AnnounceNoBar orders ws) → Lacks (yard_at orders (at 1 ws))
lacks_word orders ws a =
    let each = recursion_from_All (IsBetween 1 most_weight) a.sizes a.in_range in
    elim a.words_are [
      | inl one_more ↦ lacks_after_sizes orders ws a.sizes (Numeral a.bar_count ∷ []) a.few each one_more.1 (λ back spells number. lacks_one orders (length a.sizes) a.bar_count back a.some spells number)
      | inr two_more ↦ lacks_after_sizes orders ws a.sizes (Numeral a.bar_count ∷ Numeral two_more.0 ∷ []) a.few each two_more.3
          (λ back spells number. lacks_two orders (length a.sizes) a.bar_count two_more.0 back a.some two_more.1 spells number)
    ]

-- ---- the law

reads : (orders : ℕ) → orders ≤ most_orders → (file : List ℕ) (yard : Yard) → yard_at orders (at 1 (words file)) ≡ Ok yard → IsSomeYardFile orders file
reads orders few file yard h = (yard, (yard_file_is orders file yard few).0 h)

read_so : (orders : ℕ) → orders ≤ most_orders → (file : List ℕ) → IsSomeYardFile orders file → (yard : Yard) × (yard_at orders (at 1 (words file)) ≡ Ok yard)
read_so orders few file is = (is.0, (yard_file_is orders file is.0 few).1 is.1)

goes : (orders : ℕ) → orders ≤ most_orders → (front : List (List ℕ)) → AreWords front → (reading orders).Goes front → (yard_grammar orders).CanStand front
goes orders few front are (inl g) = inl (begins_before (IsSomeYardFile orders) front (g.word ∷ []) (goes_begin (IsSomeYardFile orders) (yard_at orders) (reads orders few) front are g))
goes orders few front are (inr b) = inr b

no_file : (orders : ℕ) → orders ≤ most_orders → (front rest : List (List ℕ)) → AnnounceNoBar orders (front ++ rest) → IsOver (yard_grammar orders) front → ⊥
no_file orders few front [] a over =
    let there : AnnounceNoBar orders (words over.file) = subst (AnnounceNoBar orders) (append-nil front ∙ sym over.words_are) a in
    let lack = lacks_word orders (words over.file) there in
    let v = read_so orders few over.file over.is_file in
    ok_not_err v.0 (fault_of lack.0 Missing) (sym v.1 ∙ lack.1)
no_file orders few front (word ∷ rest) a over = over.none_after word (inr (rest, subst (AnnounceNoBar orders) (regroup front word rest) a))

goes_on : (orders : ℕ) → orders ≤ most_orders → (front : List (List ℕ)) → AreWords front → (reading orders).Goes front → IsOver (yard_grammar orders) front → ⊥
goes_on orders few front are (inl g) over = over.none_after g.word (inl (goes_begin (IsSomeYardFile orders) (yard_at orders) (reads orders few) front are g))
goes_on orders few front are (inr b) over = no_file orders few front b.0 b.1 over

shorter : (orders : ℕ) (front : List (List ℕ)) (word : List ℕ) (rest : List (List ℕ)) → (yard_grammar orders).CanStand (front ++ word ∷ rest) → (yard_grammar orders).CanStand (front ++ word ∷ [])
shorter orders front word rest (inl b) = inl (begins_shorter (IsSomeYardFile orders) front word rest b)
shorter orders front word rest (inr b) = inr (rest ++ b.0, subst (AnnounceNoBar orders) (append_assoc front (word ∷ rest) b.0 ∙ regroup front word (rest ++ b.0)) b.1)

never : (orders : ℕ) → orders ≤ most_orders → (front : List (List ℕ)) (word : List ℕ) (e : TextFault) → ((after : List (List ℕ)) → yard_at orders (at 1 (front ++ word ∷ after)) ≡ Err e) → (e.why ≡ Missing → ⊥)
    → (yard_grammar orders).CanStand (front ++ word ∷ []) → ⊥
never orders few front word e fails missing (inl b) = begins_never (IsSomeYardFile orders) (yard_at orders) (read_so orders few) front word e fails b
never orders few front word e fails missing (inr b) =
    let lack = lacks_word orders ((front ++ word ∷ []) ++ b.0) b.1 in
    missing (ap (λ (x : TextFault). x.why) (same_err e (fault_of lack.0 Missing) (sym (fails b.0) ∙ ap (λ (ws : List (List ℕ)). yard_at orders (at 1 ws)) (regroup front word b.0) ∙ lack.1)))

agrees : (orders : ℕ) → orders ≤ most_orders → Agrees (yard_grammar orders) (reading orders)
agrees orders few = record {
  reads = reads orders few;
  read_so = read_so orders few;
  goes = goes orders few;
  goes_on = goes_on orders few;
  begins = λ front b. inl b;
  shorter = shorter orders;
  never = never orders few;
  colours = λ front. ((λ c. c), (λ c. c));
  kinds = λ front. ((λ c. c), (λ c. c));
  refuses = refuses orders;
}

pub yard_files_are_refused_for_first_offences : YardFilesAreRefusedForFirstOffences
yard_files_are_refused_for_first_offences orders few = refuses_first_offences (yard_grammar orders) (reading orders) (agrees orders few)
