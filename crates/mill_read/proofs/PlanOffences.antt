-- Plan files: a refusal is one of the first offence.
use Rattle.std.proofs.Common.{◌≡◌, ℕ, ◌+◌, ◌-◌, ◌*◌, ◌<◌, Bool, List, [], ◌∷◌, ◌++◌, length, Result, Ok, Err, refl, sym, ◌∙◌, subst, arith}
use Rattle.std.proofs.lemmas.List.{length-append}
use Rattle.std.specs.Str.Parse.{digits_value}
use Rattle.mill_model.specs.Plans.{Plan}
use Rattle.mill_model.specs.declared.kind.Kind.{Kind}
use Rattle.mill_read.specs.WordsLeft.{WordsLeft}
use Rattle.mill_read.specs.Words.{words}
use Rattle.mill_read.specs.Reading.{Read, ◌>>=◌, number_at, no_more}
use Rattle.mill_read.specs.SlabWords.{is_new_at}
use Rattle.mill_read.specs.PlanFile.{kind_of, kind_at, place_at, plan_at, most_number, most_plan_slabs}
use Rattle.mill_read.specs.Offences.{EndBeforeSlab, plan_grammar, IsSomePlanFile, PlanFilesAreRefusedForFirstOffences}
use Rattle.mill_read.specs.declared.fault.TextFault.{TextFault}
use Rattle.mill_read.specs.declared.fault.Why.TheVariants.{Range}
use Rattle.mill_read.proofs.PlanGrammar.{plan_file_is}
use Rattle.mill_read.proofs.WordsAfter.{HasAfter, one_after}
use Rattle.mill_read.proofs.Refusals.{at, Setting, GoesOn, Fine, Refused, ItemStep, then_number, then_kind, then_item, then_list, one, nothing, fine_same, fine_number, fine_kind, fine_list, fine_end}
use Rattle.mill_read.proofs.FirstOffences.{Agrees, begins_shorter, begins_never, goes_begin, begins_before, refuses_first_offences}

abbrev reading : ℕ → Setting Plan
reading orders = record { read = plan_at orders; Goes = GoesOn (plan_at orders); Colours = λ front. ⊥; Kinds = EndBeforeSlab }

-- ---- words before new or old

not_slab : (count others : ℕ) (front : List (List ℕ)) → HasAfter count others front → ((before : ℕ) → before < count → others ≡ 2 * before → ⊥) → EndBeforeSlab front → ⊥
not_slab count others front h never ends =
    let there : EndBeforeSlab (h.first ∷ h.after) = subst EndBeforeSlab h.whole ends in
    never there.0 (omega (arith, there.1, h.value)) (omega (arith, there.2, h.count))

slab : (count others : ℕ) (front : List (List ℕ)) → HasAfter count others front → (before : ℕ) → before < count → others ≡ 2 * before → EndBeforeSlab front
slab count others front h before less is =
    let there : EndBeforeSlab (h.first ∷ h.after) = (before, omega (arith, less, h.value), omega (arith, is, h.count)) in
    subst EndBeforeSlab (sym h.whole) there

-- ---- slabs

abbrev with_kind : Bool → Read ℕ → Read Kind
with_kind is_new r = r >>= λ n. Ok (kind_of is_new n.0, n.1)

number_then : (k : Kind → WordsLeft → Result Plan TextFault) (is_new : Bool) (r : Read ℕ)
    → (with_kind is_new r >>= λ x. k x.0 x.1) ≡ (r >>= λ n. k (kind_of is_new n.0) n.1)
number_then k is_new (Ok n) = refl
number_then k is_new (Err e) = refl

abbrev with_number : Bool → WordsLeft → Read Kind
with_number is_new left = with_kind is_new (number_at Range 1 most_number left)

kind_then : (k : Kind → WordsLeft → Result Plan TextFault) (r : Read Bool)
    → ((r >>= λ b. with_number b.0 b.1) >>= λ x. k x.0 x.1) ≡ (r >>= λ b. then_number Range 1 most_number (λ n. k (kind_of b.0 n)) b.1)
kind_then k (Ok b) = number_then k b.0 (number_at Range 1 most_number b.1)
kind_then k (Err e) = refl

same_kind : (k : Kind → WordsLeft → Result Plan TextFault) (left : WordsLeft) → then_item kind_at k left ≡ then_kind (λ b. then_number Range 1 most_number (λ n. k (kind_of b n))) left
unfolding kind_at
same_kind k left = kind_then k (is_new_at left)

abbrev SlabShape : ℕ → List Kind → List (List ℕ) → Type 0
SlabShape count earlier front = HasAfter count (2 * length earlier) front

slab_shape : (count : ℕ) (earlier : List Kind) (kind : Kind) (front : List (List ℕ)) (a b : List ℕ) → SlabShape count earlier front → SlabShape count (earlier ++ kind ∷ []) ((front ++ a ∷ []) ++ b ∷ [])
slab_shape count earlier kind front a b shape =
    let more : 2 * length earlier + 1 + 1 ≡ 2 * length (earlier ++ kind ∷ []) = omega (arith, length-append earlier (kind ∷ [])) in
    subst (λ (c : ℕ). HasAfter count c ((front ++ a ∷ []) ++ b ∷ [])) more (one_after count (2 * length earlier + 1) (front ++ a ∷ []) b (one_after count (2 * length earlier) front a shape))

kind_step : (orders count : ℕ) → ItemStep (reading orders) kind_at (SlabShape count) count
kind_step orders count earlier front k less shape fine =
    fine_same (reading orders) front (then_kind (λ b. then_number Range 1 most_number (λ n. k (kind_of b n)))) (then_item kind_at k) (same_kind k)
    (fine_kind (reading orders) front (λ b. then_number Range 1 most_number (λ n. k (kind_of b n))) (λ g. g) (slab count (2 * length earlier) front shape (length earlier) less refl)
    (λ a is_new. fine_number (reading orders) Range 1 most_number (front ++ a ∷ []) (λ n. k (kind_of is_new n)) (λ g. g)
    (not_slab count (2 * length earlier + 1) (front ++ a ∷ []) (one_after count (2 * length earlier) front a shape) (λ before l e. omega (arith, e)), λ none. none) (omega arith) one
    (λ b n is value between. fine (kind_of is_new n) ((front ++ a ∷ []) ++ b ∷ []) (slab_shape count earlier (kind_of is_new n) front a b shape))))

-- ---- places

abbrev place_of : ℕ → WordsLeft → Read ℕ
place_of n left = Ok (n - 1, left)

place_then : (k : ℕ → WordsLeft → Result Plan TextFault) (r : Read ℕ) → ((r >>= λ n. place_of n.0 n.1) >>= λ x. k x.0 x.1) ≡ (r >>= λ n. k (n.0 - 1) n.1)
place_then k (Ok n) = refl
place_then k (Err e) = refl

same_place : (k : ℕ → WordsLeft → Result Plan TextFault) (left : WordsLeft) → then_item place_at k left ≡ then_number Range 1 most_number (λ n. k (n - 1)) left
unfolding place_at
same_place k left = place_then k (number_at Range 1 most_number left)

abbrev PlaceShape : ℕ → List ℕ → List (List ℕ) → Type 0
PlaceShape count earlier front = HasAfter count (2 * count + length earlier) front

place_shape : (count : ℕ) (earlier : List ℕ) (place : ℕ) (front : List (List ℕ)) (a : List ℕ) → PlaceShape count earlier front → PlaceShape count (earlier ++ place ∷ []) (front ++ a ∷ [])
place_shape count earlier place front a shape =
    let more : 2 * count + length earlier + 1 ≡ 2 * count + length (earlier ++ place ∷ []) = omega (arith, length-append earlier (place ∷ [])) in
    subst (λ (c : ℕ). HasAfter count c (front ++ a ∷ [])) more (one_after count (2 * count + length earlier) front a shape)

place_step : (orders count : ℕ) → ItemStep (reading orders) place_at (PlaceShape count) orders
place_step orders count earlier front k less shape fine =
    fine_same (reading orders) front (then_number Range 1 most_number (λ n. k (n - 1))) (then_item place_at k) (same_place k)
    (fine_number (reading orders) Range 1 most_number front (λ n. k (n - 1)) (λ g. g) (not_slab count (2 * count + length earlier) front shape (λ before l e. omega (arith, l, e)), λ none. none) (omega arith) one
    (λ a n is value between. fine (n - 1) (front ++ a ∷ []) (place_shape count earlier (n - 1) front a shape)))

-- ---- the whole file

abbrev plan_of : List Kind → List ℕ → Plan
plan_of kinds place = record { kinds = kinds; place = place }

abbrev after_places : List Kind → List ℕ → WordsLeft → Result Plan TextFault
after_places kinds place left = no_more (plan_of kinds place) left.number left.words

abbrev after_kinds : ℕ → List Kind → WordsLeft → Result Plan TextFault
after_kinds orders kinds = then_list place_at orders (after_places kinds)

abbrev after_count : ℕ → ℕ → WordsLeft → Result Plan TextFault
after_count orders count = then_list kind_at count (after_kinds orders)

fine_places : (orders count : ℕ) (kinds : List Kind) (front : List (List ℕ)) → length kinds ≡ count → SlabShape count kinds front → Fine (reading orders) front (after_kinds orders kinds)
fine_places orders count kinds front same shape =
    let start : 2 * length kinds ≡ 2 * count + 0 = omega (arith, same) in
    fine_list (reading orders) place_at (PlaceShape count) orders front (after_places kinds) (place_step orders count) (subst (λ (c : ℕ). HasAfter count c front) start shape)
    (λ place now l sh. fine_end (reading orders) now (plan_of kinds place))

fine_kinds : (orders count : ℕ) (word : List ℕ) → digits_value 10 word ≡ count → Fine (reading orders) (word ∷ []) (after_count orders count)
fine_kinds orders count word value =
    fine_list (reading orders) kind_at (SlabShape count) count (word ∷ []) (after_kinds orders) (kind_step orders count)
    (record { first = word; after = []; whole = refl; value = value; count = omega arith })
    (λ kinds now same shape. fine_places orders count kinds now same shape)

fine_file : (orders : ℕ) → Fine (reading orders) [] (then_number Range 0 most_plan_slabs (after_count orders))
fine_file orders =
    fine_number (reading orders) Range 0 most_plan_slabs [] (after_count orders) (λ g. g) ((λ kind. kind), λ none. none) (omega arith) nothing (λ word count is value between. fine_kinds orders count word value)

same_file : (orders : ℕ) (left : WordsLeft) → plan_at orders left ≡ then_number Range 0 most_plan_slabs (after_count orders) left
unfolding plan_at
same_file orders left = refl

refuses : (orders : ℕ) (ws : List (List ℕ)) (e : TextFault) → plan_at orders (at 1 ws) ≡ Err e → Refused (reading orders) ws e
refuses orders ws e h = (fine_file orders).told (λ rest. same_file orders (at 1 rest)) ws e (sym (same_file orders (at 1 ws)) ∙ h)

-- ---- the law

reads : (orders : ℕ) (file : List ℕ) (plan : Plan) → plan_at orders (at 1 (words file)) ≡ Ok plan → IsSomePlanFile orders file
reads orders file plan h = (plan, (plan_file_is orders file plan).0 h)

read_so : (orders : ℕ) (file : List ℕ) → IsSomePlanFile orders file → (plan : Plan) × (plan_at orders (at 1 (words file)) ≡ Ok plan)
read_so orders file is = (is.0, (plan_file_is orders file is.0).1 is.1)

agrees : (orders : ℕ) → Agrees (plan_grammar orders) (reading orders)
agrees orders = record {
  reads = reads orders;
  read_so = read_so orders;
  goes = λ front are g. begins_before (IsSomePlanFile orders) front (g.word ∷ []) (goes_begin (IsSomePlanFile orders) (plan_at orders) (reads orders) front are g);
  goes_on = λ front are g over. over.none_after g.word (goes_begin (IsSomePlanFile orders) (plan_at orders) (reads orders) front are g);
  begins = λ front b. b;
  shorter = begins_shorter (IsSomePlanFile orders);
  never = λ front word e never missing can. begins_never (IsSomePlanFile orders) (plan_at orders) (read_so orders) front word e never can;
  colours = λ front. ((λ c. c), (λ c. c));
  kinds = λ front. ((λ c. c), (λ c. c));
  refuses = refuses orders;
}

pub plan_files_are_refused_for_first_offences : PlanFilesAreRefusedForFirstOffences
plan_files_are_refused_for_first_offences orders = refuses_first_offences (plan_grammar orders) (reading orders) (agrees orders)
