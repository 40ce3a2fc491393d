-- What a refusal shows is a first offence, and a file has one first offence.
use Rattle.std.proofs.Common.{◌≡◌, ℕ, ◌+◌, true, false, List, [], ◌∷◌, ◌++◌, length, Result, Ok, Err, refl, sym, ap, ◌∙◌, subst, append_assoc, append-nil}
use Rattle.std.specs.Prelude.{◌↔◌}
use Rattle.mill_read.specs.WordsLeft.{WordsLeft}
use Rattle.mill_read.specs.Words.{words}
use Rattle.mill_read.specs.Offences.{Grammar, BeginsFile, IsOver, WantsNumber, BreaksRule, Offends, IsFirstOffence}
use Rattle.mill_read.specs.declared.fault.TextFault.{TextFault}
use Rattle.mill_read.specs.declared.fault.Why.{Why}
use Rattle.mill_read.specs.declared.fault.Why.TheVariants.{Missing, NotNumber, Range, Colour, Kind, Extra}
use Rattle.mill_read.proofs.TextOfWords.{AreWords, words_joined, words_before, text_of, words_of_text, are_words}
use Rattle.mill_read.proofs.TwoParts.{Compared, Same, Longer, Shorter, compared}
use Rattle.mill_read.proofs.Refusals.{at, fault_of, ok_not_err, Setting, GoesOn, Ends, Numbers, Breaks, Stops, Refused}

-- what a setting and a grammar have to do with one another
pub record Agrees {B : Type 0} (g : Grammar) (s : Setting B) : Type 0 where
  pub reads : (file : List ℕ) (value : B) → s.read (at 1 (words file)) ≡ Ok value → g.IsFile file
  pub read_so : (file : List ℕ) → g.IsFile file → (value : B) × (s.read (at 1 (words file)) ≡ Ok value)
  pub goes : (front : List (List ℕ)) → AreWords front → s.Goes front → g.CanStand front
  pub goes_on : (front : List (List ℕ)) → AreWords front → s.Goes front → IsOver g front → ⊥
  pub begins : (front : List (List ℕ)) → BeginsFile g.IsFile front → g.CanStand front
  pub shorter : (front : List (List ℕ)) (word : List ℕ) (rest : List (List ℕ)) → g.CanStand (front ++ word ∷ rest) → g.CanStand (front ++ word ∷ [])
  pub never : (front : List (List ℕ)) (word : List ℕ) (e : TextFault) → ((after : List (List ℕ)) → s.read (at 1 (front ++ word ∷ after)) ≡ Err e) → (e.why ≡ Missing → ⊥) → g.CanStand (front ++ word ∷ []) → ⊥
  pub colours : (front : List (List ℕ)) → s.Colours front ↔ g.IsBeforeColour front
  pub kinds : (front : List (List ℕ)) → s.Kinds front ↔ g.IsBeforeKind front
  pub refuses : (ws : List (List ℕ)) (e : TextFault) → s.read (at 1 ws) ≡ Err e → Refused s ws e

-- ---- files that begin with some words

pub regroup : (front : List (List ℕ)) (word : List ℕ) (rest : List (List ℕ)) → front ++ word ∷ rest ≡ (front ++ word ∷ []) ++ rest
regroup front word rest = sym (append_assoc front (word ∷ []) rest)

pub begins_shorter : (IsFile : List ℕ → Type 0) (front : List (List ℕ)) (word : List ℕ) (rest : List (List ℕ)) → BeginsFile IsFile (front ++ word ∷ rest) → BeginsFile IsFile (front ++ word ∷ [])
begins_shorter IsFile front word rest b = (
  b.0,
  b.1,
  rest ++ b.2,
  b.3 ∙ append_assoc front (word ∷ rest) b.2 ∙ regroup front word (rest ++ b.2),
)

pub begins_never : {B : Type 0} (IsFile : List ℕ → Type 0) (read : WordsLeft → Result B TextFault) → ((file : List ℕ) → IsFile file → (value : B) × (read (at 1 (words file)) ≡ Ok value))
    → (front : List (List ℕ)) (word : List ℕ) (e : TextFault) → ((after : List (List ℕ)) → read (at 1 (front ++ word ∷ after)) ≡ Err e) → BeginsFile IsFile (front ++ word ∷ []) → ⊥
begins_never IsFile read read_so front word e never b =
    let v = read_so b.0 b.1 in
    ok_not_err v.0 e (sym v.1 ∙ ap (λ (ws : List (List ℕ)). read (at 1 ws)) (b.3 ∙ sym (regroup front word b.2)) ∙ never b.2)

pub goes_begin : {B : Type 0} (IsFile : List ℕ → Type 0) (read : WordsLeft → Result B TextFault) → ((file : List ℕ) (value : B) → read (at 1 (words file)) ≡ Ok value → IsFile file)
    → (front : List (List ℕ)) → AreWords front → (g : GoesOn read front) → BeginsFile IsFile (front ++ g.word ∷ [])
goes_begin IsFile read reads front are g =
    let same : words (text_of (front ++ g.word ∷ g.more)) ≡ front ++ g.word ∷ g.more = words_of_text (front ++ g.word ∷ g.more) (words_joined front (g.word ∷ g.more) are g.are_words) in (
      text_of (front ++ g.word ∷ g.more),
      reads (text_of (front ++ g.word ∷ g.more)) g.value (ap (λ (ws : List (List ℕ)). read (at 1 ws)) same ∙ g.reads),
      g.more,
      same ∙ regroup front g.word g.more,
    )

pub begins_before : (IsFile : List ℕ → Type 0) (front rest : List (List ℕ)) → BeginsFile IsFile (front ++ rest) → BeginsFile IsFile front
begins_before IsFile front rest b = (b.0, b.1, rest ++ b.2, b.3 ∙ append_assoc front rest b.2)

-- ---- what a refusal shows

is_over : {B : Type 0} (g : Grammar) (s : Setting B) → Agrees g s → (front : List (List ℕ)) → AreWords front → Ends s.read front → IsOver g front
is_over g s agrees front are ends =
    let same : words (text_of front) ≡ front = words_of_text front are in
    record {
      file = text_of front;
      is_file = agrees.reads (text_of front) ends.value (ap (λ (ws : List (List ℕ)). s.read (at 1 ws)) same ∙ ends.whole);
      words_are = same;
      none_after = λ word can. agrees.never front word (fault_of (length front + 1) Extra) (ends.none word) (λ is. cc is) can;
    }

wants_number : {B : Type 0} (g : Grammar) (s : Setting B) → Agrees g s → (front : List (List ℕ)) → AreWords front → Numbers s front → WantsNumber g front
wants_number g s agrees front are n = (agrees.goes_on front are n.0, λ kind. n.1 ((agrees.kinds front).1 kind))

breaks_rule : {B : Type 0} (g : Grammar) (s : Setting B) → Agrees g s → (front : List (List ℕ)) (word : List ℕ) (why : Why) → AreWords front → Breaks s front word why → BreaksRule g front word why
breaks_rule g s agrees front word Extra are b = is_over g s agrees front are b
breaks_rule g s agrees front word NotNumber are b = (wants_number g s agrees front are b.0, b.1)
breaks_rule g s agrees front word Range are b = (wants_number g s agrees front are b.0, b.1, λ colour. b.2 ((agrees.colours front).1 colour))
breaks_rule g s agrees front word Colour are b = (wants_number g s agrees front are b.0, b.1, (agrees.colours front).0 b.2)
breaks_rule g s agrees front word Kind are b = (agrees.goes_on front are b.0, (agrees.kinds front).0 b.1, b.2, b.3)
breaks_rule g s agrees front word Missing are b = absurd b

stand_before : {B : Type 0} (g : Grammar) (s : Setting B) → Agrees g s → (front : List (List ℕ)) (word : List ℕ) (why : Why) → AreWords front → Breaks s front word why → g.CanStand front
stand_before g s agrees front word Extra are b =
    let over = is_over g s agrees front are b in
    agrees.begins front (over.file, over.is_file, [], over.words_are ∙ sym (append-nil front))
stand_before g s agrees front word NotNumber are b = agrees.goes front are b.0.0
stand_before g s agrees front word Range are b = agrees.goes front are b.0.0
stand_before g s agrees front word Colour are b = agrees.goes front are b.0.0
stand_before g s agrees front word Missing are b = absurd b
stand_before g s agrees front word Kind are b = agrees.goes front are b.0

can_stand : {B : Type 0} (g : Grammar) (s : Setting B) → Agrees g s → (front rest : List (List ℕ)) (e : TextFault) → AreWords front → Stops s front rest e → g.CanStand front
can_stand g s agrees front [] e are stops = agrees.goes front are stops.0
can_stand g s agrees front (word ∷ rest) e are stops = stand_before g s agrees front word e.why are stops.1

offends : {B : Type 0} (g : Grammar) (s : Setting B) → Agrees g s → (file : List ℕ) (front rest : List (List ℕ)) (e : TextFault) → AreWords front → s.read (at 1 (words file)) ≡ Err e → Stops s front rest e
    → Offends g file front rest e.why
offends g s agrees file front [] e are is stops = ((λ good. let v = agrees.read_so file good in ok_not_err v.0 e (sym v.1 ∙ is)), stops.1)
offends g s agrees file front (word ∷ rest) e are is stops = (
  (λ can. agrees.never front word e stops.0 (λ missing. subst (λ (why : Why). Breaks s front word why) missing stops.1) can),
  breaks_rule g s agrees front word e.why are stops.1,
)

first_offence : {B : Type 0} (g : Grammar) (s : Setting B) → Agrees g s → (file : List ℕ) (e : TextFault) → s.read (at 1 (words file)) ≡ Err e → IsFirstOffence g file e
first_offence g s agrees file e is =
    let r = agrees.refuses (words file) e is in
    let are : AreWords r.before = words_before r.before r.rest (subst (λ (ws : List (List ℕ)). AreWords ws) r.whole (are_words file)) in
    record {
      front = r.before;
      rest = r.rest;
      words_are = r.whole;
      number = r.number;
      can_stand = can_stand g s agrees r.before r.rest e are r.stops;
      offends = offends g s agrees file r.before r.rest e are is r.stops;
    }

-- ---- a file has one first offence

same_rule : (g : Grammar) (front : List (List ℕ)) (word : List ℕ) (x y : Why) → BreaksRule g front word x → BreaksRule g front word y → x ≡ y
same_rule g front word Extra Extra a b = refl
same_rule g front word Extra NotNumber a b = absurd (b.0.0 a)
same_rule g front word Extra Range a b = absurd (b.0.0 a)
same_rule g front word Extra Colour a b = absurd (b.0.0 a)
same_rule g front word Extra Kind a b = absurd (b.0 a)
same_rule g front word Extra Missing a b = absurd b
same_rule g front word NotNumber Extra a b = absurd (a.0.0 b)
same_rule g front word NotNumber NotNumber a b = refl
same_rule g front word NotNumber Range a b = let e : true ≡ false = sym b.1 ∙ a.1 in cc e
same_rule g front word NotNumber Colour a b = let e : true ≡ false = sym b.1 ∙ a.1 in cc e
same_rule g front word NotNumber Kind a b = absurd (a.0.1 b.1)
same_rule g front word NotNumber Missing a b = absurd b
same_rule g front word Range Extra a b = absurd (a.0.0 b)
same_rule g front word Range NotNumber a b = let e : true ≡ false = sym a.1 ∙ b.1 in cc e
same_rule g front word Range Range a b = refl
same_rule g front word Range Colour a b = absurd (a.2 b.2)
same_rule g front word Range Kind a b = absurd (a.0.1 b.1)
same_rule g front word Range Missing a b = absurd b
same_rule g front word Colour Extra a b = absurd (a.0.0 b)
same_rule g front word Colour NotNumber a b = let e : true ≡ false = sym a.1 ∙ b.1 in cc e
same_rule g front word Colour Range a b = absurd (b.2 a.2)
same_rule g front word Colour Colour a b = refl
same_rule g front word Colour Kind a b = absurd (a.0.1 b.1)
same_rule g front word Colour Missing a b = absurd b
same_rule g front word Kind Extra a b = absurd (a.0 b)
same_rule g front word Kind NotNumber a b = absurd (b.0.1 a.1)
same_rule g front word Kind Range a b = absurd (b.0.1 a.1)
same_rule g front word Kind Colour a b = absurd (b.0.1 a.1)
same_rule g front word Kind Kind a b = refl
same_rule g front word Kind Missing a b = absurd b
same_rule g front word Missing y a b = absurd a

same_why : (g : Grammar) (file : List ℕ) (front rest : List (List ℕ)) (x y : Why) → Offends g file front rest x → Offends g file front rest y → x ≡ y
same_why g file front [] x y a b = a.1 ∙ sym b.1
same_why g file front (word ∷ rest) x y a b = same_rule g front word x y a.1 b.1

-- where a word can't stand, no longer words can
none_longer : {B : Type 0} (g : Grammar) (s : Setting B) → Agrees g s → (file : List ℕ) (front rest later : List (List ℕ)) (word : List ℕ) (more after : List (List ℕ)) (why : Why)
    → Offends g file front rest why → rest ≡ word ∷ after → later ≡ front ++ word ∷ more → g.CanStand later → ⊥
none_longer g s agrees file front rest later word more after why bad is longer can =
    let there : Offends g file front (word ∷ after) why = subst (λ (r : List (List ℕ)). Offends g file front r why) is bad in
    there.0 (agrees.shorter front word more (subst g.CanStand longer can))

same_fault : (x y : TextFault) → x.word ≡ y.word → x.why ≡ y.why → x ≡ y
same_fault x y p q = ap (λ (n : ℕ). fault_of n x.why) p ∙ ap (λ (w : Why). fault_of y.word w) q

one_offence : {B : Type 0} (g : Grammar) (s : Setting B) → Agrees g s → (file : List ℕ) (x y : TextFault) → (a : IsFirstOffence g file x) → (b : IsFirstOffence g file y) → Compared a.front a.rest b.front b.rest → x ≡ y
one_offence g s agrees file x y a b (Same p q) =
    let there : Offends g file b.front b.rest x.why =
    subst (λ (r : List (List ℕ)). Offends g file b.front r x.why) q (subst (λ (f : List (List ℕ)). Offends g file f a.rest x.why) p a.offends) in
    same_fault x y (a.number ∙ ap (λ (f : List (List ℕ)). length f + 1) p ∙ sym b.number) (same_why g file b.front b.rest x.why y.why there b.offends)
one_offence g s agrees file x y a b (Longer word more p q) = absurd (none_longer g s agrees file a.front a.rest b.front word more (more ++ b.rest) x.why a.offends q p b.can_stand)
one_offence g s agrees file x y a b (Shorter word more p q) = absurd (none_longer g s agrees file b.front b.rest a.front word more (more ++ a.rest) y.why b.offends q p a.can_stand)

never_read : {B : Type 0} (g : Grammar) (s : Setting B) → Agrees g s → (file : List ℕ) (front rest : List (List ℕ)) (why : Why) (value : B)
    → words file ≡ front ++ rest → Offends g file front rest why → s.read (at 1 (words file)) ≡ Ok value → ⊥
never_read g s agrees file front [] why value are bad is = bad.0 (agrees.reads file value is)
never_read g s agrees file front (word ∷ rest) why value are bad is =
    bad.0 (agrees.begins (front ++ word ∷ []) (file, agrees.reads file value is, rest, are ∙ regroup front word rest))

refused_so : {B : Type 0} (g : Grammar) (s : Setting B) → Agrees g s → (file : List ℕ) (e : TextFault) (a : IsFirstOffence g file e) (r : Result B TextFault) → s.read (at 1 (words file)) ≡ r → s.read (at 1 (words file)) ≡ Err e
refused_so g s agrees file e a (Ok value) is = absurd (never_read g s agrees file a.front a.rest e.why value a.words_are a.offends is)
refused_so g s agrees file e a (Err x) is =
    let b = first_offence g s agrees file x is in
    is ∙ ap (λ (f : TextFault). Err f) (one_offence g s agrees file x e b a (compared b.front b.rest a.front a.rest (sym b.words_are ∙ a.words_are)))

pub refuses_first_offences : {B : Type 0} (g : Grammar) (s : Setting B) → Agrees g s → (file : List ℕ) (e : TextFault) → (s.read (at 1 (words file)) ≡ Err e) ↔ IsFirstOffence g file e
refuses_first_offences g s agrees file e = (first_offence g s agrees file e, λ a. refused_so g s agrees file e a (s.read (at 1 (words file))) refl)
