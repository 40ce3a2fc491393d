-- Readings that refuse a file for its first offence, step by step: what is known of the words before a place, where reading goes
-- on there in some way.
use Rattle.std.proofs.Common.{◌≡◌, ℕ, zero, suc, ◌+◌, ◌<◌, ◌≤◌, Bool, true, false, cond, ◌&&◌, List, [], ◌∷◌, ◌++◌, length, Result, Ok, Err, refl, sym, ap, ◌∙◌, subst, append_assoc, append-nil, arith, leb}
use Rattle.std.proofs.lemmas.List.{length-append}
use Rattle.std.proofs.lemmas.List.Elements.{All-from_recursion}
use Rattle.std.specs.Str.{bytes_eq}
use Rattle.std.specs.Str.Parse.{digits_value}
use Rattle.std.proofs.lemmas.Slice.Eq.{bytes_eq-Decides}
use Rattle.mill_model.specs.Mill.{IsBetween}
use Rattle.mill_read.specs.WordsLeft.{WordsLeft}
use Rattle.mill_read.specs.Words.{is_number, is_space}
use Rattle.mill_read.specs.Reading.{Read, ◌>>=◌, fault, number_in, number_at, list_at, no_more}
use Rattle.mill_read.specs.SlabWords.{is_new_in, is_new_at, new_word, old_word}
use Rattle.mill_read.specs.declared.fault.TextFault.{TextFault}
use Rattle.mill_read.specs.declared.fault.Why.{Why}
use Rattle.mill_read.specs.declared.fault.Why.TheVariants.{Missing, NotNumber, Range, Colour, Kind, Extra}
use Rattle.mill_read.proofs.Readers.{in_range, gives_word}
use Rattle.mill_read.proofs.TextOfWords.{IsWord, AreWords}

abbrev pub at : ℕ → List (List ℕ) → WordsLeft
at number words = record { number = number; words = words }

abbrev pub err : {A : Type 0} → TextFault → Result A TextFault
err e = Err e

abbrev pub fault_of : ℕ → Why → TextFault
fault_of number why = record { word = number; why = why }

pub same_err : {A : Type 0} (x y : TextFault) → err {A = A} x ≡ err y → x ≡ y
same_err x y h = cc

pub ok_not_err : {A : Type 0} (x : A) (e : TextFault) → (let r : Result A TextFault = Ok x in r ≡ Err e) → ⊥
ok_not_err x e h = cc

-- a reading of a whole file, what is shown of words that stand, and which words stand before a colour, and before new or old
pub record Setting (B : Type 0) : Type 1 where
  pub read : WordsLeft → Result B TextFault
  pub Goes : List (List ℕ) → Type 0
  pub Colours : List (List ℕ) → Type 0
  pub Kinds : List (List ℕ) → Type 0

-- with one word more at least, these are read
pub record GoesOn {B : Type 0} (read : WordsLeft → Result B TextFault) (before : List (List ℕ)) : Type 0 where
  pub word : List ℕ
  pub more : List (List ℕ)
  pub are_words : AreWords (word ∷ more)
  pub value : B
  pub reads : read (at 1 (before ++ word ∷ more)) ≡ Ok value

-- these are read, and with one word more they never are
pub record Ends {B : Type 0} (read : WordsLeft → Result B TextFault) (before : List (List ℕ)) : Type 0 where
  pub value : B
  pub whole : read (at 1 before) ≡ Ok value
  pub none : (word : List ℕ) (after : List (List ℕ)) → read (at 1 (before ++ word ∷ after)) ≡ fault (length before + 1) Extra

-- words stand here, before a number
abbrev pub Numbers : {B : Type 0} → Setting B → List (List ℕ) → Type 0
Numbers s before = s.Goes before × (s.Kinds before → ⊥)

abbrev pub Breaks : {B : Type 0} → Setting B → List (List ℕ) → List ℕ → Why → Type 0
Breaks s before word Extra = Ends s.read before
Breaks s before word NotNumber = Numbers s before × (is_number word ≡ false)
Breaks s before word Range = Numbers s before × (is_number word ≡ true) × (s.Colours before → ⊥)
Breaks s before word Colour = Numbers s before × (is_number word ≡ true) × s.Colours before
Breaks s before word Kind = s.Goes before × s.Kinds before × (word ≡ new_word → ⊥) × (word ≡ old_word → ⊥)
Breaks s before word Missing = ⊥

abbrev pub Stops : {B : Type 0} → Setting B → List (List ℕ) → List (List ℕ) → TextFault → Type 0
Stops s before [] e = s.Goes before × (e.why ≡ Missing)
Stops s before (word ∷ rest) e = ((after : List (List ℕ)) → s.read (at 1 (before ++ word ∷ after)) ≡ Err e) × Breaks s before word e.why

-- what a refusal of these words shows
pub record Refused {B : Type 0} (s : Setting B) (words : List (List ℕ)) (e : TextFault) : Type 0 where
  pub before : List (List ℕ)
  pub rest : List (List ℕ)
  pub whole : words ≡ before ++ rest
  pub number : e.word ≡ length before + 1
  pub stops : Stops s before rest e

-- after these words the reading goes on so
abbrev pub Resumes : {B : Type 0} → Setting B → List (List ℕ) → (WordsLeft → Result B TextFault) → Type 0
Resumes s front f = (rest : List (List ℕ)) → s.read (at 1 (front ++ rest)) ≡ f (at (length front + 1) rest)

-- and so where a word is left
abbrev pub ResumesAtWord : {B : Type 0} → Setting B → List (List ℕ) → (WordsLeft → Result B TextFault) → Type 0
ResumesAtWord s front f = (word : List ℕ) (rest : List (List ℕ)) → s.read (at 1 (front ++ word ∷ rest)) ≡ f (at (length front + 1) (word ∷ rest))

-- where the reading goes on so, each refusal is one of the first offence
abbrev pub Told : {B : Type 0} → Setting B → List (List ℕ) → (WordsLeft → Result B TextFault) → Type 0
Told s front f = Resumes s front f → (words : List (List ℕ)) (e : TextFault) → f (at (length front + 1) words) ≡ Err e → Refused s (front ++ words) e

-- some words are read to the end
abbrev pub Done : {B : Type 0} → (WordsLeft → Result B TextFault) → ℕ → Type 0
Done {B} f number = (on : List (List ℕ)) × AreWords on × (value : B) × (f (at number on) ≡ Ok value)

pub record Fine {B : Type 0} (s : Setting B) (front : List (List ℕ)) (f : WordsLeft → Result B TextFault) : Type 0 where
  pub done : Done f (length front + 1)
  pub told : Told s front f

-- ---- readings that give the same

pub told_same : {B : Type 0} (s : Setting B) (front : List (List ℕ)) (f g : WordsLeft → Result B TextFault) → ((left : WordsLeft) → g left ≡ f left) → Told s front f → Told s front g
told_same s front f g same told resumes words e h = told (λ rest. resumes rest ∙ same (at (length front + 1) rest)) words e (sym (same (at (length front + 1) words)) ∙ h)

pub fine_same : {B : Type 0} (s : Setting B) (front : List (List ℕ)) (f g : WordsLeft → Result B TextFault) → ((left : WordsLeft) → g left ≡ f left) → Fine s front f → Fine s front g
fine_same s front f g same fine = record {
  done = (fine.done.0, fine.done.1, fine.done.2, same (at (length front + 1) fine.done.0) ∙ fine.done.3);
  told = told_same s front f g same fine.told;
}

-- ---- a number

pub one_more : (front : List (List ℕ)) (word : List ℕ) → length front + 1 + 1 ≡ length (front ++ word ∷ []) + 1
one_more front word = omega (arith, length-append front (word ∷ []))

-- which words stand before a number whose range has this why
abbrev pub OutsideIs : {B : Type 0} → Setting B → List (List ℕ) → Why → Type 0
OutsideIs s front Range = (s.Kinds front → ⊥) × (s.Colours front → ⊥)
OutsideIs s front Colour = (s.Kinds front → ⊥) × s.Colours front
OutsideIs s front Missing = ⊥
OutsideIs s front NotNumber = ⊥
OutsideIs s front Kind = ⊥
OutsideIs s front Extra = ⊥

no_kind : {B : Type 0} (s : Setting B) (front : List (List ℕ)) (outside : Why) → OutsideIs s front outside → s.Kinds front → ⊥
no_kind s front Range o = o.0
no_kind s front Colour o = o.0
no_kind s front Missing o = absurd o
no_kind s front NotNumber o = absurd o
no_kind s front Kind o = absurd o
no_kind s front Extra o = absurd o

breaks_outside : {B : Type 0} (s : Setting B) (front : List (List ℕ)) (word : List ℕ) (outside : Why) → OutsideIs s front outside → s.Goes front → is_number word ≡ true → Breaks s front word outside
breaks_outside s front word Range o g n = ((g, o.0), n, o.1)
breaks_outside s front word Colour o g n = ((g, o.0), n, o.1)
breaks_outside s front word Missing o g n = absurd o
breaks_outside s front word NotNumber o g n = absurd o
breaks_outside s front word Kind o g n = absurd o
breaks_outside s front word Extra o g n = absurd o

-- a word is a number of the range, or the why of what it isn't
pub data Tested (outside : Why) (low high : ℕ) (word : List ℕ) : Type 0 where
  Good : is_number word ≡ true → IsBetween low high (digits_value 10 word) → ((place : ℕ) → number_in outside low high place word ≡ Ok (digits_value 10 word)) → Tested outside low high word
  NoNumber : is_number word ≡ false → ((place : ℕ) → number_in outside low high place word ≡ fault place NotNumber) → Tested outside low high word
  Beyond : is_number word ≡ true → ((place : ℕ) → number_in outside low high place word ≡ fault place outside) → Tested outside low high word

tested_so : (outside : Why) (low high : ℕ) (word : List ℕ) (a b : Bool) → is_number word ≡ a → (leb low (digits_value 10 word) && leb (digits_value 10 word) high) ≡ b → Tested outside low high word
tested_so outside low high word false b e f =
    NoNumber e (λ place. ap (λ (x : Bool). cond x (cond (leb low (digits_value 10 word) && leb (digits_value 10 word) high) (Ok (digits_value 10 word)) (fault place outside)) (fault place NotNumber)) e)
tested_so outside low high word true false e f =
    Beyond e (λ place. ap (λ (x : Bool). cond x (cond (leb low (digits_value 10 word) && leb (digits_value 10 word) high) (Ok (digits_value 10 word)) (fault place outside)) (fault place NotNumber)) e
    ∙ ap (λ (x : Bool). cond x (Ok (digits_value 10 word)) (fault place outside)) f)
tested_so outside low high word true true e f =
    Good e (in_range low high (digits_value 10 word) f)
    (λ place. ap (λ (x : Bool). cond x (cond (leb low (digits_value 10 word) && leb (digits_value 10 word) high) (Ok (digits_value 10 word)) (fault place outside)) (fault place NotNumber)) e
    ∙ ap (λ (x : Bool). cond x (Ok (digits_value 10 word)) (fault place outside)) f)

pub tested : (outside : Why) (low high : ℕ) (word : List ℕ) → Tested outside low high word
tested outside low high word = tested_so outside low high word (is_number word) (leb low (digits_value 10 word) && leb (digits_value 10 word) high) refl refl

-- reading a number, and going on
abbrev pub then_number : {B : Type 0} → Why → ℕ → ℕ → (ℕ → WordsLeft → Result B TextFault) → WordsLeft → Result B TextFault
then_number outside low high k left = number_at outside low high left >>= λ n. k n.0 n.1

-- a value, and these words after it
abbrev taken : {A : Type 0} → Result A TextFault → WordsLeft → Read A
taken r left = r >>= λ x. Ok (x, left)

number_none : {B : Type 0} (outside : Why) (low high : ℕ) (k : ℕ → WordsLeft → Result B TextFault) (number : ℕ) → then_number outside low high k (at number []) ≡ fault number Missing
unfolding number_at
number_none outside low high k number = refl

pub number_good : {B : Type 0} (outside : Why) (low high : ℕ) (k : ℕ → WordsLeft → Result B TextFault) (number n : ℕ) (word : List ℕ) (rest : List (List ℕ))
    → number_in outside low high number word ≡ Ok n → then_number outside low high k (at number (word ∷ rest)) ≡ k n (at (number + 1) rest)
unfolding number_at
number_good outside low high k number n word rest h = ap (λ (r : Result ℕ TextFault). taken r (at (number + 1) rest) >>= λ x. k x.0 x.1) h

number_bad : {B : Type 0} (outside : Why) (low high : ℕ) (k : ℕ → WordsLeft → Result B TextFault) (number : ℕ) (why : Why) (word : List ℕ) (rest : List (List ℕ))
    → number_in outside low high number word ≡ fault number why → then_number outside low high k (at number (word ∷ rest)) ≡ fault number why
unfolding number_at
number_bad outside low high k number why word rest h = ap (λ (r : Result ℕ TextFault). taken r (at (number + 1) rest) >>= λ x. k x.0 x.1) h

-- a word that can't stand
bad_word : {B : Type 0} (s : Setting B) (front : List (List ℕ)) (word : List ℕ) (rest : List (List ℕ)) (why : Why) (e : TextFault) (f : WordsLeft → Result B TextFault)
    → ((after : List (List ℕ)) → f (at (length front + 1) (word ∷ after)) ≡ fault (length front + 1) why) → Breaks s front word why → ResumesAtWord s front f → f (at (length front + 1) (word ∷ rest)) ≡ Err e
    → Refused s (front ++ word ∷ rest) e
bad_word s front word rest why e f bad breaks resumes h =
    let is : fault_of (length front + 1) why ≡ e = same_err _ _ (sym (bad rest) ∙ h) in
    subst (λ (x : TextFault). Refused s (front ++ word ∷ rest) x) is (record {
      before = front;
      rest = word ∷ rest;
      whole = refl;
      number = refl;
      stops = ((λ after. resumes word after ∙ bad after), breaks);
    })

-- one that can
good_word : {B : Type 0} (s : Setting B) (front : List (List ℕ)) (word : List ℕ) (rest : List (List ℕ)) (e : TextFault) (f g : WordsLeft → Result B TextFault)
    → ((after : List (List ℕ)) → f (at (length front + 1) (word ∷ after)) ≡ g (at (length front + 1 + 1) after)) → Told s (front ++ word ∷ []) g → ResumesAtWord s front f → f (at (length front + 1) (word ∷ rest)) ≡ Err e
    → Refused s (front ++ word ∷ rest) e
good_word {B} s front word rest e f g good told resumes h =
    let goes : (after : List (List ℕ)) → f (at (length front + 1) (word ∷ after)) ≡ g (at (length (front ++ word ∷ []) + 1) after) = λ after. good after ∙ ap (λ (n : ℕ). g (at n after)) (one_more front word) in
    subst (λ (ws : List (List ℕ)). Refused s ws e) (append_assoc front (word ∷ []) rest)
    (told (λ after. ap (λ (ws : List (List ℕ)). s.read (at 1 ws)) (append_assoc front (word ∷ []) after) ∙ resumes word after ∙ goes after) rest e (sym (goes rest) ∙ h))

-- what follows where a word is a number of the range
abbrev pub GoodWords : {B : Type 0} → Setting B → List (List ℕ) → ℕ → ℕ → (ℕ → WordsLeft → Result B TextFault) → Type 0
GoodWords s front low high k = (word : List ℕ) (n : ℕ) → is_number word ≡ true → digits_value 10 word ≡ n → IsBetween low high n → Told s (front ++ word ∷ []) (k n)

told_word : {B : Type 0} (s : Setting B) (outside : Why) (low high : ℕ) (front : List (List ℕ)) (k : ℕ → WordsLeft → Result B TextFault) (word : List ℕ) (rest : List (List ℕ)) (e : TextFault)
    → OutsideIs s front outside → s.Goes front → GoodWords s front low high k → ResumesAtWord s front (then_number outside low high k) → Tested outside low high word
    → then_number outside low high k (at (length front + 1) (word ∷ rest)) ≡ Err e → Refused s (front ++ word ∷ rest) e
told_word s outside low high front k word rest e o goes told resumes (Good n between is) h =
    good_word s front word rest e (then_number outside low high k) (k (digits_value 10 word))
    (λ after. number_good outside low high k (length front + 1) (digits_value 10 word) word after (is (length front + 1)))
    (told word (digits_value 10 word) n refl between) resumes h
told_word s outside low high front k word rest e o goes told resumes (NoNumber n is) h =
    bad_word s front word rest NotNumber e (then_number outside low high k)
    (λ after. number_bad outside low high k (length front + 1) NotNumber word after (is (length front + 1))) ((goes, no_kind s front outside o), n) resumes h
told_word s outside low high front k word rest e o goes told resumes (Beyond n is) h =
    bad_word s front word rest outside e (then_number outside low high k)
    (λ after. number_bad outside low high k (length front + 1) outside word after (is (length front + 1))) (breaks_outside s front word outside o goes n) resumes h

pub told_number : {B : Type 0} (s : Setting B) (outside : Why) (low high : ℕ) (front : List (List ℕ)) (k : ℕ → WordsLeft → Result B TextFault)
    → OutsideIs s front outside → s.Goes front → GoodWords s front low high k → ResumesAtWord s front (then_number outside low high k)
    → (words : List (List ℕ)) (e : TextFault) → then_number outside low high k (at (length front + 1) words) ≡ Err e → Refused s (front ++ words) e
told_number s outside low high front k o goes told resumes [] e h =
    let is : fault_of (length front + 1) Missing ≡ e = same_err _ _ (sym (number_none outside low high k (length front + 1)) ∙ h) in
    subst (λ (x : TextFault). Refused s (front ++ []) x) is (record { before = front; rest = []; whole = refl; number = refl; stops = (goes, refl) })
told_number s outside low high front k o goes told resumes (word ∷ rest) e h =
    told_word s outside low high front k word rest e o goes told resumes (tested outside low high word) h

-- the least number of a range, as a word
pub record Least (low : ℕ) : Type 0 where
  pub word : List ℕ
  pub is_word : IsWord word
  pub number : is_number word ≡ true
  pub value : digits_value 10 word ≡ low

pub one : Least 1
one = record {
  word = 49 ∷ [];
  is_word = record { some = omega arith; part = All-from_recursion (λ b. is_space b ≡ false) (49 ∷ []) (refl, tt) };
  number = refl;
  value = refl;
}

pub nothing : Least 0
nothing = record {
  word = 48 ∷ [];
  is_word = record { some = omega arith; part = All-from_recursion (λ b. is_space b ≡ false) (48 ∷ []) (refl, tt) };
  number = refl;
  value = refl;
}

done_number : {B : Type 0} (outside : Why) (low high number : ℕ) (k : ℕ → WordsLeft → Result B TextFault) (least : Least low) → low ≤ high → Done (k low) (number + 1)
    → (on : List (List ℕ)) × AreWords (least.word ∷ on) × (value : B) × (then_number outside low high k (at number (least.word ∷ on)) ≡ Ok value)
done_number outside low high number k least fits done = (
  done.0,
  (least.is_word, done.1),
  done.2,
  number_good outside low high k number low least.word done.0 (gives_word outside low high number least.word low (omega arith, fits) (least.number, least.value)) ∙ done.3,
)

pub fine_number : {B : Type 0} (s : Setting B) (outside : Why) (low high : ℕ) (front : List (List ℕ)) (k : ℕ → WordsLeft → Result B TextFault)
    → (GoesOn s.read front → s.Goes front) → OutsideIs s front outside → low ≤ high → Least low
    → ((word : List ℕ) (n : ℕ) → is_number word ≡ true → digits_value 10 word ≡ n → IsBetween low high n → Fine s (front ++ word ∷ []) (k n))
    → Fine s front (then_number outside low high k)
fine_number s outside low high front k goes o fits least fine =
    let first = fine least.word low least.number least.value (omega arith, fits) in
    let on = done_number outside low high (length front + 1) k least fits (subst (λ (n : ℕ). Done (k low) n) (sym (one_more front least.word)) first.done) in
    record {
      done = (least.word ∷ on.0, on.1, on.2, on.3);
      told = λ resumes words e h. told_number s outside low high front k o
          (goes (record { word = least.word; more = on.0; are_words = on.1; value = on.2; reads = resumes (least.word ∷ on.0) ∙ on.3 }))
          (λ word n is value between. (fine word n is value between).told) (λ word rest. resumes (word ∷ rest)) words e h;
    }

-- ---- new or old

-- reading such a word, and going on
abbrev pub then_kind : {B : Type 0} → (Bool → WordsLeft → Result B TextFault) → WordsLeft → Result B TextFault
then_kind k left = is_new_at left >>= λ b. k b.0 b.1

kind_none : {B : Type 0} (k : Bool → WordsLeft → Result B TextFault) (number : ℕ) → then_kind k (at number []) ≡ fault number Missing
unfolding is_new_at
kind_none k number = refl

kind_good : {B : Type 0} (k : Bool → WordsLeft → Result B TextFault) (number : ℕ) (b : Bool) (word : List ℕ) (rest : List (List ℕ))
    → is_new_in number word ≡ Ok b → then_kind k (at number (word ∷ rest)) ≡ k b (at (number + 1) rest)
unfolding is_new_at
kind_good k number b word rest h = ap (λ (r : Result Bool TextFault). taken r (at (number + 1) rest) >>= λ x. k x.0 x.1) h

kind_bad : {B : Type 0} (k : Bool → WordsLeft → Result B TextFault) (number : ℕ) (word : List ℕ) (rest : List (List ℕ))
    → is_new_in number word ≡ fault number Kind → then_kind k (at number (word ∷ rest)) ≡ fault number Kind
unfolding is_new_at
kind_bad k number word rest h = ap (λ (r : Result Bool TextFault). taken r (at (number + 1) rest) >>= λ x. k x.0 x.1) h

-- a word is new or old, or neither
data KindTested (word : List ℕ) : Type 0 where
  IsKind : (b : Bool) → ((place : ℕ) → is_new_in place word ≡ Ok b) → KindTested word
  Neither : (word ≡ new_word → ⊥) → (word ≡ old_word → ⊥) → ((place : ℕ) → is_new_in place word ≡ fault place Kind) → KindTested word

kind_by : (word : List ℕ) (a b : Bool) → bytes_eq word new_word ≡ a → bytes_eq word old_word ≡ b → KindTested word
kind_by word true b e f = IsKind true (λ place. ap (λ (x : Bool). cond x (Ok true) (cond (bytes_eq word old_word) (Ok false) (fault place Kind))) e)
kind_by word false true e f = IsKind false (λ place. ap (λ (x : Bool). cond x (Ok true) (cond (bytes_eq word old_word) (Ok false) (fault place Kind))) e ∙ ap (λ (x : Bool). cond x (Ok false) (fault place Kind)) f)
kind_by word false false e f =
    Neither (λ is. let t : true ≡ false = sym ((bytes_eq-Decides word new_word).1 is) ∙ e in cc t) (λ is. let t : true ≡ false = sym ((bytes_eq-Decides word old_word).1 is) ∙ f in cc t)
    (λ place. ap (λ (x : Bool). cond x (Ok true) (cond (bytes_eq word old_word) (Ok false) (fault place Kind))) e ∙ ap (λ (x : Bool). cond x (Ok false) (fault place Kind)) f)

told_kind_word : {B : Type 0} (s : Setting B) (front : List (List ℕ)) (k : Bool → WordsLeft → Result B TextFault) (word : List ℕ) (rest : List (List ℕ)) (e : TextFault)
    → s.Kinds front → s.Goes front → ((w : List ℕ) (b : Bool) → Told s (front ++ w ∷ []) (k b)) → ResumesAtWord s front (then_kind k) → KindTested word
    → then_kind k (at (length front + 1) (word ∷ rest)) ≡ Err e → Refused s (front ++ word ∷ rest) e
told_kind_word s front k word rest e kinds goes told resumes (IsKind b is) h =
    good_word s front word rest e (then_kind k) (k b) (λ after. kind_good k (length front + 1) b word after (is (length front + 1))) (told word b) resumes h
told_kind_word s front k word rest e kinds goes told resumes (Neither new old is) h =
    bad_word s front word rest Kind e (then_kind k) (λ after. kind_bad k (length front + 1) word after (is (length front + 1))) (goes, kinds, new, old) resumes h

told_kind : {B : Type 0} (s : Setting B) (front : List (List ℕ)) (k : Bool → WordsLeft → Result B TextFault) → s.Kinds front → s.Goes front → ((w : List ℕ) (b : Bool) → Told s (front ++ w ∷ []) (k b))
    → ResumesAtWord s front (then_kind k) → (words : List (List ℕ)) (e : TextFault) → then_kind k (at (length front + 1) words) ≡ Err e → Refused s (front ++ words) e
told_kind s front k kinds goes told resumes [] e h =
    let is : fault_of (length front + 1) Missing ≡ e = same_err _ _ (sym (kind_none k (length front + 1)) ∙ h) in
    subst (λ (x : TextFault). Refused s (front ++ []) x) is (record { before = front; rest = []; whole = refl; number = refl; stops = (goes, refl) })
told_kind s front k kinds goes told resumes (word ∷ rest) e h =
    told_kind_word s front k word rest e kinds goes told resumes (kind_by word (bytes_eq word new_word) (bytes_eq word old_word) refl refl) h

new_is_word : IsWord new_word
new_is_word = record { some = omega arith; part = All-from_recursion (λ b. is_space b ≡ false) new_word (refl, (refl, (refl, tt))) }

pub fine_kind : {B : Type 0} (s : Setting B) (front : List (List ℕ)) (k : Bool → WordsLeft → Result B TextFault) → (GoesOn s.read front → s.Goes front) → s.Kinds front
    → ((word : List ℕ) (b : Bool) → Fine s (front ++ word ∷ []) (k b)) → Fine s front (then_kind k)
fine_kind {B} s front k goes kinds fine =
    let d : Done (k true) (length front + 1 + 1) = subst (λ (n : ℕ). Done (k true) n) (sym (one_more front new_word)) (fine new_word true).done in
    let reads : then_kind k (at (length front + 1) (new_word ∷ d.0)) ≡ Ok d.2 = kind_good k (length front + 1) true new_word d.0 refl ∙ d.3 in
    record {
      done = (new_word ∷ d.0, (new_is_word, d.1), d.2, reads);
      told = λ resumes words e h. told_kind s front k kinds
          (goes (record { word = new_word; more = d.0; are_words = (new_is_word, d.1); value = d.2; reads = resumes (new_word ∷ d.0) ∙ reads }))
          (λ w b. (fine w b).told) (λ word rest. resumes (word ∷ rest)) words e h;
    }

-- ---- a list

-- this item, before those that are read
abbrev with_first : {A : Type 0} → A → Read (List A) → Read (List A)
with_first first r = r >>= λ others. Ok (first ∷ others.0, others.1)

bind_list : {A B : Type 0} (item : WordsLeft → Read A) (count : ℕ) (k : List A → WordsLeft → Result B TextFault) (first : A) (r : Read (List A))
    → (with_first first r >>= λ xs. k xs.0 xs.1) ≡ (r >>= λ xs. k (first ∷ xs.0) xs.1)
bind_list item count k first (Ok others) = refl
bind_list item count k first (Err e) = refl

bind_item : {A B : Type 0} (item : WordsLeft → Read A) (count : ℕ) (k : List A → WordsLeft → Result B TextFault) (r : Read A)
    → (r >>= λ first. list_at item count first.1 >>= λ xs. k (first.0 ∷ xs.0) xs.1) ≡ ((r >>= λ first. with_first first.0 (list_at item count first.1)) >>= λ xs. k xs.0 xs.1)
bind_item item count k (Ok first) = sym (bind_list item count k first.0 (list_at item count first.1))
bind_item item count k (Err e) = refl

-- reading an item, or so many, and going on
abbrev pub then_item : {A B : Type 0} → (WordsLeft → Read A) → (A → WordsLeft → Result B TextFault) → WordsLeft → Result B TextFault
then_item item k left = item left >>= λ x. k x.0 x.1

abbrev pub then_list : {A B : Type 0} → (WordsLeft → Read A) → ℕ → (List A → WordsLeft → Result B TextFault) → WordsLeft → Result B TextFault
then_list item count k left = list_at item count left >>= λ xs. k xs.0 xs.1

pub list_more : {A B : Type 0} (item : WordsLeft → Read A) (count : ℕ) (k : List A → WordsLeft → Result B TextFault) (left : WordsLeft)
    → then_list item (suc count) k left ≡ then_item item (λ x. then_list item count (λ xs. k (x ∷ xs))) left
unfolding list_at
list_more item count k left = sym (bind_item item count k (item left))

pub list_done : {A B : Type 0} (item : WordsLeft → Read A) (k : List A → WordsLeft → Result B TextFault) (left : WordsLeft) → then_list item 0 k left ≡ k [] left
unfolding list_at
list_done item k left = refl

-- an item of two numbers

-- this number, and the one that is read
abbrev with_second : {A : Type 0} → (ℕ → ℕ → A) → ℕ → Read ℕ → Read A
with_second make first r = r >>= λ b. Ok (make first b.0, b.1)

second_number : {A B : Type 0} (make : ℕ → ℕ → A) (k : A → WordsLeft → Result B TextFault) (first : ℕ) (r : Read ℕ)
    → (with_second make first r >>= λ x. k x.0 x.1) ≡ (r >>= λ b. k (make first b.0) b.1)
second_number make k first (Ok b) = refl
second_number make k first (Err e) = refl

first_number : {A B : Type 0} (outside : Why) (low high : ℕ) (make : ℕ → ℕ → A) (k : A → WordsLeft → Result B TextFault) (r : Read ℕ)
    → ((r >>= λ a. with_second make a.0 (number_at outside low high a.1)) >>= λ x. k x.0 x.1) ≡ (r >>= λ a. number_at outside low high a.1 >>= λ b. k (make a.0 b.0) b.1)
first_number outside low high make k (Ok a) = second_number make k a.0 (number_at outside low high a.1)
first_number outside low high make k (Err e) = refl

pub two_numbers : {A B : Type 0} (outside_a : Why) (low_a high_a : ℕ) (outside_b : Why) (low_b high_b : ℕ) (make : ℕ → ℕ → A) (k : A → WordsLeft → Result B TextFault) (left : WordsLeft)
    → then_item (λ l. number_at outside_a low_a high_a l >>= λ a. with_second make a.0 (number_at outside_b low_b high_b a.1)) k left
    ≡ then_number outside_a low_a high_a (λ a. then_number outside_b low_b high_b (λ b. k (make a b))) left
two_numbers outside_a low_a high_a outside_b low_b high_b make k left = first_number outside_b low_b high_b make k (number_at outside_a low_a high_a left)

-- one item, after these that were read before
abbrev pub ItemStep : {A B : Type 0} → Setting B → (WordsLeft → Read A) → (List A → List (List ℕ) → Type 0) → ℕ → Type 0
ItemStep {A} {B} s item Shape total = (earlier : List A) (front : List (List ℕ)) (k : A → WordsLeft → Result B TextFault) → length earlier < total → Shape earlier front
    → ((x : A) (now : List (List ℕ)) → Shape (earlier ++ x ∷ []) now → Fine s now (k x)) → Fine s front (then_item item k)

fine_items : {A B : Type 0} (s : Setting B) (item : WordsLeft → Read A) (Shape : List A → List (List ℕ) → Type 0) (total count : ℕ) (earlier : List A) (front : List (List ℕ)) (k : List A → WordsLeft → Result B TextFault)
    → ItemStep s item Shape total → length earlier + count ≡ total → Shape earlier front → ((xs : List A) (now : List (List ℕ)) → length (earlier ++ xs) ≡ total → Shape (earlier ++ xs) now → Fine s now (k xs))
    → Fine s front (then_list item count k)
fine_items {A} {B} s item Shape total zero earlier front k step is shape fine =
    fine_same s front (k []) (then_list item 0 k) (list_done item k)
    (fine [] front (ap (λ (l : List A). length l) (append-nil earlier) ∙ omega (arith, is)) (subst (λ (l : List A). Shape l front) (sym (append-nil earlier)) shape))
fine_items {A} {B} s item Shape total (suc count) earlier front k step is shape fine =
    fine_same s front (then_item item (λ x. then_list item count (λ xs. k (x ∷ xs)))) (then_list item (suc count) k) (list_more item count k)
    (step earlier front (λ x. then_list item count (λ xs. k (x ∷ xs))) (omega (arith, is)) shape
    (λ x now s'. fine_items s item Shape total count (earlier ++ x ∷ []) now (λ xs. k (x ∷ xs)) step (omega (arith, is, length-append earlier (x ∷ []))) s'
    (λ xs later l sh. fine (x ∷ xs) later (ap (λ (l : List A). length l) (sym (append_assoc earlier (x ∷ []) xs)) ∙ l) (subst (λ (l : List A). Shape l later) (append_assoc earlier (x ∷ []) xs) sh))))

pub fine_list : {A B : Type 0} (s : Setting B) (item : WordsLeft → Read A) (Shape : List A → List (List ℕ) → Type 0) (count : ℕ) (front : List (List ℕ)) (k : List A → WordsLeft → Result B TextFault)
    → ItemStep s item Shape count → Shape [] front → ((xs : List A) (now : List (List ℕ)) → length xs ≡ count → Shape xs now → Fine s now (k xs)) → Fine s front (then_list item count k)
fine_list s item Shape count front k step shape fine = fine_items s item Shape count count [] front k step (omega arith) shape fine

-- ---- the end

pub fine_end : {B : Type 0} (s : Setting B) (front : List (List ℕ)) (value : B) → Fine s front (λ left. no_more value left.number left.words)
fine_end {B} s front value = record { done = ([], tt, value, refl); told = told }
  where
    told : Told s front (λ left. no_more value left.number left.words)
    told resumes [] e h = absurd (ok_not_err value e h)
    told resumes (word ∷ rest) e h = subst (λ (x : TextFault). Refused s (front ++ word ∷ rest) x) (same_err _ _ h) (record {
      before = front;
      rest = word ∷ rest;
      whole = refl;
      number = refl;
      stops = (
        (λ after. resumes (word ∷ after)),
        record {
          value = value;
          whole = ap (λ (ws : List (List ℕ)). s.read (at 1 ws)) (sym (append-nil front)) ∙ resumes [];
          none = λ word after. resumes (word ∷ after);
        },
      );
    })
