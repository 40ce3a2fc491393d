-- Words and files leave one answer.
use Rattle.std.proofs.Common.{◌≡◌, inl, inr, ℕ, ◌+◌, Bool, true, false, nat_lt, nat_le, List, [], ◌∷◌, length, Option, Some, None, IfSome, Result, Ok, Err, refl, sym, ap, ◌∙◌, subst, MatchResult, decimal, if◌then◌else◌, ◌&&◌, codes, arith}
use Rattle.std.specs.Bool.{MatchBool}
use Rattle.std.specs.FinMap.{get}
use Rattle.std.specs.Prelude.{MatchOption, is_none}
use Rattle.std.specs.Option.{unwrap_or}
use Rattle.std.specs.Str.{bytes_eq}
use Rattle.std.specs.Str.Parse.{digits_value}
use Rattle.std.proofs.lemmas.Bool.{leb-true}
use Rattle.slab_desk.specs.Desk.{Files}
use Rattle.mill_model.specs.Mill.{Mill, Yard, IsInLimits, IsBetween, with_yard, most_colour_limit}
use Rattle.mill_read.specs.declared.fault.TextFault.{TextFault}
use Rattle.mill_read.specs.OrderFile.{order_file}
use Rattle.mill_read.specs.YardFile.{yard_file}
use Rattle.mill_read.proofs.OrderGrammar.{order_file_is}
use Rattle.mill_read.proofs.YardGrammar.{yard_file_is}
use Rattle.cert_rules.specs.Verdicts.{Verdict, IsVerdict}
use Rattle.cert_rules.specs.Verdicts.Verdict.{Front, NoPlan, CutOff, Bad}
use Rattle.cert_rules.proofs.Verdicts.{one_verdict}
use Rattle.run_words.specs.Words.{Parsed, ◌>>=◌, or_at, word_at, given_at, file_named, number_named, default_colours}
use Rattle.run_words.specs.Texts.{usage_text}
use Rattle.run_words.specs.Files.{most_bytes, with_colours}
use Rattle.front_check.specs.declared.texts.Source.{Source}
use Rattle.front_check.specs.declared.texts.Source.TheVariants.{Orders, Yard as YardSource}
use Rattle.front_check.specs.Words.{CheckWords, Options, with_option, options_from, no_options, mill_words, check_of, check_words}
use Rattle.front_check.specs.Texts.{long_text, fault_text, verdict_text, status_of}
use Rattle.front_check.specs.Outcomes.{Owing}
use Rattle.front_check.specs.Owed.{Exactly, OwesOfFile, OwesOfYard, OwesVerdict, OwesOfCert, OwesOfCheck, OwesOfWords}
use Rattle.front_check.specs.Laws.{OneAnswer}

-- ---- the colour limit of words that can stand

-- what follows a word that can stand
bound : {A B : Type 0} (r : Parsed A) (f : A → Parsed B) (b : B) → (r >>= f) ≡ Ok b → (a : A) × (r ≡ Ok a) × (f a ≡ Ok b)
bound (Ok a) f b e = (a, refl, e)
bound (Err n) f b e = cc

abbrev ok : {A : Type 0} → A → Parsed A
ok a = Ok a

same_ok : {A : Type 0} (a b : A) → ok a ≡ Ok b → a ≡ b
same_ok a b e = cc

abbrev AreColours : Options → Type 0
AreColours o = IfSome o.colours (IsBetween 1 most_colour_limit)

chosen : (b c d : Bool) (n k : ℕ) → (if b && (c && d) then Some n else None) ≡ Some k → (n ≡ k) × (c ≡ true) × (d ≡ true)
chosen true true true n k e = (cc, refl, refl)
chosen true true false n k e = cc
chosen true false d n k e = cc
chosen false c d n k e = cc

named_between : (word : List ℕ) (n : ℕ) → number_named 1 most_colour_limit word ≡ Some n → IsBetween 1 most_colour_limit n
named_between word n e =
    let v : ℕ = digits_value 10 word in
    let is : (v ≡ n) × (nat_le 1 v ≡ true) × (nat_le v most_colour_limit ≡ true) = chosen (bytes_eq word (decimal v)) (nat_le 1 v) (nat_le v most_colour_limit) v n e in
    subst (IsBetween 1 most_colour_limit) is.0 (leb-true 1 v is.1, leb-true v most_colour_limit is.2)

given_between : (number n : ℕ) (value : Option (List ℕ)) → given_at (number_named 1 most_colour_limit) number value ≡ Ok n → IsBetween 1 most_colour_limit n
given_between number n None e = cc
given_between number n (Some word) e = read (number_named 1 most_colour_limit word) refl e
  where
    read : (r : Option ℕ) → number_named 1 most_colour_limit word ≡ r → or_at number r ≡ Ok n → IsBetween 1 most_colour_limit n
    read None is f = cc
    read (Some k) is f = named_between word n (is ∙ ap (λ (x : ℕ). Some x) (same_ok k n f))

either : {P : Type 0} (b c : Bool) (x y : Parsed Options) (number : ℕ) (next : Options) → (if b then x else (if c then y else Err number)) ≡ Ok next → (x ≡ Ok next → P) → (y ≡ Ok next → P) → P
either true c x y number next e f g = f e
either false true x y number next e f g = g e
either false false x y number next e f g = cc

one_more : (number : ℕ) (o next : Options) (name : List ℕ) (value : Option (List ℕ)) → AreColours o → with_option number o name value ≡ Ok next → AreColours next
one_more number o next name value are e =
    either (bytes_eq name (codes "--yard") && is_none o.yard) (bytes_eq name (codes "--colours") && is_none o.colours)
    (given_at file_named (number + 1) value >>= λ file. Ok (record o { yard = Some file }))
    (given_at (number_named 1 most_colour_limit) (number + 1) value >>= λ colours. Ok (record o { colours = Some colours }))
    number next e
    (λ f. let b = bound (given_at file_named (number + 1) value) (λ file. Ok (record o { yard = Some file })) next f in subst AreColours (same_ok (record o { yard = Some b.0 }) next b.2) are)
    (λ f. let b = bound (given_at (number_named 1 most_colour_limit) (number + 1) value) (λ colours. Ok (record o { colours = Some colours })) next f in
    subst AreColours (same_ok (record o { colours = Some b.0 }) next b.2) (given_between (number + 1) b.0 value b.1))

all_more : (number : ℕ) (o last : Options) (words : List (List ℕ)) → AreColours o → options_from number o words ≡ Ok last → AreColours last
all_more number o last [] are e = subst AreColours (same_ok o last e) are
all_more number o last (name ∷ []) are e = one_more number o last name None are e
all_more number o last (name ∷ value ∷ words) are e =
    let b = bound (with_option number o name (Some value)) (λ more. options_from (number + 2) more words) last e in
    all_more (number + 2) b.0 last words (one_more number o b.0 name (Some value) are b.1) b.2

colours_or : (o : Option ℕ) → IfSome o (IsBetween 1 most_colour_limit) → IsBetween 1 most_colour_limit (unwrap_or o default_colours)
colours_or None are = (omega arith, omega arith)
colours_or (Some n) are = are

colours_are : (words : List (List ℕ)) (w : CheckWords) → check_of words ≡ Ok w → IsBetween 1 most_colour_limit w.mill.colours
colours_are words w e =
    let a = bound (word_at file_named 2 words) (λ orders. word_at file_named 3 orders.1 >>= λ cert. options_from 4 no_options cert.1 >>= λ options. Ok (record { mill = mill_words orders.0 options; cert = cert.0 })) w e in
    let b = bound (word_at file_named 3 a.0.1) (λ cert. options_from 4 no_options cert.1 >>= λ options. Ok (record { mill = mill_words a.0.0 options; cert = cert.0 })) w a.2 in
    let c = bound (options_from 4 no_options b.0.1) (λ options. Ok (record { mill = mill_words a.0.0 options; cert = b.0.0 })) w b.2 in
    let made : CheckWords = record { mill = mill_words a.0.0 c.0; cert = b.0.0 } in
    subst (λ (x : CheckWords). IsBetween 1 most_colour_limit x.mill.colours) (same_ok made w c.2)
    (colours_or c.0.colours (all_more 4 no_options c.0 b.0.1 tt c.1))

colours_between : (words : List (List ℕ)) (w : CheckWords) → check_words words ≡ Ok w → IsBetween 1 most_colour_limit w.mill.colours
colours_between [] w e = cc
colours_between (command ∷ words) w e = chose (bytes_eq command (codes "check")) e
  where
    chose : (b : Bool) → (if b then check_of words else Err 1) ≡ Ok w → IsBetween 1 most_colour_limit w.mill.colours
    chose true f = colours_are words w f
    chose false f = cc

-- ---- mills of files

coloured : (m : Mill) (colours : ℕ) → IsBetween 1 most_colour_limit colours → IsInLimits m → IsInLimits (with_colours colours m)
coloured m colours between within = record {
  size_count = within.size_count;
  sizes = within.sizes;
  colours = within.colours;
  colour_limit = between;
  order_count = within.order_count;
  weights = within.weights;
  order_colours = within.order_colours;
  yard = within.yard;
  bars = within.bars;
}

yarded : (m : Mill) (bytes : List ℕ) (yard : Yard) → IsInLimits m → yard_file (length m.orders) bytes ≡ Ok yard → IsInLimits (with_yard m yard)
yarded m bytes yard within e =
    let file = (yard_file_is (length m.orders) bytes yard within.order_count).0 e in
    record {
      size_count = within.size_count;
      sizes = within.sizes;
      colours = within.colours;
      colour_limit = within.colour_limit;
      order_count = within.order_count;
      weights = within.weights;
      order_colours = within.order_colours;
      yard = file.limits;
      bars = file.bars;
    }

-- ---- one answer

abbrev Same : ℕ → ℕ → List ℕ → List ℕ → Type 0
Same status other text said = (status ≡ other) × (text ≡ said)

exactly_once : (code status other : ℕ) (owed text said : List ℕ) → Exactly code owed status text → Exactly code owed other said → Same status other text said
exactly_once code status other owed text said p q = (p.0 ∙ sym q.0, p.1 ∙ sym q.1)

reading_once : {A S : Type 0} (r : Result A TextFault) (P Q : A → Type 0) (F G : TextFault → Type 0)
    → ((value : A) → r ≡ Ok value → P value → Q value → S) → ((fault : TextFault) → F fault → G fault → S) → MatchResult r P F → MatchResult r Q G → S
reading_once (Ok value) P Q F G more fails p q = more value refl p q
reading_once (Err fault) P Q F G more fails p q = fails fault p q

bytes_once : {S : Type 0} (b : Bool) (L M P Q : Type 0) → (L → M → S) → (P → Q → S) → MatchBool b L P → MatchBool b M Q → S
bytes_once true L M P Q long more p q = long p q
bytes_once false L M P Q long more p q = more p q

there_once : {S : Type 0} (there : Option (List ℕ)) (P Q : List ℕ → Type 0) → ((bytes : List ℕ) → P bytes → Q bytes → S) → MatchOption there ⊥ P → MatchOption there ⊥ Q → S
there_once None P Q more p q = absurd p
there_once (Some bytes) P Q more p q = more bytes p q

file_once : {A : Type 0} (source : Source) (reading : List ℕ → Result A TextFault) (owes : A → Owing) (files : Files) (name : List ℕ) (status other : ℕ) (text said : List ℕ)
    → ((bytes : List ℕ) (value : A) → reading bytes ≡ Ok value → owes value status text → owes value other said → Same status other text said)
    → OwesOfFile source reading owes files name status text → OwesOfFile source reading owes files name other said → Same status other text said
file_once source reading owes files name status other text said more =
    there_once (get files name) _ _ (λ bytes. bytes_once (nat_lt most_bytes (length bytes)) _ _ _ _
    (exactly_once 2 status other (long_text source) text said)
    (reading_once (reading bytes) _ _ _ _ (more bytes) (λ fault. exactly_once 2 status other (fault_text source fault) text said)))

-- what is owed of a certificate is said of its verdict
said_of_it : (m : Mill) (bytes : List ℕ) (status : ℕ) (text : List ℕ) → OwesVerdict m bytes status text → (v : Verdict) × IsVerdict m bytes v × (status ≡ status_of v) × (text ≡ verdict_text v)
said_of_it m bytes status text (inl (points, p, (e, f))) = (Front points, (p.certificate, p.spelled, (p.shows, p.points_are)), e, f)
said_of_it m bytes status text (inr (inl (points, p, (e, f)))) = (CutOff points, (p.certificate, p.spelled, (p.shows, p.points_are)), e, f)
said_of_it m bytes status text (inr (inr (inl (p, (e, f))))) = (NoPlan, (p.certificate, p.spelled, p.shows), e, f)
said_of_it m bytes status text (inr (inr (inr (number, rule, p, (e, f))))) = (Bad number rule, p, e, f)

verdict_once : (m : Mill) (bytes : List ℕ) (status other : ℕ) (text said : List ℕ) → IsInLimits m → OwesVerdict m bytes status text → OwesVerdict m bytes other said → Same status other text said
verdict_once m bytes status other text said within p q =
    let a = said_of_it m bytes status text p in
    let b = said_of_it m bytes other said q in
    let same : a.0 ≡ b.0 = one_verdict m bytes a.0 b.0 within a.1 b.1 in
    (a.2 ∙ ap status_of same ∙ sym b.2, a.3 ∙ ap verdict_text same ∙ sym b.3)

cert_once : (files : Files) (name : List ℕ) (m : Mill) (status other : ℕ) (text said : List ℕ) → IsInLimits m → OwesOfCert files name m status text → OwesOfCert files name m other said → Same status other text said
cert_once files name m status other text said within = there_once (get files name) _ _ (λ bytes. verdict_once m bytes status other text said within)

yard_once : (files : Files) (name : List ℕ) (colours : ℕ) (yard : Option (List ℕ)) (m : Mill) (status other : ℕ) (text said : List ℕ) → IsBetween 1 most_colour_limit colours → IsInLimits m
    → OwesOfYard (λ x. OwesOfCert files name (with_colours colours x)) files yard m status text → OwesOfYard (λ x. OwesOfCert files name (with_colours colours x)) files yard m other said → Same status other text said
yard_once files name colours None m status other text said between within = cert_once files name (with_colours colours m) status other text said (coloured m colours between within)
yard_once files name colours (Some file) m status other text said between within =
    file_once YardSource (yard_file (length m.orders)) (λ yard. OwesOfCert files name (with_colours colours (with_yard m yard))) files file status other text said
    (λ bytes yard e. cert_once files name (with_colours colours (with_yard m yard)) status other text said (coloured (with_yard m yard) colours between (yarded m bytes yard within e)))

check_once : (w : CheckWords) (files : Files) (status other : ℕ) (text said : List ℕ) → IsBetween 1 most_colour_limit w.mill.colours → OwesOfCheck w files status text → OwesOfCheck w files other said → Same status other text said
check_once w files status other text said between =
    file_once Orders order_file (OwesOfYard (λ m. OwesOfCert files w.cert (with_colours w.mill.colours m)) files w.mill.yard) files w.mill.orders status other text said
    (λ bytes m e. yard_once files w.cert w.mill.colours w.mill.yard m status other text said between ((order_file_is bytes m).0 e).limits)

pub one_answer : OneAnswer
one_answer words files status other text said = parsed (check_words words) refl
  where
    parsed : (r : Parsed CheckWords) → check_words words ≡ r → OwesOfWords r files status text → OwesOfWords r files other said → Same status other text said
    parsed (Ok w) e = check_once w files status other text said (colours_between words w e)
    parsed (Err number) e = exactly_once 1 status other (usage_text number) text said
