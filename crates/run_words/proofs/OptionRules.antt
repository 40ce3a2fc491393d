-- Options by rules: what is read is what the rules say, and where they are refused some options could go on.
use Rattle.std.proofs.Common.{◌≡◌, ◌⊎◌, inl, inr, ℕ, ◌+◌, ◌&&◌, Bool, true, false, cond, List, [], ◌∷◌, ◌++◌, length, if◌then◌else◌, Option, Some, None, Result, Ok, Err, refl, sym, ap, ◌∙◌, subst, append_assoc, append-nil, arith}
use Rattle.std.specs.Str.{bytes_eq}
use Rattle.std.proofs.lemmas.Slice.Eq.{bytes_eq-Decides}
use Rattle.run_words.specs.Words.{Parsed, ◌>>=◌, or_at, given_at}
use Rattle.run_words.specs.Grammar.{OptionRule, with_rule, options_by, IsOption, IsSomeOption, AreOptions}
use Rattle.run_words.proofs.Commands.{same_number, job_not_number, Done, Refused, Resumes, Fine, goes_on, one_more, missing, bad_word, regrouped, resumes_after}

-- ---- what is asked of rules

-- the reading of a value is what it says, and some word says one
pub record Stands {O : Type 0} (rule : OptionRule O) : Type 0 where
  pub says : (word : List ℕ) (v : rule.Value) → rule.reading word ≡ Some v → rule.Says word v
  pub reads : (word : List ℕ) (v : rule.Value) → rule.Says word v → rule.reading word ≡ Some v
  pub some : List ℕ
  pub value : rule.Value
  pub some_says : rule.Says some value

-- no rule of these has this name
abbrev pub OtherNames : {O : Type 0} → List ℕ → List (OptionRule O) → Type 0
OtherNames name [] = Unit {0}
OtherNames name (rule ∷ rules) = (bytes_eq name rule.name ≡ false) × OtherNames name rules

-- all rules stand, and each has a name of its own
abbrev pub AllStand : {O : Type 0} → List (OptionRule O) → Type 0
AllStand [] = Unit {0}
AllStand (rule ∷ rules) = Stands rule × OtherNames rule.name rules × AllStand rules

-- ---- one option

-- the option of this rule, from a value that is read or not
abbrev pub given_by : {O : Type 0} → (rule : OptionRule O) → ℕ → O → Option (List ℕ) → Parsed O
given_by rule number before value = given_at rule.reading (number + 1) value >>= λ v. Ok (rule.put v before)

-- a name is no option's that is free, or it is one's
pub data Named {O : Type 0} (rules : List (OptionRule O)) (before : O) (name : List ℕ) : Type 1 where
  Unknown : ((number : ℕ) (value : Option (List ℕ)) → with_rule rules number before name value ≡ Err number) → Named rules before name
  Known : (rule : OptionRule O) → Stands rule → name ≡ rule.name → rule.is_free before ≡ true
      → ((value : List ℕ) (after : O) → IsOption rule before name value after → IsSomeOption rules before name value after)
      → ((number : ℕ) (value : Option (List ℕ)) → with_rule rules number before name value ≡ given_by rule number before value) → Named rules before name

choose_first : {O : Type 0} (b c : Bool) (x y : Parsed O) → b ≡ true → c ≡ true → (if b && c then x else y) ≡ x
choose_first true true x y p q = refl
choose_first true false x y p q = cc q
choose_first false c x y p q = cc p

choose_other : {O : Type 0} (b c : Bool) (x y : Parsed O) → (b && c) ≡ false → (if b && c then x else y) ≡ y
choose_other b c x y p = ap (λ (t : Bool). if t then x else y) p

both_true : (b c : Bool) → (b && c) ≡ true → (b ≡ true) × (c ≡ true)
both_true true true p = (refl, refl)
both_true true false p = cc p
both_true false c p = cc p

later : {O : Type 0} (rule : OptionRule O) (rules : List (OptionRule O)) (before : O) (name : List ℕ) → (bytes_eq name rule.name && rule.is_free before) ≡ false → Named rules before name → Named (rule ∷ rules) before name
later rule rules before name e (Unknown all) = Unknown (λ number value. choose_other (bytes_eq name rule.name) (rule.is_free before) (given_by rule number before value) (with_rule rules number before name value) e ∙ all number value)
later rule rules before name e (Known other stands is free says all) = Known other stands is free (λ value after o. inr (says value after o))
    (λ number value. choose_other (bytes_eq name rule.name) (rule.is_free before) (given_by rule number before value) (with_rule rules number before name value) e ∙ all number value)

named_first : {O : Type 0} (rule : OptionRule O) (rules : List (OptionRule O)) (before : O) (name : List ℕ) (t : Bool) → (bytes_eq name rule.name && rule.is_free before) ≡ t → Stands rule → Named rules before name
    → Named (rule ∷ rules) before name
named_first rule rules before name true e stands others =
    let both = both_true (bytes_eq name rule.name) (rule.is_free before) e in
    Known rule stands ((bytes_eq-Decides name rule.name).0 both.0) both.1 (λ value after o. inl o)
    (λ number value. choose_first (bytes_eq name rule.name) (rule.is_free before) (given_by rule number before value) (with_rule rules number before name value) both.0 both.1)
named_first rule rules before name false e stands others = later rule rules before name e others

pub named : {O : Type 0} (rules : List (OptionRule O)) (before : O) (name : List ℕ) → AllStand rules → Named rules before name
named [] before name all = Unknown (λ number value. refl)
named (rule ∷ rules) before name all = named_first rule rules before name (bytes_eq name rule.name && rule.is_free before) refl all.0 (named rules before name all.2)

-- ---- what one value gives

abbrev put_in : {O : Type 0} → (rule : OptionRule O) → ℕ → O → Option rule.Value → Parsed O
put_in rule number before v = or_at (number + 1) v >>= λ x. Ok (rule.put x before)

pub value_good : {O : Type 0} (rule : OptionRule O) (number : ℕ) (before : O) (value : List ℕ) (v : rule.Value) → rule.reading value ≡ Some v → given_by rule number before (Some value) ≡ Ok (rule.put v before)
value_good rule number before value v e = ap (put_in rule number before) e

pub value_bad : {O : Type 0} (rule : OptionRule O) (number : ℕ) (before : O) (value : List ℕ) → rule.reading value ≡ None → given_by rule number before (Some value) ≡ Err (number + 1)
value_bad rule number before value e = ap (put_in rule number before) e

same_options : {O : Type 0} (x y : O) → (let r : Parsed O = Ok x in r ≡ Ok y) → x ≡ y
same_options x y h = cc h

given_so : {O : Type 0} (rule : OptionRule O) (number : ℕ) (before : O) (name value : List ℕ) (after : O) (v : Option rule.Value) → Stands rule → name ≡ rule.name → rule.is_free before ≡ true → rule.reading value ≡ v
    → given_by rule number before (Some value) ≡ Ok after → IsOption rule before name value after
given_so {O} rule number before name value after None stands is free e h = absurd (job_not_number {J = O} after (number + 1) (sym h ∙ value_bad rule number before value e))
given_so {O} rule number before name value after (Some v) stands is free e h = record {
  name_is = is;
  free = free;
  v = v;
  says = stands.says value v e;
  put_is = same_options {O = O} after (rule.put v before) (sym h ∙ value_good rule number before value v e);
}

pub option_read : {O : Type 0} (rules : List (OptionRule O)) (number : ℕ) (before : O) (name value : List ℕ) (after : O) → Named rules before name → with_rule rules number before name (Some value) ≡ Ok after
    → IsSomeOption rules before name value after
option_read {O} rules number before name value after (Unknown all) h = absurd (job_not_number {J = O} after number (sym h ∙ all number (Some value)))
option_read rules number before name value after (Known rule stands is free says all) h =
    says value after (given_so rule number before name value after (rule.reading value) stands is free refl (sym (all number (Some value)) ∙ h))

-- ---- and what the rules say is read

first_read : {O : Type 0} (rule : OptionRule O) (rules : List (OptionRule O)) (number : ℕ) (before : O) (name value : List ℕ) (after : O) → Stands rule → IsOption rule before name value after
    → with_rule (rule ∷ rules) number before name (Some value) ≡ Ok after
first_read {O} rule rules number before name value after stands o =
    choose_first (bytes_eq name rule.name) (rule.is_free before) (given_by rule number before (Some value)) (with_rule rules number before name (Some value)) ((bytes_eq-Decides name rule.name).1 o.name_is) o.free
    ∙ value_good rule number before value o.v (stands.reads value o.v o.says)
    ∙ ap (λ (x : O). Ok x) (sym o.put_is)

-- a name that one of these rules has isn't the name of another
other_name : {O : Type 0} (name : List ℕ) (rules : List (OptionRule O)) (before : O) (said value : List ℕ) (after : O) → OtherNames name rules → IsSomeOption rules before said value after → bytes_eq said name ≡ false
other_name name [] before said value after others o = absurd o
other_name name (rule ∷ rules) before said value after others (inl o) = not_same name rule.name said others.0 o.name_is
  where
    eq_false : (x y : List ℕ) (b : Bool) → bytes_eq x y ≡ b → (x ≡ y → ⊥) → b ≡ false
    eq_false x y false e never = refl
    eq_false x y true e never = absurd (never ((bytes_eq-Decides x y).0 e))

    not_same : (a b c : List ℕ) → bytes_eq a b ≡ false → c ≡ b → bytes_eq c a ≡ false
    not_same a b c differ is = eq_false c a (bytes_eq c a) refl (λ same. let t : bytes_eq a b ≡ true = (bytes_eq-Decides a b).1 (sym same ∙ is) in cc (sym t ∙ differ))
other_name name (rule ∷ rules) before said value after others (inr o) = other_name name rules before said value after others.1 o

pub option_reads : {O : Type 0} (rules : List (OptionRule O)) (number : ℕ) (before : O) (name value : List ℕ) (after : O) → AllStand rules → IsSomeOption rules before name value after
    → with_rule rules number before name (Some value) ≡ Ok after
option_reads [] number before name value after all o = absurd o
option_reads (rule ∷ rules) number before name value after all (inl o) = first_read rule rules number before name value after all.0 o
option_reads (rule ∷ rules) number before name value after all (inr o) =
    choose_other (bytes_eq name rule.name) (rule.is_free before) (given_by rule number before (Some value)) (with_rule rules number before name (Some value))
    (ap (λ (b : Bool). b && rule.is_free before) (other_name rule.name rules before name value after all.1 o))
    ∙ option_reads rules number before name value after all.2 o

-- ---- all options

no_value_reads : {O : Type 0} (rules : List (OptionRule O)) (number : ℕ) (before : O) (name : List ℕ) (after : O) → Named rules before name → with_rule rules number before name None ≡ Ok after → ⊥
no_value_reads {O} rules number before name after (Unknown all) h = job_not_number {J = O} after number (sym h ∙ all number None)
no_value_reads {O} rules number before name after (Known rule stands is free says all) h = job_not_number {J = O} after (number + 1) (sym h ∙ all number None)

went_on : {O : Type 0} (rules : List (OptionRule O)) (number : ℕ) (before : O) (name value : List ℕ) (words : List (List ℕ)) (after : O) (r : Parsed O) → AllStand rules → with_rule rules number before name (Some value) ≡ r
    → (r >>= λ more. options_by rules (number + 2) more words) ≡ Ok after → ((more : O) → options_by rules (number + 2) more words ≡ Ok after → AreOptions rules more words after)
    → AreOptions rules before (name ∷ value ∷ words) after
went_on rules number before name value words after (Ok more) all e h rest = (more, option_read rules number before name value more (named rules before name all) e, rest more h)
went_on {O} rules number before name value words after (Err n) all e h rest = absurd (job_not_number {J = O} after n (sym h))

pub options_read : {O : Type 0} (rules : List (OptionRule O)) (words : List (List ℕ)) (number : ℕ) (before after : O) → AllStand rules → options_by rules number before words ≡ Ok after → AreOptions rules before words after
options_read {O} rules [] number before after all h = sym (same_options {O = O} before after h)
options_read rules (name ∷ []) number before after all h = absurd (no_value_reads rules number before name after (named rules before name all) h)
options_read rules (name ∷ value ∷ words) number before after all h =
    went_on rules number before name value words after (with_rule rules number before name (Some value)) all refl h (λ more. options_read rules words (number + 2) more after all)

pub options_reads : {O : Type 0} (rules : List (OptionRule O)) (words : List (List ℕ)) (number : ℕ) (before after : O) → AllStand rules → AreOptions rules before words after → options_by rules number before words ≡ Ok after
options_reads {O} rules [] number before after all is = ap (λ (x : O). Ok x) (sym is)
options_reads rules (name ∷ []) number before after all is = absurd is
options_reads {O} rules (name ∷ value ∷ words) number before after all is =
    ap (λ (r : Parsed O). r >>= λ more. options_by rules (number + 2) more words) (option_reads rules number before name value is.0 all is.1)
    ∙ options_reads rules words (number + 2) is.0 after all is.2

-- ---- refusals

-- reading options, and making a job of them
abbrev pub then_options : {O J : Type 0} → List (OptionRule O) → ℕ → O → (O → J) → List (List ℕ) → Parsed J
then_options rules n before job words = options_by rules n before words >>= λ o. Ok (job o)

unknown_bad : {O J : Type 0} (rules : List (OptionRule O)) (n : ℕ) (before : O) (job : O → J) (name : List ℕ) → ((number : ℕ) (value : Option (List ℕ)) → with_rule rules number before name value ≡ Err number)
    → (after : List (List ℕ)) → then_options rules n before job (name ∷ after) ≡ Err n
unknown_bad {O} rules n before job name all [] = ap (λ (r : Parsed O). r >>= λ o. Ok (job o)) (all n None)
unknown_bad {O} rules n before job name all (value ∷ words) = ap (λ (r : Parsed O). (r >>= λ more. options_by rules (n + 2) more words) >>= λ o. Ok (job o)) (all n (Some value))

known_read : {O J : Type 0} (rules : List (OptionRule O)) (n : ℕ) (before more : O) (job : O → J) (name value : List ℕ) → with_rule rules n before name (Some value) ≡ Ok more
    → (after : List (List ℕ)) → then_options rules n before job (name ∷ value ∷ after) ≡ then_options rules (n + 2) more job after
known_read {O} rules n before more job name value e after = ap (λ (r : Parsed O). (r >>= λ x. options_by rules (n + 2) x after) >>= λ o. Ok (job o)) e

known_bad : {O J : Type 0} (rules : List (OptionRule O)) (n m : ℕ) (before : O) (job : O → J) (name value : List ℕ) → with_rule rules n before name (Some value) ≡ Err m
    → (after : List (List ℕ)) → then_options rules n before job (name ∷ value ∷ after) ≡ Err m
known_bad {O} rules n m before job name value e after = ap (λ (r : Parsed O). (r >>= λ x. options_by rules (n + 2) x after) >>= λ o. Ok (job o)) e

-- the words after the name of an option
abbrev after_name : {O J : Type 0} → List (OptionRule O) → ℕ → O → (O → J) → List ℕ → List (List ℕ) → Parsed J
after_name rules n before job name words = then_options rules n before job (name ∷ words)

done_after_name : {O J : Type 0} (rules : List (OptionRule O)) (n : ℕ) (before : O) (job : O → J) (name : List ℕ) (rule : OptionRule O) → Stands rule
    → ((number : ℕ) (value : Option (List ℕ)) → with_rule rules number before name value ≡ given_by rule number before value) → Done (after_name rules n before job name)
done_after_name rules n before job name rule stands all = (
  stands.some ∷ [],
  job (rule.put stands.value before),
  known_read rules n before (rule.put stands.value before) job name stands.some
      (all n (Some stands.some) ∙ value_good rule n before stands.some stands.value (stands.reads stands.some stands.value stands.some_says)) [],
)

-- where the reading goes on so, a refusal of these words is one of the first word that can't stand
abbrev TellsOf : {J : Type 0} → (List (List ℕ) → Parsed J) → List (List ℕ) → (List (List ℕ) → Parsed J) → List (List ℕ) → Type 0
TellsOf read front f words = Resumes read front f → (number : ℕ) → f words ≡ Err number → Refused read (front ++ words) number

-- a name alone
told_name : {O J : Type 0} (read : List (List ℕ) → Parsed J) (rules : List (OptionRule O)) (front : List (List ℕ)) (n : ℕ) (before : O) (job : O → J) (name : List ℕ) (number : ℕ) → n ≡ length front + 1 → Named rules before name
    → Resumes read front (then_options rules n before job) → then_options rules n before job (name ∷ []) ≡ Err number → Refused read (front ++ name ∷ []) number
told_name read rules front n before job name number place (Unknown all) resumes h =
    bad_word read front (then_options rules n before job) n number name [] place ([], job before, refl) resumes (unknown_bad rules n before job name all) h
told_name {O} {J} read rules front n before job name number place (Known rule stands is free says all) resumes h =
    let bad : then_options rules n before job (name ∷ []) ≡ Err (n + 1) = ap (λ (r : Parsed O). r >>= λ o. Ok (job o)) (all n None) in
    let there : Resumes read (front ++ name ∷ []) (after_name rules n before job name) =
    resumes_after read front (then_options rules n before job) (after_name rules n before job name) name resumes (λ after. refl) in
    regrouped read front name [] number
    (missing read (front ++ name ∷ []) (n + 1) number (one_more front name n place) (same_number {J = J} (n + 1) number (sym bad ∙ h))
    (goes_on read (front ++ name ∷ []) (after_name rules n before job name) there (done_after_name rules n before job name rule stands all)))

-- a name and its value
told_value : {O J : Type 0} (read : List (List ℕ) → Parsed J) (rules : List (OptionRule O)) (front : List (List ℕ)) (n : ℕ) (before : O) (job : O → J) (name value : List ℕ) (words : List (List ℕ)) (number : ℕ) (rule : OptionRule O)
    → n ≡ length front + 1 → Stands rule → ((number : ℕ) (value : Option (List ℕ)) → with_rule rules number before name value ≡ given_by rule number before value)
    → Resumes read front (then_options rules n before job) → (v : Option rule.Value) → rule.reading value ≡ v
    → ((more : O) → TellsOf read ((front ++ name ∷ []) ++ value ∷ []) (then_options rules (n + 2) more job) words) → then_options rules n before job (name ∷ value ∷ words) ≡ Err number
    → Refused read ((front ++ name ∷ []) ++ value ∷ words) number
told_value read rules front n before job name value words number rule place stands all resumes None e told h =
    let there : Resumes read (front ++ name ∷ []) (after_name rules n before job name) =
    resumes_after read front (then_options rules n before job) (after_name rules n before job name) name resumes (λ after. refl) in
    bad_word read (front ++ name ∷ []) (after_name rules n before job name) (n + 1) number value words (one_more front name n place) (done_after_name rules n before job name rule stands all) there
    (known_bad rules n (n + 1) before job name value (all n (Some value) ∙ value_bad rule n before value e)) h
told_value read rules front n before job name value words number rule place stands all resumes (Some v) e told h =
    let there : Resumes read (front ++ name ∷ []) (after_name rules n before job name) =
    resumes_after read front (then_options rules n before job) (after_name rules n before job name) name resumes (λ after. refl) in
    let good : (after : List (List ℕ)) → after_name rules n before job name (value ∷ after) ≡ then_options rules (n + 2) (rule.put v before) job after =
    known_read rules n before (rule.put v before) job name value (all n (Some value) ∙ value_good rule n before value v e) in
    regrouped read (front ++ name ∷ []) value words number
    (told (rule.put v before) (resumes_after read (front ++ name ∷ []) (after_name rules n before job name) (then_options rules (n + 2) (rule.put v before) job) value there good) number (sym (good words) ∙ h))

told_pair : {O J : Type 0} (read : List (List ℕ) → Parsed J) (rules : List (OptionRule O)) (front : List (List ℕ)) (n : ℕ) (before : O) (job : O → J) (name value : List ℕ) (words : List (List ℕ)) (number : ℕ) → n ≡ length front + 1
    → Named rules before name → Resumes read front (then_options rules n before job)
    → ((more : O) → TellsOf read ((front ++ name ∷ []) ++ value ∷ []) (then_options rules (n + 2) more job) words) → then_options rules n before job (name ∷ value ∷ words) ≡ Err number
    → Refused read (front ++ name ∷ value ∷ words) number
told_pair read rules front n before job name value words number place (Unknown all) resumes told h =
    bad_word read front (then_options rules n before job) n number name (value ∷ words) place ([], job before, refl) resumes (unknown_bad rules n before job name all) h
told_pair read rules front n before job name value words number place (Known rule stands is free says all) resumes told h =
    regrouped read front name (value ∷ words) number
    (told_value read rules front n before job name value words number rule place stands all resumes (rule.reading value) refl told h)

two_more : (front : List (List ℕ)) (name value : List ℕ) (n : ℕ) → n ≡ length front + 1 → n + 2 ≡ length ((front ++ name ∷ []) ++ value ∷ []) + 1
two_more front name value n place = omega (arith, one_more front name n place, one_more (front ++ name ∷ []) value (n + 1) (one_more front name n place))

told_options : {O J : Type 0} (read : List (List ℕ) → Parsed J) (rules : List (OptionRule O)) (job : O → J) (words : List (List ℕ)) → AllStand rules → (front : List (List ℕ)) (n : ℕ) (before : O) → n ≡ length front + 1
    → Resumes read front (then_options rules n before job) → (number : ℕ) → then_options rules n before job words ≡ Err number → Refused read (front ++ words) number
told_options read rules job [] all front n before place resumes number h = absurd (job_not_number (job before) number h)
told_options read rules job (name ∷ []) all front n before place resumes number h = told_name read rules front n before job name number place (named rules before name all) resumes h
told_options read rules job (name ∷ value ∷ words) all front n before place resumes number h =
    told_pair read rules front n before job name value words number place (named rules before name all) resumes
    (λ more. told_options read rules job words all ((front ++ name ∷ []) ++ value ∷ []) (n + 2) more (two_more front name value n place)) h

pub fine_options : {O J : Type 0} (read : List (List ℕ) → Parsed J) (rules : List (OptionRule O)) (front : List (List ℕ)) (n : ℕ) (before : O) (job : O → J) → AllStand rules → n ≡ length front + 1
    → Fine read front (then_options rules n before job)
fine_options read rules front n before job all place = record {
  done = ([], job before, refl);
  told = λ resumes words number h. told_options read rules job words all front n before place resumes number h;
}
