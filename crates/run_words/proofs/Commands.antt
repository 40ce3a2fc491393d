-- Command lines that are refused for the first word that can't stand, word by word: what is known of the words before a place,
-- where reading goes on there in some way.
use Rattle.std.proofs.Common.{◌≡◌, ℕ, ◌+◌, List, [], ◌∷◌, ◌++◌, length, Option, Some, None, Result, Ok, Err, refl, sym, ap, ◌∙◌, subst, append_assoc, append-nil, arith}
use Rattle.std.specs.Prelude.{◌↔◌}
use Rattle.std.proofs.lemmas.List.{length-append}
use Rattle.mill_read.proofs.TwoParts.{Compared, Same, Longer, Shorter, compared}
use Rattle.run_words.specs.Words.{Parsed, ◌>>=◌, or_at, word_at}
use Rattle.run_words.specs.Grammar.{BeginsCommand, CannotGoOn, IsFirstWrong, ReadsCommands, TellsFirstWrong}

pub same_number : {J : Type 0} (x y : ℕ) → (let r : Parsed J = Err x in r ≡ Err y) → x ≡ y
same_number x y h = cc h

pub job_not_number : {J : Type 0} (job : J) (n : ℕ) → (let r : Parsed J = Ok job in r ≡ Err n) → ⊥
job_not_number job n h = cc h

-- some words after these are read
abbrev pub Done : {J : Type 0} → (List (List ℕ) → Parsed J) → Type 0
Done {J} f = (on : List (List ℕ)) × (job : J) × (f on ≡ Ok job)

-- the words end, or whatever follows this word, the answer is the same
abbrev pub Stops : {J : Type 0} → (List (List ℕ) → Parsed J) → List (List ℕ) → List (List ℕ) → ℕ → Type 0
Stops read before [] number = Unit {0}
Stops read before (word ∷ rest) number = (after : List (List ℕ)) → read (before ++ word ∷ after) ≡ Err number

-- what a refusal of these words shows
pub record Refused {J : Type 0} (read : List (List ℕ) → Parsed J) (words : List (List ℕ)) (number : ℕ) : Type 0 where
  pub before : List (List ℕ)
  pub rest : List (List ℕ)
  pub whole : words ≡ before ++ rest
  pub place : number ≡ length before + 1
  pub goes : Done (λ on. read (before ++ on))
  pub stops : Stops read before rest number

-- after these words the reading goes on so
abbrev pub Resumes : {J : Type 0} → (List (List ℕ) → Parsed J) → List (List ℕ) → (List (List ℕ) → Parsed J) → Type 0
Resumes read front f = (rest : List (List ℕ)) → read (front ++ rest) ≡ f rest

-- where the reading goes on so, each refusal is one of the first word that can't stand
abbrev pub Told : {J : Type 0} → (List (List ℕ) → Parsed J) → List (List ℕ) → (List (List ℕ) → Parsed J) → Type 0
Told read front f = Resumes read front f → (words : List (List ℕ)) (number : ℕ) → f words ≡ Err number → Refused read (front ++ words) number

pub record Fine {J : Type 0} (read : List (List ℕ) → Parsed J) (front : List (List ℕ)) (f : List (List ℕ) → Parsed J) : Type 0 where
  pub done : Done f
  pub told : Told read front f

pub goes_on : {J : Type 0} (read : List (List ℕ) → Parsed J) (front : List (List ℕ)) (f : List (List ℕ) → Parsed J) → Resumes read front f → Done f → Done (λ on. read (front ++ on))
goes_on read front f resumes done = (done.0, done.1, resumes done.0 ∙ done.2)

pub fine_same : {J : Type 0} (read : List (List ℕ) → Parsed J) (front : List (List ℕ)) (f g : List (List ℕ) → Parsed J) → ((words : List (List ℕ)) → g words ≡ f words) → Fine read front f → Fine read front g
fine_same read front f g same fine = record {
  done = (fine.done.0, fine.done.1, same fine.done.0 ∙ fine.done.2);
  told = λ resumes words number h. fine.told (λ rest. resumes rest ∙ same rest) words number (sym (same words) ∙ h);
}

pub one_more : (front : List (List ℕ)) (word : List ℕ) (n : ℕ) → n ≡ length front + 1 → n + 1 ≡ length (front ++ word ∷ []) + 1
one_more front word n is = omega (arith, is, length-append front (word ∷ []))

-- ---- a word that is missing, or can't stand, or stands

pub missing : {J : Type 0} (read : List (List ℕ) → Parsed J) (front : List (List ℕ)) (n number : ℕ) → n ≡ length front + 1 → n ≡ number → Done (λ on. read (front ++ on)) → Refused read (front ++ []) number
missing read front n number place is goes = record { before = front; rest = []; whole = refl; place = sym is ∙ place; goes = goes; stops = tt }

pub bad_word : {J : Type 0} (read : List (List ℕ) → Parsed J) (front : List (List ℕ)) (f : List (List ℕ) → Parsed J) (n number : ℕ) (word : List ℕ) (rest : List (List ℕ)) → n ≡ length front + 1
    → Done f → Resumes read front f → ((after : List (List ℕ)) → f (word ∷ after) ≡ Err n) → f (word ∷ rest) ≡ Err number → Refused read (front ++ word ∷ rest) number
bad_word {J} read front f n number word rest place done resumes bad h =
    let is : n ≡ number = same_number {J = J} n number (sym (bad rest) ∙ h) in
    subst (λ (m : ℕ). Refused read (front ++ word ∷ rest) m) is (record {
      before = front;
      rest = word ∷ rest;
      whole = refl;
      place = place;
      goes = goes_on read front f resumes done;
      stops = λ after. resumes (word ∷ after) ∙ bad after;
    })

pub resumes_after : {J : Type 0} (read : List (List ℕ) → Parsed J) (front : List (List ℕ)) (f g : List (List ℕ) → Parsed J) (word : List ℕ) → Resumes read front f → ((after : List (List ℕ)) → f (word ∷ after) ≡ g after)
    → Resumes read (front ++ word ∷ []) g
resumes_after read front f g word resumes good rest = ap read (append_assoc front (word ∷ []) rest) ∙ resumes (word ∷ rest) ∙ good rest

pub regrouped : {J : Type 0} (read : List (List ℕ) → Parsed J) (front : List (List ℕ)) (word : List ℕ) (rest : List (List ℕ)) (number : ℕ) → Refused read ((front ++ word ∷ []) ++ rest) number → Refused read (front ++ word ∷ rest) number
regrouped read front word rest number r = subst (λ (ws : List (List ℕ)). Refused read ws number) (append_assoc front (word ∷ []) rest) r

pub good_word : {J : Type 0} (read : List (List ℕ) → Parsed J) (front : List (List ℕ)) (f g : List (List ℕ) → Parsed J) (number : ℕ) (word : List ℕ) (rest : List (List ℕ))
    → ((after : List (List ℕ)) → f (word ∷ after) ≡ g after) → Told read (front ++ word ∷ []) g → Resumes read front f → f (word ∷ rest) ≡ Err number → Refused read (front ++ word ∷ rest) number
good_word read front f g number word rest good told resumes h =
    regrouped read front word rest number (told (resumes_after read front f g word resumes good) rest number (sym (good rest) ∙ h))

-- ---- a word in its place

abbrev pub then_word : {A J : Type 0} → (List ℕ → Option A) → ℕ → (A → List (List ℕ) → Parsed J) → List (List ℕ) → Parsed J
then_word reading n k words = word_at reading n words >>= λ x. k x.0 x.1

-- a value, and these words after it
abbrev pub beside : {A : Type 0} → List (List ℕ) → Parsed A → Parsed (A × List (List ℕ))
beside rest p = p >>= λ v. Ok (v, rest)

pub word_good : {A J : Type 0} (reading : List ℕ → Option A) (n : ℕ) (k : A → List (List ℕ) → Parsed J) (word : List ℕ) (a : A) (rest : List (List ℕ)) → reading word ≡ Some a → then_word reading n k (word ∷ rest) ≡ k a rest
word_good {A} reading n k word a rest h = ap (λ (y : Option A). beside rest (or_at n y) >>= λ x. k x.0 x.1) h

pub word_bad : {A J : Type 0} (reading : List ℕ → Option A) (n : ℕ) (k : A → List (List ℕ) → Parsed J) (word : List ℕ) (rest : List (List ℕ)) → reading word ≡ None → then_word reading n k (word ∷ rest) ≡ Err n
word_bad {A} reading n k word rest h = ap (λ (y : Option A). beside rest (or_at n y) >>= λ x. k x.0 x.1) h

told_word : {A J : Type 0} (read : List (List ℕ) → Parsed J) (front : List (List ℕ)) (reading : List ℕ → Option A) (n : ℕ) (k : A → List (List ℕ) → Parsed J) → n ≡ length front + 1 → Done (then_word reading n k)
    → ((word : List ℕ) (a : A) → reading word ≡ Some a → Told read (front ++ word ∷ []) (k a)) → Resumes read front (then_word reading n k)
    → (word : List ℕ) (rest : List (List ℕ)) (number : ℕ) (y : Option A) → reading word ≡ y → then_word reading n k (word ∷ rest) ≡ Err number → Refused read (front ++ word ∷ rest) number
told_word read front reading n k place done told resumes word rest number None e h =
    bad_word read front (then_word reading n k) n number word rest place done resumes (λ after. word_bad reading n k word after e) h
told_word read front reading n k place done told resumes word rest number (Some a) e h =
    good_word read front (then_word reading n k) (k a) number word rest (λ after. word_good reading n k word a after e) (told word a e) resumes h

told_words : {A J : Type 0} (read : List (List ℕ) → Parsed J) (front : List (List ℕ)) (reading : List ℕ → Option A) (n : ℕ) (k : A → List (List ℕ) → Parsed J) → n ≡ length front + 1 → Done (then_word reading n k)
    → ((word : List ℕ) (a : A) → reading word ≡ Some a → Told read (front ++ word ∷ []) (k a)) → Told read front (then_word reading n k)
told_words {A} {J} read front reading n k place done told resumes [] number h =
    missing read front n number place (same_number {J = J} n number h) (goes_on read front (then_word reading n k) resumes done)
told_words read front reading n k place done told resumes (word ∷ rest) number h = told_word read front reading n k place done told resumes word rest number (reading word) refl h

pub fine_word : {A J : Type 0} (read : List (List ℕ) → Parsed J) (front : List (List ℕ)) (reading : List ℕ → Option A) (n : ℕ) (k : A → List (List ℕ) → Parsed J) (some : List ℕ) (value : A) → n ≡ length front + 1
    → reading some ≡ Some value → ((word : List ℕ) (a : A) → reading word ≡ Some a → Fine read (front ++ word ∷ []) (k a)) → Fine read front (then_word reading n k)
fine_word read front reading n k some value place e fine =
    let d = (fine some value e).done in
    let done : Done (then_word reading n k) = (some ∷ d.0, d.1, word_good reading n k some value d.0 e ∙ d.2) in
    record { done = done; told = told_words read front reading n k place done (λ word a is. (fine word a is).told) }

-- ---- no more words

pub fine_last : {J : Type 0} (read : List (List ℕ) → Parsed J) (front : List (List ℕ)) (f : List (List ℕ) → Parsed J) (n : ℕ) (job : J) → n ≡ length front + 1 → f [] ≡ Ok job
    → ((word : List ℕ) (after : List (List ℕ)) → f (word ∷ after) ≡ Err n) → Fine read front f
fine_last {J} read front f n job place last more = record { done = ([], job, last); told = told }
  where
    told : Told read front f
    told resumes [] number h = absurd (job_not_number job number (sym last ∙ h))
    told resumes (word ∷ rest) number h = bad_word read front f n number word rest place ([], job, last) resumes (λ after. more word after) h

-- ---- the first word that can't stand

begins : {J : Type 0} (IsCommand : List (List ℕ) → J → Type 0) (read : List (List ℕ) → Parsed J) → ReadsCommands IsCommand read → (front : List (List ℕ)) → Done (λ on. read (front ++ on)) → BeginsCommand IsCommand front
begins IsCommand read reads front done = (done.0, done.1, (reads (front ++ done.0) done.1).0 done.2)

cannot_go_on : {J : Type 0} (IsCommand : List (List ℕ) → J → Type 0) (read : List (List ℕ) → Parsed J) → ReadsCommands IsCommand read → (words front rest : List (List ℕ)) (number : ℕ)
    → words ≡ front ++ rest → read words ≡ Err number → Stops read front rest number → CannotGoOn IsCommand front rest
cannot_go_on IsCommand read reads words front [] number whole h stops =
    λ job command. job_not_number job number (sym ((reads front job).1 command) ∙ ap read (sym (whole ∙ append-nil front)) ∙ h)
cannot_go_on IsCommand read reads words front (word ∷ rest) number whole h stops =
    λ b. job_not_number b.1 number (sym ((reads ((front ++ word ∷ []) ++ b.0) b.1).1 b.2) ∙ ap read (append_assoc front (word ∷ []) b.0) ∙ stops b.0)

first_wrong : {J : Type 0} (IsCommand : List (List ℕ) → J → Type 0) (read : List (List ℕ) → Parsed J) → ReadsCommands IsCommand read → (words : List (List ℕ)) (number : ℕ) → read words ≡ Err number → Refused read words number
    → IsFirstWrong IsCommand words number
first_wrong IsCommand read reads words number h r = record {
  front = r.before;
  rest = r.rest;
  words_are = r.whole;
  number_is = r.place;
  begins = begins IsCommand read reads r.before r.goes;
  wrong = cannot_go_on IsCommand read reads words r.before r.rest number r.whole h r.stops;
}

-- where a word can't stand, no longer words can
none_longer : {J : Type 0} (IsCommand : List (List ℕ) → J → Type 0) (front rest later : List (List ℕ)) (word : List ℕ) (more after : List (List ℕ))
    → CannotGoOn IsCommand front rest → rest ≡ word ∷ after → later ≡ front ++ word ∷ more → BeginsCommand IsCommand later → ⊥
none_longer IsCommand front rest later word more after bad is longer b =
    let there : CannotGoOn IsCommand front (word ∷ after) = subst (λ (r : List (List ℕ)). CannotGoOn IsCommand front r) is bad in
    there (
      more ++ b.0,
      b.1,
      subst (λ (ws : List (List ℕ)). IsCommand ws b.1)
          (ap (λ (ws : List (List ℕ)). ws ++ b.0) longer ∙ append_assoc front (word ∷ more) b.0 ∙ sym (append_assoc front (word ∷ []) (more ++ b.0))) b.2,
    )

one_wrong : {J : Type 0} (IsCommand : List (List ℕ) → J → Type 0) (words : List (List ℕ)) (x y : ℕ) → (a : IsFirstWrong IsCommand words x) → (b : IsFirstWrong IsCommand words y) → Compared a.front a.rest b.front b.rest → x ≡ y
one_wrong IsCommand words x y a b (Same p q) = a.number_is ∙ ap (λ (f : List (List ℕ)). length f + 1) p ∙ sym b.number_is
one_wrong IsCommand words x y a b (Longer word more p q) = absurd (none_longer IsCommand a.front a.rest b.front word more (more ++ b.rest) a.wrong q p b.begins)
one_wrong IsCommand words x y a b (Shorter word more p q) = absurd (none_longer IsCommand b.front b.rest a.front word more (more ++ a.rest) b.wrong q p a.begins)

never_read : {J : Type 0} (IsCommand : List (List ℕ) → J → Type 0) (words front rest : List (List ℕ)) (job : J) → words ≡ front ++ rest → CannotGoOn IsCommand front rest → IsCommand words job → ⊥
never_read IsCommand words front [] job whole bad command = bad job (subst (λ (ws : List (List ℕ)). IsCommand ws job) (whole ∙ append-nil front) command)
never_read IsCommand words front (word ∷ rest) job whole bad command =
    bad (rest, job, subst (λ (ws : List (List ℕ)). IsCommand ws job) (whole ∙ sym (append_assoc front (word ∷ []) rest)) command)

refused_so : {J : Type 0} (IsCommand : List (List ℕ) → J → Type 0) (read : List (List ℕ) → Parsed J) → ReadsCommands IsCommand read → ((words : List (List ℕ)) (number : ℕ) → read words ≡ Err number → Refused read words number)
    → (words : List (List ℕ)) (number : ℕ) → (a : IsFirstWrong IsCommand words number) → (r : Parsed J) → read words ≡ r → read words ≡ Err number
refused_so IsCommand read reads refuses words number a (Ok job) is = absurd (never_read IsCommand words a.front a.rest job a.words_are a.wrong ((reads words job).0 is))
refused_so IsCommand read reads refuses words number a (Err n) is =
    let b = first_wrong IsCommand read reads words n is (refuses words n is) in
    is ∙ ap (λ (m : ℕ). Err m) (one_wrong IsCommand words n number b a (compared b.front b.rest a.front a.rest (sym b.words_are ∙ a.words_are)))

pub tells_first_wrong : {J : Type 0} (IsCommand : List (List ℕ) → J → Type 0) (read : List (List ℕ) → Parsed J) → ReadsCommands IsCommand read → ((words : List (List ℕ)) (number : ℕ) → read words ≡ Err number → Refused read words number)
    → TellsFirstWrong IsCommand read
tells_first_wrong IsCommand read reads refuses words number =
    ((λ h. first_wrong IsCommand read reads words number h (refuses words number h)), (λ a. refused_so IsCommand read reads refuses words number a (read words) refl))
