-- What is owed of files that have a value.
use Rattle.std.proofs.Common.{◌≡◌, ◌≢◌, inl, inr, ℕ, Bool, true, false, nat_lt, List, length, Option, Some, None, Result, Ok, Err, refl, sym, subst, MatchResult, arith}
use Rattle.std.specs.Bool.{MatchBool}
use Rattle.std.specs.FinMap.{get}
use Rattle.std.specs.Prelude.{MatchOption}
use Rattle.slab_desk.specs.Desk.{Files}
use Rattle.mill_model.specs.Mill.{Mill, with_yard}
use Rattle.mill_read.specs.declared.fault.TextFault.{TextFault}
use Rattle.mill_read.specs.OrderFile.{order_file}
use Rattle.mill_read.specs.YardFile.{yard_file}
use Rattle.cert_rules.specs.Verdicts.{Verdict, IsVerdict}
use Rattle.cert_rules.specs.Verdicts.Verdict.{Front, NoPlan, CutOff, Bad}
use Rattle.cert_rules.proofs.Verdicts.{verdicts_hold}
use Rattle.run_words.specs.Words.{MillWords, Parsed}
use Rattle.run_words.specs.Files.{most_bytes, with_colours, HasValue, HasYard, HasMill}
use Rattle.run_words.proofs.Files.{is_short}
use Rattle.front_check.specs.declared.texts.Source.{Source}
use Rattle.front_check.specs.declared.texts.Source.TheVariants.{Orders, Yard as YardSource}
use Rattle.front_check.specs.Words.{CheckWords}
use Rattle.front_check.specs.Texts.{long_text, fault_text, verdict_text, status_of}
use Rattle.front_check.specs.Outcomes.{Owing}
use Rattle.front_check.specs.Owed.{Exactly, OwesOfFile, OwesOfYard, OwesOfMill, OwesVerdict, OwesOfCert, OwesOfCheck, MayEnd, IsVerdictStatus}
use Rattle.front_check.specs.Endings.{HasVerdict}

-- of a file with a value what follows is owed
pub owes_value : {A : Type 0} (source : Source) (reading : List ℕ → Result A TextFault) (owes : A → Owing) (files : Files) (name : List ℕ) (value : A) (status : ℕ) (text : List ℕ)
    → HasValue reading name value files → owes value status text → OwesOfFile source reading owes files name status text
owes_value {A = A} source reading owes files name value status text (bytes, has, fits, is) owed =
    let Fails : TextFault → Type 0 = λ fault. Exactly 2 (fault_text source fault) status text in
    let Long : Type 0 = Exactly 2 (long_text source) status text in
    let Of : Result A TextFault → Type 0 = λ r. MatchResult r (λ v. owes v status text) Fails in
    subst (λ (x : Option (List ℕ)). MatchOption x ⊥ (λ b. MatchBool (nat_lt most_bytes (length b)) Long (Of (reading b)))) (sym has)
    (subst (λ (b : Bool). MatchBool b Long (Of (reading bytes))) (sym (is_short (length bytes) fits)) (subst Of (sym is) owed))

owes_yard : (owes : Mill → Owing) (files : Files) (yard : Option (List ℕ)) (bare m : Mill) (status : ℕ) (text : List ℕ)
    → HasYard yard bare m files → owes m status text → OwesOfYard owes files yard bare status text
owes_yard owes files None bare m status text is owed = subst (λ (x : Mill). owes x status text) is owed
owes_yard owes files (Some name) bare m status text (yard, has, is) owed =
    owes_value YardSource (yard_file (length bare.orders)) (λ y. owes (with_yard bare y)) files name yard status text has (subst (λ (x : Mill). owes x status text) is owed)

-- of files that have a mill what follows is owed
pub owes_mill : (owes : Mill → Owing) (files : Files) (words : MillWords) (m : Mill) (status : ℕ) (text : List ℕ)
    → HasMill words m files → owes m status text → OwesOfMill owes files words status text
owes_mill owes files words m status text has owed =
    let after : Mill → Owing = λ x. owes (with_colours words.colours x) in
    owes_value Orders order_file (OwesOfYard after files words.yard) files words.orders has.bare status text has.orders
    (owes_yard after files words.yard has.bare has.with_its_yard status text has.yard (subst (λ (x : Mill). owes x status text) has.colours owed))

-- ---- a refusal of a file stands whatever follows

refused_reading : {A : Type 0} (r : Result A TextFault) (P Q : A → Type 0) (F : TextFault → Type 0) → ((value : A) → P value → Q value) → MatchResult r P F → MatchResult r Q F
refused_reading (Ok value) P Q F more is = more value is
refused_reading (Err fault) P Q F more is = is

refused_bytes : (b : Bool) (L P Q : Type 0) → (P → Q) → MatchBool b L P → MatchBool b L Q
refused_bytes true L P Q more is = is
refused_bytes false L P Q more is = more is

refused_there : (there : Option (List ℕ)) (P Q : List ℕ → Type 0) → ((bytes : List ℕ) → P bytes → Q bytes) → MatchOption there ⊥ P → MatchOption there ⊥ Q
refused_there None P Q more is = is
refused_there (Some bytes) P Q more is = more bytes is

pub more_of_file : {A : Type 0} (source : Source) (reading : List ℕ → Result A TextFault) (owes others : A → Owing) (files : Files) (name : List ℕ) (status : ℕ) (text : List ℕ)
    → ((value : A) → owes value status text → others value status text)
    → OwesOfFile source reading owes files name status text → OwesOfFile source reading others files name status text
more_of_file source reading owes others files name status text more is =
    let Fails : TextFault → Type 0 = λ fault. Exactly 2 (fault_text source fault) status text in
    let Long : Type 0 = Exactly 2 (long_text source) status text in
    refused_there (get files name)
    (λ b. MatchBool (nat_lt most_bytes (length b)) Long (MatchResult (reading b) (λ v. owes v status text) Fails))
    (λ b. MatchBool (nat_lt most_bytes (length b)) Long (MatchResult (reading b) (λ v. others v status text) Fails))
    (λ b. refused_bytes (nat_lt most_bytes (length b)) Long _ _ (refused_reading (reading b) (λ v. owes v status text) (λ v. others v status text) Fails more)) is

more_of_yard : (owes others : Mill → Owing) (files : Files) (yard : Option (List ℕ)) (m : Mill) (status : ℕ) (text : List ℕ)
    → ((x : Mill) → owes x status text → others x status text) → OwesOfYard owes files yard m status text → OwesOfYard others files yard m status text
more_of_yard owes others files None m status text more is = more m is
more_of_yard owes others files (Some name) m status text more is =
    more_of_file YardSource (yard_file (length m.orders)) (λ yard. owes (with_yard m yard)) (λ yard. others (with_yard m yard)) files name status text (λ yard. more (with_yard m yard)) is

pub more_of_mill : (owes others : Mill → Owing) (files : Files) (words : MillWords) (status : ℕ) (text : List ℕ)
    → ((m : Mill) → owes m status text → others m status text) → OwesOfMill owes files words status text → OwesOfMill others files words status text
more_of_mill owes others files words status text more is =
    let from : Mill → Owing = λ x. owes (with_colours words.colours x) in
    let to : Mill → Owing = λ x. others (with_colours words.colours x) in
    more_of_file Orders order_file (OwesOfYard from files words.yard) (OwesOfYard to files words.yard) files words.orders status text
    (λ m. more_of_yard from to files words.yard m status text (λ x. more (with_colours words.colours x))) is

-- ---- verdicts

-- what a verdict says is owed, and means what it says
pub owes_verdict : (m : Mill) (bytes : List ℕ) (v : Verdict) → IsVerdict m bytes v → OwesVerdict m bytes (status_of v) (verdict_text v)
owes_verdict m bytes (Front points) (c, spelled, (shows, are)) =
    inl (points, record { certificate = c; spelled = spelled; shows = shows; points_are = are; front = verdicts_hold m bytes (Front points) (c, spelled, (shows, are)) }, (refl, refl))
owes_verdict m bytes (CutOff points) (c, spelled, (shows, are)) =
    inr (inl (points, record { certificate = c; spelled = spelled; shows = shows; points_are = are; beginning = verdicts_hold m bytes (CutOff points) (c, spelled, (shows, are)) }, (refl, refl)))
owes_verdict m bytes NoPlan (c, spelled, shows) =
    inr (inr (inl (record { certificate = c; spelled = spelled; shows = shows; none = verdicts_hold m bytes NoPlan (c, spelled, shows) }, (refl, refl))))
owes_verdict m bytes (Bad number rule) first = inr (inr (inr (number, rule, first, (refl, refl))))

pub owes_cert : (m : Mill) (files : Files) (name : List ℕ) (v : Verdict) → HasVerdict m name v files → OwesOfCert files name m (status_of v) (verdict_text v)
owes_cert m files name v (bytes, has, is) =
    subst (λ (x : Option (List ℕ)). MatchOption x ⊥ (λ b. OwesVerdict m b (status_of v) (verdict_text v))) (sym has) (owes_verdict m bytes v is)

-- of files that have a mill and a certificate its verdict is owed
pub owes_check : (words : CheckWords) (m : Mill) (v : Verdict) (files : Files) (status : ℕ) (text : List ℕ)
    → HasMill words.mill m files → HasVerdict m words.cert v files → status ≡ status_of v → text ≡ verdict_text v → OwesOfCheck words files status text
owes_check words m v files status text has read e f =
    owes_mill (OwesOfCert files words.cert) files words.mill m status text has
    (subst (λ (s : ℕ). OwesOfCert files words.cert m s text) (sym e) (subst (λ (t : List ℕ). OwesOfCert files words.cert m (status_of v) t) (sym f) (owes_cert m files words.cert v read)))

-- each verdict has a status of its own
verdict_status : (v : Verdict) → IsVerdictStatus (status_of v)
verdict_status (Front points) = inl refl
verdict_status (CutOff points) = inr (inl refl)
verdict_status NoPlan = inr (inr (inl refl))
verdict_status (Bad number rule) = inr (inr (inr refl))

pub verdict_status_is : (v : Verdict) (status : ℕ) → status ≡ status_of v → IsVerdictStatus status
verdict_status_is v status e = subst IsVerdictStatus (sym e) (verdict_status v)

-- no run owes the status of a fault or of want of memory
pub never_stops : (parsed : Parsed CheckWords) (status : ℕ) → MayEnd parsed status → (status ≢ 5) × (status ≢ 6)
never_stops (Err number) status is = (λ e. omega (arith, is, e), λ e. omega (arith, is, e))
never_stops (Ok words) status is = (λ e. omega (arith, is, e), λ e. omega (arith, is, e))
