-- Which files a run asked its desk to open and to create, from its parts.
use Rattle.std.proofs.Common.{◌≡◌, ◌≢◌, ◌⊎◌, inl, inr, ℕ, List, [], ◌∷◌, ◌++◌, Option, Result, Ok, Err, refl, sym, ap, ◌∙◌, subst, append-nil, arith}
use Rattle.slab_desk.specs.Desk.{Told}
use Rattle.slab_desk.specs.Names.{Names, with_created}
use Rattle.run_words.specs.Words.{Parsed}
use Rattle.run_words.specs.Opens.{HasOpened}
use Rattle.run_words.proofs.Opening.{opened_none}
use Rattle.slab_front.specs.declared.ending.Answer.{Answer}
use Rattle.slab_front.specs.declared.ending.Answer.TheVariants.{Text, Stored, SummedUp}
use Rattle.slab_front.specs.declared.ending.Stop.{Stop}
use Rattle.mill_report.specs.declared.word.Word.{Word}
use Rattle.mill_report.specs.declared.word.Word.TheVariants.{Complete, Budget, NoPlan}
use Rattle.slab_front.specs.Words.{Command}
use Rattle.slab_front.specs.Words.Command.{Solves, Resumes, Judges, Makes}
use Rattle.slab_front.specs.Searched.{Searched, status_of, status_with, word_of}
use Rattle.slab_front.specs.Owed.{IsSearchStatus}
use Rattle.slab_front.specs.Endings.{status_for}
use Rattle.slab_front.specs.Opens.{files_in, OpensInOrder, IsCreated, Creates, AsksInOrder, IsOpenedFor, names_for}

-- ---- a run

-- a run of a search doesn't end as one does
abbrev IsUnsearched : Parsed Command → ℕ → Type 0
IsUnsearched (Err number) status = Unit {0}
IsUnsearched (Ok (Solves words searching)) status = IsSearchStatus status → ⊥
IsUnsearched (Ok (Resumes words cut searching)) status = IsSearchStatus status → ⊥
IsUnsearched (Ok (Judges words plan)) status = Unit {0}
IsUnsearched (Ok (Makes orders seed)) status = Unit {0}

creates_nothing : (parsed : Parsed Command) (status : ℕ) → IsUnsearched parsed status → Creates parsed status []
creates_nothing (Err number) status un = refl
creates_nothing (Ok (Solves words searching)) status un = inl (record { none = refl; unsearched = un })
creates_nothing (Ok (Resumes words cut searching)) status un = inl (record { none = refl; unsearched = un })
creates_nothing (Ok (Judges words plan)) status un = refl
creates_nothing (Ok (Makes orders seed)) status un = refl

never_searched : (parsed : Parsed Command) (status : ℕ) → (IsSearchStatus status → ⊥) → IsUnsearched parsed status
never_searched (Err number) status never = tt
never_searched (Ok (Solves words searching)) status never = never
never_searched (Ok (Resumes words cut searching)) status never = never
never_searched (Ok (Judges words plan)) status never = tt
never_searched (Ok (Makes orders seed)) status never = tt

-- these were opened, in order, and all of them where the run ends with an answer
record IsRead (parsed : Parsed Command) (told : Option Told) (status : ℕ) (opened : List (List ℕ)) : Type 0 where
  order : OpensInOrder parsed told opened
  all : status ≢ 2 → status ≢ 5 → status ≢ 6 → opened ≡ files_in parsed

-- no file was created
asks_only : (parsed : Parsed Command) (told : Option Told) (status : ℕ) (old mid new : Names) → HasOpened (IsRead parsed told status) old mid → new ≡ mid → IsUnsearched parsed status
    → AsksInOrder parsed told status old new
asks_only parsed told status old mid new before is un = record {
  opened = before.opened;
  created = [];
  asked = is ∙ before.asked ∙ ap (λ (names : List (List ℕ)). record { opened = old.opened ++ before.opened; created = names }) (sym (append-nil old.created));
  order = before.holds.order;
  all = before.holds.all;
  creates = creates_nothing parsed status un;
  last = inl refl;
}

-- the words can't stand
pub asks_nothing : (number : ℕ) (told : Option Told) (status : ℕ) (old new : Names) → new ≡ old → AsksInOrder (Err number) told status old new
asks_nothing number told status old new is =
    asks_only (Err number) told status old new new
    (opened_none {P = IsRead (Err number) told status} old new is (record { order = refl; all = λ _ _ _. refl })) refl tt

-- a search ends with one of its statuses
searched : (s : Searched) (status : ℕ) → (status ≡ status_of s) ⊎ (status ≡ 5) → IsSearchStatus status ⊎ (status ≡ 5)
searched s status (inr five) = inr five
searched s status (inl is) = inl (subst IsSearchStatus (sym is) (ends (word_of s)))
  where
    ends : (word : Word) → IsSearchStatus (status_with word)
    ends Complete = inl refl
    ends Budget = inr (inl refl)
    ends NoPlan = inr (inr refl)

not_five : (status : ℕ) → status ≡ 5 → IsSearchStatus status → ⊥
not_five status five is = omega (arith, five, is)

unsearched_text : (code status : ℕ) → (status ≡ code) ⊎ (status ≡ 5) → (IsSearchStatus code → ⊥) → IsSearchStatus status → ⊥
unsearched_text code status (inl e) never is = never (subst IsSearchStatus e is)
unsearched_text code status (inr five) never is = not_five status five is

-- a file was created under the name of a search's words
asks_stored : (command : Command) (told : Option Told) (answer : Answer) (name : List ℕ) (status : ℕ) (old mid new : Names) → HasOpened (IsOpenedFor command told (Ok answer)) old mid
    → new ≡ with_created name mid → Creates (Ok command) status (name ∷ []) → AsksInOrder (Ok command) told status old new
asks_stored command told answer name status old mid new before is creates = record {
  opened = before.opened;
  created = name ∷ [];
  asked = is ∙ ap (with_created name) before.asked;
  order = before.holds.order;
  all = λ _ _ _. before.holds.all;
  creates = creates;
  last = inr before.holds.all;
}

stored_for : (cert name : List ℕ) (s : Searched) (status : ℕ) → name ≡ cert → (status ≡ status_of s) ⊎ (status ≡ 5) → IsCreated cert status (name ∷ [])
stored_for cert name s status same ends = record { one = ap (λ (n : List ℕ). n ∷ []) same; ended = searched s status ends }

-- an answer that only says a text
says_only : (command : Command) (told : Option Told) (answer : Answer) (status : ℕ) (old mid new : Names) → HasOpened (IsOpenedFor command told (Ok answer)) old mid → new ≡ mid
    → IsUnsearched (Ok command) status → AsksInOrder (Ok command) told status old new
says_only command told answer status old mid new before is un =
    asks_only (Ok command) told status old mid new
    (record { opened = before.opened; asked = before.asked; holds = record { order = before.holds.order; all = λ _ _ _. before.holds.all } }) is un

-- an answer was given
pub asks_given : (command : Command) (told : Option Told) (answer : Answer) (status : ℕ) (old mid new : Names) → HasOpened (IsOpenedFor command told (Ok answer)) old mid → new ≡ names_for answer mid
    → (status ≡ status_for answer) ⊎ (status ≡ 5) → AsksInOrder (Ok command) told status old new
asks_given (Solves words searching) told (Text ending) status old mid new before is ends =
    says_only (Solves words searching) told (Text ending) status old mid new before is (unsearched_text ending.status status ends before.holds.answers)
asks_given (Solves words searching) told (Stored name m s) status old mid new before is ends =
    asks_stored (Solves words searching) told (Stored name m s) name.now status old mid new before is
    (inr (stored_for searching.cert name.now s status before.holds.answers ends))
asks_given (Solves words searching) told (SummedUp m s) status old mid new before is ends = absurd before.holds.answers
asks_given (Resumes words cut searching) told (Text ending) status old mid new before is ends =
    says_only (Resumes words cut searching) told (Text ending) status old mid new before is (unsearched_text ending.status status ends before.holds.answers)
asks_given (Resumes words cut searching) told (Stored name m s) status old mid new before is ends =
    asks_stored (Resumes words cut searching) told (Stored name m s) name.now status old mid new before is
    (inr (stored_for searching.cert name.now s status before.holds.answers ends))
asks_given (Resumes words cut searching) told (SummedUp m s) status old mid new before is ends = absurd before.holds.answers
asks_given (Judges words plan) told (Text ending) status old mid new before is ends = says_only (Judges words plan) told (Text ending) status old mid new before is tt
asks_given (Judges words plan) told (Stored name m s) status old mid new before is ends = absurd before.holds.answers
asks_given (Judges words plan) told (SummedUp m s) status old mid new before is ends = absurd before.holds.answers
asks_given (Makes orders seed) told (Text ending) status old mid new before is ends = absurd before.holds.answers
asks_given (Makes orders seed) told (Stored name m s) status old mid new before is ends = absurd before.holds.answers
asks_given (Makes orders seed) told (SummedUp m s) status old mid new before is ends = says_only (Makes orders seed) told (SummedUp m s) status old mid new before is tt

stops : (code status : ℕ) → (status ≡ code) ⊎ (status ≡ 5) → (code ≡ 2) ⊎ ((code ≡ 5) ⊎ (code ≡ 6)) → (status ≡ 2) ⊎ ((status ≡ 5) ⊎ (status ≡ 6))
stops code status (inr five) of = inr (inl five)
stops code status (inl e) (inl two) = inl (e ∙ two)
stops code status (inl e) (inr (inl five)) = inr (inl (e ∙ five))
stops code status (inl e) (inr (inr six)) = inr (inr (e ∙ six))

unsearched_stop : (status : ℕ) → (status ≡ 2) ⊎ ((status ≡ 5) ⊎ (status ≡ 6)) → IsSearchStatus status → ⊥
unsearched_stop status of is = omega (arith, of, is)

no_answer : {P : Type 0} (status : ℕ) → (status ≡ 2) ⊎ ((status ≡ 5) ⊎ (status ≡ 6)) → status ≢ 2 → status ≢ 5 → status ≢ 6 → P
no_answer status (inl two) not2 not5 not6 = absurd (not2 two)
no_answer status (inr (inl five)) not2 not5 not6 = absurd (not5 five)
no_answer status (inr (inr six)) not2 not5 not6 = absurd (not6 six)

-- no answer came
pub asks_stopped : (command : Command) (told : Option Told) (result : Result Answer Stop) (code status : ℕ) (old mid new : Names) → HasOpened (IsOpenedFor command told result) old mid → new ≡ mid
    → (status ≡ code) ⊎ (status ≡ 5) → (code ≡ 2) ⊎ ((code ≡ 5) ⊎ (code ≡ 6)) → AsksInOrder (Ok command) told status old new
asks_stopped command told result code status old mid new before is ends of =
    let stop = stops code status ends of in
    asks_only (Ok command) told status old mid new
    (record { opened = before.opened; asked = before.asked; holds = record { order = before.holds.order; all = λ not2 not5 not6. no_answer status stop not2 not5 not6 } })
    is (never_searched (Ok command) status (unsearched_stop status stop))

-- what a job asks for is what its words ask for
pub asked_parsed : (parsed other : Parsed Command) (told : Option Told) (status : ℕ) (old new : Names) → parsed ≡ other → AsksInOrder other told status old new → AsksInOrder parsed told status old new
asked_parsed parsed other told status old new e asks = subst (λ (p : Parsed Command). AsksInOrder p told status old new) (sym e) asks
