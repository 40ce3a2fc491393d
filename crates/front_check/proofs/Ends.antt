-- How a run ends, from what its parts did.
use Rattle.std.proofs.Common.{◌≡◌, ◌≢◌, inl, inr, ℕ, List, [], ◌++◌, Option, Some, None, Ok, refl, sym, ap, ◌∙◌, subst, append-nil, arith}
use Rattle.std.specs.FinMap.{get}
use Rattle.slab_desk.specs.Desk.{Told, Files, Steps, WhereTold, ChangesLeft, Says, WithPrefix}
use Rattle.slab_desk.proofs.Steps.{steps_join, steps_weaker}
use Rattle.mill_model.specs.Mill.{Mill}
use Rattle.run_words.specs.Words.{Parsed}
use Rattle.run_words.specs.Texts.{memory_text}
use Rattle.run_words.specs.Files.{HasMill}
use Rattle.run_words.proofs.Telling.{always, joined}
use Rattle.front_check.specs.Words.{CheckWords}
use Rattle.front_check.specs.Outcomes.{Owing, SaysOnly, BeginsToSay, Ran}
use Rattle.front_check.specs.Owed.{OwesOfWords, OwesOfCheck, IsVerdictStatus, StopsSoon}
use Rattle.front_check.specs.Endings.{Finishes, ReadsToBad, LeavesRest}

-- ---- reading, and then saying

said_after : (text : List ℕ) (x y z : Told) → ChangesLeft x y → Says text y z → SaysOnly text x z
said_after text x y z p q = q ∙ ap (λ (t : Told). record t { said = t.said ++ text }) p ∙ ap (λ (l : List ℕ). record x { left = l; said = x.said ++ text }) (sym (ap (λ (t : Told). t.left) q))

begun_after : (text : List ℕ) (x y z : Told) → ChangesLeft x y → WithPrefix Says text y z → BeginsToSay text x z
begun_after text x y z p (front, back, whole, q) = (front, back, whole, said_after front x y z p q)

-- nothing was said where files were only read
read_only : (x y : Told) → ChangesLeft x y → SaysOnly [] x y
read_only x y p = p ∙ ap (λ (s : List ℕ). record x { left = y.left; said = s }) (sym (append-nil x.said))

-- ---- ends

-- a text that is owed
pub ends_owed : (owes : Files → Owing) (status result : ℕ) (text : List ℕ) (a b c : Option Told)
    → (status ≢ 5) × (status ≢ 6) → WhereTold a (λ t. owes t.files status text)
    → Steps a b ChangesLeft → Finishes status text b c result → Steps a c (Ran owes result)
ends_owed owes status result text a b c (not5, not6) is read end = elim end.status [
  | inl e ↦ joined (λ files. owes files status text) a b c is (λ x y z w p q. record {
    fault = λ five. absurd (not5 (sym e ∙ five));
    memory = λ six. absurd (not6 (sym e ∙ six));
    owed = λ _ _. (text, subst (λ (s : ℕ). owes x.files s text) (sym e) w, said_after text x y z p q);
  }) read (end.given (λ five. not5 (sym e ∙ five)))
  | inr e ↦ joined (λ files. owes files status text) a b c is (λ x y z w p q. record {
    fault = λ _. inr (inl (status, text, w, begun_after text x y z p q));
    memory = λ is. cc;
    owed = λ not _. absurd (not e);
  }) read (end.short e)
]

-- the text for want of memory
pub ends_memory : (owes : Files → Owing) (result : ℕ) (a b c : Option Told)
    → Steps a b ChangesLeft → Finishes 6 memory_text b c result → Steps a c (Ran owes result)
ends_memory owes result a b c read end = elim end.status [
  | inl e ↦ joined (λ _. Unit {0}) a b c (always a) (λ x y z w p q. record {
    fault = λ is. cc;
    memory = λ _. said_after memory_text x y z p q;
    owed = λ _ not. absurd (not e);
  }) read (end.given (λ is. cc))
  | inr e ↦ joined (λ _. Unit {0}) a b c (always a) (λ x y z w p q. record {
    fault = λ _. inr (inr (begun_after memory_text x y z p q));
    memory = λ is. cc;
    owed = λ not _. absurd (not e);
  }) read (end.short e)
]

-- a fault while files were read
pub ends_fault : (owes : Files → Owing) (a b : Option Told) → Steps a b ChangesLeft → Steps a b (Ran owes 5)
ends_fault owes None None read = tt
ends_fault owes None (Some y) read = read
ends_fault owes (Some x) None read = read
ends_fault owes (Some x) (Some y) read = record {
  fault = λ _. inl (read_only x y read);
  memory = λ is. cc;
  owed = λ not _. absurd (not refl);
}

-- what a job owes is what its words owe
pub ran_parsed : (parsed : Parsed CheckWords) (words : CheckWords) (a b : Option Told) (result : ℕ) → parsed ≡ Ok words
    → Steps a b (Ran (OwesOfCheck words) result) → Steps a b (Ran (OwesOfWords parsed) result)
ran_parsed parsed words a b result e ran = subst (λ (p : Parsed CheckWords). Steps a b (Ran (OwesOfWords p) result)) (sym e) ran

-- ---- what is left to read

-- the certificate was read after the other files
pub rest_read : (words : CheckWords) (m : Mill) (status : ℕ) (a b c : Option Told) → WhereTold a (λ t. HasMill words.mill m t.files)
    → Steps a b ChangesLeft → Steps b c (ReadsToBad m words.cert) → Steps a c (LeavesRest (Ok words) status)
rest_read words m status a b c is read soon = joined (λ files. HasMill words.mill m files) a b c is (λ x y z w p q _. (
  m,
  w,
  (q.0, subst (λ (files : Files). get files words.cert ≡ Some q.0) (ap (λ (t : Told). t.files) p) q.1, q.2),
)) read soon

no_five : (n : ℕ) → n ≡ 5 → IsVerdictStatus n → ⊥
no_five n e v = omega (arith, e, v)

-- and then something was said
pub rest_said : (words : CheckWords) (code result : ℕ) (text : List ℕ) (a b c : Option Told) → code ≢ 5
    → Steps a b (LeavesRest (Ok words) code) → Finishes code text b c result → Steps a c (LeavesRest (Ok words) result)
rest_said words code result text a b c not5 rest end = elim end.status [
  | inl e ↦ steps_join a b c (λ x y z p q v. let r = p (subst IsVerdictStatus e v) in (
    r.0,
    r.1,
    (r.2.0, r.2.1, subst (λ (l : List ℕ). StopsSoon r.0 r.2.0 l) (sym (ap (λ (t : Told). t.left) q)) r.2.2),
  )) rest (end.given (λ five. not5 (sym e ∙ five)))
  | inr e ↦ steps_join a b c (λ x y z p q v. absurd (no_five result e v)) rest (end.short e)
]

-- without a verdict nothing is claimed of the rest
pub rest_unclaimed : (words : CheckWords) (code result : ℕ) (text : List ℕ) (a b c : Option Told) → code ≢ 5 → (IsVerdictStatus code → ⊥)
    → Steps a b ChangesLeft → Finishes code text b c result → Steps a c (LeavesRest (Ok words) result)
rest_unclaimed words code result text a b c not5 none read end = rest_said words code result text a b c not5 (steps_weaker a b (λ x y p v. absurd (none v)) read) end

pub rest_of_fault : (words : CheckWords) (a b : Option Told) → Steps a b ChangesLeft → Steps a b (LeavesRest (Ok words) 5)
rest_of_fault words a b read = steps_weaker a b (λ x y p v. absurd (no_five 5 refl v)) read

pub rest_parsed : (parsed : Parsed CheckWords) (words : CheckWords) (a b : Option Told) (result : ℕ) → parsed ≡ Ok words
    → Steps a b (LeavesRest (Ok words) result) → Steps a b (LeavesRest parsed result)
rest_parsed parsed words a b result e rest = subst (λ (p : Parsed CheckWords). Steps a b (LeavesRest p result)) (sym e) rest
