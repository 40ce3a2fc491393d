-- How a run ends, from what its parts did.
use Rattle.std.proofs.Common.{◌≡◌, ◌≢◌, inl, inr, ℕ, List, [], ◌++◌, Option, Some, None, Ok, refl, sym, ap, ◌∙◌, subst}
use Rattle.slab_desk.specs.Desk.{Told, Files, Steps, WhereTold, ChangesLeft}
use Rattle.run_words.specs.Words.{Parsed}
use Rattle.run_words.specs.Texts.{memory_text}
use Rattle.run_words.proofs.Telling.{always, joined}
use Rattle.slab_relax.specs.declared.tally.Tally.{Tally}
use Rattle.slab_front.specs.Words.{Command}
use Rattle.slab_front.specs.Outcomes.{Outcome, Owing, Gives, BeginsToStore, BeginsToSay, Begins, Ran, saying, storing, with_file}
use Rattle.slab_front.specs.Owed.{OwesOfWords, OwesOfCommand}
use Rattle.slab_front.specs.Endings.{Finishes}

-- ---- reading, and then giving

given_after : (o : Outcome) (x y z : Told) → ChangesLeft x y → Gives o y z → Gives o x z
given_after o x y z p q = q ∙ moved o.stored ∙ ap (λ (l : List ℕ). record x { files = (with_file o.stored x).files; target = (with_file o.stored x).target; left = l; said = x.said ++ o.said }) refl
  where
    moved : (stored : Option (List ℕ × List ℕ)) →
        record y { files = (with_file stored y).files; target = (with_file stored y).target; left = z.left; said = y.said ++ o.said }
        ≡ record x { files = (with_file stored x).files; target = (with_file stored x).target; left = z.left; said = x.said ++ o.said }
    moved None = ap (λ (t : Told). record t { left = z.left; said = t.said ++ o.said }) p
    moved (Some (name, bytes)) = ap (λ (t : Told). record t { files = (with_file (Some (name, bytes)) t).files; target = Some name; left = z.left; said = t.said ++ o.said }) p

begun_after : (o : Outcome) (x y z : Told) → ChangesLeft x y → Begins o y z → Begins o x z
begun_after o x y z p (inl stores) = inl (stored o.stored stores)
  where
    stored : (s : Option (List ℕ × List ℕ)) → BeginsToStore s y z → BeginsToStore s x z
    stored None is = is
    stored (Some (name, bytes)) (front, back, whole, q) = (front, back, whole, given_after (storing name front) x y z p q)
begun_after o x y z p (inr (front, back, whole, q)) = inr (front, back, whole, given_after (record o { said = front }) x y z p q)

-- ---- ends

-- an outcome that is owed
pub ends_owed : (owes : Files → Owing) (status result : ℕ) (o : Outcome) (a b c : Option Told)
    → (status ≢ 5) × (status ≢ 6) → WhereTold a (λ t. owes t.files status o)
    → Steps a b ChangesLeft → Finishes status o b c result → Steps a c (Ran owes result)
ends_owed owes status result o a b c (not5, not6) is read end = elim end.status [
  | inl e ↦ joined (λ files. owes files status o) a b c is (λ x y z w p q. record {
    fault = λ five. absurd (not5 (sym e ∙ five));
    memory = λ six. absurd (not6 (sym e ∙ six));
    owed = λ _ _. (o, subst (λ (s : ℕ). owes x.files s o) (sym e) w, given_after o x y z p q);
  }) read (end.given (λ five. not5 (sym e ∙ five)))
  | inr e ↦ joined (λ files. owes files status o) a b c is (λ x y z w p q. record {
    fault = λ _. elim q [
      | inl none ↦ inl (given_after (saying []) x y z p none)
      | inr begun ↦ inr (inl (status, o, w, begun_after o x y z p begun))
    ];
    memory = λ is. cc;
    owed = λ not _. absurd (not e);
  }) read (end.short e)
]

-- the text for want of memory
pub ends_memory : (owes : Files → Owing) (result : ℕ) (a b c : Option Told)
    → Steps a b ChangesLeft → Finishes 6 (saying memory_text) b c result → Steps a c (Ran owes result)
ends_memory owes result a b c read end = elim end.status [
  | inl e ↦ joined (λ _. Unit {0}) a b c (always a) (λ x y z w p q. record {
    fault = λ is. cc;
    memory = λ _. given_after (saying memory_text) x y z p q;
    owed = λ _ not. absurd (not e);
  }) read (end.given (λ is. cc))
  | inr e ↦ joined (λ _. Unit {0}) a b c (always a) (λ x y z w p q. record {
    fault = λ _. elim q [
      | inl none ↦ inl (given_after (saying []) x y z p none)
      | inr begun ↦ elim begun [
        | inl stores ↦ absurd stores
        | inr says ↦ inr (inr (says_after x y z p says))
      ]
    ];
    memory = λ is. cc;
    owed = λ not _. absurd (not e);
  }) read (end.short e)
]
  where
    says_after : (x y z : Told) → ChangesLeft x y → BeginsToSay (saying memory_text) y z → BeginsToSay (saying memory_text) x z
    says_after x y z p (front, back, whole, q) = (front, back, whole, given_after (saying front) x y z p q)

-- what a job owes is what its words owe
pub ran_parsed : (parsed : Parsed Command) (command : Command) (was is : Tally) (a b : Option Told) (result : ℕ) → parsed ≡ Ok command
    → Steps a b (Ran (OwesOfCommand command was is) result) → Steps a b (Ran (OwesOfWords parsed was is) result)
ran_parsed parsed command was is a b result e ran = subst (λ (p : Parsed Command). Steps a b (Ran (OwesOfWords p was is) result)) (sym e) ran
