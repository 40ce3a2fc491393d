-- Decisions and the marks of their questions.
use Rattle.std.proofs.Common.{◌≡◌, ◌≢◌, ℕ, zero, suc, ◌+◌, ◌<◌, ◌≤◌, Bool, true, false, cond, List, [], ◌∷◌, length, get_or, set, Contains, refl, ap, sym, ◌∙◌, subst, inl, inr, arith, sum_by, get_or-set_same, get_or-set_other, length-set}
use Rattle.std.specs.List.{AllByRecursion}
use Rattle.std.proofs.lemmas.Bool.{cases_eq, cases_lt, both_ways}
use Rattle.std.proofs.lemmas.List.{set-set, set-get_or, get_or_past}
use Rattle.std.proofs.lemmas.List.Sums.{sum_by-cons, sum_by-set}
use Rattle.mill_model.specs.declared.ask.Ask.{Ask}
use Rattle.mill_model.specs.Decisions.{Decision}
use Rattle.mill_model.specs.Trees.{IsFresh}
use Rattle.mill_model.specs.Decisions.{IsAskAmong}
use Rattle.mill_model.specs.Trees.{asks_among}
use Rattle.mill_model.specs.Trees.{AreAskedOnce}
use Rattle.price_check.specs.Path.{asks_of, ArePath}
use Rattle.price_check.specs.Marks.{place_of, AreMarked}
use Rattle.price_check.proofs.Places.{place_of-injective}

-- a mark lies within the list
marked_within : (marks : List Bool) (k : ℕ) → get_or marks k false ≡ true → k < length marks
marked_within marks k e = elim (cases_lt k (length marks)) [
  | inl less ↦ less
  | inr past ↦ absurd (both_ways (get_or marks k false) (get_or_past marks k false past) e)
]

-- what is marked after a mark is taken away was marked before, and it isn't that one
still_marked : (marks : List Bool) (a k : ℕ) → get_or (set marks a false) k false ≡ true → (k ≢ a) × (get_or marks k false ≡ true)
still_marked marks a k e = elim (cases_eq k a) [
  | inl same ↦ absurd (elim (cases_lt a (length marks)) [
    | inl less ↦ both_ways (get_or (set marks a false) k false) (ap (λ i. get_or (set marks a false) i false) same ∙ get_or-set_same marks a false false less) e
    | inr past ↦ both_ways (get_or (set marks a false) k false) (ap (λ i. get_or (set marks a false) i false) same ∙ get_or_past (set marks a false) a false (omega (arith, length-set marks a false))) e
  ])
  | inr other ↦ (other, sym (get_or-set_other marks a k false false other) ∙ e)
]

-- a mark that is put and taken away again
restored : (marks : List Bool) (a : ℕ) → get_or marks a false ≡ false → set (set marks a true) a false ≡ marks
restored marks a e = set-set marks a true false ∙ ap (set marks a) (sym e) ∙ set-get_or marks a false

module _ (n s : ℕ) where
  -- a fresh question is marked
  pub AreMarked-put : (decisions : List Decision) (marks : List Bool) (ask : Ask) (answer : Bool) → AreMarked n s decisions marks → IsAskAmong n s ask → place_of n s ask < length marks → get_or marks (place_of n s ask) false ≡ false
      → AreMarked n s ((ask, answer) ∷ decisions) (set marks (place_of n s ask) true)
  AreMarked-put decisions marks ask answer are asked lt free =
      (asked, get_or-set_same marks (place_of n s ask) true false lt, subst (λ (ms : List Bool). AreMarked n s decisions ms) (sym (restored marks (place_of n s ask) free)) are)

  -- a question that is answered is marked
  pub marked_where_asked : (decisions : List Decision) (marks : List Bool) (ask : Ask) → AreMarked n s decisions marks → Contains (asks_of decisions) ask → get_or marks (place_of n s ask) false ≡ true
  marked_where_asked [] marks ask are (k, lt, e) = absurd (omega arith)
  marked_where_asked (d ∷ decisions) marks ask are (zero, lt, e) = subst (λ (a : Ask). get_or marks (place_of n s a) false ≡ true) e are.1
  marked_where_asked (d ∷ decisions) marks ask are (suc k, lt, e) = (still_marked marks (place_of n s d.0) (place_of n s ask) (marked_where_asked decisions (set marks (place_of n s d.0) false) ask are.2 (k, omega arith, e))).1

  -- a question that is marked is answered
  pub asked_where_marked : (decisions : List Decision) (marks : List Bool) (ask : Ask) → AreMarked n s decisions marks → IsAskAmong n s ask → get_or marks (place_of n s ask) false ≡ true → Contains (asks_of decisions) ask
  asked_where_marked [] marks ask are asked e = absurd (both_ways (get_or marks (place_of n s ask) false) (are (place_of n s ask)) e)
  asked_where_marked (d ∷ decisions) marks ask are asked e = elim (cases_eq (place_of n s ask) (place_of n s d.0)) [
    | inl same ↦ (0, omega arith, place_of-injective n s d.0 ask are.0 asked (sym same))
    | inr other ↦
        let later : Contains (asks_of decisions) ask = asked_where_marked decisions (set marks (place_of n s d.0) false) ask are.2 asked (get_or-set_other marks (place_of n s d.0) (place_of n s ask) false false other ∙ e) in
        (suc later.0, omega (arith, later.1), later.2)
  ]

  -- the latest question is asked once
  pub latest_fresh : (d : Decision) (decisions : List Decision) (marks : List Bool) → AreMarked n s (d ∷ decisions) marks → IsFresh d.0 decisions
  latest_fresh d decisions marks are found = (still_marked marks (place_of n s d.0) (place_of n s d.0) (marked_where_asked decisions (set marks (place_of n s d.0) false) d.0 are.2 found)).0 refl

  all_asked : (decisions : List Decision) (marks : List Bool) → AreMarked n s decisions marks → AllByRecursion (λ (d : Decision). IsAskAmong n s d.0) decisions
  all_asked [] marks are = tt
  all_asked (d ∷ decisions) marks are = (are.0, all_asked decisions (set marks (place_of n s d.0) false) are.2)

  all_distinct : (decisions : List Decision) (marks : List Bool) → AreMarked n s decisions marks → AreAskedOnce decisions
  all_distinct [] marks are = tt
  all_distinct (d ∷ decisions) marks are = (latest_fresh d decisions marks are, all_distinct decisions (set marks (place_of n s d.0) false) are.2)

  -- how many marks aren't set
  unmarked : List Bool → ℕ
  unmarked marks = sum_by (λ (b : Bool). cond b 0 1) marks

  all_unmarked : (marks : List Bool) → ((k : ℕ) → get_or marks k false ≡ false) → unmarked marks ≡ length marks
  unfolding unmarked
  all_unmarked [] free = refl
  all_unmarked (b ∷ marks) free = omega (arith, sum_by-cons (λ (c : Bool). cond c 0 1) b marks, ap {B = ℕ} (λ (c : Bool). cond c 0 1) (free 0), all_unmarked marks (λ k. free (suc k)))

  counted : (decisions : List Decision) (marks : List Bool) → AreMarked n s decisions marks → length decisions + unmarked marks ≡ length marks
  unfolding unmarked
  counted [] marks are = omega (arith, all_unmarked marks are)
  counted (d ∷ decisions) marks are =
      let a : ℕ = place_of n s d.0 in
      omega (arith, counted decisions (set marks a false) are.2, length-set marks a false, sum_by-set (λ (c : Bool). cond c 0 1) marks a false false (marked_within marks a are.1), ap {B = ℕ} (λ (c : Bool). cond c 0 1) are.1)

  -- there are at most as many decisions as marks
  pub few_decisions : (decisions : List Decision) (marks : List Bool) → AreMarked n s decisions marks → length decisions ≤ length marks
  few_decisions decisions marks are = omega (arith, counted decisions marks are)

  pub ArePath-from_marks : (decisions : List Decision) (marks : List Bool) → AreMarked n s decisions marks → length marks ≡ asks_among n s → ArePath n s decisions
  ArePath-from_marks decisions marks are size = record { asks = all_asked decisions marks are; distinct = all_distinct decisions marks are; count = omega (arith, few_decisions decisions marks are) }
