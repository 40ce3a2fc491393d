-- A tree has at most 2 ^ (m + 1) - 1 nodes, where the mill has m questions.
use Rattle.std.proofs.Common.{◌≡◌, ℕ, zero, suc, ◌+◌, ◌-◌, ◌*◌, ◌/◌, ◌^◌, ◌<◌, ◌≤◌, Bool, true, false, not, cond, ◌&&◌, ◌||◌, eqb, List, [], ◌∷◌, ◌++◌, map, length, Contains, count_by, refl, sym, ap, ap₂, ◌∙◌, subst, inl, inr, arith, add-one, pow_mono, pow-suc, length-append, sub-one, pow_pos}
use Rattle.std.specs.List.{range_with_len}
use Rattle.std.proofs.lemmas.List.Sums.{sum_by-cons}
use Rattle.std.proofs.lemmas.Bool.{eqb-true, eq-eqb, cases_eq, and_parts, and_from, cond-true, cond-false, false_from_ne_true, not_from_false}
use Rattle.std.proofs.lemmas.List.Elements.{Contains-append_left, Contains-append_right}
use Rattle.std.proofs.lemmas.List.FromFn.{length-map-range_with_len}
use Rattle.mill_model.specs.declared.ask.Ask.{Ask}
use Rattle.mill_model.specs.declared.ask.Ask.TheVariants.{Pair, Put}
use Rattle.mill_model.specs.Mill.{Mill}
use Rattle.mill_model.specs.Decisions.{Decision, IsAsk}
use Rattle.mill_model.specs.Trees.{Tree, IsTree, IsFresh, nodes, ask_count}
use Rattle.mill_model.specs.Trees.Tree.{End, Split}
use Rattle.mill_model.proofs.Gap.{Contains-here, Contains-later, Contains-cases}

-- ---- all questions

pairs_below : ℕ → List Ask
pairs_below zero = []
pairs_below (suc j) = map (λ i. Pair i j) (range_with_len 0 j) ++ pairs_below j

puts_below : ℕ → ℕ → List Ask
puts_below S zero = []
puts_below S (suc o) = map (λ s. Put o s) (range_with_len 0 S) ++ puts_below S o

all_asks : ℕ → ℕ → List Ask
all_asks n S = pairs_below n ++ puts_below S n

Contains-map_range : {X : Type 0} (f : ℕ → X) (a n k : ℕ) → a ≤ k → k < a + n → Contains (map f (range_with_len a n)) (f k)
Contains-map_range f a zero k l h = absurd (omega arith)
Contains-map_range f a (suc n) k l h = elim (cases_eq a k) [
  | inl e ↦ subst (λ j. Contains (map f (range_with_len a (suc n))) (f j)) e (Contains-here (f a) (map f (range_with_len (a + 1) n)))
  | inr e ↦ Contains-later (f a) (map f (range_with_len (a + 1) n)) (f k) (Contains-map_range f (a + 1) n k (omega arith) (omega arith))
]

has_pair : (n i j : ℕ) → i < j → j < n → Contains (pairs_below n) (Pair i j)
unfolding pairs_below
has_pair zero i j h l = absurd (omega arith)
has_pair (suc n) i j h l = elim (cases_eq j n) [
  | inl e ↦ subst (λ k. Contains (pairs_below (suc n)) (Pair i k)) (sym e) (Contains-append_left (map (λ i. Pair i n) (range_with_len 0 n)) (pairs_below n) (Pair i n) (Contains-map_range (λ i. Pair i n) 0 n i (omega arith) (omega arith)))
  | inr e ↦ Contains-append_right (map (λ i. Pair i n) (range_with_len 0 n)) (pairs_below n) (Pair i j) (has_pair n i j h (omega arith))
]

has_put : (S n o s : ℕ) → o < n → s < S → Contains (puts_below S n) (Put o s)
unfolding puts_below
has_put S zero o s h l = absurd (omega arith)
has_put S (suc n) o s h l = elim (cases_eq o n) [
  | inl e ↦ subst (λ k. Contains (puts_below S (suc n)) (Put k s)) (sym e) (Contains-append_left (map (λ s. Put n s) (range_with_len 0 S)) (puts_below S n) (Put n s) (Contains-map_range (λ s. Put n s) 0 S s (omega arith) (omega arith)))
  | inr e ↦ Contains-append_right (map (λ s. Put n s) (range_with_len 0 S)) (puts_below S n) (Put o s) (has_put S n o s (omega arith) l)
]

has_ask : (m : Mill) (ask : Ask) → IsAsk m ask → Contains (all_asks (length m.orders) (length m.yard)) ask
unfolding all_asks
has_ask m (Pair i j) h = Contains-append_left (pairs_below (length m.orders)) (puts_below (length m.yard) (length m.orders)) (Pair i j) (has_pair (length m.orders) i j h.0 h.1)
has_ask m (Put o s) h = Contains-append_right (pairs_below (length m.orders)) (puts_below (length m.yard) (length m.orders)) (Put o s) (has_put (length m.yard) (length m.orders) o s h.0 h.1)

length-pairs : (n : ℕ) → 2 * length (pairs_below n) + n ≡ n * n
unfolding pairs_below
length-pairs zero = refl
length-pairs (suc n) = omega (arith, length-pairs n, length-append (map (λ i. Pair i n) (range_with_len 0 n)) (pairs_below n), length-map-range_with_len (λ i. Pair i n) 0 n)

length-puts : (S n : ℕ) → length (puts_below S n) ≡ n * S
unfolding puts_below
length-puts S zero = omega arith
length-puts S (suc n) = omega (arith, length-puts S n, length-append (map (λ s. Put n s) (range_with_len 0 S)) (puts_below S n), length-map-range_with_len (λ s. Put n s) 0 S)

length-all_asks : (m : Mill) → length (all_asks (length m.orders) (length m.yard)) ≡ ask_count m
unfolding all_asks
length-all_asks m =
    length-append (pairs_below (length m.orders)) (puts_below (length m.yard) (length m.orders))
    ∙ ap₂ (λ a b. a + b) (halved (length (pairs_below (length m.orders))) (length m.orders) (length-pairs (length m.orders))) (length-puts (length m.yard) (length m.orders))
  where
    halved : (l n : ℕ) → 2 * l + n ≡ n * n → l ≡ n * (n - 1) / 2
    halved l zero h = omega arith
    halved l (suc n) h = let e : suc n * (suc n - 1) ≡ 2 * l = rw sub-one (omega arith) in omega (arith, e)

-- ---- which are open

same_ask : Ask → Ask → Bool
same_ask (Pair i j) (Pair k l) = eqb i k && eqb j l
same_ask (Pair i j) (Put o s) = false
same_ask (Put o s) (Pair k l) = false
same_ask (Put o s) (Put q t) = eqb o q && eqb s t

same_ask-true : (a b : Ask) → same_ask a b ≡ true → a ≡ b
unfolding same_ask
same_ask-true (Pair i j) (Pair k l) h = let w : (eqb i k ≡ true) × (eqb j l ≡ true) = and_parts (eqb i k) (eqb j l) h in ap₂ Pair (eqb-true i k w.0) (eqb-true j l w.1)
same_ask-true (Pair i j) (Put o s) h = cc
same_ask-true (Put o s) (Pair k l) h = cc
same_ask-true (Put o s) (Put q t) h = let w : (eqb o q ≡ true) × (eqb s t ≡ true) = and_parts (eqb o q) (eqb s t) h in ap₂ Put (eqb-true o q w.0) (eqb-true s t w.1)

same_ask_refl : (a : Ask) → same_ask a a ≡ true
unfolding same_ask
same_ask_refl (Pair i j) = and_from (eqb i i) (eqb j j) (eq-eqb i i refl) (eq-eqb j j refl)
same_ask_refl (Put o s) = and_from (eqb o o) (eqb s s) (eq-eqb o o refl) (eq-eqb s s refl)

-- whether the decisions answer the question
asked : List Decision → Ask → Bool
asked [] ask = false
asked (d ∷ decisions) ask = same_ask d.0 ask || asked decisions ask

not_asked : (decisions : List Decision) (ask : Ask) → IsFresh ask decisions → asked decisions ask ≡ false
unfolding asked
not_asked [] ask fresh = refl
not_asked (d ∷ decisions) ask fresh =
    rw (
      false_from_ne_true (same_ask d.0 ask) (λ e. fresh (0, omega arith, same_ask-true d.0 ask e)),
      not_asked decisions ask (λ c. fresh (Contains-later d.0 (map (λ (x : Decision). x.0) decisions) ask c)),
    ) refl

cond_weaker : (s t : Bool) → (s ≡ true → t ≡ true) → cond s 1 0 ≤ cond t 1 0
cond_weaker false t h = omega arith
cond_weaker true t h = rw (h refl) (omega arith)

count_weaker : {X : Type 0} (p q : X → Bool) (xs : List X) → ((y : X) → q y ≡ true → p y ≡ true) → count_by q xs ≤ count_by p xs
count_weaker p q [] weaker = omega arith
count_weaker p q (y ∷ ys) weaker = omega (arith, sum_by-cons (λ x. cond (q x) 1 0) y ys, sum_by-cons (λ x. cond (p x) 1 0) y ys, cond_weaker (q y) (p y) (weaker y), count_weaker p q ys weaker)

-- a weaker test that one more item passes counts more
count_less : {X : Type 0} (p q : X → Bool) (xs : List X) (x : X) → ((y : X) → q y ≡ true → p y ≡ true) → Contains xs x → p x ≡ true → q x ≡ false → count_by q xs < count_by p xs
count_less p q [] x weaker c e f = absurd (omega (arith, c.1))
count_less p q (y ∷ ys) x weaker c e f = elim (Contains-cases y ys x c) [
  | inl z ↦ omega (arith, sum_by-cons (λ x. cond (q x) 1 0) y ys, sum_by-cons (λ x. cond (p x) 1 0) y ys, cond-true {A = ℕ} (p y) 1 0 (ap p z ∙ e), cond-false {A = ℕ} (q y) 1 0 (ap q z ∙ f), count_weaker p q ys weaker)
  | inr d ↦ omega (arith, sum_by-cons (λ x. cond (q x) 1 0) y ys, sum_by-cons (λ x. cond (p x) 1 0) y ys, cond_weaker (q y) (p y) (weaker y), count_less p q ys x weaker d e f)
]

open_count : ℕ → ℕ → List Decision → ℕ
open_count n S decisions = count_by (λ ask. not (asked decisions ask)) (all_asks n S)

open_falls : (m : Mill) (ask : Ask) (b : Bool) (decisions : List Decision) → IsAsk m ask → IsFresh ask decisions → open_count (length m.orders) (length m.yard) ((ask, b) ∷ decisions) < open_count (length m.orders) (length m.yard) decisions
unfolding open_count asked
open_falls m ask b decisions h fresh =
    count_less (λ a. not (asked decisions a)) (λ a. not (same_ask ask a || asked decisions a)) (all_asks (length m.orders) (length m.yard)) ask
    (λ a e. weaker (same_ask ask a) (asked decisions a) e) (has_ask m ask h) (not_from_false (asked decisions ask) (not_asked decisions ask fresh)) (rw (same_ask_refl ask) refl)
  where
    weaker : (s t : Bool) → not (s || t) ≡ true → not t ≡ true
    weaker true t e = cc
    weaker false t e = e

nodes_by_open : {M E : Type 0} (m : Mill) (Holds : E → List Decision → Type 0) (t : Tree M E) (decisions : List Decision) → IsTree m Holds t decisions → nodes t + 1 ≤ 2 ^ suc (open_count (length m.orders) (length m.yard) decisions)
nodes_by_open m Holds (End e) decisions tree = rw pow-suc (omega (arith, pow_pos (open_count (length m.orders) (length m.yard) decisions)))
nodes_by_open m Holds (Split mark ask if_yes if_no) decisions tree =
    omega (arith, nodes_by_open m Holds if_yes ((ask, true) ∷ decisions) tree.2, nodes_by_open m Holds if_no ((ask, false) ∷ decisions) tree.3, twice true, twice false)
  where
    twice : (b : Bool) → 2 ^ suc (open_count (length m.orders) (length m.yard) ((ask, b) ∷ decisions)) * 2 ≤ 2 ^ suc (open_count (length m.orders) (length m.yard) decisions)
    twice b = rw (← pow-suc 2 (suc (open_count (length m.orders) (length m.yard) ((ask, b) ∷ decisions)))) (pow_mono (omega (arith, open_falls m ask b decisions tree.0 tree.1)))

no_decisions : (asks : List Ask) → count_by (λ ask. not (asked [] ask)) asks ≡ length asks
unfolding asked
no_decisions [] = refl
no_decisions (a ∷ asks) = omega (arith, sum_by-cons (λ (x : Ask). cond (not (asked [] x)) 1 0) a asks, no_decisions asks)

-- a tree below the root has at most 2 ^ (m + 1) - 1 nodes
pub nodes_most : {M E : Type 0} (m : Mill) (Holds : E → List Decision → Type 0) (t : Tree M E) → IsTree m Holds t [] → nodes t < 2 ^ (ask_count m + 1)
unfolding open_count
nodes_most m Holds t tree =
    let e : open_count (length m.orders) (length m.yard) [] ≡ ask_count m = no_decisions (all_asks (length m.orders) (length m.yard)) ∙ length-all_asks m in
    rw (add-one, ← e) (omega (arith, nodes_by_open m Holds t [] tree))
