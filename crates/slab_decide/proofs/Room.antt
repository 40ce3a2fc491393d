-- Decisions on different asks are no more than there are asks.
use Rattle.std.proofs.Common.{◌≡◌, ℕ, ◌+◌, ◌*◌, ◌<◌, ◌≤◌, true, false, eqb, List, [], ◌∷◌, map, length, sym, ap, ap₂, ◌∙◌, subst, inl, inr, arith, reverse, ◌/◌, ◌%◌, suc}
use Rattle.std.proofs.lemmas.List.{length-map, length-reverse}
use Rattle.std.specs.List.{AllByRecursion, IsDistinct, list_any}
use Rattle.std.proofs.lemmas.Nat.{div-mul-add, mod-mul-add, mul-add-lt}
use Rattle.std.proofs.lemmas.Bool.{ne_eqb, eqb-true, or_cases}
use Rattle.std.proofs.lemmas.Map.Steps.{length-le_from_distinct_below}
use Rattle.mill_model.specs.declared.ask.Ask.{Ask}
use Rattle.mill_model.specs.declared.ask.Ask.TheVariants.{Pair, Put}
use Rattle.mill_model.specs.Decisions.{Decision}
use Rattle.mill_model.specs.Trees.{AreAskedOnce, IsFresh}
use Rattle.slab_decide.specs.Decided.{Decisions, IsAskOf, AreDecisions}

-- an ask as a place in a table: the order that it asks of, and the node that it asks about
abbrev row : Ask → ℕ
row (Pair i j) = i
row (Put o s) = o

abbrev column : ℕ → Ask → ℕ
column yard (Pair i j) = yard + j
column yard (Put o s) = s

abbrev place : Decisions → Ask → ℕ
place v ask = row ask * (v.yard + v.orders) + column v.yard ask

row_in : (v : Decisions) (ask : Ask) → IsAskOf v ask → row ask < v.orders
row_in v (Pair i j) h = omega (arith, h.0, h.1)
row_in v (Put o s) h = h.0

column_in : (v : Decisions) (ask : Ask) → IsAskOf v ask → column v.yard ask < v.yard + v.orders
column_in v (Pair i j) h = omega (arith, h.1)
column_in v (Put o s) h = omega (arith, h.1)

one_ask : (v : Decisions) (p q : Ask) → IsAskOf v p → IsAskOf v q → row p ≡ row q → column v.yard p ≡ column v.yard q → p ≡ q
one_ask v (Pair i j) (Pair k l) h g e f = ap₂ Pair e (omega (arith, f))
one_ask v (Pair i j) (Put o s) h g e f = absurd (omega (arith, f, g.1))
one_ask v (Put o s) (Pair i j) h g e f = absurd (omega (arith, f, h.1))
one_ask v (Put o s) (Put p t) h g e f = ap₂ Put e f

-- different asks have different places
one_place : (v : Decisions) (p q : Ask) → IsAskOf v p → IsAskOf v q → place v p ≡ place v q → p ≡ q
one_place v p q h g e =
    let n : ℕ = v.yard + v.orders in
    one_ask v p q h g
    (sym (div-mul-add (row p) n (column v.yard p) (column_in v p h)) ∙ ap (λ k. k / n) e ∙ div-mul-add (row q) n (column v.yard q) (column_in v q g))
    (sym (mod-mul-add (row p) n (column v.yard p) (column_in v p h)) ∙ ap (λ k. k % n) e ∙ mod-mul-add (row q) n (column v.yard q) (column_in v q g))

abbrev places : Decisions → List Decision → List ℕ
places v list = map (λ (d : Decision). place v d.0) list

fresh_to : (ask : Ask) (list : List Decision) → IsFresh ask list → AllByRecursion (λ (e : Decision). ask ≡ e.0 → ⊥) list
fresh_to ask [] fresh = tt
fresh_to ask (d ∷ list) fresh = (λ e. fresh (0, omega arith, sym e), fresh_to ask list (λ found. fresh (suc found.0, omega (arith, found.1), found.2)))

other_places : (v : Decisions) (ask : Ask) (list : List Decision) → IsAskOf v ask → AllByRecursion (λ (d : Decision). IsAskOf v d.0) list → AllByRecursion (λ (e : Decision). ask ≡ e.0 → ⊥) list → AllByRecursion (λ k. eqb (place v ask) k ≡ false) (places v list)
other_places v ask [] h asks new = tt
other_places v ask (d ∷ list) h asks new = (ne_eqb (place v ask) (place v d.0) (λ e. new.0 (one_place v ask d.0 h asks.0 e)), other_places v ask list h asks.1 new.1)

different_places : (v : Decisions) (list : List Decision) → AllByRecursion (λ (d : Decision). IsAskOf v d.0) list → AreAskedOnce list → IsDistinct eqb (places v list)
unfolding IsDistinct
different_places v [] asks once = tt
different_places v (d ∷ list) asks once = (other_places v d.0 list asks.0 asks.1 (fresh_to d.0 list once.0), different_places v list asks.1 once.1)

places_below : (v : Decisions) (list : List Decision) → AllByRecursion (λ (d : Decision). IsAskOf v d.0) list → (k : ℕ) → list_any (eqb k) (places v list) ≡ true → k < (v.yard + v.orders) * v.orders
places_below v [] asks k e = cc
places_below v (d ∷ list) asks k e = elim (or_cases (eqb k (place v d.0)) (list_any (eqb k) (places v list)) e) [
  | inl q ↦ subst (λ x. x < (v.yard + v.orders) * v.orders) (sym (eqb-true k (place v d.0) q)) (mul-add-lt (row d.0) (v.yard + v.orders) (column v.yard d.0) v.orders (row_in v d.0 asks.0) (column_in v d.0 asks.0))
  | inr q ↦ places_below v list asks.1 k q
]

pub length-decisions : (v : Decisions) → AreDecisions v → length v.list ≤ (v.yard + v.orders) * v.orders
length-decisions v d = subst (λ n. n ≤ (v.yard + v.orders) * v.orders) (length-map v.list (λ (e : Decision). place v e.0)) (length-le_from_distinct_below (places v v.list) ((v.yard + v.orders) * v.orders) (different_places v v.list d.asks d.once) (places_below v v.list d.asks))

-- a list that can take one more decision has room for it
pub room_for : (v : Decisions) (d : Decision) (items : List Decision) (capacity : ℕ) → AreDecisions (record v { list = d ∷ v.list }) → v.list ≡ reverse items → (v.yard + v.orders) * v.orders ≤ capacity → length items < capacity
room_for v d items capacity h e room = omega (arith, room, length-decisions (record v { list = d ∷ v.list }) h, ap length e, length-reverse items)
