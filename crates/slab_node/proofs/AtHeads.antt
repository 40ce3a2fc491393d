-- Prices on groups, pushed order by order.
use Rattle.std.proofs.Common.{◌≡◌, ℕ, ◌+◌, ◌<◌, ◌≤◌, ℤ, pos, Bool, true, false, cond, eqb, List, [], ◌∷◌, ◌++◌, length, get_or, All, refl, sym, ap, ◌∙◌, subst, arith}
use Rattle.std.specs.Prelude.{◌-ℤ◌}
use Rattle.mill_model.specs.declared.kind.Kind.{Kind}
use Rattle.mill_model.specs.Mill.{Mill}
use Rattle.mill_model.specs.Columns.{Fits, load, loss_of, size_of}
use Rattle.slab_node.specs.Grouped.{kind_at, group_of, group_column}
use Rattle.std.proofs.lemmas.Int.{ints}
use Rattle.std.proofs.lemmas.Bool.{eq-eqb, ne_eqb}
use Rattle.std.proofs.lemmas.List.Elements.{All-from_get_or}
use Rattle.std.proofs.Math.ListN.{length-append}
use Rattle.pricing_laws.specs.Groups.{head_of}
use Rattle.mill_model.specs.Prices.{IsPrice}
use Rattle.slab_node.specs.Stated.{at_heads, AreAtHeads, only, group_loss}
use Rattle.slab_node.proofs.Pushing.{each_push}

-- a price as wanted of an order
abbrev pub IsAt : List ℕ → (ℕ → ℤ) → ℕ → ℤ → Type 0
IsAt heads value o price = (price ≡ at_heads heads value o) × IsPrice price

-- the prices of the first so many orders
pub record AreAt (heads : List ℕ) (value : ℕ → ℤ) (count : ℕ) (pi : List ℤ) : Type 0 where
  pub size : length pi ≡ count
  pub each : (o : ℕ) → o < count → IsAt heads value o (get_or pi o (pos 0))

pub at_more : (heads : List ℕ) (value : ℕ → ℤ) (count : ℕ) (pi : List ℤ) (price : ℤ) (next : List ℤ) → next ≡ pi ++ price ∷ [] → IsAt heads value count price → AreAt heads value count pi → AreAt heads value (count + 1) next
at_more heads value count pi price next e here are = record {
  size = ap length e ∙ length-append pi (price ∷ []) ∙ ap (λ (n : ℕ). n + 1) are.size;
  each = rw e (each_push (IsAt heads value) pi price (pos 0) count are.size are.each here);
}

pub at_all : (heads : List ℕ) (value : ℕ → ℤ) (pi : List ℤ) → AreAt heads value (length heads) pi → AreAtHeads heads value pi
at_all heads value pi are = record { size = are.size; each = λ o h. (are.each o h).0 }

pub at_range : (heads : List ℕ) (value : ℕ → ℤ) (count : ℕ) (pi : List ℤ) → AreAt heads value count pi → All IsPrice pi
at_range heads value count pi are = All-from_get_or IsPrice pi (pos 0) (λ o h. (are.each o (omega (arith, are.size))).1)

one_is_price : IsPrice (pos 1)
one_is_price = (omega (arith, ints), omega (arith, ints))

zero_is_price : IsPrice (pos 0)
zero_is_price = (omega (arith, ints), omega (arith, ints))

-- 0 for an order that isn't the first of its group
pub at_other : (heads : List ℕ) (value : ℕ → ℤ) (o : ℕ) → (head_of heads o ≡ o → ⊥) → IsAt heads value o (pos 0)
at_other heads value o ne = (rw (ne_eqb (head_of heads o) o ne) refl, zero_is_price)

-- a small number for one that is
pub at_first : (heads : List ℕ) (value : ℕ → ℤ) (o n : ℕ) → head_of heads o ≡ o → value o ≡ pos n → n ≤ 10000 → IsAt heads value o (pos n)
at_first heads value o n own e small = (sym e ∙ sym (ap (λ (b : Bool). cond b (value o) (pos 0)) (eq-eqb (head_of heads o) o own)), (omega (arith, ints), omega (arith, ints)))

-- 1 for the one group, and 0 for another order
pub at_only : (heads : List ℕ) (head o : ℕ) → head_of heads head ≡ head → o ≡ head → IsAt heads (only head) o (pos 1)
at_only heads head o own e = at_first heads (only head) o 1 (ap (head_of heads) e ∙ own ∙ sym e) (ap (λ (b : Bool). cond b (pos 1) (pos 0)) (eq-eqb head o (sym e))) (omega arith)

pub at_not : (heads : List ℕ) (head o : ℕ) → (o ≡ head → ⊥) → IsAt heads (only head) o (pos 0)
at_not heads head o ne = (sym (ap (λ (b : Bool). cond (eqb (head_of heads o) o) (cond b (pos 1) (pos 0)) (pos 0)) (ne_eqb head o (λ e. ne (sym e))) ∙ neither (eqb (head_of heads o) o)), zero_is_price)
  where
    neither : (b : Bool) → cond b (pos 0) (pos 0) ≡ pos 0
    neither true = refl
    neither false = refl

-- what a group loses
pub at_loss : (m : Mill) (heads : List ℕ) (kinds : List Kind) (o size weight : ℕ) (price : ℤ) → head_of heads o ≡ o → size ≡ size_of m (kind_at kinds o) → size ≤ 10000 → weight ≡ load m (group_of heads o) → Fits m (group_column heads kinds o) → price ≡ (pos size -ℤ pos weight)
    → IsAt heads (group_loss m heads kinds) o price
at_loss m heads kinds o size weight price own size_is small weight_is fits e =
    let price_is : pos (loss_of m (group_column heads kinds o)) ≡ price = omega (arith, ints, e, size_is, weight_is, fits.weight) in
    subst (IsAt heads (group_loss m heads kinds) o) price_is (at_first heads (group_loss m heads kinds) o (loss_of m (group_column heads kinds o)) own refl (omega (arith, size_is, small)))
