-- Reading a list item by item.
use Rattle.std.proofs.Common.{◌≡◌, ℕ, suc, List, [], ◌∷◌, ◌++◌, Ok, Err, refl, sym, ap, ◌∙◌, subst, append_assoc, append-nil}
use Rattle.mill_read.specs.WordsLeft.{WordsLeft}
use Rattle.mill_read.specs.Reading.{Read, ◌>>=◌, list_at}
use Rattle.mill_read.specs.declared.fault.TextFault.{TextFault}

-- what was read before, in front of what is read
abbrev pub with_front : {A : Type 0} → List A → Read (List A) → Read (List A)
with_front front read = read >>= λ x. Ok (front ++ x.0, x.1)

with_front_more : {A : Type 0} (front : List A) (x : A) (read : Read (List A)) → with_front front (read >>= λ xs. Ok (x ∷ xs.0, xs.1)) ≡ with_front (front ++ x ∷ []) read
with_front_more front x (Ok xs) = ap (λ (l : _). Ok (l, xs.1)) (sym (append_assoc front (x ∷ []) xs.0))
with_front_more front x (Err e) = refl

-- one item read
pub list_at_item : {A : Type 0} (item : WordsLeft → Read A) (n k : ℕ) (left next : WordsLeft) (front : List A) (x : A) → n ≡ suc k → item left ≡ Ok (x, next)
    → with_front front (list_at item n left) ≡ with_front (front ++ x ∷ []) (list_at item k next)
unfolding list_at
list_at_item item n k left next front x is read = subst (λ (m : ℕ). with_front front (list_at item m left) ≡ with_front (front ++ x ∷ []) (list_at item k next)) (sym is)
    (ap (λ (r : Read _). with_front front (r >>= λ first. list_at item k first.1 >>= λ others. Ok (first.0 ∷ others.0, others.1))) read ∙ with_front_more front x (list_at item k next))

-- no item read
pub list_at_fault : {A : Type 0} (item : WordsLeft → Read A) (n k : ℕ) (left : WordsLeft) (front : List A) (e : TextFault) → n ≡ suc k → item left ≡ Err e
    → with_front front (list_at item n left) ≡ Err e
unfolding list_at
list_at_fault item n k left front e is read = subst (λ (m : ℕ). with_front front (list_at item m left) ≡ Err e) (sym is)
    (ap (λ (r : Read _). with_front front (r >>= λ first. list_at item k first.1 >>= λ others. Ok (first.0 ∷ others.0, others.1))) read)

pub list_at_end : {A : Type 0} (item : WordsLeft → Read A) (n : ℕ) (left : WordsLeft) (front : List A) → n ≡ 0 → with_front front (list_at item n left) ≡ Ok (front, left)
unfolding list_at
list_at_end item n left front is = subst (λ (m : ℕ). with_front front (list_at item m left) ≡ Ok (front, left)) (sym is) (ap (λ (l : List _). Ok (l, left)) (append-nil front))
