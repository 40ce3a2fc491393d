-- Columns one after the other in one list of orders.
use Rattle.std.proofs.Common.{◌≡◌, ℕ, zero, suc, ◌+◌, ◌-◌, ◌<◌, ◌≤◌, List, [], ◌∷◌, ◌++◌, Some, length, drop, slice_get, slice_range, refl, ap, arith, length-append}
use Rattle.std.proofs.lemmas.List.{take-append-le, drop-append-le, length-drop, take_all}
use Rattle.std.proofs.Math.Seq.{drop-append_seam}
use Rattle.mill_model.specs.Columns.{Column, column_of}
use Rattle.slab_columns.specs.declared.column.ColId.{ColId}
use Rattle.slab_columns.specs.declared.flat.Start.{Start}
use Rattle.slab_columns.specs.Flat.{columns_of, end_before, AreLaidOut}
use Rattle.slab_columns.specs.Recency.{AreBelow}

-- there are as many columns as starts
pub length-columns_of : (orders : List ℕ) (starts : List Start) → length (columns_of orders starts) ≡ length starts
length-columns_of orders [] = refl
length-columns_of orders (s ∷ starts) = ap suc (length-columns_of orders starts)

pub ruleset layout_facts = (length-columns_of)

-- no column begins behind the end
end_before-le : (end : ℕ) (starts : List Start) → AreLaidOut end starts → end_before end starts ≤ end
end_before-le end [] h = omega arith
end_before-le end (s ∷ starts) h = omega (arith, end_before-le end starts h.1, h.0)

-- a column begins no later than it ends, and ends within all orders
pub bounds_at : (end : ℕ) (starts : List Start) (i : ℕ) (s : Start) → AreLaidOut end starts → slice_get starts i ≡ Some s → (s.at ≤ end_before end (drop (i + 1) starts)) × (end_before end (drop (i + 1) starts) ≤ end)
bounds_at end [] i s h at = cc
bounds_at end (q ∷ starts) zero s h at = let same : q ≡ s = cc in rw (← same) (h.0, end_before-le end starts h.1)
bounds_at end (q ∷ starts) (suc i) s h at =
    let next : suc i + 1 ≡ suc (i + 1) = omega arith in
    rw next (bounds_at end starts i s h.1 at)

-- the column of a number
pub column_at : (orders : List ℕ) (starts : List Start) (i : ℕ) (s : Start) → slice_get starts i ≡ Some s → slice_get (columns_of orders starts) i ≡ Some (column_of s.kind (slice_range orders s.at (end_before (length orders) (drop (i + 1) starts))))
column_at orders [] i s at = cc
column_at orders (q ∷ starts) zero s at = let same : q ≡ s = cc in rw (← same) refl
column_at orders (q ∷ starts) (suc i) s at =
    let next : suc i + 1 ≡ suc (i + 1) = omega arith in
    rw next (column_at orders starts i s at)

end_before-push : (end : ℕ) (starts : List Start) (s : Start) → end_before end (starts ++ s ∷ []) ≡ end_before s.at starts
end_before-push end [] s = refl
end_before-push end (q ∷ starts) s = refl

slice_range-append_left : (orders new : List ℕ) (i j : ℕ) → i ≤ j → j ≤ length orders → slice_range (orders ++ new) i j ≡ slice_range orders i j
slice_range-append_left orders new i j ij jn =
    let il : i ≤ length orders = omega arith in
    let short : j - i ≤ length (drop i orders) = omega (arith, length-drop i orders) in
    rw (drop-append-le i orders new il) (take-append-le (j - i) (drop i orders) new short)

slice_range-append_right : (orders new : List ℕ) → slice_range (orders ++ new) (length orders) (length (orders ++ new)) ≡ new
slice_range-append_right orders new =
    let len : length (orders ++ new) - length orders ≡ length new = omega (arith, length-append orders new) in
    rw (drop-append_seam orders new, len) (take_all (length new) new (omega arith))

-- one more column, whose orders stand behind all others
pub columns_of-push : (orders new : List ℕ) (starts : List Start) (s : Start) → s.at ≡ length orders → AreLaidOut (length orders) starts → columns_of (orders ++ new) (starts ++ s ∷ []) ≡ columns_of orders starts ++ column_of s.kind new ∷ []
columns_of-push orders new [] s at h = rw at (rw (slice_range-append_right orders new) refl)
columns_of-push orders new (q ∷ starts) s at h =
    let here : slice_range (orders ++ new) q.at (end_before (length (orders ++ new)) (starts ++ s ∷ [])) ≡ slice_range orders q.at (end_before (length orders) starts) =
    rw (end_before-push, at) (slice_range-append_left orders new q.at (end_before (length orders) starts) h.0 (end_before-le (length orders) starts h.1)) in
    rw (here, columns_of-push orders new starts s at h.1) refl

pub AreLaidOut-push : (end more : ℕ) (starts : List Start) (s : Start) → s.at ≡ end → AreLaidOut end starts → AreLaidOut (end + more) (starts ++ s ∷ [])
AreLaidOut-push end more [] s at h = (omega arith, tt)
AreLaidOut-push end more (q ∷ starts) s at h = (rw (end_before-push (end + more) starts s, at) h.0, AreLaidOut-push end more starts s at h.1)

-- a list with one more column has one more start
pub length-starts_push : (orders all : List ℕ) (starts more : List Start) (c : Column) → columns_of all more ≡ columns_of orders starts ++ c ∷ [] → length more ≡ length starts + 1
length-starts_push orders all starts more c e =
    let longer : length (columns_of all more) ≡ length (columns_of orders starts ++ c ∷ []) = ap length e in
    let one : length (columns_of orders starts ++ c ∷ []) ≡ length (columns_of orders starts) + 1 = length-append (columns_of orders starts) (c ∷ []) in
    omega (arith, longer, one, length-columns_of all more, length-columns_of orders starts)

-- numbers below one bound are below a greater one
pub AreBelow-more : (n m : ℕ) (ids : List ColId) → n ≤ m → AreBelow n ids → AreBelow m ids
AreBelow-more n m ids le h = λ k d lt. omega (arith, h k d lt, le)
