-- The rows of a table.
use Rattle.std.proofs.Math.ListN.{get_or-append}
use Rattle.std.proofs.Common.{◌≡◌, inl, inr, ℕ, ◌+◌, ◌-◌, ◌*◌, ◌/◌, ◌%◌, ◌^◌, ◌<◌, ◌≤◌, pos, ◌+ℤ◌, ◌≤ℤ◌, ℤ, List, [], ◌∷◌, ◌++◌, length, get_or, sym, subst, ap, ◌∙◌, arith}
use Rattle.std.specs.Prelude.{◌-ℤ◌, unsigned_abs}
use Rattle.std.specs.List.{sum_by}
use Rattle.std.proofs.lemmas.Int.{ints}
use Rattle.std.proofs.lemmas.Bool.{cases_eq}
use Rattle.std.proofs.lemmas.Nat.{div-mul-add, le-div, mod-mul-add, mul-le}
use Rattle.std.proofs.Math.Nat.{div-mul-le_self}
use Rattle.std.proofs.lemmas.List.{length_push}
use Rattle.std.proofs.lemmas.List.Sums.{sum_by-cons}
use Rattle.std.proofs.Math.Seq.{get_or-append_seam}
use Rattle.mill_model.specs.SignedSums.{total_by}
use Rattle.mill_model.specs.Mill.{Mill}
use Rattle.mill_model.specs.Columns.{size_of}
use Rattle.pricing_laws.specs.Gains.{cost_of}
use Rattle.mill_model.specs.Prices.{Prices}
use Rattle.pricing_laws.specs.Bounds.{AreEnds, AreSteps, IsEnd, IsMost, IsTable}
use Rattle.pricing_laws.specs.Groupings.{Groups, weight_at, gain_at}
use Rattle.pricing_laws.specs.Parts.{IsPart, left_of}
use Rattle.pricing_laws.proofs.Parts.{left_more}

-- a row and a load are told by their entry's number
one_row : (width a l b k : ℕ) → l < width → k < width → a * width + l ≡ b * width + k → a ≡ b
one_row width a l b k h i e = sym (div-mul-add a width l h) ∙ ap (λ n. n / width) e ∙ div-mul-add b width k i

one_load : (width a l b k : ℕ) → l < width → k < width → a * width + l ≡ b * width + k → l ≡ k
one_load width a l b k h i e = sym (mod-mul-add a width l h) ∙ ap (λ n. n % width) e ∙ mod-mul-add b width k i

-- ---- one entry more

module _ (g : Groups) (queue : List ℕ) (ends : List ℤ) (step width : ℕ) (table : List ℤ) where
  table_push : (row column : ℕ) (next : ℤ) → column < width → length table ≡ row * width + column
      → ((more : List ℕ) (size : ℕ) (value : ℤ) → IsPart more (left_of queue row) → IsEnd ends size value → column * step + sum_by (weight_at g) more ≤ size → (total_by (gain_at g) more +ℤ value) ≤ℤ next)
      → unsigned_abs next ≤ 2 ^ 100 + (row * width + column) * 2 ^ 84
      → IsTable g queue ends step width table → IsTable g queue ends step width (table ++ next ∷ [])
  table_push row column next inside long here little t = record { most = most; small = small }
    where
      before : (k : ℕ) → k < length table → get_or (table ++ next ∷ []) k (pos 0) ≡ get_or table k (pos 0)
      before k h = get_or-append table (next ∷ []) (pos 0) k h

      last : (k : ℕ) → k ≡ length table → get_or (table ++ next ∷ []) k (pos 0) ≡ next
      last k e = ap (λ n. get_or (table ++ next ∷ []) n (pos 0)) e ∙ get_or-append_seam table next [] (pos 0)

      most : (left c : ℕ) (more : List ℕ) (size : ℕ) (value : ℤ) → c < width → left * width + c < length (table ++ next ∷ []) → IsPart more (left_of queue left) → IsEnd ends size value → c * step + sum_by (weight_at g) more ≤ size
          → (total_by (gain_at g) more +ℤ value) ≤ℤ get_or (table ++ next ∷ []) (left * width + c) (pos 0)
      most left c more size value lt h part end holds = elim (cases_eq (left * width + c) (length table)) [
        | inl e ↦
            let same_row : left ≡ row = one_row width left c row column lt inside (e ∙ long) in
            let same : c ≡ column = one_load width left c row column lt inside (e ∙ long) in
            let there : IsPart more (left_of queue row) = subst (λ (k : ℕ). IsPart more (left_of queue k)) same_row part in
            omega (arith, ints, last (left * width + c) e, here more size value there end (subst (λ (k : ℕ). k * step + sum_by (weight_at g) more ≤ size) same holds))
        | inr n ↦
            let short : left * width + c < length table = omega (arith, h, n, length_push table next) in
            omega (arith, ints, before (left * width + c) short, t.most left c more size value lt short part end holds)
      ]

      small : (k : ℕ) → k < length (table ++ next ∷ []) → unsigned_abs (get_or (table ++ next ∷ []) k (pos 0)) ≤ 2 ^ 100 + k * 2 ^ 84
      small k h = elim (cases_eq k (length table)) [
        | inl e ↦ rw (last k e) (omega (arith, little, long, e))
        | inr n ↦ let lt : k < length table = omega (arith, h, n, length_push table next) in rw (before k lt) (t.small k lt)
      ]

  -- of the first row
  pub first_more : (column : ℕ) → column < width → length table ≡ column → unsigned_abs (get_or ends (column * step) (pos 0)) ≤ 2 ^ 100 → IsTable g queue ends step width table
      → IsTable g queue ends step width (table ++ get_or ends (column * step) (pos 0) ∷ [])
  first_more column inside long little t = table_push 0 column (get_or ends (column * step) (pos 0)) inside (omega (arith, long)) here (omega (arith, little)) t
    where
      here : (more : List ℕ) (size : ℕ) (value : ℤ) → more ≡ [] → IsEnd ends size value → column * step + sum_by (weight_at g) more ≤ size → (total_by (gain_at g) more +ℤ value) ≤ℤ get_or ends (column * step) (pos 0)
      here more size value none end holds = omega (arith, ints, ap (total_by (gain_at g)) none, end.below (column * step) (omega (arith, holds)))

  -- of a later row, by one group more
  pub table_more : (at column : ℕ) (next : ℤ) → AreSteps (length ends) step width → column < width → length table ≡ (at + 1) * width + column
      → get_or table (at * width + column) (pos 0) ≤ℤ next
      → (column + weight_at g (get_or queue at 0) / step < width → (gain_at g (get_or queue at 0) +ℤ get_or table (at * width + (column + weight_at g (get_or queue at 0) / step)) (pos 0)) ≤ℤ next)
      → unsigned_abs next ≤ 2 ^ 100 + (at * width + width) * 2 ^ 84
      → IsTable g queue ends step width table → IsTable g queue ends step width (table ++ next ∷ [])
  table_more at column next steps inside long without with little t =
      table_push (at + 1) column next inside long (λ more size value part end holds. here more size value (subst (λ (q : List ℕ). IsPart more q) (left_more queue at) part) end holds) (omega (arith, little)) t
    where
      here : (more : List ℕ) (size : ℕ) (value : ℤ) → IsPart more (get_or queue at 0 ∷ left_of queue at) → IsEnd ends size value → column * step + sum_by (weight_at g) more ≤ size → (total_by (gain_at g) more +ℤ value) ≤ℤ next
      here more size value (inl part) end holds = omega (arith, ints, without, t.most at column more size value inside (omega (arith, long, inside)) part end holds)
      here more size value (inr (ys, e, part)) end holds =
          let weights : sum_by (weight_at g) more ≡ weight_at g (get_or queue at 0) + sum_by (weight_at g) ys = ap (sum_by (weight_at g)) e ∙ sum_by-cons (weight_at g) (get_or queue at 0) ys in
          let gains : total_by (gain_at g) more ≡ gain_at g (get_or queue at 0) +ℤ total_by (gain_at g) ys = ap (total_by (gain_at g)) e in
          let down : weight_at g (get_or queue at 0) / step * step ≤ weight_at g (get_or queue at 0) = div-mul-le_self (weight_at g (get_or queue at 0)) step in
          let reach : (column + weight_at g (get_or queue at 0) / step) * step + sum_by (weight_at g) ys ≤ size = omega (arith, holds, weights, down) in
          let within : column + weight_at g (get_or queue at 0) / step < width = omega (arith, le-div (column + weight_at g (get_or queue at 0) / step) (length ends - 1) step steps.some (omega (arith, reach, end.room)), steps.wide) in
          let rest : (total_by (gain_at g) ys +ℤ value) ≤ℤ get_or table (at * width + (column + weight_at g (get_or queue at 0) / step)) (pos 0) =
          t.most at (column + weight_at g (get_or queue at 0) / step) ys size value within (omega (arith, long, within)) part end reach in
          omega (arith, ints, gains, rest, with within)

-- ---- what the bounds say of slabs

-- a load within the ends lies in a column
pub column_within : (loads step width load : ℕ) → AreSteps loads step width → load < loads → load / step < width
column_within loads step width load steps light = omega (arith, le-div (load / step) (loads - 1) step steps.some (omega (arith, div-mul-le_self load step, light)), steps.wide)

pub entry_within : (n left width column : ℕ) → left ≤ n → column < width → left * width + column < (n + 1) * width
entry_within n left width column le lt = omega (arith, mul-le (left + 1) width (n + 1) width (omega (arith, le)) (omega arith), lt)

pub most_from_table : (m : Mill) (p : Prices) (g : Groups) (queue : List ℕ) (ends : List ℤ) (step width : ℕ) (table : List ℤ) (left load : ℕ) → AreEnds m p ends → AreSteps (length ends) step width → IsTable g queue ends step width table → load < length ends
    → left * width + load / step < length table → IsMost m p g (left_of queue left) load (get_or table (left * width + load / step) (pos 0))
most_from_table m p g queue ends step width table left load are steps t light inside more kind part stock holds =
    let end : IsEnd ends (size_of m kind) (pos 0 -ℤ cost_of m p kind) = record { room = are.room kind stock; below = λ l h. are.least l kind stock h } in
    omega (arith, ints, t.most left (load / step) more (size_of m kind) (pos 0 -ℤ cost_of m p kind) (column_within (length ends) step width load steps light) inside part end (omega (arith, div-mul-le_self load step, holds)))

pub most_at_end : (m : Mill) (p : Prices) (g : Groups) (ends : List ℤ) (load : ℕ) → AreEnds m p ends → IsMost m p g [] load (get_or ends load (pos 0))
most_at_end m p g ends load are more kind part stock holds = omega (arith, ints, ap (total_by (gain_at g)) part, are.least load kind stock (omega (arith, holds)))

pub most_weaker : (m : Mill) (p : Prices) (g : Groups) (left : List ℕ) (load : ℕ) (a b : ℤ) → a ≤ℤ b → IsMost m p g left load a → IsMost m p g left load b
most_weaker m p g left load a b le h more kind part stock holds = omega (arith, ints, h more kind part stock holds)
