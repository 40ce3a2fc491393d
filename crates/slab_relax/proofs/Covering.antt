-- A master's spread over legal columns that agree is a cover.
use Rattle.std.proofs.Common.{◌≡◌, ℕ, suc, ◌+◌, ◌*◌, ◌<◌, ◌≤◌, ℤ, pos, negsuc, ◌*ℤ◌, ◌≤ℤ◌, Bool, true, false, cond, List, [], ◌∷◌, length, map, All, sum_by, refl, ap, ◌∙◌, subst, arith, Option, Some, None}
use Rattle.std.specs.Prelude.{unsigned_abs}
use Rattle.std.specs.List.{AllByRecursion}
use Rattle.std.proofs.lemmas.Int.{ints}
use Rattle.std.proofs.lemmas.List.Sums.{sum_by-cons}
use Rattle.std.proofs.Math.IntN.{*ℤ_comm}
use Rattle.mill_model.specs.declared.limits.Limits.{Limits}
use Rattle.mill_model.specs.Mill.{Mill}
use Rattle.mill_model.specs.Columns.{Column, IsLegalColumn, has, is_old, loss_of}
use Rattle.mill_model.specs.Plans.{is_new}
use Rattle.mill_model.specs.Limits.{AtMost as IsAtMost, number_of}
use Rattle.mill_model.specs.Decisions.{Decision, column_agrees}
use Rattle.mill_model.specs.Covers.{Part, times, IsCover}
use Rattle.slab_master.specs.declared.given.Sense.TheVariants.{Equal, AtMost}
use Rattle.slab_master.specs.Given.{Row}
use Rattle.slab_master.specs.Sums.{coefficient, row_sum}
use Rattle.slab_master.specs.Spread.{Meets, IsSpreadAt}
use Rattle.slab_relax.specs.Rows.{loss_row, count_row, rows_of, entries_of}
use Rattle.slab_relax.specs.PoolCovers.{parts_by}
use Rattle.slab_relax.proofs.Rights.{row_of_order, row_of_slab, row_of_loss, row_of_count, length_rows}
use Rattle.slab_relax.proofs.Coefficients.{in_order_row, in_slab_row, in_loss_row, in_count_row}

-- a legal column that agrees
abbrev pub IsAllowed : Mill → List Decision → Column → Type 0
IsAllowed m decisions c = IsLegalColumn m c × (column_agrees decisions c ≡ true)

abbrev pub AreAllowed : Mill → List Decision → List Column → Type 0
AreAllowed m decisions cs = AllByRecursion (IsAllowed m decisions) cs

-- a number that isn't negative
size_of_pos : (k : ℤ) → pos 0 ≤ℤ k → k ≡ pos (unsigned_abs k)
size_of_pos (pos n) h = refl
size_of_pos (negsuc n) h = absurd (omega (arith, ints))

pos_times : (k w : ℕ) → pos k *ℤ pos w ≡ pos (k * w)
pos_times k w = omega (arith, ints)

-- the sum of a row, where each column's number in it is known
row_is : (m : Mill) (limits : Limits) (P : Column → Type 0) (f : Column → ℕ) (i : ℕ) → ((c : Column) → P c → coefficient (entries_of m limits c) i ≡ pos (f c)) → (cs : List Column) (ks : List ℤ) → AllByRecursion P cs → All (λ k. pos 0 ≤ℤ k) ks
    → row_sum ks (map (entries_of m limits) cs) i ≡ pos (sum_by (λ (part : Part). part.1 * f part.0) (parts_by cs ks))
row_is m limits P f i number [] [] each signs = refl
row_is m limits P f i number [] (k ∷ ks) each signs = refl
row_is m limits P f i number (c ∷ cs) [] each signs = refl
row_is m limits P f i number (c ∷ cs) (k ∷ ks) each signs =
    let size : k ≡ pos (unsigned_abs k) = size_of_pos k (signs 0 k (omega arith)) in
    let term : k *ℤ coefficient (entries_of m limits c) i ≡ pos (unsigned_abs k * f c) = ap (λ (z : ℤ). z *ℤ coefficient (entries_of m limits c) i) size ∙ ap (λ (z : ℤ). pos (unsigned_abs k) *ℤ z) (number c each.0) ∙ pos_times (unsigned_abs k) (f c) in
    let rest : row_sum ks (map (entries_of m limits) cs) i ≡ pos (sum_by (λ (part : Part). part.1 * f part.0) (parts_by cs ks)) = row_is m limits P f i number cs ks each.1 (λ j d h. signs (suc j) d (omega arith)) in
    let more : sum_by (λ (part : Part). part.1 * f part.0) ((c, unsigned_abs k) ∷ parts_by cs ks) ≡ unsigned_abs k * f c + sum_by (λ (part : Part). part.1 * f part.0) (parts_by cs ks) = sum_by-cons (λ (part : Part). part.1 * f part.0) (c, unsigned_abs k) (parts_by cs ks) in
    omega (arith, ints, term, rest, more)

-- a test in place of a number
pub sum_tests : (test : Column → Bool) (parts : List Part) → sum_by (λ (part : Part). part.1 * cond (test part.0) 1 0) parts ≡ sum_by (λ (part : Part). cond (test part.0) part.1 0) parts
sum_tests test [] = refl
sum_tests test (p ∷ parts) =
    omega (arith, sum_by-cons (λ (part : Part). part.1 * cond (test part.0) 1 0) p parts, sum_by-cons (λ (part : Part). cond (test part.0) part.1 0) p parts, sum_tests test parts, cell (test p.0) p.1)
  where
    cell : (b : Bool) (x : ℕ) → x * cond b 1 0 ≡ cond b x 0
    cell true x = omega arith
    cell false x = omega arith

parts_allowed : (m : Mill) (decisions : List Decision) (cs : List Column) (ks : List ℤ) → AreAllowed m decisions cs → AllByRecursion (λ (part : Part). IsLegalColumn m part.0 × (column_agrees decisions part.0 ≡ true)) (parts_by cs ks)
parts_allowed m decisions [] ks h = tt
parts_allowed m decisions (c ∷ cs) [] h = tt
parts_allowed m decisions (c ∷ cs) (k ∷ ks) h = (h.0, parts_allowed m decisions cs ks h.1)

within_limit : (limit : Option ℤ) (d total : ℕ) (row : ℤ) → ((a : ℤ) → limit ≡ Some a → (row ≡ pos total) × (row ≤ℤ (a *ℤ pos d))) → IsAtMost (Some (pos total)) (times d limit)
within_limit None d total row h = tt
within_limit (Some a) d total row h = omega (arith, ints, (h a refl).0, (h a refl).1, *ℤ_comm a (pos d))

-- multipliers over one denominator that meet each row are a cover
pub cover_of : (m : Mill) (limits : Limits) (decisions : List Decision) (cs : List Column) (d : ℕ) (ks : List ℤ) → 0 < d → AreAllowed m decisions cs
    → IsSpreadAt (rows_of m limits) (map (entries_of m limits) cs) d ks → IsCover m limits decisions d (parts_by cs ks)
cover_of m limits decisions cs d ks above allowed spread = record {
  denominator = above;
  legal = parts_allowed m decisions cs ks allowed;
  orders = λ o h. order o h;
  yard = λ s h. slab s h;
  loss = within_limit limits.loss d (sum_by (λ (part : Part). part.1 * loss_of m part.0) (parts_by cs ks)) (row_sum ks (map (entries_of m limits) cs) (loss_row m)) (λ a e. (loss_is a e, loss_met a e));
  count = within_limit limits.count d (sum_by (λ (part : Part). cond (is_new part.0.kind) part.1 0) (parts_by cs ks)) (row_sum ks (map (entries_of m limits) cs) (count_row m)) (λ b e. (count_is b e, count_met b e));
}
  where
    row_total : ℕ → ℤ
    row_total i = row_sum ks (map (entries_of m limits) cs) i

    any : Row
    any = (AtMost, pos 0)

    order : (o : ℕ) → o < length m.orders → sum_by (λ (part : Part). cond (has part.0.orders o) part.1 0) (parts_by cs ks) ≡ d
    order o h =
        let row : row_sum ks (map (entries_of m limits) cs) o ≡ pos (sum_by (λ (part : Part). part.1 * cond (has part.0.orders o) 1 0) (parts_by cs ks)) = row_is m limits (IsAllowed m decisions) (λ c. cond (has c.orders o) 1 0) o (λ c p. in_order_row m limits c o p.0 h) cs ks allowed spread.not_negative in
        let met : Meets d (Equal, pos 1) (row_sum ks (map (entries_of m limits) cs) o) = subst (λ (r : Row). Meets d r (row_sum ks (map (entries_of m limits) cs) o)) (row_of_order m limits o (AtMost, pos 0) h) (spread.met o (AtMost, pos 0) (omega (arith, length_rows m limits))) in
        let exact : row_sum ks (map (entries_of m limits) cs) o ≡ pos 1 *ℤ pos d = met in
        omega (arith, ints, row, exact, sum_tests (λ c. has c.orders o) (parts_by cs ks))

    slab : (s : ℕ) → s < length m.yard → sum_by (λ (part : Part). cond (is_old s part.0.kind) part.1 0) (parts_by cs ks) ≤ d
    slab s h =
        let row : row_sum ks (map (entries_of m limits) cs) (length m.orders + s) ≡ pos (sum_by (λ (part : Part). part.1 * cond (is_old s part.0.kind) 1 0) (parts_by cs ks)) = row_is m limits (IsAllowed m decisions) (λ c. cond (is_old s c.kind) 1 0) (length m.orders + s) (λ c p. in_slab_row m limits c s p.0 h) cs ks allowed spread.not_negative in
        let met : Meets d (AtMost, pos 1) (row_sum ks (map (entries_of m limits) cs) (length m.orders + s)) = subst (λ (r : Row). Meets d r (row_sum ks (map (entries_of m limits) cs) (length m.orders + s))) (row_of_slab m limits s (AtMost, pos 0) h) (spread.met (length m.orders + s) (AtMost, pos 0) (omega (arith, length_rows m limits))) in
        let most : row_sum ks (map (entries_of m limits) cs) (length m.orders + s) ≤ℤ (pos 1 *ℤ pos d) = met in
        omega (arith, ints, row, most, sum_tests (λ c. is_old s c.kind) (parts_by cs ks))

    loss_is : (a : ℤ) → limits.loss ≡ Some a → row_sum ks (map (entries_of m limits) cs) (loss_row m) ≡ pos (sum_by (λ (part : Part). part.1 * loss_of m part.0) (parts_by cs ks))
    loss_is a e = row_is m limits (IsAllowed m decisions) (loss_of m) (loss_row m) (λ c p. in_loss_row m limits a c p.0 e) cs ks allowed spread.not_negative

    loss_met : (a : ℤ) → limits.loss ≡ Some a → row_sum ks (map (entries_of m limits) cs) (loss_row m) ≤ℤ (a *ℤ pos d)
    loss_met a e =
        let met : Meets d (AtMost, number_of limits.loss) (row_sum ks (map (entries_of m limits) cs) (loss_row m)) = subst (λ (r : Row). Meets d r (row_sum ks (map (entries_of m limits) cs) (loss_row m))) (row_of_loss m limits (AtMost, pos 0)) (spread.met (loss_row m) (AtMost, pos 0) (omega (arith, length_rows m limits))) in
        subst (λ (l : Option ℤ). row_sum ks (map (entries_of m limits) cs) (loss_row m) ≤ℤ (number_of l *ℤ pos d)) e met

    count_is : (b : ℤ) → limits.count ≡ Some b → row_sum ks (map (entries_of m limits) cs) (count_row m) ≡ pos (sum_by (λ (part : Part). cond (is_new part.0.kind) part.1 0) (parts_by cs ks))
    count_is b e = row_is m limits (IsAllowed m decisions) (λ c. cond (is_new c.kind) 1 0) (count_row m) (λ c p. in_count_row m limits b c p.0 e) cs ks allowed spread.not_negative ∙ ap pos (sum_tests (λ c. is_new c.kind) (parts_by cs ks))

    count_met : (b : ℤ) → limits.count ≡ Some b → row_sum ks (map (entries_of m limits) cs) (count_row m) ≤ℤ (b *ℤ pos d)
    count_met b e =
        let met : Meets d (AtMost, number_of limits.count) (row_sum ks (map (entries_of m limits) cs) (count_row m)) = subst (λ (r : Row). Meets d r (row_sum ks (map (entries_of m limits) cs) (count_row m))) (row_of_count m limits (AtMost, pos 0)) (spread.met (count_row m) (AtMost, pos 0) (omega (arith, length_rows m limits))) in
        subst (λ (l : Option ℤ). row_sum ks (map (entries_of m limits) cs) (count_row m) ≤ℤ (number_of l *ℤ pos d)) e met
