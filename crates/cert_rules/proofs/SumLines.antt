-- The line of a point's sums, and how large the sums of a legal plan are.
use Rattle.std.proofs.Common.{◌≡◌, ℕ, suc, ◌*◌, ◌<◌, ◌≤◌, ℤ, pos, negsuc, Bool, true, false, cond, List, [], ◌∷◌, length, get_or, refl, subst, arith}
use Rattle.std.specs.List.{sum_by}
use Rattle.std.proofs.lemmas.Int.{ints}
use Rattle.std.proofs.lemmas.List.Sums.{sum_by-cons}
use Rattle.std.proofs.lemmas.List.Elements.{All-get_or}
use Rattle.mill_model.specs.declared.kind.Kind.{Kind}
use Rattle.mill_model.specs.declared.kind.Kind.TheVariants.{New, Old}
use Rattle.mill_model.specs.declared.sums.Sums.{Sums}
use Rattle.mill_model.specs.Mill.{Mill, IsInLimits, IsBetween}
use Rattle.mill_model.specs.Columns.{IsInStock, size_of}
use Rattle.mill_model.specs.Plans.{Plan, IsLegal, is_new, sums_of}
use Rattle.mill_model.proofs.Judging.{slabs_with_orders}
use Rattle.cert_view.specs.declared.line.Line.TheVariants as lines
use Rattle.cert_text.specs.Lines.{sums_line}
use Rattle.cert_rules.specs.Slabs.{AreSums, sums_of_line}

pub sums_named : (ns : List ℤ) → AreSums ns → lines.Point ns ≡ sums_line (sums_of_line ns)
sums_named [] h = absurd h
sums_named (a ∷ []) h = absurd h
sums_named (a ∷ b ∷ c ∷ ns) h = absurd h
sums_named (pos a ∷ pos b ∷ []) h = refl
sums_named (negsuc a ∷ b ∷ []) h = absurd (omega (arith, ints, h.0.0))
sums_named (pos a ∷ negsuc b ∷ []) h = absurd (omega (arith, ints, h.1.0))

sum_most : {X : Type 0} (f : X → ℕ) (b : ℕ) (xs : List X) (d : X) → ((k : ℕ) → k < length xs → f (get_or xs k d) ≤ b) → sum_by f xs ≤ length xs * b
sum_most f b [] d h = omega arith
sum_most f b (x ∷ xs) d h = omega (arith, sum_by-cons f x xs, h 0 (omega arith), sum_most f b xs d (λ k l. h (suc k) (omega (arith, l))))

in_stock_most : (m : Mill) → IsInLimits m → (kind : Kind) → IsInStock m kind → size_of m kind ≤ 10000
in_stock_most m limited (New size) h = subst (λ n. n ≤ 10000) h.2 (All-get_or (IsBetween 1 10000) m.sizes h.0 size h.1 limited.sizes).1
in_stock_most m limited (Old s) h = (All-get_or (IsBetween 1 10000) m.yard s 0 h limited.yard.sizes).1

counts_one : (b : Bool) → cond b 1 0 ≤ 1
counts_one true = omega arith
counts_one false = omega arith

module _ (m : Mill) (limited : IsInLimits m) (p : Plan) (legal : IsLegal m p) where
  few_slabs : length p.kinds ≤ 250
  few_slabs = omega (arith, slabs_with_orders (length p.kinds) p.place (λ k l. (legal.fits k l).some), legal.places, limited.order_count)

  pub few_new : (sums_of m p).count ≤ 250
  few_new = omega (arith, few_slabs, sum_most (λ kind. cond (is_new kind) 1 0) 1 p.kinds (New 0) (λ k l. counts_one (is_new (get_or p.kinds k (New 0)))))

  pub small_loss : (sums_of m p).loss ≤ 2500000
  small_loss = omega (arith, few_slabs, sum_most (size_of m) 10000 p.kinds (New 0) (λ k l. in_stock_most m limited (get_or p.kinds k (New 0)) (legal.fits k l).kind))

pub sums_are_good : (sums : Sums) → sums.loss ≤ 2500000 → sums.count ≤ 250 → AreSums (pos sums.loss ∷ pos sums.count ∷ [])
sums_are_good sums h k = ((omega (arith, ints), omega (arith, ints, h)), (omega (arith, ints), omega (arith, ints, k)))
