-- What a round's steps keep.
use Rattle.std.proofs.Common.{◌≡◌, ℕ, zero, suc, take, append_assoc, ℤ, pos, ◌≤ℤ◌, ◌<ℤ◌, true, List, [], ◌∷◌, ◌++◌, length, map, All, Contains, sym, refl, ap, ◌∙◌, subst, arith}
use Rattle.slab_frac.specs.Scaled.{IsScaled}
use Rattle.slab_columns.specs.Pool.{Pool, HasGrown}
use Rattle.std.proofs.lemmas.Int.{ints}
use Rattle.std.proofs.lemmas.List.Elements.{All-filter, All-head, All-tail, recursion_from_All, filter_passes}
use Rattle.mill_model.specs.declared.limits.Limits.{Limits}
use Rattle.mill_model.specs.Mill.{Mill}
use Rattle.mill_model.specs.Columns.{Column, IsLegalColumn}
use Rattle.mill_model.specs.Decisions.{Decision, column_agrees}
use Rattle.mill_model.specs.Prices.{Prices, Refutes}
use Rattle.slab_frac.specs.Fraction.{Fraction}
use Rattle.slab_master.specs.Given.{Column as MasterColumn}
use Rattle.slab_master.specs.Sums.{product_of}
use Rattle.slab_master.specs.Prices.{ArePricesAt}
use Rattle.slab_master.specs.Given.{Given}
use Rattle.pricing_laws.specs.Problems.{excess}
use Rattle.slab_price.specs.Excess.{IsGreatest}
use Rattle.slab_relax.specs.Rows.{rows_of, entries_of}
use Rattle.slab_relax.specs.Masters.{allowed_of, master_by, AreFarkas}
use Rattle.slab_relax.proofs.Allowed.{kept}
use Rattle.slab_relax.proofs.Products.{product_is_excess}
use Rattle.slab_relax.proofs.Refuting.{refutes_of, lambda_sign}
use Rattle.slab_relax.proofs.Covering.{IsAllowed, AreAllowed}

-- what holds of what a function gives holds at each argument
pub at_each : (P : MasterColumn → Type 0) (f : Column → MasterColumn) (xs : List Column) (c : Column) → All P (map f xs) → Contains xs c → P (f c)
at_each P f [] c all (k, l, e) = absurd (omega arith)
at_each P f (x ∷ xs) c all (zero, l, e) = subst (λ z. P (f z)) e (All-head P (f x) (map f xs) all)
at_each P f (x ∷ xs) c all (suc k, l, e) = at_each P f xs c (All-tail P (f x) (map f xs) all) (k, omega arith, e)

-- the master of a pool's columns that agree
module _ (m : Mill) (limits : Limits) (given : Given) (decisions : List Decision) (columns : List Column) (p : Prices) (is : given ≡ master_by m limits decisions columns) (farkas : AreFarkas m limits given p) where
  refuting : ArePricesAt (rows_of m limits) (map (entries_of m limits) (allowed_of decisions columns)) farkas.numbers
  refuting = subst (λ (g : Given). ArePricesAt g.rows g.columns farkas.numbers) is farkas.refuting

  -- a column that exceeds its prices isn't one that it was given, so the pool lacks it
  pub is_stranger : (c : Column) → IsLegalColumn m c → column_agrees decisions c ≡ true → pos 0 <ℤ excess m p c → Contains columns c → ⊥
  is_stranger c legal agree above there =
      let known : product_of farkas.numbers (entries_of m limits c) ≤ℤ pos 0 = at_each (λ e. product_of farkas.numbers e ≤ℤ pos 0) (entries_of m limits) (allowed_of decisions columns) c refuting.products (kept (column_agrees decisions) columns c there agree) in
      let same : product_of farkas.numbers (entries_of m limits c) ≡ excess m p c = product_is_excess m limits farkas.numbers c legal ∙ ap (λ (q : Prices). excess m q c) (sym farkas.prices_are) in
      omega (arith, ints, known, same, above)

  -- its prices refute, where no column exceeds them
  pub farkas_refutes : IsGreatest m decisions p (pos 0) → Refutes m limits decisions p
  farkas_refutes greatest =
      subst (Refutes m limits decisions) (sym farkas.prices_are)
      (refutes_of m limits decisions farkas.numbers farkas.size farkas.range refuting.signs refuting.above (subst (λ q. IsGreatest m decisions q (pos 0)) farkas.prices_are greatest))

  pub farkas_sign : pos 0 ≤ℤ p.lambda
  farkas_sign = subst (λ (q : Prices). pos 0 ≤ℤ q.lambda) (sym farkas.prices_are) (lambda_sign m limits farkas.numbers refuting.signs)

-- the pool's columns that agree are legal
pub are_allowed : (m : Mill) (decisions : List Decision) (columns : List Column) → All (IsLegalColumn m) columns → AreAllowed m decisions (allowed_of decisions columns)
are_allowed m decisions columns legal = recursion_from_All (IsAllowed m decisions) (allowed_of decisions columns)
    (λ k d l. (All-filter (column_agrees decisions) (IsLegalColumn m) columns legal k d l, filter_passes (column_agrees decisions) columns k d l))

length-entries : (m : Mill) (limits : Limits) (xs : List Column) → length (map (entries_of m limits) xs) ≡ length xs
length-entries m limits [] = refl
length-entries m limits (x ∷ xs) = omega (arith, length-entries m limits xs)

-- as many whole numbers as fractions
pub length_scaled : (d : ℕ) (xs : List Fraction) (ks : List ℤ) → IsScaled d xs ks → length xs ≡ length ks
length_scaled d [] [] h = refl
length_scaled d [] (k ∷ ks) h = absurd h
length_scaled d (x ∷ xs) [] h = absurd h
length_scaled d (x ∷ xs) (k ∷ ks) h = omega (arith, length_scaled d xs ks h.1)

-- ---- rounds one after another

pub grown_more : (a b c : Pool) → HasGrown a b → HasGrown b c → HasGrown a c
grown_more a b c g h = record {
  mill = h.mill ∙ g.mill;
  more = g.more ++ h.more;
  columns = h.columns ∙ ap (λ (l : List Column). l ++ h.more) g.columns ∙ append_assoc a.columns g.more h.more;
}

-- the front of a list, as long as that
pub front_is : (n : ℕ) (out rest : List ℤ) → length out ≡ n → take n (out ++ rest) ≡ out
front_is zero [] rest h = refl
front_is zero (x ∷ out) rest h = absurd (omega arith)
front_is (suc n) [] rest h = absurd (omega arith)
front_is (suc n) (x ∷ out) rest h = ap (λ (l : List ℤ). x ∷ l) (front_is n out rest (omega arith))
