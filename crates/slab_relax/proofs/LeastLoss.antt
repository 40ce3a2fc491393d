-- The multipliers of least cost are a cover of least loss, where each column costs its loss.
use Rattle.std.proofs.Common.{◌≡◌, ℕ, ◌+◌, ◌*◌, ◌<◌, ◌≤◌, ℤ, pos, negsuc, ◌+ℤ◌, ◌*ℤ◌, ◌≤ℤ◌, true, List, [], ◌∷◌, length, map, get_or, All, Contains, refl, sym, ap, ◌∙◌, subst, inl, inr, arith, zero-mul}
use Rattle.std.specs.Prelude.{◌-ℤ◌, unsigned_abs}
use Rattle.std.specs.List.{AllByRecursion}
use Rattle.std.proofs.lemmas.Int.{ints}
use Rattle.std.proofs.lemmas.Bool.{cases_lt}
use Rattle.std.proofs.lemmas.List.{length-map, get_or-map}
use Rattle.std.proofs.lemmas.List.Sums.{sum_by-cons}
use Rattle.std.proofs.lemmas.List.Elements.{All-head, All-tail}
use Rattle.std.proofs.Math.IntN.{*ℤ_comm}
use Rattle.std.proofs.Math.Nat.{mul-le-mul_left}
use Rattle.mill_model.specs.declared.limits.Limits.{Limits}
use Rattle.mill_model.specs.Mill.{Mill}
use Rattle.mill_model.specs.Columns.{Column, IsLegalColumn, loss_of}
use Rattle.mill_model.specs.SignedSums.{total_by}
use Rattle.mill_model.specs.Prices.{Prices}
use Rattle.mill_model.specs.Limits.{number_of}
use Rattle.mill_model.specs.Decisions.{Decision, column_agrees}
use Rattle.mill_model.specs.Covers.{Part, IsCover}
use Rattle.mill_model.proofs.Signed.{mul_add, mul_le_pos, mul_lt_pos, mul_zero, mul_assoc_pos}
use Rattle.mill_model.proofs.Duality.{AreSlabPrices, IsPricedWith, covers_pay}
use Rattle.slab_frac.specs.Fraction.{Fraction}
use Rattle.slab_master.specs.Given.{Given, Column as MasterColumn}
use Rattle.slab_master.specs.Sums.{product_of, right_product, number_at, cost_sum}
use Rattle.slab_master.specs.Spread.{IsSpread}
use Rattle.slab_master.specs.Prices.{ArePrices, ArePricesAt}
use Rattle.slab_master.specs.Least.{IsLeast, AreDualPrices, AreDualPricesAt}
use Rattle.slab_columns.specs.declared.column.ColId.{ColId}
use Rattle.slab_relax.specs.Rows.{rows_of, entries_of}
use Rattle.slab_relax.specs.Duals.{prices_of}
use Rattle.slab_relax.specs.PoolCovers.{column_at, parts_by, parts_of, loss_by, HasLeastLoss}
use Rattle.slab_relax.specs.Masters.{allowed_of, master_by, used_of, losses_of, AreAllowedIds}
use Rattle.slab_relax.proofs.Allowed.{kept}
use Rattle.slab_relax.proofs.Rights.{right_is_worth, length_rows}
use Rattle.slab_relax.proofs.Products.{product_is_excess}
use Rattle.slab_relax.proofs.Refuting.{slab_prices_of}
use Rattle.slab_relax.proofs.Covering.{cover_of}
use Rattle.slab_relax.proofs.Steps.{are_allowed, length_scaled}
use Rattle.slab_relax.proofs.Using.{IsUsable, IsFilled, filled}
use Rattle.slab_relax.proofs.PoolCovering.{ids_count, are_usable}

-- multipliers that aren't negative cost what the parts lose
cost_is : (m : Mill) (cs : List Column) (ks : List ℤ) → All (λ k. pos 0 ≤ℤ k) ks → cost_sum ks (losses_of m cs) ≡ pos (loss_by m (parts_by cs ks))
cost_is m [] [] signs = refl
cost_is m [] (k ∷ ks) signs = refl
cost_is m (c ∷ cs) [] signs = refl
cost_is m (c ∷ cs) (k ∷ ks) signs =
    omega (arith, ints, term k (All-head (λ k. pos 0 ≤ℤ k) k ks signs), cost_is m cs ks (All-tail (λ k. pos 0 ≤ℤ k) k ks signs), sum_by-cons (λ (part : Part). part.1 * loss_of m part.0) (c, unsigned_abs k) (parts_by cs ks))
  where
    term : (k : ℤ) → pos 0 ≤ℤ k → k *ℤ pos (loss_of m c) ≡ pos (unsigned_abs k * loss_of m c)
    term (pos n) h = omega (arith, ints)
    term (negsuc n) h = absurd (omega (arith, ints))

-- ---- prices of rows as prices of the mill

-- where a column's product with the numbers is at most so many times its loss, it is priced with that
priced_with : (m : Mill) (limits : Limits) (js : List ℤ) (extra : ℕ) (c : Column) → IsLegalColumn m c → product_of js (entries_of m limits c) ≤ℤ (pos (loss_of m c) *ℤ pos extra) → IsPricedWith m (prices_of m limits js) extra c
priced_with m limits js extra c legal most =
    let p = prices_of m limits js in
    omega (
      arith,
      ints,
      most,
      product_is_excess m limits js c legal,
      *ℤ_comm ((prices_of m limits js).lambda +ℤ pos extra) (pos (loss_of m c)),
      mul_add (pos (loss_of m c)) (prices_of m limits js).lambda (pos extra),
      *ℤ_comm (pos (loss_of m c)) (prices_of m limits js).lambda,
    )

-- what a cover's columns pay: the right sides, over its denominator, are worth no more than so many times its loss
rights_paid : (m : Mill) (limits : Limits) (decisions : List Decision) (js : List ℤ) (extra d : ℕ) (parts : List Part) → AreSlabPrices m limits (prices_of m limits js) → AllByRecursion (λ (part : Part). IsPricedWith m (prices_of m limits js) extra part.0) parts → IsCover m limits decisions d parts
    → (pos d *ℤ right_product js (rows_of m limits)) ≤ℤ pos (extra * loss_by m parts)
rights_paid m limits decisions js extra d parts prices priced cover =
    let p : Prices = prices_of m limits js in
    let cost : ℤ = (prices_of m limits js).lambda *ℤ number_of limits.loss +ℤ (prices_of m limits js).mu *ℤ number_of limits.count +ℤ total_by (λ q. q) (prices_of m limits js).sigma in
    let worth : ℤ = total_by (λ q. q) (prices_of m limits js).pi in
    let paid = covers_pay m limits decisions (prices_of m limits js) d parts extra prices priced cover in
    turn d worth cost (right_product js (rows_of m limits)) (pos (extra * loss_by m parts)) (right_is_worth m limits js) paid
  where
    turn : (d : ℕ) (worth cost right more : ℤ) → right ≡ (worth -ℤ cost) → (pos d *ℤ worth) ≤ℤ (pos d *ℤ cost +ℤ more) → (pos d *ℤ right) ≤ℤ more
    turn d worth cost right more e h =
        let sum : worth ≡ right +ℤ cost = omega (arith, ints) in
        let split : pos d *ℤ worth ≡ pos d *ℤ right +ℤ pos d *ℤ cost = ap (λ (z : ℤ). pos d *ℤ z) sum ∙ mul_add (pos d) right cost in
        omega (arith, ints, split, h)

-- ---- a spread and prices that refute don't both exist

pub no_spread_and_prices : (m : Mill) (limits : Limits) (decisions : List Decision) (columns : List Column) (given : Given) (xs ys : List Fraction) → All (IsLegalColumn m) columns → given ≡ master_by m limits decisions columns → IsSpread given.rows given.columns xs → ArePrices given.rows given.columns ys → ⊥
no_spread_and_prices m limits decisions columns given xs ys legal is spread prices =
    let met : IsSpread (rows_of m limits) (map (entries_of m limits) (allowed_of decisions columns)) xs = subst (λ (g : Given). IsSpread g.rows g.columns xs) is spread in
    let refuting : ArePrices (rows_of m limits) (map (entries_of m limits) (allowed_of decisions columns)) ys = subst (λ (g : Given). ArePrices g.rows g.columns ys) is prices in
    let at : ArePricesAt (rows_of m limits) (map (entries_of m limits) (allowed_of decisions columns)) refuting.numbers = refuting.every refuting.denominator refuting.numbers refuting.positive refuting.scaled in
    let cover : IsCover m limits decisions met.denominator (parts_by (allowed_of decisions columns) met.multipliers) =
    cover_of m limits decisions (allowed_of decisions columns) met.denominator met.multipliers met.positive (are_allowed m decisions columns legal) (met.every met.denominator met.multipliers met.positive met.scaled) in
    let size : length refuting.numbers ≡ length m.orders + length m.yard + 2 = sym (length_scaled refuting.denominator ys refuting.numbers refuting.scaled) ∙ refuting.count ∙ length_rows m limits in
    let paid = rights_paid m limits decisions refuting.numbers 0 met.denominator (parts_by (allowed_of decisions columns) met.multipliers) (slab_prices_of m limits refuting.numbers size at.signs) (each (allowed_of decisions columns) met.multipliers refuting.numbers at.products (are_allowed m decisions columns legal)) cover in
    let above = mul_lt_pos met.denominator (pos 0) (right_product refuting.numbers (rows_of m limits)) met.positive at.above in
    omega (arith, ints, paid, above, mul_zero (pos met.denominator))
  where
    each : (cs : List Column) (ks js : List ℤ) → All (λ e. product_of js e ≤ℤ pos 0) (map (entries_of m limits) cs) → AllByRecursion (λ (c : Column). IsLegalColumn m c × (column_agrees decisions c ≡ true)) cs → AllByRecursion (λ (part : Part). IsPricedWith m (prices_of m limits js) 0 part.0) (parts_by cs ks)
    each [] ks js products allowed = tt
    each (c ∷ cs) [] js products allowed = tt
    each (c ∷ cs) (k ∷ ks) js products allowed = (
      priced_with m limits js 0 c allowed.0.0 (omega (arith, ints, All-head (λ (e : MasterColumn). product_of js e ≤ℤ pos 0) (entries_of m limits c) (map (entries_of m limits) cs) products, mul_zero (pos (loss_of m c)))),
      each cs ks js (All-tail (λ (e : MasterColumn). product_of js e ≤ℤ pos 0) (entries_of m limits c) (map (entries_of m limits) cs) products) allowed.1,
    )

-- ---- least loss

-- a column that the master was given has a product of at most its loss
dual_product : (m : Mill) (limits : Limits) (cs : List Column) (d : ℕ) (js : List ℤ) (c : Column) → AreDualPricesAt (rows_of m limits) (map (entries_of m limits) cs) (losses_of m cs) d js → Contains cs c → product_of js (entries_of m limits c) ≤ℤ (pos (loss_of m c) *ℤ pos d)
dual_product m limits cs d js c duals (j, h, e) =
    let inside : j < length (map (entries_of m limits) cs) = omega (arith, length-map cs (entries_of m limits)) in
    let given : get_or (map (entries_of m limits) cs) j (entries_of m limits c) ≡ entries_of m limits c = get_or-map (entries_of m limits) cs j c (entries_of m limits c) h ∙ ap (entries_of m limits) e in
    let cost : number_at (losses_of m cs) j ≡ pos (loss_of m c) = get_or-map (λ (x : Column). pos (loss_of m x)) cs j c (pos 0) h ∙ ap (λ (x : Column). pos (loss_of m x)) e in
    subst (λ (z : ℤ). product_of js (entries_of m limits c) ≤ℤ (z *ℤ pos d)) cost (subst (λ (x : MasterColumn). product_of js x ≤ℤ (number_at (losses_of m cs) j *ℤ pos d)) given (duals.products j (entries_of m limits c) inside))

-- the arithmetic of weak duality
weigh : (f d e cost loss : ℕ) (right : ℤ) → 0 < f → right *ℤ pos d ≡ pos cost *ℤ pos f → (pos e *ℤ right) ≤ℤ pos (f * loss) → cost * e ≤ loss * d
weigh f d e cost loss right above worth paid =
    let times : (pos d *ℤ (pos e *ℤ right)) ≤ℤ (pos d *ℤ pos (f * loss)) = mul_le_pos d (pos e *ℤ right) (pos (f * loss)) paid in
    let swap : pos d *ℤ (pos e *ℤ right) ≡ pos e *ℤ (pos d *ℤ right) = mul_assoc_pos d (pos e) right in
    let whole : pos d *ℤ right ≡ pos (cost * f) = *ℤ_comm (pos d) right ∙ worth ∙ pos_times cost f in
    let left : pos e *ℤ (pos d *ℤ right) ≡ pos (e * (cost * f)) = ap (λ (z : ℤ). pos e *ℤ z) whole ∙ pos_times e (cost * f) in
    let product : pos d *ℤ pos (f * loss) ≡ pos (d * (f * loss)) = pos_times d (f * loss) in
    let le : e * (cost * f) ≤ d * (f * loss) = omega (arith, ints, times, swap, left, product) in
    elim (cases_lt (loss * d) (cost * e)) [
      | inl less ↦ absurd (let next : loss * d + 1 ≤ cost * e = omega arith in omega (arith, mul-le-mul_left f next, le))
      | inr more ↦ omega arith
    ]
  where
    pos_times : (a b : ℕ) → pos a *ℤ pos b ≡ pos (a * b)
    pos_times a b = omega (arith, ints)

pub least_loss : (m : Mill) (limits : Limits) (decisions : List Decision) (columns : List Column) (ids : List ColId) (given : Given) (xs ys : List Fraction) → AreAllowedIds decisions columns ids → given ≡ master_by m limits decisions columns → IsLeast given (losses_of m (allowed_of decisions columns)) xs ys
    → HasLeastLoss m limits decisions columns (used_of ids xs)
least_loss m limits decisions columns ids given xs ys numbers is least d ks above over e others cover among =
    let fill : IsFilled m decisions columns d ids xs ks = filled m decisions columns d ids xs ks (ids_count m limits decisions columns ids xs numbers spread) usable over in
    let same : loss_by m (parts_by (map (column_at columns) ids) fill.all) ≡ loss_by m (parts_of columns (used_of ids xs) ks) = fill.sums (λ (part : Part). part.1 * loss_of m part.0) (λ c. none (loss_of m c)) in
    let at = spread.every d fill.all above fill.scaled in
    let cost : cost_sum fill.all (losses_of m (allowed_of decisions columns)) ≡ pos (loss_by m (parts_of columns (used_of ids xs) ks)) =
    cost_is m (allowed_of decisions columns) fill.all at.not_negative ∙ ap (λ (cs : List Column). pos (loss_by m (parts_by cs fill.all))) (sym numbers.named) ∙ ap pos same in
    let worth : right_product duals.numbers (rows_of m limits) *ℤ pos d ≡ cost_sum fill.all (losses_of m (allowed_of decisions columns)) *ℤ pos duals.denominator = it.worth d duals.denominator fill.all duals.numbers above duals.positive fill.scaled duals.scaled in
    let paid = rights_paid m limits decisions duals.numbers duals.denominator e others (slab_prices_of m limits duals.numbers size dual.signs) (each others cover.legal among) cover in
    weigh duals.denominator d e (loss_by m (parts_of columns (used_of ids xs) ks)) (loss_by m others) (right_product duals.numbers (rows_of m limits)) duals.positive (worth ∙ ap (λ (z : ℤ). z *ℤ pos duals.denominator) cost) paid
  where
    it : IsLeast (master_by m limits decisions columns) (losses_of m (allowed_of decisions columns)) xs ys
    it = subst (λ (g : Given). IsLeast g (losses_of m (allowed_of decisions columns)) xs ys) is least

    spread : IsSpread (rows_of m limits) (map (entries_of m limits) (allowed_of decisions columns)) xs
    spread = it.spread

    duals : AreDualPrices (rows_of m limits) (map (entries_of m limits) (allowed_of decisions columns)) (losses_of m (allowed_of decisions columns)) ys
    duals = it.duals

    dual : AreDualPricesAt (rows_of m limits) (map (entries_of m limits) (allowed_of decisions columns)) (losses_of m (allowed_of decisions columns)) duals.denominator duals.numbers
    dual = duals.every duals.denominator duals.numbers duals.positive duals.scaled

    usable : All IsUsable xs
    usable = are_usable spread.denominator xs spread.multipliers spread.positive spread.scaled (spread.every spread.denominator spread.multipliers spread.positive spread.scaled).not_negative

    size : length duals.numbers ≡ length m.orders + length m.yard + 2
    size = sym (length_scaled duals.denominator ys duals.numbers duals.scaled) ∙ duals.count ∙ length_rows m limits

    none : (n : ℕ) → 0 * n ≡ 0
    none n = zero-mul n

    each : (parts : List Part) → AllByRecursion (λ (part : Part). IsLegalColumn m part.0 × (column_agrees decisions part.0 ≡ true)) parts → All (λ (part : Part). Contains columns part.0) parts → AllByRecursion (λ (part : Part). IsPricedWith m (prices_of m limits duals.numbers) duals.denominator part.0) parts
    each [] allowed there = tt
    each (part ∷ parts) allowed there = (
      priced_with m limits duals.numbers duals.denominator part.0 allowed.0.0 (dual_product m limits (allowed_of decisions columns) duals.denominator duals.numbers part.0 dual (kept (column_agrees decisions) columns part.0 (All-head (λ (p : Part). Contains columns p.0) part parts there) allowed.0.1)),
      each parts allowed.1 (All-tail (λ (p : Part). Contains columns p.0) part parts there),
    )
