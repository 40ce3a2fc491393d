use Rattle.std.proofs.Common.{◌≡◌, ℕ, pos, ◌≤ℤ◌, true, false, length, sym, subst, ◌∙◌, arith}
use Rattle.std.specs.Prelude.{◌-ℤ◌, ◌<ℤ◌}
use Rattle.std.proofs.lemmas.Int.{ints}
use Rattle.std.proofs.lemmas.Bool.{both_ways}
use Rattle.mill_model.specs.Columns.{Column, has_barred}
use Rattle.mill_model.specs.Decisions.{column_agrees}
use Rattle.pricing_laws.specs.Gains.{cost_of}
use Rattle.pricing_laws.proofs.Parts.{below_rising, distinct_below, distinct_rising}
use Rattle.pricing_laws.proofs.Problems.{exceed_none}
use Rattle.pricing_laws.specs.Packs.{IsColumn}
use Rattle.slab_price.specs.Tasks.{problem_of}
use Rattle.slab_price.proofs.Improving.{improved_same}
use Rattle.pricing_laws.proofs.Packs.{pack_on}
use Rattle.slab_price.proofs.Packs.{best_sign, pack_found}
use Rattle.slab_price.proofs.task.Task.offer_on.Goals.{then-has_barred-via-then-has_barred, then-has_barred-via-else-has_barred+then-not-allows}
use Rattle.slab_price.proofs.task.Task.offer_on.Goals as goal

pub returns-then-excess-best : goal.returns-then-excess-best
returns-then-excess-best c =
    let q = problem_of c.args.self.now in
    let low : (c.args.gain -ℤ cost_of q.mill q.prices c.args.kind) ≤ℤ c.args.best.now.excess = omega (arith, ints, c.if-excess-best.true, c.requires.pack.small, c.cost.ensures.small, c.cost.ensures.cost) in
    improved_same q c.args.best.now (IsColumn c.args.kind c.args.orders.now) (pack_on q c.args.orders.now c.args.weight c.args.gain c.requires.pack c.args.kind c.args.best.now.excess c.requires.holds low)

pub returns-then-has_barred : goal.returns-then-has_barred
returns-then-has_barred c =
    let q = problem_of c.args.self.now in
    let column : Column = record { kind = c.args.kind; orders = c.args.orders.now } in
    improved_same q c.args.best.now (IsColumn c.args.kind c.args.orders.now) (elim c.then-has_barred.branch [
      | then-has_barred-via-then-has_barred w ↦ exceed_none q c.args.best.now.excess (IsColumn c.args.kind c.args.orders.now)
          (λ d allowed same. both_ways (has_barred q.mill column) (subst (λ (x : Column). has_barred q.mill x ≡ false) same allowed.legal.fits.bars) (sym c.has_barred.ensures ∙ w.if-has_barred.true))
      | then-has_barred-via-else-has_barred+then-not-allows w ↦ exceed_none q c.args.best.now.excess (IsColumn c.args.kind c.args.orders.now)
          (λ d allowed same. both_ways (column_agrees q.decisions column) (sym w.allows.ensures ∙ w.if-not-allows.true) (subst (λ (x : Column). column_agrees q.decisions x ≡ true) same allowed.agrees))
    ])

pub replace-requires : goal.replace-requires
replace-requires c =
    let n : ℕ = length c.args.self.now.mill.now.orders in
    omega (arith, c.args.self.now.asked.limits.order_count, distinct_below c.args.orders.now n (distinct_rising 0 n c.args.orders.now c.requires.pack.rises) (below_rising 0 n c.args.orders.now c.requires.pack.rises))

pub returns : goal.returns
returns c =
    let q = problem_of c.args.self.now in
    let value : c.replace.new.self.excess ≡ c.args.gain -ℤ cost_of q.mill q.prices c.args.kind = omega (arith, ints, c.replace.ensures.excess, c.requires.pack.small, c.cost.ensures.small, c.cost.ensures.cost) in
    let greater : c.args.best.now.excess ≤ℤ c.replace.new.self.excess = omega (arith, ints, c.replace.ensures.excess, c.if-excess-best.false) in
    let free : has_barred q.mill (record { kind = c.args.kind; orders = c.args.orders.now }) ≡ false = sym c.has_barred.ensures ∙ c.if-has_barred.false in
    let agrees : column_agrees q.decisions (record { kind = c.args.kind; orders = c.args.orders.now }) ≡ true = sym c.allows.ensures ∙ c.if-not-allows.false in
    record {
      kept = λ best.
          let sign : pos 0 ≤ℤ c.args.best.now.excess = best_sign q c.args.best.now best in
          let above : pos 0 <ℤ c.replace.new.self.excess = omega (arith, ints, c.replace.ensures.excess, sign, c.if-excess-best.false) in
          pack_found q c.args.orders.now c.args.weight c.args.gain c.requires.pack c.args.kind c.replace.new.self c.requires.stock c.requires.holds c.requires.least_size free agrees above c.replace.ensures.kind c.replace.ensures.orders value;
      grows = greater;
      most = pack_on q c.args.orders.now c.args.weight c.args.gain c.requires.pack c.args.kind c.replace.new.self.excess c.requires.holds (omega (arith, ints, value));
    }
