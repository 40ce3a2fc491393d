use Rattle.std.proofs.Common.{◌≡◌, ◌*◌, ◌^◌, ◌≤◌, ℤ, pos, ◌+ℤ◌, ◌*ℤ◌, ◌≤ℤ◌, true, arith, to_z, of_z}
use Rattle.std.specs.Prelude.{◌-ℤ◌, unsigned_abs}
use Rattle.std.specs.Int.{w128}
use lib.Signed.{le_z}
use Rattle.std.proofs.lemmas.Bool.{OnTrue_from}
use Rattle.std.proofs.lemmas.Int.{ints}
use Rattle.pricing_laws.proofs.Numbers.{le_true}
use Rattle.pricing_laws.proofs.Products.{few_small, product_back}
use Rattle.pricing_laws.specs.Problems.{ExceedAtMost}
use Rattle.pricing_laws.proofs.Problems.{exceed_weaker}
use Rattle.pricing_laws.proofs.Worths.{set_bounded}
use Rattle.pricing_laws.specs.Searches.{IsOfSetIn}
use Rattle.price_check.specs.Leaves.{problem_of}
use Rattle.price_check.specs.Searches.{search_of}
use Rattle.price_check.proofs.search.Search.is_hopeless.Goals as goal

-- the test as it was computed
low : (worth product exact floor : ℤ) → product ≡ exact → unsigned_abs exact ≤ 3 * 2 ^ 94 → unsigned_abs worth ≤ 2 ^ 100 → unsigned_abs floor ≤ 2 ^ 62
    → le_z (to_z w128 (of_z w128 (to_z w128 (of_z w128 worth) +ℤ product))) (to_z w128 (of_z w128 floor)) ≡ true → ((worth +ℤ exact) -ℤ floor) ≤ℤ pos 0
low worth product exact floor same few small least e = omega (arith, ints, le_true (to_z w128 (of_z w128 (to_z w128 (of_z w128 worth) +ℤ product))) (to_z w128 (of_z w128 floor)) e)

pub overflow_add-result : goal.overflow_add-result
overflow_add-result c =
    let left = c.args.left in
    let top = c.top.result in
    omega (arith, ints, product_back left top c.from.result c.requires.left c.top.ensures.small c.from.ensures, few_small left top c.requires.left c.top.ensures.small, c.requires.small)

pub returns : goal.returns
returns c taken from =
    let s = c.args.self.now in
    let q = problem_of s.leaf in
    let left = c.args.left in
    let top = c.top.result in
    let floor = s.frame.now.floor in
    let back : to_z w128 (of_z w128 (to_z w128 (of_z w128 c.from.result) *ℤ to_z w128 (of_z w128 top))) ≡ pos left *ℤ top = product_back left top c.from.result c.requires.left c.top.ensures.small c.from.ensures in
    let few : unsigned_abs (pos left *ℤ top) ≤ 3 * 2 ^ 94 = few_small left top c.requires.left c.top.ensures.small in
    let bound : ExceedAtMost q ((c.args.worth +ℤ pos left *ℤ top) -ℤ floor) (IsOfSetIn (search_of s) taken c.args.rank left) =
    set_bounded q s.frame.now.groups s.framed.groups s.frame.now.worths.items s.framed.worths floor s.framed.floor s.leaf.asked.sign s.frame.now.ranking.items c.args.rank left taken c.args.worth top from c.top.ensures.sign c.top.ensures.most in
    OnTrue_from _ _ (λ e. exceed_weaker q ((c.args.worth +ℤ pos left *ℤ top) -ℤ floor) (pos 0) (IsOfSetIn (search_of s) taken c.args.rank left) (IsOfSetIn (search_of s) taken c.args.rank left)
    (low c.args.worth (to_z w128 (of_z w128 (to_z w128 (of_z w128 c.from.result) *ℤ to_z w128 (of_z w128 top)))) (pos left *ℤ top) floor back few c.requires.small s.framed.small e) (λ d allowed set. set) bound)
