use Rattle.std.proofs.Common.{◌≤◌, length, arith}
use Rattle.std.proofs.Math.Nat.{mul-le-mul}
use Rattle.cert_slabs.proofs.TallyLines.{sums_small}
use Rattle.cert_slabs.proofs.tally.Tally.test_cover.Goals as goal

pub is_within-requires-clause-sum : goal.is_within-requires-clause-sum
is_within-requires-clause-sum c = omega (arith, c.self.invariant.lost_fits, sums_small c.self.inside.d c.self.inside.covered.items c.self.invariant.few c.self.invariant.most c.self.invariant.orders)

pub is_within-requires-2-clause-sum : goal.is_within-requires-2-clause-sum
is_within-requires-2-clause-sum c = omega (arith, c.self.invariant.opened_fits, sums_small c.self.inside.d c.self.inside.covered.items c.self.invariant.few c.self.invariant.most c.self.invariant.orders)
