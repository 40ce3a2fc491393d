use Rattle.std.proofs.Common.{◌≡◌, ◌++◌, length, take}
use Rattle.cert_view.specs.Numbers.{numbers_of, AreSpelled}
use Rattle.cert_view.proofs.nums.copy_numbers.Given as goal

abbrev pub invariant-loop-place : goal.invariant-loop-place
invariant-loop-place l = AreSpelled l.rest × (take l.place-index l.out ++ numbers_of l.rest ≡ numbers_of l.bytes) × (length l.out ≡ length (numbers_of l.bytes))
