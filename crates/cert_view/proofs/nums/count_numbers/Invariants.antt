use Rattle.std.proofs.Common.{◌≡◌, ◌+◌, ◌≤◌, length}
use Rattle.cert_view.specs.Numbers.{words_after, IsSpaced}
use Rattle.cert_view.specs.Reading.{count_of}
use Rattle.cert_view.proofs.Words.{also_counted}
use Rattle.cert_view.proofs.nums.count_numbers.Given as goal

abbrev pub invariant-loop-rest : goal.invariant-loop-rest
invariant-loop-rest l = IsSpaced l.rest × (l.count + length l.rest ≤ length l.bytes) × (also_counted l.count l.within (count_of (words_after l.rest)) ≡ count_of (words_after l.bytes))

abbrev pub decreases-loop-rest : goal.decreases-loop-rest
decreases-loop-rest l = length l.rest
