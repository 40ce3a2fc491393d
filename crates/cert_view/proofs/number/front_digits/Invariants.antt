use Rattle.std.proofs.Common.{◌≡◌, ◌^◌, ◌+◌, ◌<◌, ℕ, take, min, true, get_or}
use Rattle.std.specs.Char.{is_ascii_digit}
use Rattle.cert_view.specs.Number.{digits_value}
use Rattle.cert_view.proofs.number.front_digits.Given as goal

abbrev pub invariant-loop-i : goal.invariant-loop-i
invariant-loop-i l = (l.value ≡ min (digits_value (take l.i l.bytes)) (2 ^ 62 + 1)) × ((k : ℕ) → k < l.i → is_ascii_digit (get_or l.bytes k 0) ≡ true)
