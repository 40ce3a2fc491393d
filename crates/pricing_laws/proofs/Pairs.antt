-- What a pair of orders that lie together tells.
use Rattle.std.proofs.Common.{◌≡◌, Bool, true, false, cond, not, refl, sym}

pub both_or_neither : (s t : Bool) → cond s t (not t) ≡ true → s ≡ t
both_or_neither true true e = refl
both_or_neither true false e = sym e
both_or_neither false true e = e
both_or_neither false false e = refl
