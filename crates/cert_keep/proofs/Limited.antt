-- What a reader of certificates stands for, up to the number of bytes that one may have.
use Rattle.std.proofs.Common.{◌≡◌, ℕ, ◌++◌, true, false, List, length, Option, Some, None, is_some, sym, arith, length-append}
use Rattle.std.proofs.lemmas.Bool.{false≢true}
use Rattle.cert_rules.specs.States.Wanted.{All}
use Rattle.cert_keep.specs.Gathering.{Gathered, Gathers}
use Rattle.cert_keep.specs.Certs.{IsLeftAfter, StandsAsCertBy}

-- not too many bytes came, and this was built of them
pub is_within : (g : Gathered) (left : Option ℕ) (bytes : List ℕ) → is_some left ≡ true → StandsAsCertBy g left bytes → Gathers All g bytes
is_within g None bytes e h = absurd (false≢true e)
is_within g (Some left) bytes e h = h.1

-- too many bytes with these
pub long_after : (old next : Gathered) (left new : Option ℕ) (piece bytes : List ℕ) → IsLeftAfter left (length piece) new → is_some new ≡ false → StandsAsCertBy old left bytes → StandsAsCertBy next new (bytes ++ piece)
long_after old next None None piece bytes is e h = omega (arith, h, length-append bytes piece)
long_after old next (Some left) None piece bytes is e h = omega (arith, is, h.0, length-append bytes piece)
long_after old next left (Some n) piece bytes is e h = absurd (false≢true (sym e))

-- not too many with these
pub within_after : (old next : Gathered) (left new : Option ℕ) (piece bytes : List ℕ) → IsLeftAfter left (length piece) new → is_some new ≡ true → (Gathers All old bytes → Gathers All next (bytes ++ piece)) → StandsAsCertBy old left bytes → StandsAsCertBy next new (bytes ++ piece)
within_after old next left None piece bytes is e on h = absurd (false≢true e)
within_after old next None (Some n) piece bytes is e on h = absurd (let none : Some n ≡ None = is in cc)
within_after old next (Some left) (Some n) piece bytes is e on h = (omega (arith, is.0, is.1, h.0, length-append bytes piece), on h.1)
