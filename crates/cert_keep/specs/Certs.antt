-- A reader of certificates: for which bytes it stands, and how many more it takes.
use Rattle.std.specs.Prelude.{◌≡◌, ◌⊎◌, ◌||◌, ℕ, ◌+◌, ◌-◌, ◌<◌, ◌≤◌, Bool, List, length, Option, Some, None, SomeIff, is_none, is_some, unwrap_or}
use Rattle.mill_model.specs.Mill.{Mill, most_certificate_bytes}
use Rattle.cert_rules.specs.States.Wanted.{All}
use Rattle.cert_check.specs.Readings.{HasBadLine}
use Rattle.cert_keep.specs.Gathering.{Gathered, Gathers}

-- what a reader of certificates keeps: the reading, and what was built of the certificate; and how many bytes can still come,
-- where no more came than a certificate may have
pub record CertReading : Type 0 where
  pub gathered : Gathered
  pub left : Option ℕ

-- more bytes than a certificate may have
abbrev pub IsLong : List ℕ → Type 0
IsLong bytes = most_certificate_bytes < length bytes

-- by how many can still come, a reader of certificates stands for these bytes
abbrev pub StandsAsCertBy : Gathered → Option ℕ → List ℕ → Type 0
StandsAsCertBy g None bytes = IsLong bytes
StandsAsCertBy g (Some left) bytes = (length bytes + left ≡ most_certificate_bytes) × Gathers All g bytes

-- a reader of certificates stands for these bytes
abbrev pub StandsAsCert : CertReading → List ℕ → Type 0
StandsAsCert c bytes = StandsAsCertBy c.gathered c.left bytes

-- so many can still come after so many more
abbrev pub IsLeftAfter : Option ℕ → ℕ → Option ℕ → Type 0
IsLeftAfter None more left = left ≡ None
IsLeftAfter (Some before) more left = SomeIff left (more ≤ before) (before - more)

-- too many bytes came, or a line is bad
abbrev pub cert_failed : CertReading → Bool
cert_failed c = is_none c.left || is_some c.gathered.reading.failed

-- these bytes, and whatever follows them, make no certificate that the reader gives
abbrev pub IsNoCert : Mill → List ℕ → Type 0
IsNoCert m bytes = IsLong bytes ⊎ HasBadLine All m bytes

-- too many bytes came, or the bytes that can still come are fewer by so many
abbrev pub CertHasLessRoom : CertReading → CertReading → ℕ → Type 0
CertHasLessRoom old new fed = (new.left ≡ None) ⊎ (unwrap_or new.left 0 + fed ≡ unwrap_or old.left 0)
