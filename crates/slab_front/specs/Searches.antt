-- A search, as contracts see it, by what a sweep answered.
use Rattle.std.specs.Prelude.{ℕ, ◌<◌, [], length}
use Rattle.slab_sweep.specs.declared.swept.Swept.{Swept}
use Rattle.slab_sweep.specs.declared.swept.Swept.TheVariants.{Complete, NoPlan, Budget}
use Rattle.cert_text.specs.Certificates.Ending.{Whole, Cut}
use Rattle.slab_front.specs.Searched.{Searched}

abbrev pub searched : Swept → ℕ → ℕ → Searched
searched (Complete front) opened bare = record { points = front.points; ending = Whole front.last; opened = opened; bare = bare }
searched (NoPlan last) opened bare = record { points = []; ending = Whole last; opened = opened; bare = bare }
searched (Budget points rest) opened bare = record { points = points; ending = Cut rest; opened = opened; bare = bare }

-- a front that is whole has a point
abbrev pub HasPointIfWhole : Swept → Type 0
HasPointIfWhole (Complete front) = 0 < length front.points
HasPointIfWhole (NoPlan last) = Unit {0}
HasPointIfWhole (Budget points rest) = Unit {0}
