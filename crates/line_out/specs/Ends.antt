-- Where nothing goes out nothing changes.
use Rattle.std.proofs.Common.{◌≡◌, ℕ, List, [], ◌++◌, refl, sym, ap, append-nil}
use Rattle.slab_desk.specs.Desk.{Told, Says, AppendsAll}

pub says_nothing : (x : Told) → Says [] x x
says_nothing x = ap (λ (s : List ℕ). record x { said = s }) (sym (append-nil x.said))

pub appends_nothing : (x : Told) → AppendsAll [] x x
appends_nothing x = refl
