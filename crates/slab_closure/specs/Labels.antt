-- Labels of nodes, of which nodes of one group have the same.
use Rattle.std.specs.Prelude.{◌≡◌, ◌≢◌, ℕ, ◌<◌, Bool, true, false}
use Rattle.slab_closure.specs.declared.relation.Relation.{Relation}
use Rattle.slab_closure.specs.declared.relation.Relation.TheVariants.{Same, Apart}
use Rattle.slab_closure.specs.Relations.{Table}

-- what a table says of two nodes holds of their labels
pub record Holds {A : Type 0} (x y : A) (relation : Relation) : Type 0 where
  pub same : relation ≡ Same → x ≡ y
  pub apart : relation ≡ Apart → x ≢ y

-- what a table says of every two nodes below n holds of their labels
abbrev pub AllHold : {A : Type 0} → ℕ → Table → (ℕ → A) → Type 0
AllHold n at label = (x y : ℕ) → x < n → y < n → Holds (label x) (label y) (at x y)

-- two labels answer whether their groups are one
abbrev pub Decides : {A : Type 0} → Bool → A → A → Type 0
Decides true x y = x ≡ y
Decides false x y = x ≢ y
