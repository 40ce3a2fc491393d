-- Agreement doesn't see the size of a new slab.
use Rattle.std.proofs.Common.{◌≡◌, ℕ, Bool, ◌&&◌, List, [], ◌∷◌, refl, ap₂}
use Rattle.mill_model.specs.declared.ask.Ask.{Ask}
use Rattle.mill_model.specs.declared.ask.Ask.TheVariants.{Pair, Put}
use Rattle.mill_model.specs.declared.kind.Kind.TheVariants.{New}
use Rattle.mill_model.specs.Decisions.{Decision, agrees, column_agrees}

-- agreement doesn't see the size
agrees_any_size : (u v : ℕ) (orders : List ℕ) (ask : Ask) (b : Bool) → agrees (record { kind = New u; orders = orders }) (ask, b) ≡ agrees (record { kind = New v; orders = orders }) (ask, b)
agrees_any_size u v orders (Pair i j) b = refl
agrees_any_size u v orders (Put o s) b = refl

pub column_agrees_any_size : (u v : ℕ) (orders : List ℕ) (decisions : List Decision) → column_agrees decisions (record { kind = New u; orders = orders }) ≡ column_agrees decisions (record { kind = New v; orders = orders })
column_agrees_any_size u v orders [] = refl
column_agrees_any_size u v orders (d ∷ decisions) = ap₂ (λ a b. a && b) (agrees_any_size u v orders d.0 d.1) (column_agrees_any_size u v orders decisions)
