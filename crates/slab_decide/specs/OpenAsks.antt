-- The first open pair and the first open put of closed relations.
use Rattle.std.specs.Prelude.{◌≡◌, ℕ, ◌+◌, ◌<◌}
use Rattle.mill_model.specs.declared.ask.Ask.{Ask}
use Rattle.mill_model.specs.declared.ask.Ask.TheVariants.{Pair, Put}
use Rattle.slab_closure.specs.declared.relation.Relation.TheVariants.{Open}
use Rattle.slab_closure.specs.Relations.{Relations, relation_at}

abbrev pub IsOpenPair : Relations → ℕ → ℕ → ℕ → Type 0
IsOpenPair r yard i j = relation_at r (yard + i) (yard + j) ≡ Open

abbrev pub IsOpenPut : Relations → ℕ → ℕ → ℕ → Type 0
IsOpenPut r yard o s = relation_at r (yard + o) s ≡ Open

-- no order above i and below this one is open with i
abbrev pub ArePairsClosedFor : Relations → ℕ → ℕ → ℕ → Type 0
ArePairsClosedFor r yard i below = (j : ℕ) → i < j → j < below → IsOpenPair r yard i j → ⊥

abbrev pub ArePutsClosedFor : Relations → ℕ → ℕ → ℕ → Type 0
ArePutsClosedFor r yard o below = (s : ℕ) → s < below → IsOpenPut r yard o s → ⊥

-- no order below this one is open with one above it
abbrev pub ArePairsClosed : Relations → ℕ → ℕ → ℕ → Type 0
ArePairsClosed r yard orders below = (i : ℕ) → i < below → ArePairsClosedFor r yard i orders

abbrev pub ArePutsClosed : Relations → ℕ → ℕ → Type 0
ArePutsClosed r yard below = (o : ℕ) → o < below → ArePutsClosedFor r yard o yard

pub record IsFirstPairOf (r : Relations) (orders yard i j : ℕ) : Type 0 where
  pub above : i < j
  pub within : j < orders
  pub opened : IsOpenPair r yard i j
  pub before : ArePairsClosedFor r yard i j

pub record IsFirstPutOf (r : Relations) (yard o s : ℕ) : Type 0 where
  pub within : s < yard
  pub opened : IsOpenPut r yard o s
  pub before : ArePutsClosedFor r yard o s

abbrev pub IsFirstPair : Relations → ℕ → ℕ → Ask → Type 0
IsFirstPair r orders yard (Pair i j) = IsFirstPairOf r orders yard i j × ArePairsClosed r yard orders i
IsFirstPair r orders yard (Put o s) = ⊥

abbrev pub IsFirstPut : Relations → ℕ → ℕ → Ask → Type 0
IsFirstPut r orders yard (Pair i j) = ⊥
IsFirstPut r orders yard (Put o s) = (o < orders) × IsFirstPutOf r yard o s × ArePutsClosed r yard o
