-- The rules of a spread's lines, and of the question after it.
use Rattle.std.specs.Prelude.{◌≡◌, ℕ, ◌*◌, ◌<◌, ◌≤◌, ℤ, pos, ◌≤ℤ◌, cond, true, false, List, [], ◌∷◌, ◌++◌, length, Some}
use Rattle.std.specs.List.{AllByRecursion, sum_by}
use Rattle.mill_model.specs.declared.kind.Kind.TheVariants as kinds
use Rattle.mill_model.specs.declared.limits.Limits.{Limits}
use Rattle.mill_model.specs.Mill.{Mill}
use Rattle.mill_model.specs.Columns.{Column, Rises, has, is_old, loss_of, has_barred}
use Rattle.mill_model.specs.Plans.{is_new}
use Rattle.mill_model.specs.Limits.{AtMost}
use Rattle.mill_model.specs.Decisions.{Decision, column_agrees}
use Rattle.mill_model.specs.Covers.{times}
use Rattle.mill_model.specs.Shares.{Share, part_of}
use Rattle.cert_rules.specs.declared.why.Why.TheVariants as why
use Rattle.cert_rules.specs.Rules.{Rule, rule}
use Rattle.cert_rules.specs.Numbers.{index, natural, number_at, Names}
use Rattle.cert_rules.specs.Slabs.{orders_on, IsListed, FitsLoad, HasFewColours}

-- `spread d`
abbrev pub spread_rules : List ℤ → List Rule
spread_rules numbers = rule why.Range (pos 1 ≤ℤ number_at numbers 0) ∷ []

abbrev pub column_of : Share → Column
column_of share = (part_of share).0

abbrev pub multiplier_of : Share → ℕ
multiplier_of share = (part_of share).1

-- ---- sums over shares

-- of the multipliers of those that have an order
abbrev pub covered : ℕ → List Share → ℕ
covered o shares = sum_by (λ share. cond (has (column_of share).orders o) (multiplier_of share) 0) shares

-- of the multipliers of those on a surplus slab
abbrev pub used : ℕ → List Share → ℕ
used s shares = sum_by (λ share. cond (is_old s (column_of share).kind) (multiplier_of share) 0) shares

-- of the losses times multipliers
abbrev pub lost : Mill → List Share → ℕ
lost m shares = sum_by (λ share. multiplier_of share * loss_of m (column_of share)) shares

-- of the multipliers of those on new slabs
abbrev pub opened : List Share → ℕ
opened shares = sum_by (λ share. cond (is_new (column_of share).kind) (multiplier_of share) 0) shares

-- no order is covered more than d times
abbrev pub OrdersWithin : Mill → ℕ → List Share → Type 0
OrdersWithin m d shares = (o : ℕ) → o < length m.orders → covered o shares ≤ d

-- no surplus slab is used more than d times
abbrev pub SlabsWithin : Mill → ℕ → List Share → Type 0
SlabsWithin m d shares = (s : ℕ) → s < length m.yard → used s shares ≤ d

-- ---- `cnew x u o..` and `cold x s o..`

-- the orders are the mill's, and they rise
abbrev pub AreNamed : Mill → List ℤ → Type 0
AreNamed m numbers = AllByRecursion (Names (length m.orders)) numbers × Rises 0 (length m.orders) (orders_on numbers)

abbrev pub Agrees : List Decision → Column → Type 0
Agrees path c = column_agrees path c ≡ true

-- the multiplier, the size of a new slab, and its orders
abbrev pub share_of_new : List ℤ → Share
share_of_new [] = record { times = pos 0; kind = kinds.New 0; orders = [] }
share_of_new (x ∷ []) = record { times = x; kind = kinds.New 0; orders = [] }
share_of_new (x ∷ u ∷ numbers) = record { times = x; kind = kinds.New (natural u); orders = orders_on numbers }

abbrev pub new_share_rules : Mill → List Decision → ℕ → List Share → List ℤ → List Rule
new_share_rules m path d shares [] = rule why.Spelling ⊥ ∷ []
new_share_rules m path d shares (x ∷ []) = rule why.Spelling ⊥ ∷ []
new_share_rules m path d shares (x ∷ u ∷ numbers) =
    let share = share_of_new (x ∷ u ∷ numbers) in
    let c = column_of share in
    rule why.Range (pos 1 ≤ℤ x) ∷ rule why.Size (IsListed m u) ∷ rule why.Place (AreNamed m numbers) ∷ rule why.Load (FitsLoad m c) ∷ rule why.Colours (HasFewColours m c)
    ∷ rule why.Agree (Agrees path c) ∷ rule why.Cover (OrdersWithin m d (shares ++ share ∷ [])) ∷ []

-- the multiplier, a surplus slab, and its orders
abbrev pub share_of_old : List ℤ → Share
share_of_old [] = record { times = pos 0; kind = kinds.Old 0; orders = [] }
share_of_old (x ∷ []) = record { times = x; kind = kinds.Old 0; orders = [] }
share_of_old (x ∷ s ∷ numbers) = record { times = x; kind = kinds.Old (index s); orders = orders_on numbers }

abbrev pub old_share_rules : Mill → List Decision → ℕ → List Share → List ℤ → List Rule
old_share_rules m path d shares [] = rule why.Spelling ⊥ ∷ []
old_share_rules m path d shares (x ∷ []) = rule why.Spelling ⊥ ∷ []
old_share_rules m path d shares (x ∷ s ∷ numbers) =
    let share = share_of_old (x ∷ s ∷ numbers) in
    let c = column_of share in
    rule why.Range (pos 1 ≤ℤ x) ∷ rule why.Yard (Names (length m.yard) s) ∷ rule why.Place (AreNamed m numbers) ∷ rule why.Load (FitsLoad m c) ∷ rule why.Colours (HasFewColours m c) ∷ rule why.Barred (has_barred m c ≡ false)
    ∷ rule why.Agree (Agrees path c) ∷ rule why.Cover (OrdersWithin m d (shares ++ share ∷ []) × SlabsWithin m d (shares ++ share ∷ [])) ∷ []

-- ---- the question after a spread

abbrev pub CoversAll : Mill → ℕ → List Share → Type 0
CoversAll m d shares = (o : ℕ) → o < length m.orders → covered o shares ≡ d

-- the losses and the new slabs stay within d times the limits, where these stand
abbrev pub LosesFew : Mill → Limits → ℕ → List Share → Type 0
LosesFew m limits d shares = AtMost (Some (pos (lost m shares))) (times d limits.loss)

abbrev pub OpensFew : Limits → ℕ → List Share → Type 0
OpensFew limits d shares = AtMost (Some (pos (opened shares))) (times d limits.count)

-- before its own rules
abbrev pub cover_rules : Mill → Limits → ℕ → List Share → List Rule
cover_rules m limits d shares = rule why.Cover (CoversAll m d shares) ∷ rule why.Loss (LosesFew m limits d shares) ∷ rule why.New (OpensFew limits d shares) ∷ []
