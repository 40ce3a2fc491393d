-- Tests of rules.
use Rattle.std.specs.Prelude.{◌≡◌, ℕ, ◌<◌, ◌≤◌, ◌^◌, ℤ, pos, ◌≤ℤ◌, false, List, [], ◌∷◌, length, Result, Ok, Err}
use Rattle.mill_model.specs.declared.kind.Kind.{Kind}
use Rattle.mill_model.specs.declared.kind.Kind.TheVariants.{New, Old}
use Rattle.mill_model.specs.Mill.{Mill}
use Rattle.mill_model.specs.Columns.{Column, IsInStock, Rises, has_barred}
use Rattle.mill_model.specs.Shares.{Share}
use Rattle.cert_rules.specs.declared.why.Why.{Why}
use Rattle.cert_rules.specs.declared.why.Why.TheVariants as why
use Rattle.cert_rules.specs.Rules.{Rule, rule, AllKept, FirstBroken}
use Rattle.cert_rules.specs.Numbers.{Names}
use Rattle.cert_rules.specs.Slabs.{IsListed, FitsLoad, HasFewColours}
use Rattle.cert_rules.specs.Spreads.{AreNamed, column_of, share_of_new, share_of_old}

-- all rules are kept, or this is the first that is broken
abbrev pub Answers : {T : Type 0} → List Rule → Result T Why → Type 0
Answers rules (Ok value) = AllKept rules
Answers rules (Err broken) = FirstBroken rules broken

-- the rule of bars, on a surplus slab
abbrev pub bar_rules : Mill → Column → Kind → List Rule
bar_rules m c (New size) = []
bar_rules m c (Old s) = rule why.Barred (has_barred m c ≡ false) ∷ []

-- what the mill allows on one slab
abbrev pub slab_rules : Mill → Column → List Rule
slab_rules m c = rule why.Load (FitsLoad m c) ∷ rule why.Colours (HasFewColours m c) ∷ bar_rules m c c.kind

-- the rules of a share's line that speak of its column alone
abbrev pub new_share_front : Mill → List ℤ → List Rule
new_share_front m [] = rule why.Spelling ⊥ ∷ []
new_share_front m (x ∷ []) = rule why.Spelling ⊥ ∷ []
new_share_front m (x ∷ u ∷ numbers) = rule why.Range (pos 1 ≤ℤ x) ∷ rule why.Size (IsListed m u) ∷ rule why.Place (AreNamed m numbers) ∷ slab_rules m (column_of (share_of_new (x ∷ u ∷ numbers)))

abbrev pub old_share_front : Mill → List ℤ → List Rule
old_share_front m [] = rule why.Spelling ⊥ ∷ []
old_share_front m (x ∷ []) = rule why.Spelling ⊥ ∷ []
old_share_front m (x ∷ s ∷ numbers) = rule why.Range (pos 1 ≤ℤ x) ∷ rule why.Yard (Names (length m.yard) s) ∷ rule why.Place (AreNamed m numbers) ∷ slab_rules m (column_of (share_of_old (x ∷ s ∷ numbers)))

abbrev pub share_of : ℕ → Kind → List ℕ → Share
share_of times kind orders = record { times = pos times; kind = kind; orders = orders }

-- a multiplier, a slab of the mill, and orders by rising number
pub record IsShare (m : Mill) (times : ℕ) (kind : Kind) (orders : List ℕ) : Type 0 where
  pub low : 1 ≤ times
  pub high : times ≤ 2 ^ 62
  pub stock : IsInStock m kind
  pub rise : Rises 0 (length m.orders) orders
  pub some : 0 < length orders

-- the share of a line that was read
pub record IsRead (m : Mill) (share : Share) (times : ℕ) (kind : Kind) (orders : List ℕ) : Type 0 where
  pub is : share ≡ share_of times kind orders
  pub good : IsShare m times kind orders
