-- The rules of a plan in their order, and the first that it breaks.
use Rattle.std.specs.Prelude.{◌≡◌, ℕ, Bool, false, not, nat_eq, nat_lt, nat_le, List, [], ◌∷◌, ◌++◌, length, take, map, slice_index, find, flat_map, Option, Some, None, Result, Ok, Err}
use Rattle.std.specs.List.{list_any, range_with_len}
use Rattle.mill_model.specs.declared.kind.Kind.{Kind}
use Rattle.mill_model.specs.declared.kind.Kind.TheVariants.{New, Old}
use Rattle.mill_model.specs.declared.illegal.Illegal.{Illegal}
use Rattle.mill_model.specs.declared.illegal.Illegal.TheVariants.{Places, Place, Empty, Size, Yard, Twice, Load, Colours, Barred}
use Rattle.mill_model.specs.Mill.{Mill}
use Rattle.mill_model.specs.Columns.{has, is_old, size_of, load, colours_of, has_barred}
use Rattle.mill_model.specs.Plans.{Plan, slab}

-- a new slab of a size that isn't listed
abbrev pub is_unlisted : Mill → Kind → Bool
is_unlisted m (New size) = not (has m.sizes size)
is_unlisted m (Old s) = false

-- a surplus slab that isn't in the yard
abbrev pub is_missing : Mill → Kind → Bool
is_missing m (New size) = false
is_missing m (Old s) = nat_le (length m.yard) s

-- a surplus slab that stands among these slabs
abbrev pub is_among : List Kind → Kind → Bool
is_among kinds (New size) = false
is_among kinds (Old s) = list_any (is_old s) kinds

-- whether the plan breaks a rule
abbrev pub breaks : Mill → Plan → Illegal → Bool
breaks m p Places = not (nat_eq (length p.place) (length m.orders))
breaks m p (Place o) = nat_le (length p.kinds) (slice_index p.place o)
breaks m p (Empty k) = nat_eq (length (slab p k).orders) 0
breaks m p (Size k) = is_unlisted m (slab p k).kind
breaks m p (Yard k) = is_missing m (slab p k).kind
breaks m p (Twice k) = is_among (take k p.kinds) (slab p k).kind
breaks m p (Load k) = nat_lt (size_of m (slab p k).kind) (load m (slab p k).orders)
breaks m p (Colours k) = nat_lt m.colour_limit (colours_of m (slab p k).orders)
breaks m p (Barred k) = has_barred m (slab p k)

-- the rules of one slab
abbrev pub slab_rules : ℕ → List Illegal
slab_rules k = Empty k ∷ Size k ∷ Yard k ∷ Twice k ∷ Load k ∷ Colours k ∷ Barred k ∷ []

-- all rules: that of the number of places, that of each place, and those of each slab
abbrev pub rules_of : Plan → List Illegal
rules_of p =
    Places ∷ (map Place (range_with_len 0 (length p.place))
    ++ flat_map slab_rules (range_with_len 0 (length p.kinds)))

abbrev pub first_broken : Mill → Plan → Option Illegal
first_broken m p = find (breaks m p) (rules_of p)

-- the first of some rules that is broken, as a test of them answers it
abbrev pub AnswersFirst : {T : Type 0} → Mill → Plan → List Illegal → Result T Illegal → Type 0
AnswersFirst m p rules (Ok value) = find (breaks m p) rules ≡ None
AnswersFirst m p rules (Err rule) = find (breaks m p) rules ≡ Some rule
