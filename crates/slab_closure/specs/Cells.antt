-- The cells of a table of relations, and how a decision changes them.
use Rattle.std.specs.Prelude.{ℕ, Bool, true, false, ◌||◌, ◌&&◌, if◌then◌else◌, nat_eq, nat_lt, List, slice_index_or}
use Rattle.slab_closure.specs.declared.relation.Relation.{Relation}
use Rattle.slab_closure.specs.declared.relation.Relation.TheVariants.{Open, Same, Apart}

abbrev pub is_same : Relation → Bool
is_same Open = false
is_same Same = true
is_same Apart = false

abbrev pub is_apart : Relation → Bool
is_apart Open = false
is_apart Same = false
is_apart Apart = true

-- the cell at a place
abbrev pub cell : List Relation → ℕ → Relation
cell cells k = slice_index_or cells k Open

-- the relation of a node to two groups that become one
abbrev pub combined_of : Relation → Relation → Relation
combined_of p q = if is_apart p || is_apart q then Apart else Open

-- the relation of a node to the group that two groups make, from how it stood to each
abbrev pub joined_of : Relation → Relation → Relation
joined_of p q = if is_same p || is_same q then Same else combined_of p q

-- the relation of nodes x and y once the groups of a and b are one, from how x and y stood to a, to b and to each other
abbrev pub merged : Relation → Relation → Relation → Relation → Relation → Relation
merged xa xb ya yb xy =
    if is_same xa || is_same xb then (if is_same ya || is_same yb then Same else combined_of ya yb)
    else (if is_same ya || is_same yb then combined_of xa xb else xy)

-- the same once the groups of a and b are apart
abbrev pub separated : Relation → Relation → Relation → Relation → Relation → Relation
separated xa xb ya yb xy = if (is_same xa && is_same yb) || (is_same xb && is_same ya) then Apart else xy

-- the relation of two nodes before any decision: surplus slabs are apart
abbrev pub start_of : ℕ → ℕ → ℕ → Relation
start_of slabs x y = if nat_eq x y then Same else if nat_lt x slabs && nat_lt y slabs then Apart else Open

-- the same once it is decided whether the groups of a and b are one
abbrev pub decided : Bool → Relation → Relation → Relation → Relation → Relation → Relation
decided true = merged
decided false = separated
