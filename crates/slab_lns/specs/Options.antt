-- Where a released order may lie.
use Rattle.std.specs.Prelude.{ℕ, ℤ, List, [], ◌∷◌, ◌++◌, map, length, Option, Some}
use Rattle.std.specs.Option.{option_map}
use Rattle.std.specs.List.{filter, range_with_len}
use Rattle.mill_model.specs.declared.kind.Kind.{Kind}
use Rattle.mill_model.specs.Mill.{Mill}
use Rattle.mill_model.specs.Columns.{Column}
use Rattle.slab_filling.specs.Slabs.{takes, takes_alone}
use Rattle.slab_filling.specs.Placing.{put_on, put_on_new, kinds_to_open}
use Rattle.slab_lns.specs.declared.ways.Way.{Way}
use Rattle.slab_lns.specs.declared.ways.Way.TheVariants.{On, Open}
use Rattle.slab_lns.specs.Drawn.{Drawn, draw_from, then_draw}
use Rattle.slab_lns.specs.Neighbourhoods.{slab_at}

-- on each open slab that takes it
abbrev pub ways_on_open : Mill → ℕ → List Column → List Way
ways_on_open m o slabs = map On (filter (λ k. takes m o (slab_at slabs k)) (range_with_len 0 (length slabs)))

-- on a slab that is opened for it, of each of these kinds that takes it
abbrev pub ways_to_open : Mill → ℕ → List Kind → List Way
ways_to_open m o kinds = map Open (filter (takes_alone m o) kinds)

-- the options of an order: each open slab that takes it, then a new slab, then each free surplus slab
abbrev pub ways : Mill → Option ℤ → ℕ → List Column → List Way
ways m limit o slabs = ways_on_open m o slabs ++ ways_to_open m o (kinds_to_open m limit slabs)

-- the slabs with the order placed in this way; a slab that is opened goes last
abbrev pub placed : ℕ → List Column → Way → List Column
placed o slabs (On k) = put_on o slabs k
placed o slabs (Open kind) = put_on_new o slabs kind

-- the slabs with the order placed in a way that is drawn, or none where it has none
abbrev pub place_one : Mill → Option ℤ → ℕ → List Column → ℕ → Drawn (List Column)
place_one m limit o slabs last =
    let way = draw_from (ways m limit o slabs) last in
    record { found = option_map (placed o slabs) way.found; last = way.last }

-- the slabs with all these orders, one after another, or none where one has no way
abbrev pub place_all : Mill → Option ℤ → List ℕ → List Column → ℕ → Drawn (List Column)
place_all m limit [] slabs last = record { found = Some slabs; last = last }
place_all m limit (o ∷ os) slabs last = then_draw (place_one m limit o slabs last) (place_all m limit os)
