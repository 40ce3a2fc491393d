-- The table of a grid.
use Rattle.std.specs.Prelude.{ℤ, List}
use Rattle.pricing_laws.specs.Bounds.{IsTable}
use Rattle.slab_price.specs.declared.grid.Grid.{Grid}

abbrev pub IsTableOf : Grid → List ℤ → Type 0
IsTableOf grid table = IsTable grid.groups.now grid.heads.now grid.ends.now grid.step grid.width table
