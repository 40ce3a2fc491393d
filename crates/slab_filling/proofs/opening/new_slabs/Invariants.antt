use Rattle.std.proofs.Common.{◌≡◌, ◌≤◌, count_by, take}
use Rattle.mill_model.specs.Plans.{is_new}
use Rattle.slab_filling.specs.Placing.{kinds_of}
use Rattle.slab_filling.proofs.opening.new_slabs.Given as goal

abbrev pub invariant-loop-slab : goal.invariant-loop-slab
invariant-loop-slab l = record { so_far : l.count ≡ count_by is_new (kinds_of (take l.slab-index l.slabs)); bounded : l.count ≤ l.slab-index }
