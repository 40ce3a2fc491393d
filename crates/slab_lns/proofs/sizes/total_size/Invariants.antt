use Rattle.std.proofs.Common.{◌≡◌, ◌≤◌, ◌*◌, sum_by, take}
use Rattle.mill_model.specs.Columns.{Column, size_of}
use Rattle.slab_filling.specs.Slabs.{closed}
use Rattle.slab_lns.proofs.sizes.total_size.Given as goal

abbrev pub invariant-loop-slab : goal.invariant-loop-slab
invariant-loop-slab l = record { so_far : l.sum ≡ sum_by (λ (slab : Column). size_of l.mill (closed l.mill slab).kind) (take l.slab-index l.slabs); bounded : l.sum ≤ l.slab-index * 65535 }
