use Rattle.std.proofs.Common.{ℕ, ◌≡◌, ◌<◌, length, get_or}
use Rattle.mill_model.specs.LeastSizes.{IsLeastSize}
use Rattle.loss_table.proofs.loss_table.table_of.Given as goal

abbrev pub invariant-loop-load : goal.invariant-loop-load
invariant-loop-load l = record {
  reached : length l.table.items ≡ l.load;
  answers : (load : ℕ) → load < l.load → IsLeastSize l.sizes load (get_or l.table.items load 0);
}
