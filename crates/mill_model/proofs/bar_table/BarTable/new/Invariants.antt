use Rattle.std.proofs.Common.{◌≡◌, length, take}
use Rattle.mill_model.specs.BarTable.{AreMarked}
use Rattle.mill_model.proofs.bar_table.BarTable.new.Given as goal

abbrev pub invariant-loop-bar : goal.invariant-loop-bar
invariant-loop-bar l = record { size : length l.rows ≡ 250; marks : AreMarked (take l.bar-index l.bars) l.rows }
