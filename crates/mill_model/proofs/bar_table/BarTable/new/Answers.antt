use Rattle.std.proofs.Common.{◌<◌, get_or, length-set, refl, arith, ◌∙◌}
use Rattle.mill_model.specs.Mill.{Bar}
use Rattle.mill_model.proofs.Bars.{empty_marks, marks_more}
use Rattle.mill_model.proofs.bar_table.BarTable.new.Goals as goal

pub loop-bar-init : goal.loop-bar-init
loop-bar-init c = record { size = refl; marks = empty_marks 250 c.args.bars.now }

pub loop-bar-preserved : goal.loop-bar-preserved
loop-bar-preserved c =
    let bar : Bar = get_or c.args.bars.now c.loop-bar.bar-index (0, 0) in
    let place : (bar.0 < 250) × (bar.1 < 40) = c.requires c.loop-bar.bar-index (0, 0) c.loop-bar-test.true in
    record {
      size = length-set _ _ _ ∙ c.loop-bar.invariant.size;
      marks = marks_more c.args.bars.now c.loop-bar.rows c.loop-bar.bar-index bar.0 bar.1 (0, 0) c.loop-bar-test.true refl (omega (arith, place.0, c.loop-bar.invariant.size)) place.1 c.loop-bar.invariant.marks;
    }
