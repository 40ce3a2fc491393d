use Rattle.std.proofs.Common.{◌≡◌, false}
use Rattle.slab_desk.specs.Names.{with_opened}
use Rattle.mill_model.specs.Mill.{IsInLimits}
use Rattle.slab_front.proofs.Pieces.{HasFed, room_left}
use Rattle.slab_front.proofs.cut.read_cut.Given as goal

abbrev pub invariant-pieces : goal.invariant-pieces
invariant-pieces g l = record {
  fed : HasFed l.reader l.name (g.D.Desk.told l.fn.desk) (g.D.Desk.told l.desk);
  mill : l.reader.reading.mill ≡ l.mill;
  within : IsInLimits l.mill;
  kept : g.D.Desk.faults l.desk ≡ g.D.Desk.faults l.fn.desk;
  named : g.D.Desk.named l.desk ≡ with_opened l.name (g.D.Desk.named l.fn.desk);
  stopped : g.D.Desk.stopped l.desk ≡ false;
}

abbrev pub decreases-pieces : goal.decreases-pieces
decreases-pieces g l = room_left l.reader
