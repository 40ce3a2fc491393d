use Rattle.std.proofs.Common.{◌≡◌, false}
use Rattle.slab_desk.specs.Names.{with_opened}
use Rattle.mill_model.specs.Mill.{IsInLimits}
use Rattle.front_check.proofs.Pieces.{HasFed, room_left}
use Rattle.front_check.proofs.reading.read_certificate.Given as goal

abbrev pub invariant-pieces : goal.invariant-pieces
invariant-pieces g l = record {
  fed : HasFed l.checker l.name (g.D.Desk.told l.fn.desk) (g.D.Desk.told l.desk);
  mill : l.checker.mill ≡ l.mill;
  within : IsInLimits l.mill;
  kept : g.D.Desk.faults l.desk ≡ g.D.Desk.faults l.fn.desk;
  stopped : g.D.Desk.stopped l.desk ≡ false;
  named : g.D.Desk.named l.desk ≡ with_opened l.name (g.D.Desk.named l.fn.desk);
}

abbrev pub decreases-pieces : goal.decreases-pieces
decreases-pieces g l = room_left l.checker
