use Rattle.std.proofs.Common.{◌≡◌, ◌≤◌, ◌-◌, vec_len}
use Rattle.slab_desk.specs.Desk.{HasRead, Steps}
use Rattle.slab_desk.specs.Names.{with_opened}
use Rattle.slab_desk.proofs.whole.read_all.Given as goal

abbrev pub invariant-loop-size : goal.invariant-loop-size
invariant-loop-size g l = record {
  read : Steps (g.D.Desk.told l.fn.desk) (g.D.Desk.told l.desk) (HasRead l.name l.bytes.items);
  fits : vec_len l.bytes ≤ l.limit;
  named : g.D.Desk.named l.desk ≡ with_opened l.name (g.D.Desk.named l.fn.desk);
  kept : g.D.Desk.faults l.desk ≡ g.D.Desk.faults l.fn.desk;
}

abbrev pub decreases-loop-size : goal.decreases-loop-size
decreases-loop-size g l = l.limit - vec_len l.bytes
