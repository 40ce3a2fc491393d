use Rattle.std.proofs.Common.{◌+◌, ◌≤◌, ◌++◌, length, take, inr, arith}
use Rattle.std.proofs.lemmas.Grind.{common_steps}
use Rattle.slab_desk.specs.Desk.{Steps, Reads}
use Rattle.slab_desk.proofs.Pieces.{read_more}
use Rattle.slab_desk.proofs.Steps.{steps_join}
use Rattle.slab_desk.proofs.whole.read_all.Goals as goal

pub returns-then-count-room-clause-read : goal.returns-then-count-room-clause-read
returns-then-count-room-clause-read g c =
    let more = take c.in_ok-count.count c.read.new.buf in
    let reads : Steps (g.D.Desk.told c.loop-size.desk) (g.D.Desk.told c.read.new.self) (Reads c.in_ok-count.count c.read.new.buf) = grind (arith, common_steps) in
    let bound : length (c.loop-size.bytes.items ++ more) ≤ c.args.limit + 1 = grind (arith, common_steps) in
    steps_join _ _ _ (λ x y z p q. inr (c.loop-size.bytes.items ++ more, bound, read_more c.args.name.now c.loop-size.bytes.items c.read.new.buf c.in_ok-count.count x y z p q)) c.loop-size.invariant.read reads
