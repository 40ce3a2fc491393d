use Rattle.std.proofs.Common.{◌≡◌, ◌++◌, take, drop, arith}
use Rattle.std.proofs.lemmas.Grind.{common_steps}
use Rattle.std.proofs.lemmas.List.{take_rest, length-drop}
use Rattle.slab_desk.proofs.States.{reads_state, empty_of}
use Rattle.slab_desk.proofs.mem_desk.MemDeskDesk.read.Goals as goal

pub returns-clause-reads : goal.returns-clause-reads
returns-clause-reads c =
    let k = c.min-count.result in
    let buffer = c.copy_from_slice.new.self ++ drop k c.args.buf.now in
    let same : take k buffer ≡ take k (drop c.self.inside.at c.self.inside.left.bytes) = grind (arith, common_steps, take_rest, c.copy_from_slice.ensures.after, c.bytes.ensures) in
    rw (← c.self.view_is) (reads_state c.self.inside k c.count-number.new.self buffer same (λ zero some. empty_of _ (grind (arith, common_steps, length-drop, c.bytes.ensures, c.self.invariant.piece))))
