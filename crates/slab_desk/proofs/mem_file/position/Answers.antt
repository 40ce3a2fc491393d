use Rattle.std.proofs.Common.{arith, rules}
use Rattle.std.proofs.lemmas.List.Elements.{at_read}
use Rattle.slab_desk.specs.MemFile.{IsNamed, IsFirst}
use Rattle.slab_desk.proofs.ByName.{found_at, none_found}
use Rattle.slab_desk.proofs.mem_file.position.Goals as goal

pub returns-then-eq-clause-found : goal.returns-then-eq-clause-found
returns-then-eq-clause-found c d =
    let named : IsNamed c.args.name.now c.index-files-i.result = search rules in
    let first : IsFirst c.args.files.now c.args.name.now c.loop-i.i = record {
      within = c.loop-i-test.true;
      named = at_read c.args.files.now (IsNamed c.args.name.now) c.loop-i.i c.index-files-i.result c.loop-i-test.true c.index-files-i.is named;
      before = c.loop-i.invariant;
    } in
    found_at c.args.files.now c.args.name.now c.loop-i.i d first

pub returns-clause-none : goal.returns-clause-none
returns-clause-none c = none_found c.args.files.now c.args.name.now (λ k d low high. c.loop-i.invariant k d low (omega arith))
