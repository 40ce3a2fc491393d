use Rattle.std.specs.List.{AllWithin}
use Rattle.slab_desk.specs.MemFile.{IsNamed}
use Rattle.slab_desk.proofs.mem_file.position.Given as goal

abbrev pub invariant-loop-i : goal.invariant-loop-i
invariant-loop-i l = AllWithin (λ file. ¬ IsNamed l.name file) l.files 0 l.i
