use Rattle.std.proofs.Common.{ℕ, ◌<◌, length, sym, Option, None, Some, arith}
use Rattle.std.specs.Option.{IfNone}
use Rattle.std.proofs.lemmas.Bool.Decides.{nat_tests}
use Rattle.std.proofs.lemmas.List.Elements.{at_read}
use Rattle.slab_desk.specs.MemFile.{IsNamed}
use Rattle.slab_desk.proofs.ByName.{is_there}
use Rattle.slab_desk.proofs.mem_file.target_place.Goals as goal

none_weaker : (o : Option ℕ) (P Q : Type 0) → (P → Q) → IfNone o P → IfNone o Q
none_weaker None P Q f p = f p
none_weaker (Some x) P Q f p = tt

-- the file at the target's place has its own name, so some file has
pub returns-clause-none : goal.returns-clause-none
returns-clause-none c =
    let files = c.args.files.now in
    let place = c.in_ok-target.field-0 in
    let name = c.as_str.result.now in
    let within : place < length files = grind (arith, nat_tests, c.in_ok-file.ensures.lookup.0) in
    let named = at_read files (IsNamed name) place c.in_ok-file.file.now within c.in_ok-file.ensures.lookup.1 (sym c.as_str.ensures.value) in
    none_weaker c.position.result _ _ (λ none. absurd (is_there files name place within named none)) c.position.ensures.none
