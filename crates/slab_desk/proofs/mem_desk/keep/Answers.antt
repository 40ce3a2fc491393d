use Rattle.std.proofs.Common.{◌≡◌, ◌≤◌, ◌++◌, ◌∷◌, ℕ, List, [], length, ap, sym, ◌∙◌, subst, append_assoc, String, Vec, Global, arith}
use Rattle.std.proofs.lemmas.Grind.{common_steps}
use Rattle.std.proofs.lemmas.List.{map-append}
use Rattle.std.proofs.lemmas.List.Elements.{All-head, All-push, All-rest}
use Rattle.std.specs.List.{All}
use Rattle.std.specs.String.{string_bytes}
use Rattle.std.specs.Vec.Iter.{into_iter_items}
use Rattle.slab_desk.specs.MemFile.{entry, entries, HasRoom}
use Rattle.slab_desk.specs.Reserve.{Reserve}
use Rattle.slab_desk.specs.Start.{Listed, listed}
use Rattle.slab_desk.specs.declared.mem_file.MemFile.{MemFile}
use Rattle.slab_desk.proofs.mem_desk.keep.Goals as goal

abbrev Fits : ℕ → String Global × Vec ℕ Global → Type 0
Fits room file = length file.1.items ≤ room

moved_over : (kept : List MemFile) (file : MemFile) (rest : Listed) → entries (kept ++ file ∷ []) ++ listed rest ≡ entries kept ++ entry file ∷ listed rest
moved_over kept file rest =
    ap (λ (front : List (List ℕ × List ℕ)). front ++ listed rest) (map-append entry kept (file ∷ [])) ∙ append_assoc (entries kept) (entry file ∷ []) (listed rest)

pub loop-name-preserved : goal.loop-name-preserved
loop-name-preserved c =
    let kept = c.loop-name.kept.items in
    let rest : Listed = into_iter_items c.next.new.self in
    let given : String Global × Vec ℕ Global = (c.in-Some.name, c.in-Some.content) in
    let file : MemFile = record { name = c.in-Some.name; bytes = c.append.new.self } in
    let step : into_iter_items c.loop-name.name-iterator ≡ given ∷ rest = c.in-Some.ensures.steps.0 in
    let pushed : c.push.new.self.items ≡ kept ++ file ∷ [] = c.in_ok-push.ensures.items in
    let bytes : c.append.new.self.bytes ≡ c.in-Some.content.items = ap (λ (r : Reserve). r.bytes) c.append.ensures ∙ ap (λ (r : Reserve). r.bytes ++ c.as_slice.result.now) c.in_ok-bytes.ensures ∙ c.as_slice.ensures.value in
    let is : entry file ≡ (string_bytes c.in-Some.name, c.in-Some.content.items) = ap (λ (b : List ℕ). (string_bytes c.in-Some.name, b)) bytes in
    let fits : length c.in-Some.content.items ≤ c.args.room = All-head (Fits c.args.room) given rest (subst (λ (fs : Listed). All (Fits c.args.room) fs) step c.loop-name.invariant.rest) in
    let room : HasRoom c.args.room file = record {
      room = ap (λ (r : Reserve). r.room) c.append.ensures ∙ ap (λ (r : Reserve). r.room) c.in_ok-bytes.ensures;
      fits = omega (arith, ap length bytes, fits);
    } in
    record {
      kept = ap (λ (fs : List MemFile). entries fs ++ listed rest) pushed
          ∙ moved_over kept file rest
          ∙ ap (λ (e : List ℕ × List ℕ). entries kept ++ e ∷ listed rest) is
          ∙ ap (λ (fs : Listed). entries kept ++ listed fs) (sym step)
          ∙ c.loop-name.invariant.kept;
      room = subst (λ (fs : List MemFile). All (HasRoom c.args.room) fs) (sym pushed) (All-push (HasRoom c.args.room) kept file c.loop-name.invariant.room room);
      rest = All-rest (Fits c.args.room) given rest (into_iter_items c.loop-name.name-iterator) step c.loop-name.invariant.rest;
      place = grind (arith, common_steps, c.in-Some.ensures.steps.1);
    }
