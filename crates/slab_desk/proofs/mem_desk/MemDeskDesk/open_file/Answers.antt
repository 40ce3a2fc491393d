use Rattle.std.proofs.Common.{◌≡◌, List, ℕ, ◌++◌, Some, ap, sym, ◌∙◌}
use Rattle.std.specs.FinMap.{get}
use Rattle.slab_desk.specs.MemFile.{files_of}
use Rattle.slab_desk.specs.Reserve.{Reserve}
use Rattle.slab_desk.specs.Memory.{state_of}
use Rattle.slab_desk.specs.State.{DeskState, after_answer, asked_to_open}
use Rattle.slab_desk.specs.declared.mem_desk.MemDesk.TheInside.{Inside}
use Rattle.slab_desk.specs.declared.calls.Act.TheVariants.{OpenFile}
use Rattle.slab_desk.proofs.States.{opened_state, noted_opened}
use Rattle.slab_desk.proofs.mem_desk.MemDeskDesk.open_file.Goals as goal

pub returns-in-Some-clause-ok : goal.returns-in-Some-clause-ok
returns-in-Some-clause-ok c =
    let bytes : List ℕ = c.bytes.result.now in
    let there : get (files_of c.self.inside.files.items) c.args.name.now ≡ Some bytes = cc (c.in-Some.ensures.found c.index.result.now, c.deref-then-not-fails.ensures.value, c.index.ensures, c.bytes.ensures) in
    let left : c.append.new.self.bytes ≡ bytes = ap (λ (r : Reserve). r.bytes) c.append.ensures ∙ ap (λ (r : Reserve). r.bytes ++ bytes) c.clear.ensures in
    let asked : Inside = record c.self.inside { opened = c.and-self-inside.result } in
    let was : state_of asked ≡ asked_to_open c.args.name.now (state_of c.self.inside) = noted_opened c.self.inside c.and-self-inside.result c.args.name.now c.and-self-inside.ensures in
    record {
      bytes = bytes;
      file = ap (λ (s : DeskState). get s.told.files c.args.name.now) (sym c.self.view_is) ∙ there;
      state = opened_state asked c.append.new.self c.count-number.new.self bytes left c.count-number.ensures.counted
          ∙ ap (λ (s : DeskState). after_answer OpenFile (record s.told { left = bytes }) s) (was ∙ ap (asked_to_open c.args.name.now) c.self.view_is);
    }

pub returns-in-Some-clause-opens : goal.returns-in-Some-clause-opens
returns-in-Some-clause-opens c =
    let ok = returns-in-Some-clause-ok c in (ok.bytes, ok.file, ap (λ (s : DeskState). s.told) ok.state)
