use Rattle.std.proofs.Common.{◌≡◌, ℕ, List, [], ◌++◌, ◌∷◌, length, ap, sym, ◌∙◌, subst, refl, Option, None, arith}
use Rattle.std.proofs.lemmas.Grind.{common_steps}
use Rattle.std.specs.FinMap.{get}
use Rattle.std.specs.Option.{IfSome}
use Rattle.std.specs.Vec.{with_item}
use Rattle.slab_desk.specs.MemFile.{IsFirst, IsSpare, IsNamed, files_of}
use Rattle.slab_desk.specs.Reserve.{Reserve}
use Rattle.slab_desk.specs.Memory.{state_of}
use Rattle.slab_desk.specs.State.{DeskState, after_create, asked_to_create}
use Rattle.slab_desk.specs.declared.mem_desk.MemDesk.TheInside.{Inside}
use Rattle.slab_desk.specs.declared.noted.Noted.{Noted}
use Rattle.slab_desk.specs.declared.mem_file.MemFile.{MemFile}
use Rattle.slab_desk.proofs.States.{noted_created, emptied_state, made_state, named_at}
use Rattle.slab_desk.proofs.mem_desk.MemDeskDesk.create_file.Goals as goal

-- the name was noted before
asked_first : {new : DeskState} (d : Inside) (created : Noted) (name : List ℕ) (old : DeskState) → created.names ≡ d.created.names ++ name ∷ [] → state_of d ≡ old
    → new ≡ after_create name (state_of (record d { created = created })) → new ≡ after_create name (asked_to_create name old)
asked_first d created name old noted view made = made ∙ ap (after_create name) (noted_created d created name noted ∙ ap (asked_to_create name) view)

pub returns-in-Some-clause-ok : goal.returns-in-Some-clause-ok
returns-in-Some-clause-ok c =
    let files = c.self.inside.files.items in
    let first : IsFirst files c.args.name.now c.in-Some.place = subst (λ (fs : List MemFile). IsFirst fs c.args.name.now c.in-Some.place) c.deref-then-not-fails.ensures.value c.in-Some.ensures.place in
    let file : MemFile = record { name = c.index_mut.result.now.name; bytes = c.clear.new.self } in
    let named : IsNamed c.args.name.now file = named_at files c.args.name.now c.in-Some.place c.index_mut.result.now first c.index_mut.ensures.value in
    asked_first c.self.inside c.and-self-inside.result c.args.name.now c.args.self.now c.and-self-inside.ensures c.self.view_is (emptied_state (record c.self.inside { created = c.and-self-inside.result }) (with_item c.self.inside.files c.in-Some.place file) c.args.name.now c.in-Some.place file c.count-number.new.self refl first named (ap (λ (r : Reserve). r.bytes) c.clear.ensures) c.count-number.ensures.counted)

pub returns-in-Some-clause-creates : goal.returns-in-Some-clause-creates
returns-in-Some-clause-creates c = ap (λ (s : DeskState). s.told) (returns-in-Some-clause-ok c)

pub returns-in-Some-take-clause-ok : goal.returns-in-Some-take-clause-ok
returns-in-Some-take-clause-ok c =
    let files = c.self.inside.files.items in
    let none : get (files_of files) c.args.name.now ≡ None = subst (λ (fs : List MemFile). get (files_of fs) c.args.name.now ≡ None) c.deref-then-not-fails.ensures.value c.in_default.ensures.none in
    let spare : IsSpare c.self.inside.room c.in-Some-take.file = subst (λ (o : Option MemFile). IfSome o (IsSpare c.self.inside.room)) (sym c.in-Some-take.ensures.value) c.self.invariant.spare in
    let len : c.len.result ≡ length files = grind (arith, common_steps, c.len.ensures) in
    let file : MemFile = record { name = c.push_str.new.self; bytes = c.in-Some-take.file.bytes } in
    let pushed : c.push.new.self.items ≡ files ++ file ∷ [] = rw c.unwrap-in-Some-take.ensures at c.push.ensures.items in
    let named : IsNamed c.args.name.now file = (rw c.unwrap.ensures at c.push_str.ensures.bytes) ∙ ap (λ (b : List ℕ). b ++ c.args.name.now) spare.name in
    asked_first c.self.inside c.and-self-inside.result c.args.name.now c.args.self.now c.and-self-inside.ensures c.self.view_is (rw len (made_state (record c.self.inside { created = c.and-self-inside.result }) c.push.new.self c.take.new.self c.args.name.now file c.count-number.new.self pushed c.in-Some-take.ensures.after none named (ap (λ (r : Reserve). r.bytes) spare.bytes) c.count-number.ensures.counted))

pub returns-in-Some-take-clause-creates : goal.returns-in-Some-take-clause-creates
returns-in-Some-take-clause-creates c = ap (λ (s : DeskState). s.told) (returns-in-Some-take-clause-ok c)
