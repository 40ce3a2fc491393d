use Rattle.std.proofs.Common.{◌≡◌, ℕ, ◌-◌, ◌<◌, ◌⊎◌, inl, inr, ◌↔◌, IsTrue, length, List, take, ap, subst, refl, None, false}
use Rattle.std.specs.Vec.{with_item}
use Rattle.slab_desk.specs.Memory.{state_of}
use Rattle.slab_desk.specs.MemFile.{IsTarget, IsNamed, target_name}
use Rattle.slab_desk.specs.Reserve.{Reserve}
use Rattle.slab_desk.specs.State.{DeskState, IsToFail, HasTarget, IsFullFor, AfterWrite, moved}
use Rattle.slab_desk.specs.declared.calls.Act.TheVariants.{Write}
use Rattle.slab_desk.specs.declared.mem_file.MemFile.{MemFile}
use Rattle.slab_desk.proofs.States.{wrote_state, named_at, has_target, not_full, same_read, room_at, listed_in}
use Rattle.slab_desk.proofs.mem_desk.MemDeskDesk.write.Goals as goal
use Rattle.slab_desk.proofs.mem_desk.MemDeskDesk.write.Goals.{then-not-fails+in-Some+in_default-movable, then-not-fails+in_default, else-not-fails}

pub returns-in-Some-movable-clause-ok : goal.returns-in-Some-movable-clause-ok
returns-in-Some-movable-clause-ok c =
    let d = c.self.inside in
    let place = c.in-Some.place in
    let old : MemFile = c.index_mut.result.now in
    let more = take c.in-Some-movable.count c.args.bytes.now in
    let file : MemFile = record { name = old.name; bytes = c.append.new.self } in
    let target : IsTarget d.files.items d.target place = subst (λ (fs : List MemFile). IsTarget fs d.target place) c.deref-then-not-fails.ensures.value c.in-Some.ensures.place in
    let named : IsNamed target.name file = named_at d.files.items target.name place old target.first c.index_mut.ensures.value in
    let same : c.index.result.now ≡ old = same_read d.files.items place c.index.result.now old target.first.within c.index.ensures c.index_mut.ensures.value in
    let has_room : old.bytes.room ≡ d.room = room_at d.files.items d.room place old c.self.invariant.files target.first.within c.index_mut.ensures.value in
    let count : c.in-Some-movable.count ≡ moved (state_of d) (d.room - length old.bytes.bytes) (length c.args.bytes.now) = rw (← has_room, ← same) c.in-Some-movable.ensures.some in
    let wrote : AfterWrite c.args.bytes.now c.in-Some-movable.count (state_of d) (state_of (record d { files = with_item d.files place file; calls = c.count-number.new.self; stopped = false })) = record {
      name = target.name;
      content = old.bytes.bytes;
      had = has_target d place old target c.index_mut.ensures.value;
      count = count;
      state = wrote_state d (with_item d.files place file) target.name place file old.bytes.bytes more c.count-number.new.self refl target.first named (ap (λ (r : Reserve). r.bytes) c.append.ensures) c.count-number.ensures.counted;
    } in
    rw (← c.self.view_is) wrote

pub returns-in-Some-movable-clause-writes : goal.returns-in-Some-movable-clause-writes
returns-in-Some-movable-clause-writes c =
    let ok = returns-in-Some-movable-clause-ok c in
    (ok.name, ok.had.target, (ok.content, ok.had.file, ap (λ (s : DeskState). s.told) ok.state))

pub returns-in-Some-movable-clause-exact : goal.returns-in-Some-movable-clause-exact
returns-in-Some-movable-clause-exact c =
    let d = c.self.inside in
    let old : MemFile = c.index.result.now in
    let target : IsTarget d.files.items d.target c.in-Some.place = subst (λ (fs : List MemFile). IsTarget fs d.target c.in-Some.place) c.deref-then-not-fails.ensures.value c.in-Some.ensures.place in
    let has : HasTarget target.name old.bytes.bytes (state_of d) = has_target d c.in-Some.place old target c.index.ensures in
    let has_room : old.bytes.room ≡ d.room = room_at d.files.items d.room c.in-Some.place old c.self.invariant.files target.first.within c.index.ensures in
    let free : 0 < length c.args.bytes.now → length old.bytes.bytes < d.room = rw (← has_room) c.in-Some-movable.ensures.free in
    let table : IsTrue c.fails.result ↔ IsToFail Write (state_of d) = listed_in Write d.failing.items c.deref.result.now _ c.count-number.result c.fails.result c.deref.ensures.value c.count-number.ensures.number c.fails.ensures in
    let not_listed : IsToFail Write (state_of d) → ⊥ = λ listed. cc (table.1 listed, c.if-not-fails.true) in
    rw (← c.self.view_is) (
      λ e. cc,
      λ causes. absurd (elim causes [
        | inl listed ↦ not_listed listed
        | inr (inl none) ↦ (let named = target.is in cc)
        | inr (inr full) ↦ not_full (state_of d) c.args.bytes.now target.name old.bytes.bytes has free full
      ]),
    )

pub returns-clause-exact : goal.returns-clause-exact
returns-clause-exact c =
    let d = c.self.inside in
    let cause : IsToFail Write (state_of d) ⊎ (((state_of d).told.target ≡ None) ⊎ ((name content : List ℕ) × HasTarget name content (state_of d) × IsFullFor c.args.bytes.now content (state_of d))) = elim c.if-not-fails.branch [
      | then-not-fails+in-Some+in_default-movable w ↦
          let target : IsTarget d.files.items d.target w.in-Some.place = subst (λ (fs : List MemFile). IsTarget fs d.target w.in-Some.place) w.deref-then-not-fails.ensures.value w.in-Some.ensures.place in
          let has_room : w.index.result.now.bytes.room ≡ d.room = room_at d.files.items d.room w.in-Some.place w.index.result.now c.self.invariant.files target.first.within w.index.ensures in
          let full : IsFullFor c.args.bytes.now w.index.result.now.bytes.bytes (state_of d) = rw (← has_room) w.in_default-movable.ensures.full in
          inr (inr (target.name, w.index.result.now.bytes.bytes, has_target d w.in-Some.place w.index.result.now target w.index.ensures, full))
      | then-not-fails+in_default w ↦ inr (inl (subst (λ (fs : List MemFile). target_name fs d.target ≡ None) w.deref-then-not-fails.ensures.value w.in_default.ensures.none))
      | else-not-fails w ↦
          let table : IsTrue c.fails.result ↔ IsToFail Write (state_of d) = listed_in Write d.failing.items c.deref.result.now _ c.count-number.result c.fails.result c.deref.ensures.value c.count-number.ensures.number c.fails.ensures in
          inl (table.0 w.if-not-fails.false)
    ] in
    rw (← c.self.view_is) (λ e. cause, λ _. refl)
