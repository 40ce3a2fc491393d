use Rattle.std.proofs.Common.{◌≡◌, ◌<◌, List, Bool, ◌++◌, take, drop, length, ap, sym, subst, ◌∙◌, arith}
use Rattle.cert_slabs.specs.Drafts.{Draft, AreNext, ArePut, IsNextFree, IsOpenDraft}
use Rattle.cert_slabs.proofs.Rising.{whole_write}
use Rattle.cert_slabs.proofs.PlanLines.{head_is_next, open_more}
use Rattle.cert_slabs.proofs.draft.Draft.put.Goals as goal

pub push_reserved-requires : goal.push_reserved-requires
push_reserved-requires c =
    let e : c.self.inside.placed.items ≡ c.args.self.now.placed = ap (λ (d : Draft). d.placed) c.self.view_is in
    let next : AreNext c.self.inside.placed.items c.args.orders.now = subst (λ (ps : List Bool). AreNext ps c.args.orders.now) (sym e) c.requires in
    omega (arith, (head_is_next c.self.inside.kinds.items c.self.inside.placed.items c.self.inside.next _ c.args.orders.now c.self.invariant next).1, c.self.invariant.few, c.self.invariant.slabs, c.self.invariant.room_fits, c.self.inside.kinds.ok)

pub invariant_of-self : goal.invariant_of-self
invariant_of-self c =
    let e : c.self.inside.placed.items ≡ c.args.self.now.placed = ap (λ (d : Draft). d.placed) c.self.view_is in
    let next : AreNext c.self.inside.placed.items c.args.orders.now = subst (λ (ps : List Bool). AreNext ps c.args.orders.now) (sym e) c.requires in
    let put : ArePut c.self.inside.placed.items c.mark.new.placed c.args.orders.now = subst (λ (ps : List Bool). ArePut ps c.mark.new.placed c.args.orders.now) c.deref_mut.ensures.value c.mark.ensures in
    let whole : take c.self.inside.placed.len (c.mark.new.placed ++ drop (length c.mark.new.placed) c.self.inside.placed.items) ≡ c.mark.new.placed = whole_write c.self.inside.placed.len c.mark.new.placed c.self.inside.placed.items (omega (arith, put.length_stays, c.self.inside.placed.ok)) in
    let free : IsNextFree c.mark.new.placed c.self.inside.next c.next_free-self-inside.result = subst (λ (ps : List Bool). IsNextFree ps c.self.inside.next c.next_free-self-inside.result) (c.deref.ensures.value ∙ whole) c.next_free-self-inside.ensures in
    let opened = open_more c.self.inside.kinds.items c.push_reserved.new.self.items c.args.kind c.self.inside.placed.items c.mark.new.placed c.self.inside.next c.next_free-self-inside.result _ c.args.orders.now c.self.invariant next c.push_reserved.ensures.items put free in
    rw (whole, c.push_reserved.ensures.capacity) opened
