use Rattle.std.proofs.Common.{rules, ◌≡◌, ◌≤◌, w64, to_z, of_z, false, List, drop, length, refl, ap, ap₂, sym, subst, ◌∙◌, arith}
use Rattle.std.proofs.Math.Facts.{to_z-of_z}
use Rattle.std.proofs.lemmas.Bool.{false≢true, true≢false}
use Rattle.mill_model.specs.declared.kind.Kind.TheVariants.{Old}
use Rattle.mill_model.specs.Columns.{Column}
use Rattle.mill_model.specs.Judging.{is_among}
use Rattle.cert_rules.specs.Numbers.{Names, index, number_at}
use Rattle.cert_rules.specs.Rules.{AllKept, FirstBroken}
use Rattle.cert_rules.specs.Slabs.{ArePlaceable, kinds_of, orders_on}
use Rattle.cert_slabs.specs.Answers.{slab_rules}
use Rattle.cert_slabs.specs.Drafts.{Draft}
use Rattle.cert_slabs.proofs.PlanLines.{number_is, surplus_is, old_twice_broken, old_place_broken, old_slab_broken, old_kept, old_more}
use Rattle.cert_slabs.proofs.draft.Draft.old_slab.Goals as goal

pub returns-then-has_surplus-clause-rules : goal.returns-then-has_surplus-clause-rules
returns-then-has_surplus-clause-rules c = λ slabs is.
    let m = c.args.mill.now in
    let numbers = c.args.numbers.now in
    let some : 1 ≤ length numbers = omega (arith, c.requires.count) in
    let e : number_at numbers 0 ≡ to_z w64 (of_z w64 c.get.result) = number_is numbers c.get.result c.get.ensures.value ∙ sym (to_z-of_z {w = w64} {z = c.get.result} (search (rules, c.get.ensures.within))) in
    let yard : Names (length m.yard) (number_at numbers 0) = subst (Names (length m.yard)) (sym e) c.in-Some.ensures.named.0 in
    let i : index (number_at numbers 0) ≡ c.in-Some.slab = ap index e ∙ c.in-Some.ensures.named.1 in
    let kinds : c.deref.result.now ≡ kinds_of slabs = c.deref.ensures.value ∙ ap (λ (d : Draft). d.kinds) c.self.view_is ∙ is.kinds in
    let among : is_among (kinds_of slabs) (Old (index (number_at numbers 0))) ≡ c.has_surplus.result = surplus_is m slabs c.deref.result.now (number_at numbers 0) c.in-Some.slab c.has_surplus.result kinds i c.has_surplus.ensures in
    old_twice_broken m slabs numbers some yard (λ unused. true≢false (sym (among ∙ c.if-has_surplus.true) ∙ unused))

pub returns-then-not-are_placeable-clause-rules : goal.returns-then-not-are_placeable-clause-rules
returns-then-not-are_placeable-clause-rules c = λ slabs is.
    let m = c.args.mill.now in
    let numbers = c.args.numbers.now in
    let some : 1 ≤ length numbers = omega (arith, c.requires.count) in
    let e : number_at numbers 0 ≡ to_z w64 (of_z w64 c.get.result) = number_is numbers c.get.result c.get.ensures.value ∙ sym (to_z-of_z {w = w64} {z = c.get.result} (search (rules, c.get.ensures.within))) in
    let yard : Names (length m.yard) (number_at numbers 0) = subst (Names (length m.yard)) (sym e) c.in-Some.ensures.named.0 in
    let i : index (number_at numbers 0) ≡ c.in-Some.slab = ap index e ∙ c.in-Some.ensures.named.1 in
    let kinds : c.deref.result.now ≡ kinds_of slabs = c.deref.ensures.value ∙ ap (λ (d : Draft). d.kinds) c.self.view_is ∙ is.kinds in
    let among : is_among (kinds_of slabs) (Old (index (number_at numbers 0))) ≡ c.has_surplus.result = surplus_is m slabs c.deref.result.now (number_at numbers 0) c.in-Some.slab c.has_surplus.result kinds i c.has_surplus.ensures in
    old_place_broken m slabs numbers some yard (among ∙ c.if-has_surplus.false) (λ place. false≢true ((c.if-not-are_placeable.ensures.place slabs is).1 place))

pub returns-in-Err-clause-rules : goal.returns-in-Err-clause-rules
returns-in-Err-clause-rules c = λ slabs is.
    let m = c.args.mill.now in
    let numbers = c.args.numbers.now in
    let some : 1 ≤ length numbers = omega (arith, c.requires.count) in
    let e : number_at numbers 0 ≡ to_z w64 (of_z w64 c.get.result) = number_is numbers c.get.result c.get.ensures.value ∙ sym (to_z-of_z {w = w64} {z = c.get.result} (search (rules, c.get.ensures.within))) in
    let yard : Names (length m.yard) (number_at numbers 0) = subst (Names (length m.yard)) (sym e) c.in-Some.ensures.named.0 in
    let i : index (number_at numbers 0) ≡ c.in-Some.slab = ap index e ∙ c.in-Some.ensures.named.1 in
    let kinds : c.deref.result.now ≡ kinds_of slabs = c.deref.ensures.value ∙ ap (λ (d : Draft). d.kinds) c.self.view_is ∙ is.kinds in
    let among : is_among (kinds_of slabs) (Old (index (number_at numbers 0))) ≡ c.has_surplus.result = surplus_is m slabs c.deref.result.now (number_at numbers 0) c.in-Some.slab c.has_surplus.result kinds i c.has_surplus.ensures in
    let place : ArePlaceable m slabs (drop 1 numbers) = (c.if-not-are_placeable.ensures.place slabs is).0 refl in
    let os : c.orders.result.now ≡ orders_on (drop 1 numbers) = c.orders.ensures ∙ c.if-not-are_placeable.ensures.orders in
    let column : Column = record { kind = Old (index (number_at numbers 0)); orders = orders_on (drop 1 numbers) } in
    let read : Column = record { kind = Old c.in-Some.slab; orders = c.orders.result.now } in
    let same : read ≡ column = ap₂ (λ t xs. let x : Column = record { kind = Old t; orders = xs } in x) (sym i) os in
    old_slab_broken m slabs numbers some c.in-Err.why yard (among ∙ c.if-has_surplus.false) place (subst (λ (x : Column). FirstBroken (slab_rules m x) c.in-Err.why) same c.in-Err.ensures.rules)

pub returns-in-Ok-clause-rules : goal.returns-in-Ok-clause-rules
returns-in-Ok-clause-rules c = λ slabs is.
    let m = c.args.mill.now in
    let numbers = c.args.numbers.now in
    let some : 1 ≤ length numbers = omega (arith, c.requires.count) in
    let e : number_at numbers 0 ≡ to_z w64 (of_z w64 c.get.result) = number_is numbers c.get.result c.get.ensures.value ∙ sym (to_z-of_z {w = w64} {z = c.get.result} (search (rules, c.get.ensures.within))) in
    let yard : Names (length m.yard) (number_at numbers 0) = subst (Names (length m.yard)) (sym e) c.in-Some.ensures.named.0 in
    let i : index (number_at numbers 0) ≡ c.in-Some.slab = ap index e ∙ c.in-Some.ensures.named.1 in
    let kinds : c.deref.result.now ≡ kinds_of slabs = c.deref.ensures.value ∙ ap (λ (d : Draft). d.kinds) c.self.view_is ∙ is.kinds in
    let among : is_among (kinds_of slabs) (Old (index (number_at numbers 0))) ≡ c.has_surplus.result = surplus_is m slabs c.deref.result.now (number_at numbers 0) c.in-Some.slab c.has_surplus.result kinds i c.has_surplus.ensures in
    let place : ArePlaceable m slabs (drop 1 numbers) = (c.if-not-are_placeable.ensures.place slabs is).0 refl in
    let os : c.orders.result.now ≡ orders_on (drop 1 numbers) = c.orders.ensures ∙ c.if-not-are_placeable.ensures.orders in
    let column : Column = record { kind = Old (index (number_at numbers 0)); orders = orders_on (drop 1 numbers) } in
    let read : Column = record { kind = Old c.in-Some.slab; orders = c.orders.result.now } in
    let same : read ≡ column = ap₂ (λ t xs. let x : Column = record { kind = Old t; orders = xs } in x) (sym i) os in
    old_kept m slabs numbers some yard (among ∙ c.if-has_surplus.false) place (subst (λ (x : Column). AllKept (slab_rules m x)) same c.in-Ok.ensures.rules)

pub returns-in-Ok-clause-draft : goal.returns-in-Ok-clause-draft
returns-in-Ok-clause-draft c = λ slabs is.
    let m = c.args.mill.now in
    let numbers = c.args.numbers.now in
    let some : 1 ≤ length numbers = omega (arith, c.requires.count) in
    let e : number_at numbers 0 ≡ to_z w64 (of_z w64 c.get.result) = number_is numbers c.get.result c.get.ensures.value ∙ sym (to_z-of_z {w = w64} {z = c.get.result} (search (rules, c.get.ensures.within))) in
    let yard : Names (length m.yard) (number_at numbers 0) = subst (Names (length m.yard)) (sym e) c.in-Some.ensures.named.0 in
    let i : index (number_at numbers 0) ≡ c.in-Some.slab = ap index e ∙ c.in-Some.ensures.named.1 in
    let kinds : c.deref.result.now ≡ kinds_of slabs = c.deref.ensures.value ∙ ap (λ (d : Draft). d.kinds) c.self.view_is ∙ is.kinds in
    let among : is_among (kinds_of slabs) (Old (index (number_at numbers 0))) ≡ c.has_surplus.result = surplus_is m slabs c.deref.result.now (number_at numbers 0) c.in-Some.slab c.has_surplus.result kinds i c.has_surplus.ensures in
    let place : ArePlaceable m slabs (drop 1 numbers) = (c.if-not-are_placeable.ensures.place slabs is).0 refl in
    let os : c.orders-in-Ok.result.now ≡ orders_on (drop 1 numbers) = c.orders-in-Ok.ensures ∙ c.if-not-are_placeable.ensures.orders in
    let column : Column = record { kind = Old (index (number_at numbers 0)); orders = orders_on (drop 1 numbers) } in
    let read : Column = record { kind = Old c.in-Some.slab; orders = c.orders-in-Ok.result.now } in
    let same : read ≡ column = ap₂ (λ t xs. let x : Column = record { kind = Old t; orders = xs } in x) (sym i) os in
    old_more m slabs c.args.self.now c.put.new.self numbers c.in-Some.slab c.orders-in-Ok.result.now some is i os c.put.ensures.kinds c.put.ensures.placed
