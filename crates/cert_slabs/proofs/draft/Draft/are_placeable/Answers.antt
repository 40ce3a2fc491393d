use Rattle.std.proofs.Common.{◌≡◌, List, ℕ, drop, length, sym, subst, ◌∙◌, arith}
use Rattle.std.proofs.lemmas.List.{length-drop}
use Rattle.cert_rules.specs.Slabs.{orders_on}
use Rattle.cert_slabs.specs.Drafts.{AreNext}
use Rattle.cert_slabs.proofs.PlanLines.{placeable_from, next_from}
use Rattle.cert_slabs.proofs.draft.Draft.are_placeable.Goals as goal

pub returns-then-read-clause-place : goal.returns-then-read-clause-place
returns-then-read-clause-place c = λ slabs is.
    let numbers = drop 1 c.args.numbers.now in
    let e : c.orders.result.now ≡ orders_on numbers = c.orders.ensures ∙ c.if-read.ensures.orders in (
      λ t. placeable_from c.args.mill.now slabs c.args.self.now is numbers c.if-read.ensures.named (subst (λ (os : List ℕ). AreNext c.args.self.now.placed os) e (c.are_next.ensures.0 t)),
      λ place. c.are_next.ensures.1 (subst (λ (os : List ℕ). AreNext c.args.self.now.placed os) (sym e) (next_from c.args.mill.now slabs c.args.self.now is numbers (omega (arith, length-drop 1 c.args.numbers.now, c.requires.count)) place).1),
    )
