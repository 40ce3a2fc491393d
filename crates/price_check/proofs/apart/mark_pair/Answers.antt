use Rattle.std.proofs.Common.{◌≡◌, ◌+◌, ◌*◌, ◌<◌, true, length, get_or, set, sym, ap, ◌∙◌, arith, length-set}
use Rattle.mill_model.specs.Columns.{has}
use Rattle.pricing_laws.specs.Groups.{head_of}
use Rattle.price_check.proofs.Apartness.{mark_within, apart_more, heads_apart}
use Rattle.price_check.proofs.apart.mark_pair.Goals as goal

pub bounds-apart-second : goal.bounds-apart-second
bounds-apart-second c =
    let first : c.from-first.result < length c.args.heads.now = omega (arith, c.from-first.ensures, c.requires.before c.from-i.result (omega (arith, c.if-i-orders.false)), c.if-i-orders.false) in
    let second : c.from-second.result < length c.args.heads.now = omega (arith, c.from-second.ensures, c.requires.before c.from-j.result (omega (arith, c.if-j-orders.false)), c.if-j-orders.false) in
    omega (arith, mark_within (length c.args.heads.now) c.from-second.result c.from-first.result second first, c.requires.size, length-set c.args.apart.now (c.from-first.result * length c.args.heads.now + c.from-second.result) true)

pub returns-clause-apart : goal.returns-clause-apart
returns-clause-apart c decisions are never before =
    let i : c.args.i < length c.args.heads.now = omega (arith, c.if-i-orders.false, c.from-i.ensures) in
    let j : c.args.j < length c.args.heads.now = omega (arith, c.if-j-orders.false, c.from-j.ensures) in
    let first_is : c.from-first.result ≡ head_of c.args.heads.now c.args.i = c.from-first.ensures ∙ ap (λ k. get_or c.args.heads.now k 0) c.from-i.ensures in
    let second_is : c.from-second.result ≡ head_of c.args.heads.now c.args.j = c.from-second.ensures ∙ ap (λ k. get_or c.args.heads.now k 0) c.from-j.ensures in
    let first : c.from-first.result < length c.args.heads.now = omega (arith, first_is, c.requires.before c.args.i i, i) in
    let second : c.from-second.result < length c.args.heads.now = omega (arith, second_is, c.requires.before c.args.j j, j) in
    let apart = heads_apart decisions c.args.heads.now c.args.i c.args.j are i j never in
    apart_more decisions (length c.args.heads.now) c.from-second.result c.from-first.result (set c.args.apart.now (c.from-first.result * length c.args.heads.now + c.from-second.result) true) second first
    (λ column agree v u. apart column agree (ap (λ k. has column.orders k) (sym first_is) ∙ u) (ap (λ k. has column.orders k) (sym second_is) ∙ v))
    (apart_more decisions (length c.args.heads.now) c.from-first.result c.from-second.result c.args.apart.now first second
    (λ column agree u v. apart column agree (ap (λ k. has column.orders k) (sym first_is) ∙ u) (ap (λ k. has column.orders k) (sym second_is) ∙ v)) before)
