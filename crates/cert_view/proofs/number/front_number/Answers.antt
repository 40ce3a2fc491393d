use Rattle.std.proofs.Common.{Some, sym, ap, ◌∙◌}
use Rattle.cert_view.proofs.Fronts.{front-unread, front-word, read_number-no, read_number-yes}
use Rattle.cert_view.proofs.number.front_number.Goals as goal

pub returns-then-not-is_spaced-clause-number : goal.returns-then-not-is_spaced-clause-number
returns-then-not-is_spaced-clause-number c =
    front-unread c.args.bytes.now c.split_at.result.1.now c.front_value-value.result.1 c.is_spaced.result c.front_value-value.ensures.end c.split_at.ensures.back c.is_spaced.ensures c.if-not-is_spaced.true

pub returns-then-not-is_well_begun-clause-number : goal.returns-then-not-is_well_begun-clause-number
returns-then-not-is_well_begun-clause-number c =
    let parts = front-word c.args.bytes.now c.split_at.result.0.now c.split_at.result.1.now c.front_value-value.result.1 c.is_spaced.result c.front_value-value.ensures.end c.split_at.ensures.front c.split_at.ensures.back c.is_spaced.ensures c.if-not-is_spaced.false in
    rw (parts.0) (read_number-no c.split_at.result.0.now (sym c.is_well_begun.ensures ∙ c.if-not-is_well_begun.true))

pub returns-clause-number : goal.returns-clause-number
returns-clause-number c =
    let parts = front-word c.args.bytes.now c.split_at.result.0.now c.split_at.result.1.now c.front_value-value.result.1 c.is_spaced.result c.front_value-value.ensures.end c.split_at.ensures.front c.split_at.ensures.back c.is_spaced.ensures c.if-not-is_spaced.false in
    rw (parts.0) (ap Some c.number_of.ensures ∙ read_number-yes c.split_at.result.0.now (sym c.is_well_begun.ensures ∙ c.if-not-is_well_begun.false))

pub returns-clause-after : goal.returns-clause-after
returns-clause-after c =
    let parts = front-word c.args.bytes.now c.split_at.result.0.now c.split_at.result.1.now c.front_value-value.result.1 c.is_spaced.result c.front_value-value.ensures.end c.split_at.ensures.front c.split_at.ensures.back c.is_spaced.ensures c.if-not-is_spaced.false in
    sym parts.1
