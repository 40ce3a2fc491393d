use Rattle.std.specs.Char.{is_ascii_digit}
use Rattle.cert_view.proofs.Fronts.{front-digits, front_len-counted, list_all-prefix}
use Rattle.cert_view.proofs.number.front_value.Goals as goal

pub returns-clause-value : goal.returns-clause-value
returns-clause-value c =
    rw (front-digits c.args.bytes.now c.without_sign-unsigned.result.now c.front_digits-value.result.1 c.without_sign-unsigned.ensures c.front_digits-value.ensures.len) c.front_digits-value.ensures.value

pub returns-clause-digits : goal.returns-clause-digits
returns-clause-digits c =
    rw (front-digits c.args.bytes.now c.without_sign-unsigned.result.now c.front_digits-value.result.1 c.without_sign-unsigned.ensures c.front_digits-value.ensures.len)
    (rw c.front_digits-value.ensures.len (list_all-prefix is_ascii_digit c.without_sign-unsigned.result.now))

pub returns-clause-end : goal.returns-clause-end
returns-clause-end c =
    rw (c.front_digits-value.ensures.len, c.without_sign-unsigned.ensures) (front_len-counted c.args.bytes.now)
