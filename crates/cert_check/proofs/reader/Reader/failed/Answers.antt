use Rattle.std.proofs.Common.{◌≡◌, ◌↔◌, Bool, sym, ap, ◌∙◌, subst}
use Rattle.std.specs.Bool.{IsTrue}
use Rattle.std.specs.Option.{is_some}
use Rattle.cert_check.specs.Held.{Reader}
use Rattle.cert_check.specs.Readings.{HasBadLine}
use Rattle.cert_check.proofs.Readings.{failed_exact}
use Rattle.cert_check.proofs.reader.Reader.failed.Goals as goal

pub returns-clause-exact : goal.returns-clause-exact
returns-clause-exact c = λ bytes stands.
    let e : c.is_some.result ≡ is_some c.args.self.now.reading.failed = c.is_some.ensures ∙ ap (λ (r : Reader). is_some r.reading.failed) c.self.view_is in
    subst (λ (b : Bool). IsTrue b ↔ HasBadLine c.args.self.now.reading.wanted c.args.self.now.reading.mill bytes) (sym e) (failed_exact c.args.self.now.reading bytes stands)
