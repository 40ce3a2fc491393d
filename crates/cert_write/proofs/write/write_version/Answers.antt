use Rattle.std.proofs.Common.{false, ◌∙◌, subst}
use Rattle.slab_desk.specs.Desk.{AppendsAll}
use Rattle.cert_text.specs.Certificates.{Certificate}
use Rattle.cert_text.specs.Texts.{certificate_text}
use Rattle.line_out.specs.Ends.{appends_nothing}
use Rattle.line_out.specs.Puts.{Waiting, Puts}
use Rattle.line_out.specs.Seen.{Seen, IsSent}
use Rattle.line_out.proofs.Putting.{empty}
use Rattle.line_out.proofs.Loops.{whole_is_sent}
use Rattle.cert_write.specs.Parts.{certificate_of}
use Rattle.cert_write.proofs.Whole.{stopped_after_certificate}
use Rattle.cert_write.proofs.write.write_version.Goals as goal

pub returns : goal.returns
returns g c =
    let seen : g.row.D.Denot → Seen = λ desk. record { told = g.D.Desk.told desk; faults = g.D.Desk.faults desk; stopped = g.D.Desk.stopped desk; named = g.D.Desk.named desk } in
    let certificate : Certificate = certificate_of c.args.version c.args.what in
    let first = seen c.args.desk.now in
    let second = seen c.put_certificate.new.desk in
    let last = seen c.finish.new.desk in
    let puts : Puts AppendsAll (certificate_text certificate) (empty false, first) (c.put_certificate.new.out, second) =
    subst (λ (buffer : Waiting). Puts AppendsAll (certificate_text certificate) (buffer, first) (c.put_certificate.new.out, second)) c.new-out.ensures c.put_certificate.ensures in
    let sent : IsSent AppendsAll (certificate_text certificate) first last c.finish.result =
    whole_is_sent (certificate_text certificate) c.put_certificate.new.out first second last c.finish.result appends_nothing puts c.finish.ensures in
    record {
      all = sent.all;
      prefix = sent.prefix;
      cause = sent.cause;
      stopped = sent.stopped ∙ stopped_after_certificate first.stopped certificate c.finish.result;
      named = sent.named;
    }
