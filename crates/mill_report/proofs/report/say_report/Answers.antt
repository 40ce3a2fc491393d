use Rattle.std.proofs.Common.{ℕ, false, List, ◌∙◌, subst}
use Rattle.slab_desk.specs.Desk.{Says}
use Rattle.line_out.specs.Ends.{says_nothing}
use Rattle.line_out.specs.Puts.{Waiting, Puts}
use Rattle.line_out.specs.Seen.{Seen, IsSent}
use Rattle.line_out.proofs.Putting.{empty}
use Rattle.line_out.proofs.Loops.{whole_is_sent}
use Rattle.mill_report.specs.Reports.{report_text}
use Rattle.mill_report.proofs.Sent.{stopped_after_report}
use Rattle.mill_report.proofs.report.say_report.Goals as goal

pub returns : goal.returns
returns g c =
    let seen : g.row.D.Denot → Seen = λ desk. record { told = g.D.Desk.told desk; faults = g.D.Desk.faults desk; stopped = g.D.Desk.stopped desk; named = g.D.Desk.named desk } in
    let text : List ℕ = report_text c.args.head.now c.args.opened c.args.bare c.args.word in
    let first = seen c.args.desk.now in
    let second = seen c.put_report.new.desk in
    let last = seen c.finish.new.desk in
    let puts : Puts Says text (empty false, first) (c.put_report.new.out, second) =
    subst (λ (buffer : Waiting). Puts Says text (buffer, first) (c.put_report.new.out, second)) c.new-out.ensures c.put_report.ensures in
    let sent : IsSent Says text first last c.finish.result =
    whole_is_sent text c.put_report.new.out first second last c.finish.result says_nothing puts c.finish.ensures in
    record {
      all = sent.all;
      prefix = sent.prefix;
      cause = sent.cause;
      stopped = sent.stopped ∙ stopped_after_report first.stopped c.args.head.now c.args.opened c.args.bare c.args.word c.finish.result;
      named = sent.named;
    }
