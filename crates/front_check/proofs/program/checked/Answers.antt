use Rattle.std.proofs.Common.{List, ℕ, [], ◌∷◌, ◌++◌, ap, string_bytes}
use Rattle.cert_check.specs.Verdicts.{said_of}
use Rattle.run_words.specs.Files.{HasMill}
use Rattle.run_words.proofs.Telling.{told_before, told_both}
use Rattle.front_check.specs.Words.{CheckWords}
use Rattle.front_check.specs.Jobs.{named_check}
use Rattle.front_check.specs.Owed.{OwesOfCheck}
use Rattle.front_check.specs.Endings.{HasVerdict}
use Rattle.front_check.proofs.Owing.{owes_check}
use Rattle.run_words.proofs.Opening.{opened_then, opens_one_more}
use Rattle.front_check.proofs.Ends.{rest_read}
use Rattle.front_check.proofs.program.checked.Goals as goal

pub returns-clause-ending : goal.returns-clause-ending
returns-clause-ending g c =
    let words : CheckWords = named_check c.args.orders c.args.cert c.args.yard c.args.colours in
    let mill = c.in_ok-mill.mill in
    let v = said_of c.in_ok-verdict.verdict in
    let status : ℕ = c.in_ok-said.field-0.status in
    let text : List ℕ = string_bytes c.in_ok-said.field-0.text in
    told_both (HasMill words.mill mill) (HasVerdict mill words.cert v) (λ files. OwesOfCheck words files status text)
    (g.D.Desk.told c.args.desk.now)
    (λ files has read. owes_check words mill v files status text has read c.in_ok-said.ensures.status c.in_ok-said.ensures.text)
    c.in_ok-mill.ensures.mill
    (told_before (HasVerdict mill words.cert v) (g.D.Desk.told c.args.desk.now) (g.D.Desk.told c.read_mill.new.desk) c.in_ok-mill.ensures.reads.left c.in_ok-verdict.ensures.verdict)

pub returns-clause-rest : goal.returns-clause-rest
returns-clause-rest g c =
    let words : CheckWords = named_check c.args.orders c.args.cert c.args.yard c.args.colours in
    rest_read words c.in_ok-mill.mill c.in_ok-said.field-0.status (g.D.Desk.told c.args.desk.now) (g.D.Desk.told c.read_mill.new.desk) _
    c.in_ok-mill.ensures.mill c.in_ok-mill.ensures.reads.left c.in_ok-verdict.ensures.soon

pub returns-clause-named : goal.returns-clause-named
returns-clause-named g c =
    let words : CheckWords = named_check c.args.orders c.args.cert c.args.yard c.args.colours in
    opened_then c.args.cert.now _ _ _ c.in_ok-mill.ensures.named c.in_ok-verdict.ensures.named (λ opened is. record {
      order = opens_one_more words.mill c.args.cert.now c.in_ok-mill.mill (g.D.Desk.told c.args.desk.now) opened c.in_ok-mill.ensures.mill is;
      all = ap (λ (names : List (List ℕ)). names ++ c.args.cert.now ∷ []) is;
    })
