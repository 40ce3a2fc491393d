use Rattle.std.proofs.Common.{List, ℕ, Option, subst}
use Rattle.slab_desk.specs.Desk.{Told, Steps, AppendsAll, WithPrefix}
use Rattle.cert_text.specs.Certificates.{Certificate}
use Rattle.cert_text.specs.Texts.{certificate_text}
use Rattle.slab_front.specs.Searched.{certificate_of}
use Rattle.slab_front.proofs.Stores.{on_ok, on_err, file_stored, file_begun}
use Rattle.slab_front.proofs.giving.store.Goals as goal

pub returns-clause-stores : goal.returns-clause-stores
returns-clause-stores g c =
    let text : List ℕ = certificate_text (certificate_of c.args.search.now) in
    let old : Option Told = g.D.Desk.told c.args.desk.now in
    let made : Option Told = g.D.Desk.told c.create_file.new.self in
    let new : Option Told = g.D.Desk.told c.write_cert.new.desk in
    on_ok c.write_cert.result (λ q. file_stored c.args.name.now text old made new c.in_ok-create_file.ensures.creates
    (subst (λ (x : Certificate). Steps made new (AppendsAll (certificate_text x))) c.stored.ensures q)) c.write_cert.ensures.all

pub returns-clause-begins : goal.returns-clause-begins
returns-clause-begins g c =
    let text : List ℕ = certificate_text (certificate_of c.args.search.now) in
    let old : Option Told = g.D.Desk.told c.args.desk.now in
    let made : Option Told = g.D.Desk.told c.create_file.new.self in
    let new : Option Told = g.D.Desk.told c.write_cert.new.desk in
    on_err c.write_cert.result (λ q. file_begun c.args.name.now text old made new c.in_ok-create_file.ensures.creates
    (subst (λ (x : Certificate). Steps made new (WithPrefix AppendsAll (certificate_text x))) c.stored.ensures q)) c.write_cert.ensures.prefix
