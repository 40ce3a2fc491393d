use Rattle.std.proofs.Common.{ℕ, List, length}
use Rattle.std.specs.String.{string_bytes}
use Rattle.run_words.specs.Words.{MillWords}
use Rattle.run_words.specs.Files.{HasValue, HasMill}
use Rattle.run_words.proofs.Telling.{told_before, told_both}
use Rattle.slab_front.specs.declared.texts.Source.TheVariants.{Plan as PlanSource}
use Rattle.mill_read.specs.PlanFile.{plan_file}
use Rattle.slab_front.specs.Jobs.{mill_named}
use Rattle.slab_front.specs.Outcomes.{saying}
use Rattle.slab_front.specs.Owed.{OwesVerdict, OwesOfPlan, OwesOfMill}
use Rattle.slab_front.proofs.Owing.{owes_mill, owes_value}
use Rattle.slab_front.proofs.judge.judge.Goals as goal

pub returns-clause-ending : goal.returns-clause-ending
returns-clause-ending g c =
    let words : MillWords = mill_named c.args.names in
    let name : List ℕ = c.args.plan.now in
    let mill = c.in_ok-mill.mill in
    let plan = c.in_ok-plan.plan in
    let status : ℕ = c.in_ok-verdict.field-0.status in
    let text : List ℕ = string_bytes c.in_ok-verdict.field-0.text in
    told_both (HasMill words mill) (HasValue (plan_file (length mill.orders)) name plan) (λ files. OwesOfMill (OwesOfPlan files name) files words status (saying text))
    (g.D.Desk.told c.args.desk.now)
    (λ files has read. owes_mill (OwesOfPlan files name) files words mill status (saying text) has
    (owes_value PlanSource (plan_file (length mill.orders)) (OwesVerdict mill) files name plan status (saying text) read c.in_ok-verdict.ensures.owed))
    c.in_ok-mill.ensures.mill
    (told_before (HasValue (plan_file (length mill.orders)) name plan) (g.D.Desk.told c.args.desk.now) (g.D.Desk.told c.read_mill.new.desk) c.in_ok-mill.ensures.reads.left c.in_ok-plan.ensures.plan)
