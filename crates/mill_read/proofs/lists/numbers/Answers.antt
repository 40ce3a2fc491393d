use Rattle.std.proofs.Common.{◌+◌, ◌-◌, List, sym, ap, ◌∙◌, arith}
use Rattle.std.proofs.lemmas.Result.{err_from_is_err_and}
use Rattle.std.proofs.lemmas.Grind.{common_steps, elements}
use Rattle.mill_read.specs.declared.fault.Why.TheVariants.{Range}
use Rattle.mill_read.specs.Reading.{number_at}
use Rattle.mill_read.specs.Reading.{list_at}
use Rattle.mill_read.proofs.ListLaws.{with_front, list_at_item, list_at_fault, list_at_end}
use Rattle.mill_read.proofs.lists.numbers.Goals as goal

pub returns-in_err-number-clause-given : goal.returns-in_err-number-clause-given
returns-in_err-number-clause-given c =
    let p = err_from_is_err_and c.from_residual-in_err-number.result c.from_residual-in_err-number.ensures.1 in
    rw (p.1, p.2) (sym c.loop.invariant.given ∙ list_at_fault (number_at Range c.args.low c.args.high) (c.args.count - c.loop.counter) (c.args.count - (c.loop.counter + 1)) c.loop.words c.loop.list.items _ (omega arith) c.in_err-number.ensures.given)

pub loop-preserved : goal.loop-preserved
loop-preserved c =
    let item = (number_at Range c.args.low c.args.high) in
    record {
      given =
          ap (λ (l : List _). with_front l (list_at item (c.args.count - (c.loop.counter + 1)) c.number.new.self)) c.push_reserved.ensures.items
          ∙ sym (list_at_item item (c.args.count - c.loop.counter) (c.args.count - (c.loop.counter + 1)) c.loop.words c.number.new.self c.loop.list.items c.in_ok-number.field-0 (omega arith) c.in_ok-number.ensures.given)
          ∙ c.loop.invariant.given;
      range = grind (arith, elements);
      length = grind (arith, common_steps);
      room = grind (arith, common_steps);
      number = grind (arith, common_steps);
    }

pub returns-clause-given : goal.returns-clause-given
returns-clause-given c = sym c.loop.invariant.given ∙ list_at_end (number_at Range c.args.low c.args.high) (c.args.count - c.loop.counter) c.loop.words c.loop.list.items (omega arith)
