use Rattle.std.proofs.Common.{◌+◌, ◌-◌, List, sym, ap, ◌∙◌, arith}
use Rattle.std.proofs.lemmas.Result.{err_from_is_err_and}
use Rattle.std.proofs.lemmas.Grind.{common_steps, elements}
use Rattle.mill_read.specs.YardFile.{bar_at}
use Rattle.mill_read.specs.Reading.{list_at}
use Rattle.mill_read.proofs.ListLaws.{with_front, list_at_item, list_at_fault, list_at_end}
use Rattle.mill_read.proofs.yards.bar_list.Goals as goal

pub returns-in_err-bar-clause-given : goal.returns-in_err-bar-clause-given
returns-in_err-bar-clause-given c =
    let p = err_from_is_err_and c.from_residual-in_err-bar.result c.from_residual-in_err-bar.ensures.1 in
    rw (p.1, p.2) (sym c.loop.invariant.given ∙ list_at_fault (bar_at c.args.orders c.args.slabs) (c.args.count - c.loop.counter) (c.args.count - (c.loop.counter + 1)) c.loop.words c.loop.list.items _ (omega arith) c.in_err-bar.ensures.given)

pub loop-preserved : goal.loop-preserved
loop-preserved c =
    let item = (bar_at c.args.orders c.args.slabs) in
    record {
      given =
          ap (λ (l : List _). with_front l (list_at item (c.args.count - (c.loop.counter + 1)) c.bar.new.words)) c.push_reserved.ensures.items
          ∙ sym (list_at_item item (c.args.count - c.loop.counter) (c.args.count - (c.loop.counter + 1)) c.loop.words c.bar.new.words c.loop.list.items c.in_ok-bar.field-0 (omega arith) c.in_ok-bar.ensures.given)
          ∙ c.loop.invariant.given;
      range = grind (arith, elements);
      length = grind (arith, common_steps);
      room = grind (arith, common_steps);
      number = grind (arith, common_steps);
    }

pub returns-clause-given : goal.returns-clause-given
returns-clause-given c = sym c.loop.invariant.given ∙ list_at_end (bar_at c.args.orders c.args.slabs) (c.args.count - c.loop.counter) c.loop.words c.loop.list.items (omega arith)
