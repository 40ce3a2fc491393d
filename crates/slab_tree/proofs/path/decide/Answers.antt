use Rattle.std.proofs.Common.{subst}
use Rattle.mill_model.specs.declared.ask.Ask.{Ask}
use Rattle.mill_model.specs.declared.ask.Ask.TheVariants.{Pair, Put}
use Rattle.slab_node.specs.Turns.{IsUndecided}
use Rattle.slab_tree.proofs.Standing.{no_clash, decided}
use Rattle.slab_tree.proofs.path.decide.Goals as goal

pub unreachable-requires : goal.unreachable-requires
unreachable-requires c =
    no_clash c.args.decisions.now.list (Pair c.in-Pair.i c.in-Pair.j) c.args.yes (subst (λ (a : Ask). IsUndecided c.args.decisions.now.list a) c.in-Pair.is c.requires.undecided) c.in-Err.ensures.clash

pub unreachable-requires-in-Err-put : goal.unreachable-requires-in-Err-put
unreachable-requires-in-Err-put c =
    no_clash c.args.decisions.now.list (Put c.in-Put.o c.in-Put.s) c.args.yes (subst (λ (a : Ask). IsUndecided c.args.decisions.now.list a) c.in-Put.is c.requires.undecided) c.in-Err-put.ensures.clash

pub returns-in-Ok : goal.returns-in-Ok
returns-in-Ok c =
    rw c.in-Pair.is (decided c.args.decisions.now c.pair.new.self (Pair c.in-Pair.i c.in-Pair.j) c.args.yes (subst (λ (a : Ask). IsUndecided c.args.decisions.now.list a) c.in-Pair.is c.requires.undecided) c.in-Ok.ensures.decided)

pub returns-in-Ok-put : goal.returns-in-Ok-put
returns-in-Ok-put c =
    rw c.in-Put.is (decided c.args.decisions.now c.put.new.self (Put c.in-Put.o c.in-Put.s) c.args.yes (subst (λ (a : Ask). IsUndecided c.args.decisions.now.list a) c.in-Put.is c.requires.undecided) c.in-Ok-put.ensures.decided)
