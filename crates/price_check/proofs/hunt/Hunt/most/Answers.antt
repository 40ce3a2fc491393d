use Rattle.std.proofs.Common.{arith}
use Rattle.pricing_laws.proofs.Steps.{end_read, entry_read, entry_read_small}
use Rattle.price_check.specs.Hunts.{hunt_of}
use Rattle.price_check.proofs.hunt.Hunt.most.Goals as goal

pub returns-then-left-eq0-clause-most : goal.returns-then-left-eq0-clause-most
returns-then-left-eq0-clause-most c = end_read (hunt_of c.args.self.now) c.args.left c.args.load c.index.result.now (omega (arith, c.if-left-eq0.true)) c.requires.load c.index.ensures

pub returns-clause-most : goal.returns-clause-most
returns-clause-most c = entry_read (hunt_of c.args.self.now) c.args.left c.args.load c.index-2.result.now c.requires.left c.requires.load c.index-2.ensures

pub returns-clause-small : goal.returns-clause-small
returns-clause-small c = entry_read_small (hunt_of c.args.self.now) c.args.left c.args.load c.index-2.result.now c.requires.left c.requires.load c.index-2.ensures
