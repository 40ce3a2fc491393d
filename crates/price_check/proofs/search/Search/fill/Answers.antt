use Rattle.pricing_laws.proofs.Gathering.{gathered_inside}
use Rattle.price_check.specs.Searches.{search_of}
use Rattle.price_check.proofs.search.Search.fill.Goals as goal

pub tabulate-requires : goal.tabulate-requires
tabulate-requires c = record { heads = gathered_inside (search_of c.args.self.now) c.args.colours.now c.gather.new.queue.heads.items c.gather.ensures }
