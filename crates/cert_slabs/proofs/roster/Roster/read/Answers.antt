use Rattle.std.proofs.Common.{drop, length, ap, arith}
use Rattle.std.proofs.lemmas.List.{length-drop}
use Rattle.cert_slabs.proofs.Listing.{too_many}
use Rattle.cert_slabs.proofs.roster.Roster.read.Goals as goal

pub returns-then-len-skip-clause-unnamed : goal.returns-then-len-skip-clause-unnamed
returns-then-len-skip-clause-unnamed c = λ named. too_many (length c.args.mill.now.orders) (drop c.args.skip c.args.numbers.now) (omega (arith, length-drop c.args.skip c.args.numbers.now, ap length c.orders-count.ensures.value, c.if-len-skip.true, c.len.ensures.value)) (record { named = named.0; rise = named.1 })
