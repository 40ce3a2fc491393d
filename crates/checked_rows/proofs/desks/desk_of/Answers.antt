use Rattle.std.proofs.Common.{ℕ, String, Vec, Global, arith}
use Rattle.std.specs.String.{string_bytes}
use Rattle.checked_rows.proofs.ThreeFiles.{three_names, files_fit}
use Rattle.checked_rows.proofs.desks.desk_of.Goals as goal

pub new-requires-clause-distinct : goal.new-requires-clause-distinct
new-requires-clause-distinct c = three_names _ c.in_ok-files.ensures.names

pub new-requires-clause-fits : goal.new-requires-clause-fits
new-requires-clause-fits c =
    files_fit (λ (file : String Global × Vec ℕ Global). (string_bytes file.0, file.1.items)) c.in_ok-files.files.items c.args.orders.now c.args.cert.now c.args.yard.now c.max-room.result c.in_ok-files.ensures.files
    (omega (arith, c.max.ensures, c.max-2.ensures, c.max-room.ensures)) (omega (arith, c.max.ensures, c.max-2.ensures, c.max-room.ensures)) (omega (arith, c.max.ensures, c.max-2.ensures, c.max-room.ensures))
