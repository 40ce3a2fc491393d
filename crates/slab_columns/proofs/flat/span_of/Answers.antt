use Rattle.std.proofs.lemmas.Option.{slice_get-get_or}
use Rattle.slab_columns.proofs.FlatColumns.{bounds_at}
use Rattle.slab_columns.specs.declared.flat.Start.{Start}
use Rattle.mill_model.specs.declared.kind.Kind.TheVariants.{New}
use Rattle.slab_columns.proofs.flat.span_of.Goals as goal

pub returns-clause-rising : goal.returns-clause-rising
returns-clause-rising c =
    let none : Start = record { kind = New 0; at = 0 } in
    rw c.end_of-end.ensures (bounds_at c.args.len c.args.starts.now c.args.id _ c.requires.laid_out (slice_get-get_or c.args.starts.now c.args.id none c.requires.id)).0

pub returns-clause-within : goal.returns-clause-within
returns-clause-within c =
    let none : Start = record { kind = New 0; at = 0 } in
    rw c.end_of-end.ensures (bounds_at c.args.len c.args.starts.now c.args.id _ c.requires.laid_out (slice_get-get_or c.args.starts.now c.args.id none c.requires.id)).1
