use Rattle.part_rows.proofs.LegalColumns.{both_are_legal, second_is_legal}
use Rattle.part_rows.proofs.pools.columns_keep_their_numbers.Goals as goal

pub add_three-requires : goal.add_three-requires
add_three-requires g c = record {
  both = rw (c.in_ok-pool.ensures, c.in_ok-mill.ensures) both_are_legal;
  second = rw (c.in_ok-pool.ensures, c.in_ok-mill.ensures) second_is_legal;
}
