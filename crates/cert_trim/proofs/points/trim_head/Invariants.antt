use Rattle.std.proofs.Common.{List, ◌++◌, None}
use Rattle.mill_model.specs.Fronts.{Point, IsGoodFrom}
use Rattle.cert_trim.specs.Certificates.{AreTrimmedFrom}
use Rattle.cert_trim.specs.Walks.{IsFor}
use Rattle.cert_trim.proofs.points.trim_head.Given as goal

abbrev pub invariant-loop-point : goal.invariant-loop-point
invariant-loop-point l = record {
  walk : IsFor l.mill l.walk;
  good : IsGoodFrom l.mill l.before l.point-iterator.rest.items;
  so_far : (news : List Point) → AreTrimmedFrom l.mill l.before l.point-iterator.rest.items news → AreTrimmedFrom l.mill None l.fn.head (l.points.items ++ news);
}
