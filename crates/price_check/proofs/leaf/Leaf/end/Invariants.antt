use Rattle.std.proofs.Common.{ℕ, ◌^◌, ◌<◌, ◌≤◌}
use Rattle.std.specs.Prelude.{unsigned_abs}
use Rattle.mill_model.specs.declared.kind.Kind.TheVariants.{New, Old}
use Rattle.pricing_laws.specs.Bounds.{IsEndOf}
use Rattle.price_check.proofs.leaf.Leaf.end.Given as goal

abbrev pub invariant-loop-slab : goal.invariant-loop-slab
invariant-loop-slab l = record {
  small : unsigned_abs l.end ≤ 2 ^ 90;
  cast : (size : ℕ) → IsEndOf l.self.mill.now l.self.quote.now l.load (New size) l.end;
  yard : (s : ℕ) → s < l.slab → IsEndOf l.self.mill.now l.self.quote.now l.load (Old s) l.end;
}
