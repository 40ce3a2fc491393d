-- Orders that may lie on one slab, as columns.
use Rattle.std.proofs.Common.{◌≡◌, ℕ, ◌≤◌, ℤ, true, false, List, subst, arith}
use Rattle.std.specs.Prelude.{◌<ℤ◌}
use Rattle.std.proofs.lemmas.Int.{ints}
use Rattle.mill_model.specs.declared.kind.Kind.{Kind}
use Rattle.mill_model.specs.Columns.{IsInStock, has_barred, size_of}
use Rattle.mill_model.specs.Decisions.{column_agrees}
use Rattle.mill_model.specs.LeastSizes.{IsOfLeastSize}
use Rattle.pricing_laws.specs.Gains.{cost_of}
use Rattle.pricing_laws.specs.Problems.{Problem}
use Rattle.pricing_laws.proofs.Excesses.{excess_from_priced}
use Rattle.price_check.specs.Exceeding.{IsExceeding}
use Rattle.pricing_laws.specs.Packs.{IsPack}
use Rattle.pricing_laws.proofs.Packs.{pack_excess, pack_legal}

module _ (q : Problem) (orders : List ℕ) (weight : ℕ) (gain : ℤ) (pack : IsPack q orders weight gain) where
  -- the orders exceed
  pub pack_exceeds : (kind : Kind) → IsInStock q.mill kind → weight ≤ size_of q.mill kind → IsOfLeastSize q.mill weight kind → has_barred q.mill (record { kind = kind; orders = orders }) ≡ false
      → column_agrees q.decisions (record { kind = kind; orders = orders }) ≡ true → cost_of q.mill q.prices kind <ℤ gain → IsExceeding q.mill q.decisions q.prices (record { kind = kind; orders = orders })
  pack_exceeds kind stock holds least free agrees above = record {
    legal = pack_legal q orders weight gain pack kind stock holds free;
    agrees = agrees;
    exceeds = λ priced. absurd (omega (arith, ints, above, pack_excess q orders weight gain pack kind holds, excess_from_priced q.mill q.prices (record { kind = kind; orders = orders }) priced));
    least = subst (λ (n : ℕ). IsOfLeastSize q.mill n kind) pack.load_is least;
  }
