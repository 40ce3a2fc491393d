-- Orders that may lie on one slab, as columns.
use Rattle.std.proofs.Common.{◌≡◌, inl, inr, ℕ, ◌≤◌, pos, ◌≤ℤ◌, ℤ, true, false, List, sym, subst, ◌∙◌, arith}
use Rattle.std.specs.Prelude.{◌-ℤ◌, ◌<ℤ◌}
use Rattle.std.proofs.lemmas.Int.{ints}
use Rattle.mill_model.specs.declared.kind.Kind.{Kind}
use Rattle.mill_model.specs.Columns.{IsInStock, has_barred, size_of}
use Rattle.mill_model.specs.Decisions.{column_agrees}
use Rattle.mill_model.specs.LeastSizes.{IsOfLeastSize}
use Rattle.pricing_laws.specs.Gains.{cost_of}
use Rattle.pricing_laws.specs.Problems.{Problem}
use Rattle.slab_price.specs.declared.best.Best.{Best}
use Rattle.slab_price.specs.Excess.{IsFound}
use Rattle.pricing_laws.specs.Packs.{IsPack}
use Rattle.pricing_laws.proofs.Packs.{pack_excess, pack_legal}
use Rattle.slab_price.specs.Bests.{IsBest}

pub best_sign : (q : Problem) (best : Best) → IsBest q best → pos 0 ≤ℤ best.excess
best_sign q best (inl none) = omega (arith, ints, none)
best_sign q best (inr found) = omega (arith, ints, found.above)

module _ (q : Problem) (orders : List ℕ) (weight : ℕ) (gain : ℤ) (pack : IsPack q orders weight gain) where
  -- the orders are a column found
  pub pack_found : (kind : Kind) (best : Best) → IsInStock q.mill kind → weight ≤ size_of q.mill kind → IsOfLeastSize q.mill weight kind → has_barred q.mill (record { kind = kind; orders = orders }) ≡ false
      → column_agrees q.decisions (record { kind = kind; orders = orders }) ≡ true → pos 0 <ℤ best.excess → best.kind ≡ kind → best.orders.items ≡ orders → best.excess ≡ gain -ℤ cost_of q.mill q.prices kind → IsBest q best
  pack_found kind best stock holds least free agrees above k o e =
      inr (
      subst (λ (x : Kind). IsFound q.mill q.decisions q.prices (record { kind = x; orders = best.orders.items; excess = best.excess })) (sym k)
      (subst (λ (os : List ℕ). IsFound q.mill q.decisions q.prices (record { kind = kind; orders = os; excess = best.excess })) (sym o)
      (record {
        legal = pack_legal q orders weight gain pack kind stock holds free;
        agrees = agrees;
        excess_is = e ∙ pack_excess q orders weight gain pack kind holds;
        above = above;
        least_size = subst (λ (n : ℕ). IsOfLeastSize q.mill n kind) pack.load_is least;
      }))
      )
