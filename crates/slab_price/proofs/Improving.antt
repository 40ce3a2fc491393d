-- How the best column is improved.
use Rattle.std.proofs.Common.{◌≡◌, ◌⊎◌, inl, inr, ℕ, ℤ, pos, ◌<ℤ◌, List, [], length, Option, None, Some, sym, subst, arith}
use Rattle.std.specs.Prelude.{IfSome, IfNone}
use Rattle.std.proofs.lemmas.Int.{ints, by_lt_z}
use Rattle.mill_model.specs.Columns.{Column}
use Rattle.pricing_laws.specs.Colours.{IsOfSet}
use Rattle.pricing_laws.specs.Parts.{left_of}
use Rattle.pricing_laws.specs.Worths.{IsRanking}
use Rattle.pricing_laws.specs.Problems.{Problem, IsAllowed, ExceedAtMost}
use Rattle.pricing_laws.proofs.Problems.{at_most, exceed_both, exceed_weaker}
use Rattle.pricing_laws.proofs.Colours.{column_set}
use Rattle.slab_price.specs.declared.best.Best.{Best}
use Rattle.slab_price.specs.Bests.{IsBest, IsImproved, as_found}
use Rattle.slab_price.specs.Excess.{IsFound, IsGreatest, IsWorst}
use Rattle.slab_price.specs.Found.{Found}

-- nothing changes
pub improved_same : (q : Problem) (best : Best) (IsSo : Column → Type 0) → ExceedAtMost q best.excess IsSo → IsImproved q best best IsSo
improved_same q best IsSo most = record { kept = λ b. b; grows = omega (arith, ints); most = most }

-- fewer columns
pub improved_less : (q : Problem) (old new : Best) (IsSo IsLess : Column → Type 0) → ((c : Column) → IsAllowed q c → IsLess c → IsSo c) → IsImproved q old new IsSo → IsImproved q old new IsLess
improved_less q old new IsSo IsLess less i = record { kept = i.kept; grows = i.grows; most = exceed_weaker q new.excess new.excess IsSo IsLess (omega (arith, ints)) less i.most }

-- first by some columns, then by others
pub improved_both : (q : Problem) (old mid new : Best) (IsFirst IsSecond IsEither : Column → Type 0) → ((c : Column) → IsAllowed q c → IsEither c → IsFirst c ⊎ IsSecond c) → IsImproved q old mid IsFirst → IsImproved q mid new IsSecond → IsImproved q old new IsEither
improved_both q old mid new IsFirst IsSecond IsEither either i j = record {
  kept = λ b. j.kept (i.kept b);
  grows = at_most old.excess mid.excess new.excess i.grows j.grows;
  most = exceed_both q mid.excess new.excess IsFirst IsSecond IsEither j.grows either i.most j.most;
}

-- ---- the answer

-- all columns are of some of the colours ranked
pub improved_all : (q : Problem) (worths : List ℤ) (ranking : List ℕ) (old new : Best) → IsRanking q.mill worths ranking → IsImproved q old new (IsOfSet q.mill [] (left_of ranking (length ranking)) q.mill.colour_limit) → IsGreatest q.mill q.decisions q.prices new.excess
improved_all q worths ranking old new ranked i c legal agrees = i.most c (record { legal = legal; agrees = agrees }) (column_set q.mill worths ranking c ranked legal)

pub improved_first : (q : Problem) (old new : Best) (IsSo : Column → Type 0) → old.excess ≡ pos 0 → IsImproved q old new IsSo → IsBest q new
improved_first q old new IsSo none i = i.kept (inl none)

pub worst_found : (q : Problem) (best : Best) (found : Option Found) → IsBest q best → IsGreatest q.mill q.decisions q.prices best.excess → IfSome found (λ f. f ≡ as_found best) → IfSome found (λ _. pos 0 <ℤ best.excess) → IfSome found (IsWorst q.mill q.decisions q.prices)
worst_found q best None is greatest same above = tt
worst_found q best (Some f) is greatest same above = subst (IsWorst q.mill q.decisions q.prices) (sym same) (record { found = at is; greatest = greatest })
  where
    at : IsBest q best → IsFound q.mill q.decisions q.prices (as_found best)
    at (inl none) = absurd (omega (arith, ints, none, above))
    at (inr ok) = ok

pub none_found : (q : Problem) (best : Best) (found : Option Found) → IsGreatest q.mill q.decisions q.prices best.excess → IfNone found (pos 0 <ℤ best.excess → ⊥) → IfNone found (IsGreatest q.mill q.decisions q.prices (pos 0))
none_found q best (Some f) greatest none = tt
none_found q best None greatest none = λ c legal agrees. at_most _ best.excess (pos 0) (greatest c legal agrees) (by_lt_z (pos 0) best.excess (λ above. absurd (none above)) (λ small. small))
