-- Shown covers have shares.
use Rattle.std.proofs.Common.{ℕ, ◌<◌, unsigned_abs, true, false, List, [], ◌∷◌, map, length, subst, arith}
use Rattle.mill_model.specs.declared.ask.Ask.{Ask}
use Rattle.mill_model.specs.declared.ask.Ask.TheVariants.{Pair, Put}
use Rattle.mill_model.specs.declared.limits.Limits.{Limits}
use Rattle.mill_model.specs.Mill.{Mill}
use Rattle.mill_model.specs.Decisions.{Decision, IsAsk}
use Rattle.mill_model.specs.Covers.{IsCover}
use Rattle.mill_model.specs.Shares.{Share, part_of}
use Rattle.mill_model.specs.Trees.Tree.{End, Split}
use Rattle.mill_model.specs.Marks.{IsRight}
use Rattle.cert_text.specs.Laws.{ShownCoversHaveShares}

-- a mill with a question has an order
some_order : (m : Mill) (ask : Ask) → IsAsk m ask → 0 < length m.orders
some_order m (Pair i j) h = omega (arith, h.0, h.1)
some_order m (Put o s) h = omega (arith, h.0)

some_share : (m : Mill) (limits : Limits) (decisions : List Decision) (d : ℕ) (shares : List Share) → 0 < length m.orders → IsCover m limits decisions d (map part_of shares) → 0 < length shares
some_share m limits decisions d [] some cover = absurd (omega (arith, cover.denominator, cover.orders 0 some))
some_share m limits decisions d (share ∷ shares) some cover = omega arith

pub shown_covers_have_shares : ShownCoversHaveShares
shown_covers_have_shares m limits decisions (End p) refutes right = tt
shown_covers_have_shares m limits decisions (Split mark ask y n) refutes right = (
  λ shown e. some_share m limits decisions (unsigned_abs shown.d) shown.shares (some_order m ask refutes.0) (subst (λ x. IsRight m limits x decisions) e right.0).covers,
  shown_covers_have_shares m limits ((ask, true) ∷ decisions) y refutes.2 right.1,
  shown_covers_have_shares m limits ((ask, false) ∷ decisions) n refutes.3 right.2,
)
