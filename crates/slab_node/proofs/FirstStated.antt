-- The prices of a settled node are the first that its groups state.
use Rattle.std.proofs.Common.{◌≡◌, ℕ, ◌<◌, ℤ, pos, ◌<ℤ◌, ◌∙◌, List, length, get_or, refl, sym, subst, arith, Option, Some, None}
use Rattle.std.specs.Prelude.{IsSomeAnd}
use Rattle.std.proofs.lemmas.Int.{ints}
use Rattle.mill_model.specs.declared.illegal.Illegal.{Illegal}
use Rattle.mill_model.specs.Mill.{Mill}
use Rattle.mill_model.specs.Limits.{AtMost}
use Rattle.mill_model.specs.Plans.{IsLegal, sums_of}
use Rattle.mill_model.specs.Prices.{Prices}
use Rattle.mill_model.specs.Judging.{first_broken}
use Rattle.mill_model.proofs.Rules.{illegal_from_some}
use Rattle.pricing_laws.specs.Groups.{head_of}
use Rattle.slab_relax.specs.declared.node.Node.{Node}
use Rattle.slab_node.specs.declared.settlement.Settlement.{Settlement}
use Rattle.slab_node.specs.AtNodes.{IsFirstStatedAt}
use Rattle.slab_node.specs.FirstPrices.{AreStated, StatesMisfit, AreSettledGroups}
use Rattle.slab_node.specs.Settlements.{IsSettlement}
use Rattle.slab_node.specs.Stated.{AreAtHeads, group_loss, group_count, free_prices}

pub stated_of : (m : Mill) (lambda mu : ℤ) (heads : List ℕ) (value : ℕ → ℤ) (pi : List ℤ) (p : Prices) → AreAtHeads heads value pi → p ≡ free_prices m lambda mu pi → AreStated m lambda mu heads value p
stated_of m lambda mu heads value pi p at is = subst (AreStated m lambda mu heads value) (sym is) (record { free = refl; heads_are = at })

-- a number isn't above a limit and at most it
not_both : (number : ℕ) (limit : Option ℤ) → IsSomeAnd limit (λ a. a <ℤ pos number) → AtMost (Some (pos number)) limit → ⊥
not_both number None above within = absurd above
not_both number (Some a) above within = omega (arith, ints, above, within)

module _ (node : Node) (s : Settlement) (is : IsSettlement node s) where
  abbrev m : Mill
  m = node.mill.now

  -- orders on one slab have one head
  pub one_head : (i j : ℕ) → i < length s.plan.place → j < length s.plan.place → get_or s.plan.place i 0 ≡ get_or s.plan.place j 0 → head_of s.heads.items i ≡ head_of s.heads.items j
  one_head i j h l e = is.built.parted i j (omega (arith, is.built.size)) (omega (arith, is.built.size)) e

  groups : AreSettledGroups m node.decisions.now.list s.heads.items s.kinds.items s.plan
  groups = record {
    slabs = is.slabs;
    heads_size = is.heads_size;
    slabs_size = is.slabs_size;
    firsts = is.firsts;
    puts = is.puts;
    are = is.are;
    built = is.built;
  }

  pub by_misfit : (rule : Illegal) (p : Prices) → first_broken m s.plan ≡ Some rule → StatesMisfit m s.heads.items s.plan rule p → IsFirstStatedAt node p
  by_misfit rule p broken states = record {
    heads = s.heads.items;
    kinds = s.kinds.items;
    plan = s.plan;
    groups = groups;
    misfit = λ other e. subst (λ (r : Illegal). StatesMisfit m s.heads.items s.plan r p) (some other (sym broken ∙ e)) states;
    loss = λ legal _. absurd (illegal_from_some m s.plan rule broken legal);
    count = λ legal _ _. absurd (illegal_from_some m s.plan rule broken legal);
  }
    where
      some : (other : Illegal) → Some rule ≡ Some other → rule ≡ other
      some other e = cc

  pub by_loss : (p : Prices) → IsLegal m s.plan → IsSomeAnd node.limits.loss (λ a. a <ℤ pos (sums_of m s.plan).loss) → AreStated m (pos 1) (pos 0) s.heads.items (group_loss m s.heads.items s.kinds.items) p → IsFirstStatedAt node p
  by_loss p legal above states = record {
    heads = s.heads.items;
    kinds = s.kinds.items;
    plan = s.plan;
    groups = groups;
    misfit = λ rule e. absurd (illegal_from_some m s.plan rule e legal);
    loss = λ _ _. states;
    count = λ _ within _. absurd (not_both (sums_of m s.plan).loss node.limits.loss above within);
  }

  pub by_count : (p : Prices) → IsLegal m s.plan → AtMost (Some (pos (sums_of m s.plan).loss)) node.limits.loss → AreStated m (pos 0) (pos 1) s.heads.items (group_count s.kinds.items) p → IsFirstStatedAt node p
  by_count p legal within states = record {
    heads = s.heads.items;
    kinds = s.kinds.items;
    plan = s.plan;
    groups = groups;
    misfit = λ rule e. absurd (illegal_from_some m s.plan rule e legal);
    loss = λ _ above. absurd (not_both (sums_of m s.plan).loss node.limits.loss above within);
    count = λ _ _ _. states;
  }
