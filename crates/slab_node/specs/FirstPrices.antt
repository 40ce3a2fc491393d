-- Which prices refute a node that needs no relaxation: the first of the plain ones, or the first that settled groups state.
use Rattle.std.specs.Prelude.{◌≡◌, ℕ, ◌<◌, ℤ, pos, ◌<ℤ◌, List, length, slice_index, Option, Some, IsSomeAnd}
use Rattle.mill_model.specs.declared.illegal.Illegal.{Illegal}
use Rattle.mill_model.specs.declared.kind.Kind.{Kind}
use Rattle.mill_model.specs.declared.limits.Limits.{Limits}
use Rattle.mill_model.specs.Mill.{Mill}
use Rattle.mill_model.specs.Plans.{Plan, IsLegal, sums_of}
use Rattle.mill_model.specs.Judging.{first_broken}
use Rattle.mill_model.specs.Limits.{AtMost}
use Rattle.mill_model.specs.Decisions.{Decision}
use Rattle.mill_model.specs.Plain.{IsLossRefuted, IsCountRefuted, loss_prices, count_prices, weight_prices}
use Rattle.mill_model.specs.Prices.{Prices}
use Rattle.pricing_laws.specs.Groups.{head_of}
use Rattle.slab_node.specs.Built.{IsBuilt}
use Rattle.slab_node.specs.Grouped.{AreKinds}
use Rattle.slab_node.specs.Misfits.{slab_number}
use Rattle.slab_node.specs.Settled.{AreFirsts, AreSlabs}
use Rattle.slab_node.specs.Stated.{AreAtHeads, only, group_loss, group_count, free_prices}

-- of the plain prices those on the loss where its limit is below 0, else those on new slabs where theirs is, else those by weight
pub record IsFirstPlain (m : Mill) (limits : Limits) (p : Prices) : Type 0 where
  pub loss : IsLossRefuted limits → p ≡ loss_prices m
  pub count : (IsLossRefuted limits → ⊥) → IsCountRefuted limits → p ≡ count_prices m
  pub weight : (IsLossRefuted limits → ⊥) → (IsCountRefuted limits → ⊥) → p ≡ weight_prices m

-- prices on loss, on new slabs and on the first order of each group
pub record AreStated (m : Mill) (lambda mu : ℤ) (heads : List ℕ) (value : ℕ → ℤ) (p : Prices) : Type 0 where
  pub free : p ≡ free_prices m lambda mu p.pi
  pub heads_are : AreAtHeads heads value p.pi

-- 1 for the group of the slab that a rule is about, all else 0
abbrev pub StatesMisfit : Mill → List ℕ → Plan → Illegal → Prices → Type 0
StatesMisfit m heads plan rule p = (k order : ℕ) → slab_number rule ≡ Some k → order < length plan.place → slice_index plan.place order ≡ k → AreStated m (pos 0) (pos 0) heads (only (head_of heads order)) p

-- the groups that decisions settle, each known by its first order, with their slabs, and the plan of these
pub record AreSettledGroups (m : Mill) (decisions : List Decision) (heads : List ℕ) (kinds : List Kind) (plan : Plan) : Type 0 where
  pub slabs : List (Option ℕ)
  pub heads_size : length heads ≡ length m.orders
  pub slabs_size : length slabs ≡ length m.orders
  pub firsts : AreFirsts decisions heads
  pub puts : AreSlabs decisions (length m.yard) slabs
  pub are : AreKinds m heads slabs kinds
  pub built : IsBuilt heads kinds (length heads) plan.kinds plan.place

-- Where the settled plan breaks a rule, the first slab that does gives the prices; where it is legal and loses too much, what each
-- group loses; else where it has too many new slabs, 1 for each group on one.
pub record IsFirstStated (m : Mill) (limits : Limits) (decisions : List Decision) (p : Prices) : Type 0 where
  pub heads : List ℕ
  pub kinds : List Kind
  pub plan : Plan
  pub groups : AreSettledGroups m decisions heads kinds plan
  pub misfit : (rule : Illegal) → first_broken m plan ≡ Some rule → StatesMisfit m heads plan rule p
  pub loss : IsLegal m plan → IsSomeAnd limits.loss (λ a. a <ℤ pos (sums_of m plan).loss) → AreStated m (pos 1) (pos 0) heads (group_loss m heads kinds) p
  pub count : IsLegal m plan → AtMost (Some (pos (sums_of m plan).loss)) limits.loss → IsSomeAnd limits.count (λ b. b <ℤ pos (sums_of m plan).count) → AreStated m (pos 0) (pos 1) heads (group_count kinds) p
