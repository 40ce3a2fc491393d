-- What a cover's shares say of its columns.
use Rattle.std.proofs.Common.{◌≡◌, ℕ, ◌+◌, ◌<◌, ◌≤◌, Bool, true, false, cond, not, ◌&&◌, List, [], ◌∷◌, sum_by, sym, refl, ◌∙◌, inl, inr, arith}
use Rattle.std.specs.List.{AllByRecursion}
use Rattle.std.proofs.lemmas.List.Sums.{sum_by-cons}
use Rattle.mill_model.specs.declared.ask.Ask.{Ask}
use Rattle.mill_model.specs.declared.ask.Ask.TheVariants.{Pair, Put}
use Rattle.mill_model.specs.declared.limits.Limits.{Limits}
use Rattle.mill_model.specs.Mill.{Mill}
use Rattle.mill_model.specs.Columns.{Column, IsLegalColumn}
use Rattle.mill_model.specs.Decisions.{Decision, IsAsk, column_agrees, first_test, second_test}
use Rattle.mill_model.specs.Assignments.{Assignment, Agrees, Follows}
use Rattle.mill_model.specs.Covers.{Part, IsCover}
use Rattle.mill_model.proofs.Agreement.{column_follows}
use Rattle.slab_node.specs.Shares.{CoversOrders, share, IsFractional, IsWhole}

-- ---- an ask that the cover answers in part doesn't follow

-- the sum of an ask's first test
abbrev base : List Part → Ask → ℕ
base parts ask = sum_by (λ (part : Part). cond (first_test ask part.0) part.1 0) parts

abbrev IsAllowedPart : Mill → List Decision → Part → Type 0
IsAllowedPart m decisions part = IsLegalColumn m part.0 × (column_agrees decisions part.0 ≡ true)

all_share : (decisions : List Decision) (m : Mill) (a : Assignment) (ask : Ask) → Agrees decisions a → Follows decisions ask true → (parts : List Part) → AllByRecursion (IsAllowedPart m decisions) parts → share parts ask ≡ base parts ask
all_share decisions m a ask agree follows [] h = refl
all_share decisions m a ask agree follows (p ∷ parts) h =
    omega (arith, sum_by-cons (λ (part : Part). cond (first_test ask part.0 && second_test ask part.0) part.1 0) p parts, sum_by-cons (λ (part : Part). cond (first_test ask part.0) part.1 0) p parts, all_share decisions m a ask agree follows parts h.1, cell (first_test ask p.0) (second_test ask p.0) p.1 (column_follows p.0 decisions a ask true agree h.0.1 follows))
  where
    cell : (s t : Bool) (x : ℕ) → cond s t (not t) ≡ true → cond (s && t) x 0 ≡ cond s x 0
    cell true true x e = refl
    cell true false x e = cc
    cell false t x e = refl

no_share : (decisions : List Decision) (m : Mill) (a : Assignment) (ask : Ask) → Agrees decisions a → Follows decisions ask false → (parts : List Part) → AllByRecursion (IsAllowedPart m decisions) parts → share parts ask ≡ 0
no_share decisions m a ask agree follows [] h = refl
no_share decisions m a ask agree follows (p ∷ parts) h =
    omega (arith, sum_by-cons (λ (part : Part). cond (first_test ask part.0 && second_test ask part.0) part.1 0) p parts, no_share decisions m a ask agree follows parts h.1, cell (first_test ask p.0) (second_test ask p.0) p.1 (column_follows p.0 decisions a ask false agree h.0.1 follows))
  where
    cell : (s t : Bool) (x : ℕ) → not (s && t) ≡ true → cond (s && t) x 0 ≡ 0
    cell true true x e = cc
    cell true false x e = refl
    cell false t x e = refl

-- each ask's first test is that a column has an order of the mill
pub base_is : (m : Mill) (d : ℕ) (parts : List Part) (ask : Ask) → CoversOrders m d parts → IsAsk m ask → base parts ask ≡ d
base_is m d parts (Pair i j) cover asked = cover.orders i (omega (arith, asked.0, asked.1))
base_is m d parts (Put o s) cover asked = cover.orders o asked.0

pub covers_orders : (m : Mill) (limits : Limits) (decisions : List Decision) (d : ℕ) (parts : List Part) → IsCover m limits decisions d parts → CoversOrders m d parts
covers_orders m limits decisions d parts cover = record { positive = cover.denominator; orders = cover.orders }

pub fractional_is_open : (m : Mill) (limits : Limits) (decisions : List Decision) (d : ℕ) (parts : List Part) (ask : Ask) (a : Assignment) → Agrees decisions a → IsCover m limits decisions d parts → IsAsk m ask → IsFractional d parts ask → (b : Bool) → Follows decisions ask b → ⊥
fractional_is_open m limits decisions d parts ask a agree cover asked fractional true follows = omega (arith, fractional.less, all_share decisions m a ask agree follows parts cover.legal, base_is m d parts ask (covers_orders m limits decisions d parts cover) asked)
fractional_is_open m limits decisions d parts ask a agree cover asked fractional false follows = omega (arith, fractional.some, no_share decisions m a ask agree follows parts cover.legal)

-- ---- a cover that answers each ask by yes or no

pub share_most : (test more : Column → Bool) (parts : List Part) → sum_by (λ (part : Part). cond (test part.0 && more part.0) part.1 0) parts ≤ sum_by (λ (part : Part). cond (test part.0) part.1 0) parts
share_most test more [] = omega arith
share_most test more (p ∷ parts) =
    omega (arith, sum_by-cons (λ (part : Part). cond (test part.0 && more part.0) part.1 0) p parts, sum_by-cons (λ (part : Part). cond (test part.0) part.1 0) p parts, share_most test more parts, cell (test p.0) (more p.0) p.1)
  where
    cell : (s t : Bool) (x : ℕ) → cond (s && t) x 0 ≤ cond s x 0
    cell true true x = omega arith
    cell true false x = omega arith
    cell false t x = omega arith

-- where all of a test's share passes more, each column that counts does
pub all_pass : (test more : Column → Bool) (parts : List Part) → sum_by (λ (part : Part). cond (test part.0 && more part.0) part.1 0) parts ≡ sum_by (λ (part : Part). cond (test part.0) part.1 0) parts
    → AllByRecursion (λ (part : Part). 0 < part.1 → test part.0 ≡ true → more part.0 ≡ true) parts
all_pass test more [] e = tt
all_pass test more (p ∷ parts) e =
    let first : sum_by (λ (part : Part). cond (test part.0 && more part.0) part.1 0) (p ∷ parts) ≡ cond (test p.0 && more p.0) p.1 0 + sum_by (λ (part : Part). cond (test part.0 && more part.0) part.1 0) parts = sum_by-cons (λ (part : Part). cond (test part.0 && more part.0) part.1 0) p parts in
    let second : sum_by (λ (part : Part). cond (test part.0) part.1 0) (p ∷ parts) ≡ cond (test p.0) p.1 0 + sum_by (λ (part : Part). cond (test part.0) part.1 0) parts = sum_by-cons (λ (part : Part). cond (test part.0) part.1 0) p parts in
    let rest : sum_by (λ (part : Part). cond (test part.0 && more part.0) part.1 0) parts ≤ sum_by (λ (part : Part). cond (test part.0) part.1 0) parts = share_most test more parts in
    let least : cond (test p.0 && more p.0) p.1 0 ≤ cond (test p.0) p.1 0 = cell_most (test p.0) (more p.0) p.1 in
    (λ above t. cell (test p.0) (more p.0) p.1 above t (omega arith), all_pass test more parts (omega arith))
  where
    cell_most : (s t : Bool) (x : ℕ) → cond (s && t) x 0 ≤ cond s x 0
    cell_most true true x = omega arith
    cell_most true false x = omega arith
    cell_most false t x = omega arith

    cell : (s t : Bool) (x : ℕ) → 0 < x → s ≡ true → cond (s && t) x 0 ≡ cond s x 0 → t ≡ true
    cell true true x h q f = refl
    cell true false x h q f = absurd (omega arith)
    cell false t x h q f = cc

-- where nothing of it does, none does
pub none_pass : (test more : Column → Bool) (parts : List Part) → sum_by (λ (part : Part). cond (test part.0 && more part.0) part.1 0) parts ≡ 0
    → AllByRecursion (λ (part : Part). 0 < part.1 → test part.0 ≡ true → more part.0 ≡ false) parts
none_pass test more [] e = tt
none_pass test more (p ∷ parts) e =
    let first : sum_by (λ (part : Part). cond (test part.0 && more part.0) part.1 0) (p ∷ parts) ≡ cond (test p.0 && more p.0) p.1 0 + sum_by (λ (part : Part). cond (test part.0 && more part.0) part.1 0) parts = sum_by-cons (λ (part : Part). cond (test part.0 && more part.0) part.1 0) p parts in
    (λ above t. cell (test p.0) (more p.0) p.1 above t (omega arith), none_pass test more parts (omega arith))
  where
    cell : (s t : Bool) (x : ℕ) → 0 < x → s ≡ true → cond (s && t) x 0 ≡ 0 → t ≡ false
    cell true true x h q f = absurd (omega arith)
    cell true false x h q f = refl
    cell false t x h q f = cc

-- all columns that count and have an order pass another test, or none does
abbrev pub IsUniform : (Column → Bool) → (Column → Bool) → List Part → Type 0
IsUniform test more parts = (b : Bool) × AllByRecursion (λ (part : Part). 0 < part.1 → test part.0 ≡ true → more part.0 ≡ b) parts

pub uniform_ask : (m : Mill) (limits : Limits) (decisions : List Decision) (d : ℕ) (parts : List Part) (ask : Ask) → IsCover m limits decisions d parts → IsWhole m d parts → IsAsk m ask → IsUniform (first_test ask) (second_test ask) parts
uniform_ask m limits decisions d parts ask cover whole asked = elim (whole ask asked) [
  | inl none ↦ (false, none_pass (first_test ask) (second_test ask) parts none)
  | inr all ↦ (true, all_pass (first_test ask) (second_test ask) parts (all ∙ sym (base_is m d parts ask (covers_orders m limits decisions d parts cover) asked)))
]
