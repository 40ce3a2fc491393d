-- A cover that answers each ask by yes or no: the columns that count and share an order have the same orders and lie on one surplus slab or on none, so they are an assignment.
use Rattle.std.proofs.Common.{◌≡◌, ℕ, zero, suc, ◌+◌, ◌<◌, ◌≤◌, Bool, true, false, cond, ◌&&◌, List, [], ◌∷◌, length, sum_by, Contains, sym, refl, ◌∙◌, subst, inl, inr, arith}
use Rattle.std.specs.List.{AllByRecursion}
use Rattle.std.proofs.lemmas.Bool.{cases_order, both_ways}
use Rattle.std.proofs.lemmas.List.Sums.{sum_by-cons}
use Rattle.std.proofs.lemmas.List.Elements.{All-contains, All-from_recursion}
use Rattle.mill_model.specs.declared.ask.Ask.TheVariants.{Pair, Put}
use Rattle.mill_model.specs.declared.limits.Limits.{Limits}
use Rattle.mill_model.specs.Mill.{Mill}
use Rattle.mill_model.specs.Columns.{Column, IsLegalColumn, has, is_old}
use Rattle.mill_model.specs.Decisions.{Decision, column_agrees}
use Rattle.mill_model.specs.Covers.{Part, IsCover}
use Rattle.mill_model.proofs.Rising.{same_members}
use Rattle.slab_node.specs.Shares.{share, IsWhole}
use Rattle.slab_node.specs.Taken.{Counts}
use Rattle.slab_node.proofs.Choosing.{all_pass, none_pass, IsUniform, uniform_ask}

swap_tests : (f g : Column → Bool) (parts : List Part) → sum_by (λ (part : Part). cond (f part.0 && g part.0) part.1 0) parts ≡ sum_by (λ (part : Part). cond (g part.0 && f part.0) part.1 0) parts
swap_tests f g [] = refl
swap_tests f g (p ∷ parts) =
    omega (arith, sum_by-cons (λ (part : Part). cond (f part.0 && g part.0) part.1 0) p parts, sum_by-cons (λ (part : Part). cond (g part.0 && f part.0) part.1 0) p parts, swap_tests f g parts, cell (f p.0) (g p.0) p.1)
  where
    cell : (s t : Bool) (x : ℕ) → cond (s && t) x 0 ≡ cond (t && s) x 0
    cell true true x = refl
    cell true false x = refl
    cell false true x = refl
    cell false false x = refl

pub at_part : (P : Part → Type 0) (parts : List Part) (p : Part) → AllByRecursion P parts → Contains parts p → P p
at_part P parts p all there = All-contains P parts p (All-from_recursion P parts all) there

alike : (test more : Column → Bool) (parts : List Part) (p q : Part) → IsUniform test more parts → Counts parts p → Counts parts q → test p.0 ≡ true → test q.0 ≡ true → more p.0 ≡ more q.0
alike test more parts p q uniform x y s t =
    at_part (λ (part : Part). 0 < part.1 → test part.0 ≡ true → more part.0 ≡ uniform.0) parts p uniform.1 x.there x.above s
    ∙ sym (at_part (λ (part : Part). 0 < part.1 → test part.0 ≡ true → more part.0 ≡ uniform.0) parts q uniform.1 y.there y.above t)

module _ (m : Mill) (limits : Limits) (decisions : List Decision) (d : ℕ) (parts : List Part) (cover : IsCover m limits decisions d parts) (whole : IsWhole m d parts) where
  legal_part : (p : Part) → Counts parts p → IsLegalColumn m p.0
  legal_part p x = (at_part (λ (part : Part). IsLegalColumn m part.0 × (column_agrees decisions part.0 ≡ true)) parts p cover.legal x.there).0

  -- of two orders in either order
  uniform_orders : (i j : ℕ) → (i ≡ j → ⊥) → i < length m.orders → j < length m.orders → IsUniform (λ c. has c.orders i) (λ c. has c.orders j) parts
  uniform_orders i j ne h l = elim (cases_order i j) [
    | inl e ↦ absurd (ne e)
    | inr o ↦ elim o [
      | inl up ↦ uniform_ask m limits decisions d parts (Pair i j) cover whole (up, l)
      | inr down ↦ elim (whole (Pair j i) (down, h)) [
        | inl none ↦ (false, none_pass (λ c. has c.orders i) (λ c. has c.orders j) parts (swap_tests (λ c. has c.orders i) (λ c. has c.orders j) parts ∙ none))
        | inr all ↦ (true, all_pass (λ c. has c.orders i) (λ c. has c.orders j) parts (swap_tests (λ c. has c.orders i) (λ c. has c.orders j) parts ∙ all ∙ sym (cover.orders i h)))
      ]
    ]
  ]

  has_alike : (p q : Part) (o j : ℕ) → Counts parts p → Counts parts q → o < length m.orders → j < length m.orders → has p.0.orders o ≡ true → has q.0.orders o ≡ true → has p.0.orders j ≡ has q.0.orders j
  has_alike p q o j x y h l s t = elim (cases_order o j) [
    | inl e ↦ subst (λ z. has p.0.orders z ≡ has q.0.orders z) e (s ∙ sym t)
    | inr ne ↦ alike (λ c. has c.orders o) (λ c. has c.orders j) parts p q (uniform_orders o j (λ e. elim ne [ inl a ↦ omega arith | inr b ↦ omega arith ]) h l) x y s t
  ]

  -- columns that count and share an order have the same orders
  pub same_orders : (p q : Part) (o : ℕ) → Counts parts p → Counts parts q → o < length m.orders → has p.0.orders o ≡ true → has q.0.orders o ≡ true → p.0.orders ≡ q.0.orders
  same_orders p q o x y h s t = same_members 0 (length m.orders) p.0.orders q.0.orders (legal_part p x).rises (legal_part q y).rises (λ j l. has_alike p q o j x y h l s t)

  -- and lie on one surplus slab, or on none
  pub same_slab : (p q : Part) (o s : ℕ) → Counts parts p → Counts parts q → o < length m.orders → s < length m.yard → has p.0.orders o ≡ true → has q.0.orders o ≡ true → is_old s p.0.kind ≡ is_old s q.0.kind
  same_slab p q o s x y h l e f = alike (λ c. has c.orders o) (λ c. is_old s c.kind) parts p q (uniform_ask m limits decisions d parts (Put o s) cover whole (h, l)) x y e f

  -- no surplus slab takes two groups
  module _ (i j s : ℕ) (p q : Part) (x : Counts parts p) (y : Counts parts q) (h : i < length m.orders) (l : j < length m.orders) (within : s < length m.yard) (pi : has p.0.orders i ≡ true) (qj : has q.0.orders j ≡ true) (ps : is_old s p.0.kind ≡ true) (qs : is_old s q.0.kind ≡ true) where
    full : (o : ℕ) (r : Part) → Counts parts r → o < length m.orders → has r.0.orders o ≡ true → is_old s r.0.kind ≡ true → share parts (Put o s) ≡ d
    full o r z within_o ro rs = elim (whole (Put o s) (within_o, within)) [
      | inr all ↦ all
      | inl none ↦ absurd (both_ways (is_old s r.0.kind) (at_part (λ (part : Part). 0 < part.1 → has part.0.orders o ≡ true → is_old s part.0.kind ≡ false) parts r (none_pass (λ c. has c.orders o) (λ c. is_old s c.kind) parts none) z.there z.above ro) rs)
    ]

    -- where no column that counts has both orders, the two shares of the slab add up
    sums : (ps : List Part) → AllByRecursion (λ (part : Part). 0 < part.1 → has part.0.orders i ≡ true → has part.0.orders j ≡ false) ps
        → sum_by (λ (part : Part). cond (has part.0.orders i && is_old s part.0.kind) part.1 0) ps + sum_by (λ (part : Part). cond (has part.0.orders j && is_old s part.0.kind) part.1 0) ps ≤ sum_by (λ (part : Part). cond (is_old s part.0.kind) part.1 0) ps
    sums [] a = omega arith
    sums (r ∷ rs) a =
        omega (arith, sum_by-cons (λ (part : Part). cond (has part.0.orders i && is_old s part.0.kind) part.1 0) r rs, sum_by-cons (λ (part : Part). cond (has part.0.orders j && is_old s part.0.kind) part.1 0) r rs, sum_by-cons (λ (part : Part). cond (is_old s part.0.kind) part.1 0) r rs, sums rs a.1, cell (has r.0.orders i) (has r.0.orders j) (is_old s r.0.kind) r.1 a.0)
      where
        cell : (f g t : Bool) (n : ℕ) → (0 < n → f ≡ true → g ≡ false) → cond (f && t) n 0 + cond (g && t) n 0 ≤ cond t n 0
        cell true true true zero b = omega arith
        cell true true true (suc n) b = let e : true ≡ false = b (omega arith) refl in cc
        cell true true false n b = omega arith
        cell true false true n b = omega arith
        cell true false false n b = omega arith
        cell false true true n b = omega arith
        cell false true false n b = omega arith
        cell false false true n b = omega arith
        cell false false false n b = omega arith

    pub one_group : has p.0.orders j ≡ true
    one_group = elim (cases_order i j) [
      | inl e ↦ subst (λ z. has p.0.orders z ≡ true) e pi
      | inr ne ↦ go (uniform_orders i j (λ e. elim ne [ inl a ↦ omega arith | inr b ↦ omega arith ]) h l)
    ]
      where
        go : IsUniform (λ c. has c.orders i) (λ c. has c.orders j) parts → has p.0.orders j ≡ true
        go (true, all) = at_part (λ (part : Part). 0 < part.1 → has part.0.orders i ≡ true → has part.0.orders j ≡ true) parts p all x.there x.above pi
        go (false, none) =
            let first : share parts (Put i s) ≡ d = full i p x h pi ps in
            let second : share parts (Put j s) ≡ d = full j q y l qj qs in
            let both : share parts (Put i s) + share parts (Put j s) ≤ sum_by (λ (part : Part). cond (is_old s part.0.kind) part.1 0) parts = sums parts none in
            let most : sum_by (λ (part : Part). cond (is_old s part.0.kind) part.1 0) parts ≤ d = cover.yard s within in
            let some : 0 < d = cover.denominator in
            absurd (omega arith)
