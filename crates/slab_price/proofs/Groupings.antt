-- Orders that the decisions put together, and groups that are weighed and priced.
use Rattle.std.proofs.Common.{◌≡◌, ℕ, ◌<◌, Bool, true, false, not, ◌&&◌, List, length, get_or, sym, ap, ap₂, ◌∙◌, inl, inr, arith, Option, Some, None}
use Rattle.std.specs.Prelude.{IfSome, IfNone}
use Rattle.std.specs.Bool.{beq, OnTrue, OnFalse}
use Rattle.std.specs.Option.{option_eq}
use Rattle.std.proofs.lemmas.Bool.{cases_lt, both_ways}
use Rattle.mill_model.specs.declared.ask.Ask.TheVariants.{Pair}
use Rattle.mill_model.specs.Columns.{has}
use Rattle.mill_model.specs.Decisions.{Decision}
use Rattle.mill_model.specs.Assignments.{Follows}
use Rattle.pricing_laws.proofs.Pairs.{both_or_neither}
use Rattle.pricing_laws.specs.Groups.{head_of, AreHeads}
use Rattle.mill_model.proofs.SameGroups.{same_group-true, same_group_from}
use Rattle.mill_model.proofs.Agreement.{column_follows}
use Rattle.slab_decide.specs.Decided.{AreConsistent, IsOpen}
use Rattle.pricing_laws.specs.Groups.{AreApart}
use Rattle.slab_price.specs.Groupings.{AreAlike, IsHead}

-- ---- orders that lie together

not_both : (s t : Bool) → not (s && t) ≡ true → s ≡ true → t ≡ true → ⊥
not_both s t e f g = both_ways (not (s && t)) (ap₂ (λ x y. not (x && y)) f g) e

module _ (decisions : List Decision) (consistent : AreConsistent decisions) (first second : ℕ) where
  -- a column that agrees with decisions that put two orders together has both or neither
  pub alike_where_together : (answer : Option Bool) → IfSome answer (λ b. Follows decisions (Pair first second) b) → OnTrue (option_eq beq answer (Some true)) (AreAlike decisions second first)
  alike_where_together None some = tt
  alike_where_together (Some true) some = λ c agree. sym (both_or_neither (has c.orders first) (has c.orders second) (column_follows c decisions consistent.0 (Pair first second) true consistent.1 agree some))
  alike_where_together (Some false) some = tt

  -- one that agrees with decisions that keep them apart hasn't both
  pub apart_where_kept : (answer : Option Bool) → IfSome answer (λ b. Follows decisions (Pair first second) b) → OnTrue (option_eq beq answer (Some false)) (AreApart decisions first second)
  apart_where_kept None some = tt
  apart_where_kept (Some true) some = tt
  apart_where_kept (Some false) some = λ c agree f g. not_both (has c.orders first) (has c.orders second) (column_follows c decisions consistent.0 (Pair first second) false consistent.1 agree some) f g

  -- what may be otherwise, or is, doesn't follow
  pub not_together : (answer : Option Bool) → IfSome answer (λ b. Follows decisions (Pair first second) b) → IfNone answer (IsOpen decisions (Pair first second)) → OnFalse (option_eq beq answer (Some true)) (Follows decisions (Pair first second) true → ⊥)
  not_together None some none = λ follows. both_ways _ (none.may_be_no.1.0) (follows none.may_be_no.0 none.may_be_no.1.1)
  not_together (Some true) some none = tt
  not_together (Some false) some none = λ follows. both_ways _ (some consistent.0 consistent.1) (follows consistent.0 consistent.1)

together_across : (decisions : List Decision) (i j k : ℕ) → Follows decisions (Pair i j) true → Follows decisions (Pair j k) true → Follows decisions (Pair i k) true
together_across decisions i j k first second a agree = same_group_from (a i) (a k) (same_group-true (a i) (a j) (first a agree) ∙ same_group-true (a j) (a k) (second a agree))

pub heads_found : (decisions : List Decision) (heads : List ℕ) → ((o : ℕ) → o < length heads → IsHead decisions o (get_or heads o 0)) → AreHeads decisions heads
heads_found decisions heads are = record { before = λ o h. (are o h).before; fixed = fixed; joined = λ c agree o h. (are o h).alike c agree }
  where
    fixed : (o : ℕ) → o < length heads → head_of heads (head_of heads o) ≡ head_of heads o
    fixed o h = elim (cases_lt (head_of heads o) o) [
      | inr same ↦ ap (head_of heads) (omega (arith, (are o h).before))
      | inl less ↦ elim (cases_lt (head_of heads (head_of heads o)) (head_of heads o)) [
        | inr same ↦ omega (arith, (are (head_of heads o) (omega (arith, less))).before)
        | inl lower ↦ absurd ((are o h).least (head_of heads (head_of heads o)) lower (together_across decisions (head_of heads (head_of heads o)) (head_of heads o) o ((are (head_of heads o) (omega (arith, less))).together lower) ((are o h).together less)))
      ]
    ]
