-- The search for a free surplus slab, slab by slab.
use Rattle.std.proofs.Common.{◌≡◌, ℕ, suc, ◌+◌, ◌-◌, ◌<◌, ◌≤◌, Bool, true, false, cond, not, List, ◌∷◌, map, length, Option, Some, None, refl, sym, ap, ◌∙◌, arith}
use Rattle.std.specs.List.{filter, find, list_any, range_with_len}
use Rattle.mill_model.specs.declared.kind.Kind.{Kind}
use Rattle.mill_model.specs.declared.kind.Kind.TheVariants.{Old}
use Rattle.mill_model.specs.Mill.{Mill}
use Rattle.mill_model.specs.Columns.{Column, is_old}
use Rattle.slab_filling.specs.Slabs.{empty, takes}
use Rattle.slab_filling.specs.Placing.{kinds_of, free_kinds}

-- what is found among the surplus slabs from s on
abbrev pub found_from : (ℕ → Bool) → (Kind → Bool) → ℕ → ℕ → Option Kind
found_from free test count s = find test (map Old (filter free (range_with_len s (count - s))))

pub found_more : (free : ℕ → Bool) (test : Kind → Bool) (count s : ℕ) → s < count → found_from free test count s ≡ cond (free s) (cond (test (Old s)) (Some (Old s)) (found_from free test count (s + 1))) (found_from free test count (s + 1))
found_more free test count s h =
    let e : count - s ≡ suc (count - (s + 1)) = omega arith in
    ap (λ n. find test (map Old (filter free (range_with_len s n)))) e ∙ by_test (free s)
  where
    by_test : (b : Bool) → find test (map Old (cond b (s ∷ filter free (range_with_len (s + 1) (count - (s + 1)))) (filter free (range_with_len (s + 1) (count - (s + 1))))))
        ≡ cond b (cond (test (Old s)) (Some (Old s)) (found_from free test count (s + 1))) (found_from free test count (s + 1))
    by_test true = refl
    by_test false = refl

pub found_none : (free : ℕ → Bool) (test : Kind → Bool) (count s : ℕ) → count ≤ s → found_from free test count s ≡ None
found_none free test count s h = let e : count - s ≡ 0 = omega arith in ap (λ n. find test (map Old (filter free (range_with_len s n)))) e

module _ (m : Mill) (o : ℕ) (slabs : List Column) where
  abbrev pub is_free : ℕ → Bool
  is_free s = not (list_any (is_old s) (kinds_of slabs))

  abbrev pub holds : Kind → Bool
  holds kind = takes m o (empty kind)

  abbrev pub surplus_from : ℕ → Option Kind
  surplus_from s = found_from is_free holds (length m.yard) s

  pub surplus_first : find holds (free_kinds m slabs) ≡ surplus_from 0
  surplus_first = let e : length m.yard ≡ length m.yard - 0 = omega arith in ap (λ n. find holds (map Old (filter is_free (range_with_len 0 n)))) e

  pub surplus_here : (s : ℕ) → s < length m.yard → list_any (is_old s) (kinds_of slabs) ≡ false → takes m o (empty (Old s)) ≡ true → Some (Old s) ≡ surplus_from s
  surplus_here s h free held = sym (found_more is_free holds (length m.yard) s h ∙ rw (free, held) refl)

  pub surplus_open : (s : ℕ) → s < length m.yard → list_any (is_old s) (kinds_of slabs) ≡ true → surplus_from s ≡ surplus_from (s + 1)
  surplus_open s h open' = found_more is_free holds (length m.yard) s h ∙ rw open' refl

  pub surplus_full : (s : ℕ) → s < length m.yard → takes m o (empty (Old s)) ≡ false → surplus_from s ≡ surplus_from (s + 1)
  surplus_full s h full = found_more is_free holds (length m.yard) s h ∙ rw full (either (is_free s))
    where
      either : (b : Bool) → cond b (surplus_from (s + 1)) (surplus_from (s + 1)) ≡ surplus_from (s + 1)
      either true = refl
      either false = refl
