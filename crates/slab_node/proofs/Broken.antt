-- Where a plan's places are right and no surplus slab is used twice, the first rule that it breaks is that of a slab that doesn't fit.
use Rattle.std.proofs.Common.{◌≡◌, ℕ, zero, suc, ◌+◌, ◌<◌, ◌≤◌, Bool, List, [], ◌∷◌, map, length, get_or, find, flat_map, count_by, refl, sym, ap, ◌∙◌, subst, inl, inr, arith, Option, Some, None}
use Rattle.std.specs.List.{range_with_len, AllByRecursion}
use Rattle.std.specs.Option.{option_or}
use Rattle.std.proofs.lemmas.Bool.{cases_Bool}
use Rattle.std.proofs.lemmas.List.Folds.{find-append}
use Rattle.std.proofs.lemmas.List.Concat.{flat_map-cons}
use Rattle.mill_model.specs.declared.illegal.Illegal.{Illegal}
use Rattle.mill_model.specs.declared.illegal.Illegal.TheVariants.{Places, Place}
use Rattle.mill_model.specs.Mill.{Mill}
use Rattle.mill_model.specs.Columns.{Fits, is_old}
use Rattle.mill_model.specs.Plans.{Plan, slab}
use Rattle.mill_model.specs.Judging.{breaks, slab_rules, first_broken}
use Rattle.mill_model.proofs.FirstBroken.{find-none_append}
use Rattle.mill_model.proofs.Rules.{no_place, from_sound, sound_where_fits}
use Rattle.slab_node.specs.Misfits.{slab_number}

-- what is found is as each of the list
found : {X : Type 0} (P : X → Type 0) (test : X → Bool) (xs : List X) (x : X) → AllByRecursion P xs → find test xs ≡ Some x → P x
found P test [] x all e = cc
found P test (y ∷ xs) x all e = elim (cases_Bool (test y)) [
  | inl t ↦ subst P (some (rw t at e)) all.0
  | inr f ↦ found P test xs x all.1 (rw f at e)
]
  where
    some : Some y ≡ Some x → y ≡ x
    some q = cc

-- what is found in one of many lists
record IsFoundIn {X : Type 0} (test : X → Bool) (f : ℕ → List X) (first n : ℕ) (x : X) : Type 0 where
  number : ℕ
  from : first ≤ number
  below : number < first + n
  there : find test (f number) ≡ Some x

found_in : {X : Type 0} (test : X → Bool) (f : ℕ → List X) (first n : ℕ) (x : X) → find test (flat_map f (range_with_len first n)) ≡ Some x → IsFoundIn test f first n x
found_in test f first zero x e = cc
found_in {X = X} test f first (suc n) x e =
    let parts : option_or (find test (f first)) (find test (flat_map f (range_with_len (first + 1) n))) ≡ Some x =
    sym (find-append test (f first) (flat_map f (range_with_len (first + 1) n))) ∙ ap (find test) (sym (flat_map-cons f first (range_with_len (first + 1) n))) ∙ e in
    by (find test (f first)) refl parts (λ q. found_in test f (first + 1) n x q)
  where
    by : (o : Option X) → find test (f first) ≡ o → option_or o (find test (flat_map f (range_with_len (first + 1) n))) ≡ Some x → (find test (flat_map f (range_with_len (first + 1) n)) ≡ Some x → IsFoundIn test f (first + 1) n x) → IsFoundIn test f first (suc n) x
    by (Some y) here q rest = record { number = first; from = omega arith; below = omega arith; there = here ∙ q }
    by None here q rest = let r = rest q in record { number = r.number; from = omega (arith, r.from); below = omega (arith, r.below); there = r.there }

-- a slab of the plan that doesn't fit
pub record IsMisfit (m : Mill) (p : Plan) (rule : Illegal) : Type 0 where
  pub slab_is : ℕ
  pub inside : slab_is < length p.kinds
  pub number : slab_number rule ≡ Some slab_is
  pub misfit : Fits m (slab p slab_is) → ⊥

pub first_misfit : (m : Mill) (p : Plan) (rule : Illegal) → length p.place ≡ length m.orders → ((o : ℕ) → o < length p.place → get_or p.place o 0 < length p.kinds) → ((s : ℕ) → count_by (is_old s) p.kinds ≤ 1) → first_broken m p ≡ Some rule → IsMisfit m p rule
first_misfit m p rule places within once broken =
    let among : find (breaks m p) (flat_map slab_rules (range_with_len 0 (length p.kinds))) ≡ Some rule =
    sym (find-none_append (breaks m p) (Places ∷ map Place (range_with_len 0 (length p.place))) (flat_map slab_rules (range_with_len 0 (length p.kinds))) (no_place m p places within)) ∙ broken in
    let it = found_in (breaks m p) slab_rules 0 (length p.kinds) rule among in
    record {
      slab_is = it.number;
      inside = omega (arith, it.below);
      number = found (λ (r : Illegal). slab_number r ≡ Some it.number) (breaks m p) (slab_rules it.number) rule (numbers it.number) it.there;
      misfit = λ fits. none (sym (from_sound m p it.number (sound_where_fits m p it.number (omega (arith, it.below)) once fits)) ∙ it.there);
    }
  where
    numbers : (k : ℕ) → AllByRecursion (λ (r : Illegal). slab_number r ≡ Some k) (slab_rules k)
    numbers k = (refl, (refl, (refl, (refl, (refl, (refl, (refl, tt)))))))

    none : None ≡ Some rule → ⊥
    none e = cc
