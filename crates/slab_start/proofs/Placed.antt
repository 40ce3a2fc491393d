-- First fit's next order keeps the slabs filled.
use Rattle.std.proofs.Common.{◌≡◌, ℕ, ℤ, List, [], ◌∷◌, ◌++◌, get_or, set, Option, Some, None, refl, subst}
use Rattle.std.specs.Option.{option_map, option_or}
use Rattle.std.specs.List.{find, position}
use Rattle.std.proofs.lemmas.Option.{same_Some, option_and_then_some}
use Rattle.mill_model.specs.declared.kind.Kind.{Kind}
use Rattle.mill_model.specs.declared.kind.Kind.TheVariants.{New}
use Rattle.mill_model.specs.Mill.{Mill}
use Rattle.mill_model.specs.Columns.{Column}
use Rattle.slab_filling.specs.Slabs.{empty, with_order, takes}
use Rattle.slab_filling.specs.Placing.{kinds_to_open}
use Rattle.slab_start.specs.FirstFit.{on_opened, place_order, place_orders}
use Rattle.slab_filling.proofs.Counts.{find_has}
use Rattle.slab_filling.proofs.Filled.{AreFilled, IsOpenable, all_openable, put_first, put_opened}

module _ (m : Mill) (limit : Option ℤ) (o : ℕ) (left : List ℕ) (slabs : List Column) (f : AreFilled m limit (o ∷ left) slabs) where
  pub put_order : (next : List Column) → place_order m limit o slabs ≡ Some next → AreFilled m limit left next
  put_order next e = by_first (position (takes m o) slabs) refl e
    where
      by_opened : (found : Option Kind) → find (λ kind. takes m o (empty kind)) (kinds_to_open m limit slabs) ≡ found → option_map (λ kind. slabs ++ with_order o (empty kind) ∷ []) found ≡ Some next → AreFilled m limit left next
      by_opened None q e = cc
      by_opened (Some kind) q e =
          let it = find_has (IsOpenable m limit slabs) (λ k. takes m o (empty k)) (kinds_to_open m limit slabs) kind (all_openable m limit slabs) q in
          subst (AreFilled m limit left) (same_Some (slabs ++ with_order o (empty kind) ∷ []) next e) (put_opened m limit o left slabs f kind it.0 it.1)

      by_first : (found : Option ℕ) → position (takes m o) slabs ≡ found
          → option_or (option_map (λ k. set slabs k (with_order o (get_or slabs k (empty (New 0))))) found) (on_opened m limit o slabs) ≡ Some next → AreFilled m limit left next
      by_first None q e = by_opened (find (λ kind. takes m o (empty kind)) (kinds_to_open m limit slabs)) refl e
      by_first (Some k) q e = subst (AreFilled m limit left) (same_Some (set slabs k (with_order o (get_or slabs k (empty (New 0))))) next e) (put_first m limit o left slabs f k q)

pub put_orders : (m : Mill) (limit : Option ℤ) (orders : List ℕ) (slabs filled : List Column) → AreFilled m limit orders slabs → place_orders m limit orders slabs ≡ Some filled → AreFilled m limit [] filled
put_orders m limit [] slabs filled f e = subst (AreFilled m limit []) (same_Some slabs filled e) f
put_orders m limit (o ∷ orders) slabs filled f e =
    option_and_then_some (place_orders m limit orders) (place_order m limit o slabs) filled e
    (λ next p q. put_orders m limit orders next filled (put_order m limit o orders slabs f next p) q)
