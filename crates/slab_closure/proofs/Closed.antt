use Rattle.std.proofs.Common.{◌≡◌, ◌≢◌, ℕ, ◌<◌, ◌≤◌, Bool, true, false, ◌||◌, arith, sym, subst, ◌∙◌}
use Rattle.slab_closure.specs.declared.relation.Relation.{Relation}
use Rattle.slab_closure.specs.declared.relation.Relation.TheVariants.{Open, Same, Apart}
use Rattle.slab_closure.specs.Cells.{is_same, merged, separated}
use Rattle.slab_closure.specs.Relations.{Table, IsClosed, decided_table}

-- the table once the groups of a and b are one
abbrev pub merge_table : Table → ℕ → ℕ → Table
merge_table at a b x y = merged (at x a) (at x b) (at y a) (at y b) (at x y)

abbrev pub separate_table : Table → ℕ → ℕ → Table
separate_table at a b x y = separated (at x a) (at x b) (at y a) (at y b) (at x y)

-- whether a node lies in the group of a or of b
abbrev pub inside : Table → ℕ → ℕ → ℕ → Bool
inside at a b x = is_same (at x a) || is_same (at x b)

merge_itself : (p q : Relation) → merged p q p q Same ≡ Same
merge_itself p q = grind arith

combined_comm : (p q r s : Relation) → (t : Relation) → merged p q r s t ≡ merged r s p q t
combined_comm p q r s t = grind arith

shared_case : (xa xb ya yb za zb xz yz xy : Relation) → merged xa xb ya yb xy ≡ Same → (xy ≡ Same → (xa ≡ ya) × (xb ≡ yb) × (xz ≡ yz)) → merged xa xb za zb xz ≡ merged ya yb za zb yz
shared_case xa xb ya yb za zb xz yz xy same h = grind arith

-- what is known of y, where x lies in the group of a
record Near (xa xb ya xy : Relation) : Type 0 where
  other : xa ≡ Same → xb ≡ Open
  third : xa ≡ Same → ya ≡ xy

apart_case : (xa xb ya yb xy : Relation) → xy ≡ Apart → Near xa xb ya xy → Near xb xa yb xy → Near ya yb xa xy → Near yb ya xb xy → merged xa xb ya yb xy ≡ Apart
apart_case xa xb ya yb xy e h k l m = grind arith

same_case : (xa xb ya yb xy : Relation) → xy ≡ Same → xa ≡ ya → xb ≡ yb → merged xa xb ya yb xy ≡ Same
same_case xa xb ya yb xy e f g = grind arith

near : (n slabs a b : ℕ) (at : Table) → IsClosed n slabs at → a < n → b < n → at a b ≡ Open → (x y : ℕ) → x < n → y < n → Near (at x a) (at x b) (at y a) (at x y)
near n slabs a b at h p q e x y i j =
    record {
      other = λ same. h.shared x a b i p q same ∙ e;
      third = λ same. h.symmetric y a j p ∙ sym (h.shared x a y i p j same);
    }

-- an apart pair stays apart
pub merge_keeps_apart : (n slabs a b : ℕ) (at : Table) → IsClosed n slabs at → a < n → b < n → at a b ≡ Open → (x y : ℕ) → x < n → y < n → at x y ≡ Apart → merge_table at a b x y ≡ Apart
merge_keeps_apart n slabs a b at h p q e x y i j apart =
    let e' : at b a ≡ Open = h.symmetric b a q p ∙ e in
    let back : at y x ≡ at x y = h.symmetric y x j i in
    apart_case _ _ _ _ _ apart
    (near n slabs a b at h p q e x y i j)
    (near n slabs b a at h q p e' x y i j)
    (subst (λ (r : Relation). Near (at y a) (at y b) (at x a) r) back (near n slabs a b at h p q e y x j i))
    (subst (λ (r : Relation). Near (at y b) (at y a) (at x b) r) back (near n slabs b a at h q p e' y x j i))

-- a pair in one group stays so
pub merge_keeps_same : (n slabs a b : ℕ) (at : Table) → IsClosed n slabs at → a < n → b < n → (x y : ℕ) → x < n → y < n → at x y ≡ Same → merge_table at a b x y ≡ Same
merge_keeps_same n slabs a b at h p q x y i j same = same_case _ _ _ _ _ same (h.shared x y a i j p same) (h.shared x y b i j q same)

pub merge_closed : (n slabs a b : ℕ) (at : Table) → a < n → b < n → slabs ≤ n → at a b ≡ Open → IsClosed n slabs at → IsClosed n slabs (merge_table at a b)
merge_closed n slabs a b at p q r e h =
    record {
      itself = λ x i. rw (h.itself x i) (merge_itself (at x a) (at x b));
      symmetric = λ x y i j. rw (h.symmetric x y i j) (combined_comm (at x a) (at x b) (at y a) (at y b) (at y x));
      shared = λ x y z i j k same.
          shared_case _ _ _ _ _ _ _ _ _ same (λ s. (h.shared x y a i j p s, h.shared x y b i j q s, h.shared x y z i j k s));
      distinct = λ x y i j ne. merge_keeps_apart n slabs a b at h p q e x y (omega arith) (omega arith) (h.distinct x y i j ne);
    }

-- the same for two groups that are told apart
separated_shared : (xa xb ya yb za zb xz yz xy : Relation) → separated xa xb ya yb xy ≡ Same → (xy ≡ Same → (xa ≡ ya) × (xb ≡ yb) × (xz ≡ yz)) → separated xa xb za zb xz ≡ separated ya yb za zb yz
separated_shared xa xb ya yb za zb xz yz xy same h = grind arith

separated_comm : (p q r s t : Relation) → separated p q r s t ≡ separated r s p q t
separated_comm p q r s t = grind arith

separated_itself : (xa xb : Relation) → (xa ≡ Same → xb ≢ Same) → separated xa xb xa xb Same ≡ Same
separated_itself xa xb h = grind arith

separated_apart_stays : (xa xb ya yb xy : Relation) → xy ≡ Apart → separated xa xb ya yb xy ≡ Apart
separated_apart_stays xa xb ya yb xy e = grind arith

separated_same_stays : (xa xb ya yb xy : Relation) → xy ≡ Same → xa ≡ ya → xb ≡ yb → (xa ≡ Same → xb ≢ Same) → separated xa xb ya yb xy ≡ Same
separated_same_stays xa xb ya yb xy e f g h = grind arith

-- no node lies in both groups
never_both : (n slabs a b : ℕ) (at : Table) → IsClosed n slabs at → a < n → b < n → at a b ≢ Same → (x : ℕ) → x < n → at x a ≡ Same → at x b ≢ Same
never_both n slabs a b at h p q e x i s t = e (sym (h.shared x a b i p q s) ∙ t)

pub separate_closed : (n slabs a b : ℕ) (at : Table) → a < n → b < n → slabs ≤ n → at a b ≢ Same → IsClosed n slabs at → IsClosed n slabs (separate_table at a b)
separate_closed n slabs a b at p q r e h =
    record {
      itself = λ x i. rw (h.itself x i) (separated_itself (at x a) (at x b) (never_both n slabs a b at h p q e x i));
      symmetric = λ x y i j. rw (h.symmetric x y i j) (separated_comm (at x a) (at x b) (at y a) (at y b) (at y x));
      shared = λ x y z i j k same.
          separated_shared _ _ _ _ _ _ _ _ _ same (λ s. (h.shared x y a i j p s, h.shared x y b i j q s, h.shared x y z i j k s));
      distinct = λ x y i j ne. separated_apart_stays _ _ _ _ _ (h.distinct x y i j ne);
    }

-- a decision on an open pair leaves a closed table
pub decided_closed : (yes : Bool) (n slabs a b : ℕ) (at : Table) → a < n → b < n → slabs ≤ n → at a b ≡ Open → IsClosed n slabs at → IsClosed n slabs (decided_table yes at a b)
decided_closed true n slabs a b at p q r e h = merge_closed n slabs a b at p q r e h
decided_closed false n slabs a b at p q r e h = separate_closed n slabs a b at p q r (not_same (at a b) e) h
  where
    not_same : (t : Relation) → t ≡ Open → t ≢ Same
    not_same t f g = cc

-- what a table says stays after a decision on an open pair
pub decided_keeps_same : (answer : Bool) (n slabs a b : ℕ) (at : Table) → IsClosed n slabs at → a < n → b < n → at a b ≡ Open → (x y : ℕ) → x < n → y < n → at x y ≡ Same → decided_table answer at a b x y ≡ Same
decided_keeps_same true n slabs a b at h p q e x y i j same = merge_keeps_same n slabs a b at h p q x y i j same
decided_keeps_same false n slabs a b at h p q e x y i j same = separated_same_stays _ _ _ _ _ same (h.shared x y a i j p same) (h.shared x y b i j q same) (never_both n slabs a b at h p q (not_same (at a b) e) x i)
  where
    not_same : (t : Relation) → t ≡ Open → t ≢ Same
    not_same t f g = cc

pub decided_keeps_apart : (answer : Bool) (n slabs a b : ℕ) (at : Table) → IsClosed n slabs at → a < n → b < n → at a b ≡ Open → (x y : ℕ) → x < n → y < n → at x y ≡ Apart → decided_table answer at a b x y ≡ Apart
decided_keeps_apart true n slabs a b at h p q e x y i j apart = merge_keeps_apart n slabs a b at h p q e x y i j apart
decided_keeps_apart false n slabs a b at h p q e x y i j apart = separated_apart_stays _ _ _ _ _ apart

-- and the pair itself is decided
joined_pair : (aa ab ba bb : Relation) → aa ≡ Same → bb ≡ Same → merged aa ab ba bb ab ≡ Same
joined_pair aa ab ba bb f g = grind arith

parted_pair : (aa ab ba bb : Relation) → aa ≡ Same → bb ≡ Same → separated aa ab ba bb ab ≡ Apart
parted_pair aa ab ba bb f g = grind arith

pub joined_itself : (n slabs a b : ℕ) (at : Table) → IsClosed n slabs at → a < n → b < n → decided_table true at a b a b ≡ Same
joined_itself n slabs a b at h p q = joined_pair (at a a) (at a b) (at b a) (at b b) (h.itself a p) (h.itself b q)

pub parted_itself : (n slabs a b : ℕ) (at : Table) → IsClosed n slabs at → a < n → b < n → decided_table false at a b a b ≡ Apart
parted_itself n slabs a b at h p q = parted_pair (at a a) (at a b) (at b a) (at b b) (h.itself a p) (h.itself b q)
