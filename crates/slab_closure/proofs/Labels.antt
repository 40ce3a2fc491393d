use Rattle.std.proofs.Common.{◌≡◌, ◌≢◌, ℕ, zero, suc, ◌<◌, ◌≤◌, Bool, true, false, arith, refl, ap, sym, subst, ◌∙◌, inl, inr}
use Rattle.std.specs.Prelude.{if◌then◌else◌, nat_lt}
use Rattle.std.proofs.lemmas.Bool.{cases_lt, cases_eq}
use Rattle.slab_closure.specs.declared.relation.Relation.{Relation}
use Rattle.slab_closure.specs.declared.relation.Relation.TheVariants.{Same, Apart}
use Rattle.slab_closure.specs.Cells.{is_same, merged, separated, start_of}
use Rattle.slab_closure.specs.Relations.{Table, IsClosed, decided_table}
use Rattle.slab_closure.specs.Labels.{Holds, AllHold, Decides}
use Rattle.slab_closure.proofs.Closed.{merge_table, separate_table}
use Rattle.slab_closure.proofs.Starts.{start_same, start_apart_is}

-- the first number below n + 1, from the first number k below n and whether n passes
abbrev pub next_first : ℕ → ℕ → Bool → ℕ
next_first k n here = if nat_lt k n then k else if here then n else suc n

-- the least number below n that passes, or n
abbrev pub first : (ℕ → Bool) → ℕ → ℕ
first p zero = zero
first p (suc n) = next_first (first p n) n (p n)

-- what the first number is
pub record IsFirst (p : ℕ → Bool) (n k : ℕ) : Type 0 where
  pub within : k ≤ n
  pub passes : k < n → p k ≡ true
  pub least : (m : ℕ) → m < n → p m ≡ true → k ≤ m

-- the parts of a step, each over plain numbers
next_within : (k n : ℕ) (here : Bool) → k ≤ n → next_first k n here ≤ suc n
next_within k n here h = grind arith

next_passes : (p : ℕ → Bool) (k n : ℕ) (here : Bool) → here ≡ p n → k ≤ n → (k < n → p k ≡ true) → next_first k n here < suc n → p (next_first k n here) ≡ true
next_passes p k n here e w h less = grind arith

next_least : (p : ℕ → Bool) (k n : ℕ) (here : Bool) → here ≡ p n → k ≤ n → ((m : ℕ) → m < n → p m ≡ true → k ≤ m) → (m : ℕ) → m < suc n → p m ≡ true → next_first k n here ≤ m
next_least p k n here e w h m less pass =
    elim (cases_lt m n) [
      | inl l ↦ below k n m here (h m l pass) l
      | inr g ↦ let same : m ≡ n = omega arith in subst (λ x. next_first k n here ≤ x) (sym same) (at_end k n here (e ∙ ap p (sym same) ∙ pass) w)
    ]
  where
    below : (k n m : ℕ) (here : Bool) → k ≤ m → m < n → next_first k n here ≤ m
    below k n m here h l = grind arith

    at_end : (k n : ℕ) (here : Bool) → here ≡ true → k ≤ n → next_first k n here ≤ n
    at_end k n here e h = grind arith

pub first_is : (p : ℕ → Bool) (n : ℕ) → IsFirst p n (first p n)
first_is p zero = record { within = omega arith; passes = λ h. absurd (omega arith); least = λ m h e. absurd (omega arith) }
first_is p (suc n) =
    let rest : IsFirst p n (first p n) = first_is p n in
    record {
      within = next_within (first p n) n (p n) rest.within;
      passes = next_passes p (first p n) n (p n) refl rest.within rest.passes;
      least = next_least p (first p n) n (p n) refl rest.within rest.least;
    }

pub first_same : (p q : ℕ → Bool) (n : ℕ) → ((k : ℕ) → k < n → p k ≡ q k) → first p n ≡ first q n
first_same p q zero h = refl
first_same p q (suc n) h =
    let rest : first p n ≡ first q n = first_same p q n (λ k i. h k (omega arith)) in
    let here : p n ≡ q n = h n (omega arith) in
    ap (λ k. next_first k n (p n)) rest ∙ ap (next_first (first q n) n) here

same_is : (r : Relation) → is_same r ≡ true → r ≡ Same
same_is r h = grind arith

-- the label of a node: the least node of its group
abbrev pub label_of : ℕ → Table → ℕ → ℕ
label_of n at x = first (λ c. is_same (at x c)) n

-- a node's label is a node of its group, and none is less
pub label_in_group : (n slabs x : ℕ) (at : Table) → IsClosed n slabs at → x < n → (label_of n at x ≤ x) × (at x (label_of n at x) ≡ Same)
label_in_group n slabs x at h i =
    let found : IsFirst (λ c. is_same (at x c)) n (label_of n at x) = first_is (λ c. is_same (at x c)) n in
    let low : label_of n at x ≤ x = found.least x i (ap is_same (h.itself x i)) in
    (low, same_is (at x (label_of n at x)) (found.passes (omega arith)))

-- nodes of one group have one label
pub same_label : (n slabs x y : ℕ) (at : Table) → IsClosed n slabs at → x < n → y < n → at x y ≡ Same → label_of n at x ≡ label_of n at y
same_label n slabs x y at h i j same =
    first_same (λ c. is_same (at x c)) (λ c. is_same (at y c)) n (λ c k. ap is_same (h.shared x y c i j k same))

-- nodes with one label lie in one group
pub one_group : (n slabs x y : ℕ) (at : Table) → IsClosed n slabs at → x < n → y < n → label_of n at x ≡ label_of n at y → at x y ≡ Same
one_group n slabs x y at h i j e =
    let c : ℕ = label_of n at x in
    let mine : (c ≤ x) × (at x c ≡ Same) = label_in_group n slabs x at h i in
    let yours : (label_of n at y ≤ y) × (at y (label_of n at y) ≡ Same) = label_in_group n slabs y at h j in
    let inside : c < n = omega (arith, mine.0) in
    let there : at y c ≡ Same = subst (λ (k : ℕ). at y k ≡ Same) (sym e) yours.1 in
    h.shared x c y i inside j mine.1 ∙ h.symmetric c y inside j ∙ there

-- a slab's label is the slab
pub slab_label : (n slabs s : ℕ) (at : Table) → IsClosed n slabs at → slabs ≤ n → s < slabs → label_of n at s ≡ s
slab_label n slabs s at h w i =
    let found : (label_of n at s ≤ s) × (at s (label_of n at s) ≡ Same) = label_in_group n slabs s at h (omega arith) in
    elim (cases_eq (label_of n at s) s) [
      | inl e ↦ e
      | inr ne ↦ absurd (apart_same (at s (label_of n at s)) (h.distinct s (label_of n at s) i (omega (arith, found.0)) (λ e. ne (sym e))) found.1)
    ]
  where
    apart_same : (r : Relation) → r ≡ Apart → r ≡ Same → ⊥
    apart_same r e f = cc

-- the merged table says no more than the labels that make the two groups one
pub merge_holds : (n slabs a b : ℕ) (at : Table) {A : Type 0} (label : ℕ → A) → IsClosed n slabs at → a < n → b < n → AllHold n at label → label a ≡ label b → AllHold n (merge_table at a b) label
merge_holds n slabs a b at label h p q all e x y i j =
    merged_holds (label x) (label y) (label a) (label b) _ _ _ _ _ e (all x a i p) (all x b i q) (all y a j p) (all y b j q) (all x y i j)
  where
    merged_same : {A : Type 0} (x y a b : A) (xa xb ya yb xy : Relation) → a ≡ b → Holds x a xa → Holds x b xb → Holds y a ya → Holds y b yb → Holds x y xy → merged xa xb ya yb xy ≡ Same → x ≡ y
    merged_same x y a b xa xb ya yb xy e h1 h2 h3 h4 h5 s = grind arith

    merged_apart : {A : Type 0} (x y a b : A) (xa xb ya yb xy : Relation) → a ≡ b → Holds x a xa → Holds x b xb → Holds y a ya → Holds y b yb → Holds x y xy → merged xa xb ya yb xy ≡ Apart → x ≡ y → ⊥
    merged_apart x y a b xa xb ya yb xy e h1 h2 h3 h4 h5 s f = grind arith

    merged_holds : {A : Type 0} (x y a b : A) (xa xb ya yb xy : Relation) → a ≡ b → Holds x a xa → Holds x b xb → Holds y a ya → Holds y b yb → Holds x y xy → Holds x y (merged xa xb ya yb xy)
    merged_holds x y a b xa xb ya yb xy e h1 h2 h3 h4 h5 =
        record { same = merged_same x y a b xa xb ya yb xy e h1 h2 h3 h4 h5; apart = merged_apart x y a b xa xb ya yb xy e h1 h2 h3 h4 h5 }

-- the separated table says no more than labels that tell the two groups apart
pub separate_holds : (n slabs a b : ℕ) (at : Table) {A : Type 0} (label : ℕ → A) → IsClosed n slabs at → a < n → b < n → AllHold n at label → label a ≢ label b → AllHold n (separate_table at a b) label
separate_holds n slabs a b at label h p q all e x y i j =
    separated_holds (label x) (label y) (label a) (label b) _ _ _ _ _ e (all x a i p) (all x b i q) (all y a j p) (all y b j q) (all x y i j)
  where
    separated_same : {A : Type 0} (x y a b : A) (xa xb ya yb xy : Relation) → a ≢ b → Holds x a xa → Holds x b xb → Holds y a ya → Holds y b yb → Holds x y xy → separated xa xb ya yb xy ≡ Same → x ≡ y
    separated_same x y a b xa xb ya yb xy e h1 h2 h3 h4 h5 s = grind arith

    separated_apart : {A : Type 0} (x y a b : A) (xa xb ya yb xy : Relation) → a ≢ b → Holds x a xa → Holds x b xb → Holds y a ya → Holds y b yb → Holds x y xy → separated xa xb ya yb xy ≡ Apart → x ≡ y → ⊥
    separated_apart x y a b xa xb ya yb xy e h1 h2 h3 h4 h5 s f = grind arith

    separated_holds : {A : Type 0} (x y a b : A) (xa xb ya yb xy : Relation) → a ≢ b → Holds x a xa → Holds x b xb → Holds y a ya → Holds y b yb → Holds x y xy → Holds x y (separated xa xb ya yb xy)
    separated_holds x y a b xa xb ya yb xy e h1 h2 h3 h4 h5 =
        record { same = separated_same x y a b xa xb ya yb xy e h1 h2 h3 h4 h5; apart = separated_apart x y a b xa xb ya yb xy e h1 h2 h3 h4 h5 }

-- what a table says once it is decided holds of all labels that agree with the decision
pub decided_holds : (yes : Bool) (n slabs a b : ℕ) (at : Table) {A : Type 0} (label : ℕ → A) → IsClosed n slabs at → a < n → b < n → AllHold n at label → Decides yes (label a) (label b) → AllHold n (decided_table yes at a b) label
decided_holds true n slabs a b at label h p q all e = merge_holds n slabs a b at label h p q all e
decided_holds false n slabs a b at label h p q all e = separate_holds n slabs a b at label h p q all e

-- what a table says before any decision holds of all labels that tell the slabs apart
pub start_holds : (n slabs : ℕ) (at : Table) {A : Type 0} (label : ℕ → A) → ((x y : ℕ) → x < n → y < n → at x y ≡ start_of slabs x y) → ((s t : ℕ) → s < slabs → t < slabs → label s ≡ label t → s ≡ t) → AllHold n at label
start_holds n slabs at label e distinct x y i j = record {
  same = λ f. ap label (start_same slabs x y (sym (e x y i j) ∙ f));
  apart = λ f g. let a = start_apart_is slabs x y (sym (e x y i j) ∙ f) in a.2 (distinct x y a.0 a.1 g);
}
