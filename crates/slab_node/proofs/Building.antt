-- One order more of a plan that is built.
use Rattle.std.proofs.Common.{◌≡◌, ◌⊎◌, ℕ, suc, ◌+◌, ◌<◌, Bool, true, false, cond, eqb, List, [], ◌∷◌, ◌++◌, length, get_or, sym, refl, ap, ◌∙◌, inl, inr, arith, length-append, add-one, pos, sum_by}
use Rattle.std.specs.List.{position_or_len}
use Rattle.std.proofs.lemmas.Int.{ints}
use Rattle.std.proofs.lemmas.List.Sums.{sum_by_push}
use Rattle.mill_model.specs.SignedSums.{total_below}
use Rattle.std.proofs.lemmas.Bool.{eq-eqb, ne_eqb, cases_eq}
use Rattle.std.proofs.lemmas.List.Folds.{position_or_len_push}
use Rattle.std.proofs.lemmas.List.Sums.{position_or_len_is}
use Rattle.std.proofs.Math.ListN.{get_or-append}
use Rattle.std.proofs.Math.Seq.{get_or-append_seam}
use Rattle.mill_model.specs.declared.kind.Kind.{Kind}
use Rattle.mill_model.specs.declared.kind.Kind.TheVariants.{New}
use Rattle.pricing_laws.specs.Groups.{head_of}
use Rattle.slab_node.specs.Grouped.{IsGrouping, kind_at}
use Rattle.slab_node.specs.Built.{IsBuilt}

-- a number of a list with one more: an earlier one, or the last
abbrev ReadsAs : List ℕ → ℕ → ℕ → ℕ → Type 0
ReadsAs place x count o = ((o < count) × (get_or (place ++ x ∷ []) o 0 ≡ get_or place o 0)) ⊎ ((o ≡ count) × (get_or (place ++ x ∷ []) o 0 ≡ x))

reads : (place : List ℕ) (x count o : ℕ) → length place ≡ count → o < count + 1 → ReadsAs place x count o
reads place x count o e h = elim (cases_eq o count) [
  | inl q ↦ inr (q, ap (λ (z : ℕ). get_or (place ++ x ∷ []) z 0) (q ∙ sym e) ∙ get_or-append_seam place x [] 0)
  | inr ne ↦ let less : o < count = omega arith in inl (less, get_or-append place (x ∷ []) 0 o (omega arith))
]

found_stays : (test : ℕ → Bool) (place : List ℕ) (x : ℕ) → position_or_len test place < length place → position_or_len test (place ++ x ∷ []) ≡ position_or_len test place
found_stays test place x h =
    let apart : eqb (position_or_len test place) (length place) ≡ false = ne_eqb (position_or_len test place) (length place) (λ q. omega arith) in
    position_or_len_push test place x ∙ ap (λ (b : Bool). cond b (length place + cond (test x) 0 1) (position_or_len test place)) apart

no_more : (n : ℕ) (b : Bool) → b ≡ true → n + cond b 0 1 ≡ n
no_more n true e = omega arith
no_more n false e = cc

last_found : (test : ℕ → Bool) (place : List ℕ) (x : ℕ) → ((k : ℕ) → k < length place → test (get_or place k 0) ≡ false) → test x ≡ true → position_or_len test (place ++ x ∷ []) ≡ length place
last_found test place x none t =
    let missing : position_or_len test place ≡ length place = position_or_len_is test place (length place) 0 (omega arith) none (λ h. absurd (omega arith)) in
    let same : eqb (position_or_len test place) (length place) ≡ true = eq-eqb (position_or_len test place) (length place) missing in
    position_or_len_push test place x ∙ ap (λ (b : Bool). cond b (length place + cond (test x) 0 1) (position_or_len test place)) same ∙ no_more (length place) (test x) t

-- an order of a group that is there
pub built_old : (heads : List ℕ) (kinds : List Kind) (i : ℕ) (used : List Kind) (place : List ℕ) → IsGrouping heads → i < length heads → head_of heads i < i → IsBuilt heads kinds i used place → IsBuilt heads kinds (i + 1) used (place ++ get_or place (head_of heads i) 0 ∷ [])
built_old heads kinds i used place grouping inside earlier built = record {
  size = omega (arith, length-append place (get_or place (head_of heads i) 0 ∷ []), built.size);
  within = λ o h. elim (reads place (get_or place (head_of heads i) 0) i o built.size h) [
    | inl r ↦ rw r.1 (built.within o r.0)
    | inr r ↦ rw r.1 (built.within (head_of heads i) earlier)
  ];
  joined = λ a b h l e. elim (reads place (get_or place (head_of heads i) 0) i a built.size h) [
    | inl r ↦ elim (reads place (get_or place (head_of heads i) 0) i b built.size l) [
      | inl s ↦ r.1 ∙ built.joined a b r.0 s.0 e ∙ sym s.1
      | inr s ↦ r.1 ∙ built.joined a (head_of heads i) r.0 earlier (e ∙ ap (head_of heads) s.0 ∙ sym own) ∙ sym s.1
    ]
    | inr r ↦ elim (reads place (get_or place (head_of heads i) 0) i b built.size l) [
      | inl s ↦ r.1 ∙ built.joined (head_of heads i) b earlier s.0 (own ∙ ap (head_of heads) (sym r.0) ∙ e) ∙ sym s.1
      | inr s ↦ r.1 ∙ sym s.1
    ]
  ];
  parted = λ a b h l e. elim (reads place (get_or place (head_of heads i) 0) i a built.size h) [
    | inl r ↦ elim (reads place (get_or place (head_of heads i) 0) i b built.size l) [
      | inl s ↦ built.parted a b r.0 s.0 (sym r.1 ∙ e ∙ s.1)
      | inr s ↦ built.parted a (head_of heads i) r.0 earlier (sym r.1 ∙ e ∙ s.1) ∙ own ∙ ap (head_of heads) (sym s.0)
    ]
    | inr r ↦ elim (reads place (get_or place (head_of heads i) 0) i b built.size l) [
      | inl s ↦ ap (head_of heads) r.0 ∙ sym own ∙ built.parted (head_of heads i) b earlier s.0 (sym r.1 ∙ e ∙ s.1)
      | inr s ↦ ap (head_of heads) (r.0 ∙ sym s.0)
    ]
  ];
  kind = λ o h. elim (reads place (get_or place (head_of heads i) 0) i o built.size h) [
    | inl r ↦ ap (λ (z : ℕ). get_or used z (New 0)) r.1 ∙ built.kind o r.0
    | inr r ↦ ap (λ (z : ℕ). get_or used z (New 0)) r.1 ∙ built.kind (head_of heads i) earlier ∙ ap (λ (z : ℕ). get_or kinds z (New 0)) (own ∙ ap (head_of heads) (sym r.0))
  ];
  rising = λ k h. omega (arith, built.rising k h, stays k (omega arith), stays (suc k) h);
  filled = λ k h. omega (arith, built.filled k h, stays k h);
  total = λ f. built.total f ∙ no_slab f;
}
  where
    own : head_of heads (head_of heads i) ≡ head_of heads i
    own = grouping.fixed i inside

    no_slab : (f : Kind → ℕ) → total_below i (λ o. cond (eqb (head_of heads o) o) (pos (f (kind_at kinds o))) (pos 0)) ≡ total_below (i + 1) (λ o. cond (eqb (head_of heads o) o) (pos (f (kind_at kinds o))) (pos 0))
    no_slab f = let apart : eqb (head_of heads i) i ≡ false = ne_eqb (head_of heads i) i (λ q. omega arith) in rw add-one (omega (arith, ints, ap (λ (b : Bool). cond b (pos (f (kind_at kinds i))) (pos 0)) apart))

    stays : (k : ℕ) → k < length used → position_or_len (λ x. eqb x k) (place ++ get_or place (head_of heads i) 0 ∷ []) ≡ position_or_len (λ x. eqb x k) place
    stays k h = found_stays (λ x. eqb x k) place (get_or place (head_of heads i) 0) (omega (arith, built.filled k h, built.size))

-- the first order of a group
pub built_new : (heads : List ℕ) (kinds : List Kind) (i : ℕ) (used : List Kind) (place : List ℕ) → IsGrouping heads → i < length heads → head_of heads i ≡ i → IsBuilt heads kinds i used place
    → IsBuilt heads kinds (i + 1) (used ++ get_or kinds i (New 0) ∷ []) (place ++ length used ∷ [])
built_new heads kinds i used place grouping inside first built = record {
  size = omega (arith, length-append place (length used ∷ []), built.size);
  within = λ o h. elim (reads place (length used) i o built.size h) [
    | inl r ↦ rw r.1 (omega (arith, built.within o r.0, longer))
    | inr r ↦ rw r.1 (omega (arith, longer))
  ];
  joined = λ a b h l e. elim (reads place (length used) i a built.size h) [
    | inl r ↦ elim (reads place (length used) i b built.size l) [
      | inl s ↦ r.1 ∙ built.joined a b r.0 s.0 e ∙ sym s.1
      | inr s ↦ absurd (omega (arith, grouping.before a (omega arith), e, ap (head_of heads) s.0, first, r.0))
    ]
    | inr r ↦ elim (reads place (length used) i b built.size l) [
      | inl s ↦ absurd (omega (arith, grouping.before b (omega arith), e, ap (head_of heads) r.0, first, s.0))
      | inr s ↦ r.1 ∙ sym s.1
    ]
  ];
  parted = λ a b h l e. elim (reads place (length used) i a built.size h) [
    | inl r ↦ elim (reads place (length used) i b built.size l) [
      | inl s ↦ built.parted a b r.0 s.0 (sym r.1 ∙ e ∙ s.1)
      | inr s ↦ absurd (omega (arith, built.within a r.0, sym r.1 ∙ e ∙ s.1))
    ]
    | inr r ↦ elim (reads place (length used) i b built.size l) [
      | inl s ↦ absurd (omega (arith, built.within b s.0, sym r.1 ∙ e ∙ s.1))
      | inr s ↦ ap (head_of heads) (r.0 ∙ sym s.0)
    ]
  ];
  kind = λ o h. elim (reads place (length used) i o built.size h) [
    | inl r ↦ ap (λ (z : ℕ). get_or (used ++ get_or kinds i (New 0) ∷ []) z (New 0)) r.1 ∙ get_or-append used (get_or kinds i (New 0) ∷ []) (New 0) (get_or place o 0) (built.within o r.0) ∙ built.kind o r.0
    | inr r ↦ ap (λ (z : ℕ). get_or (used ++ get_or kinds i (New 0) ∷ []) z (New 0)) r.1 ∙ get_or-append_seam used (get_or kinds i (New 0)) [] (New 0) ∙ ap (λ (z : ℕ). get_or kinds z (New 0)) (sym first ∙ ap (head_of heads) (sym r.0))
  ];
  rising = λ k h. elim (cases_eq (suc k) (length used)) [
    | inl q ↦ omega (arith, ap (λ (z : ℕ). position_or_len (λ x. eqb x z) (place ++ length used ∷ [])) q, last, built.size, stays k (omega arith), built.filled k (omega arith))
    | inr ne ↦ omega (arith, longer, built.rising k (omega (arith, longer)), stays k (omega (arith, longer)), stays (suc k) (omega (arith, longer)))
  ];
  filled = λ k h. elim (cases_eq k (length used)) [
    | inl q ↦ omega (arith, ap (λ (z : ℕ). position_or_len (λ x. eqb x z) (place ++ length used ∷ [])) q, last, built.size)
    | inr ne ↦ omega (arith, stays k (omega (arith, longer)), built.filled k (omega (arith, longer)))
  ];
  total = λ f. one_slab f;
}
  where
    one_slab : (f : Kind → ℕ) → pos (sum_by f (used ++ get_or kinds i (New 0) ∷ [])) ≡ total_below (i + 1) (λ o. cond (eqb (head_of heads o) o) (pos (f (kind_at kinds o))) (pos 0))
    one_slab f = let own : eqb (head_of heads i) i ≡ true = eq-eqb (head_of heads i) i first in rw add-one (omega (arith, ints, sum_by_push f used (get_or kinds i (New 0)), built.total f, ap (λ (b : Bool). cond b (pos (f (kind_at kinds i))) (pos 0)) own))

    longer : length (used ++ get_or kinds i (New 0) ∷ []) ≡ length used + 1
    longer = length-append used (get_or kinds i (New 0) ∷ [])

    stays : (k : ℕ) → k < length used → position_or_len (λ x. eqb x k) (place ++ length used ∷ []) ≡ position_or_len (λ x. eqb x k) place
    stays k h = found_stays (λ x. eqb x k) place (length used) (omega (arith, built.filled k h, built.size))

    last : position_or_len (λ x. eqb x (length used)) (place ++ length used ∷ []) ≡ length place
    last = last_found (λ x. eqb x (length used)) place (length used) (λ k h. ne_eqb (get_or place k 0) (length used) (λ q. omega (arith, built.within k (omega (arith, built.size))))) (eq-eqb (length used) (length used) refl)

pub built_none : (heads : List ℕ) (kinds : List Kind) → IsBuilt heads kinds 0 [] []
built_none heads kinds = record {
  size = refl;
  within = λ o h. absurd (omega arith);
  joined = λ a b h l e. absurd (omega arith);
  parted = λ a b h l e. absurd (omega arith);
  kind = λ o h. absurd (omega arith);
  rising = λ k h. absurd (omega arith);
  filled = λ k h. absurd (omega arith);
  total = λ f. refl;
}
