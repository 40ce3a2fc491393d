-- A plan is known by the lines of its slabs.
use Rattle.std.proofs.Common.{◌≡◌, ℕ, ◌<◌, true, false, List, [], ◌∷◌, ◌++◌, map, length, get_or, refl, sym, ap, ap₂, ◌∙◌, arith}
use Rattle.std.proofs.lemmas.List.{length-map, get_or-map, ext_get_or}
use Rattle.std.proofs.lemmas.List.FromFn.{length-map-range_with_len, get_or-map-range_with_len}
use Rattle.std.proofs.lemmas.Bool.{eqb-true, eq-eqb, both_ways}
use Rattle.mill_model.proofs.Preorder.{heads, tails}
use Rattle.mill_model.proofs.Slabs.{has_order, on_a_slab}
use Rattle.mill_model.specs.declared.kind.Kind.{Kind}
use Rattle.mill_model.specs.declared.kind.Kind.TheVariants.{New}
use Rattle.mill_model.specs.Mill.{Mill}
use Rattle.mill_model.specs.Columns.{Column, has}
use Rattle.mill_model.specs.Plans.{Plan, IsLegal, slab}
use Rattle.cert_view.specs.declared.line.Line.{Line}
use Rattle.cert_text.specs.Lines.{slab_line, columns_of}
use Rattle.cert_text.proofs.Said.{same_column, is_slab, slab_is}

-- ---- a plan by its slabs

abbrev pub nothing : Column
nothing = record { kind = New 0; orders = [] }

abbrev kinds_of : List Column → List Kind
kinds_of columns = map (λ (c : Column). c.kind) columns

length-columns : (p : Plan) → length (columns_of p) ≡ length p.kinds
length-columns p = length-map-range_with_len (slab p) 0 (length p.kinds)

pub column_at : (p : Plan) (k : ℕ) → k < length p.kinds → get_or (columns_of p) k nothing ≡ slab p k
column_at p k l = get_or-map-range_with_len (slab p) 0 (length p.kinds) k k nothing l (omega arith)

same_kinds : (p : Plan) → kinds_of (columns_of p) ≡ p.kinds
same_kinds p =
    let long : length (map (λ (c : Column). c.kind) (columns_of p)) ≡ length p.kinds = length-map (columns_of p) (λ (c : Column). c.kind) ∙ length-columns p in
    ext_get_or (New 0) (map (λ (c : Column). c.kind) (columns_of p)) p.kinds long
    (λ k l. get_or-map (λ (c : Column). c.kind) (columns_of p) k nothing (New 0) (omega (arith, l, long, length-columns p)) ∙ ap (λ (c : Column). c.kind) (column_at p k (omega (arith, l, long))))

module _ (m : Mill) (p q : Plan) (legal : IsLegal m p) (other : IsLegal m q) (same : columns_of p ≡ columns_of q) where
  kinds_are : p.kinds ≡ q.kinds
  kinds_are = sym (same_kinds p) ∙ ap kinds_of same ∙ same_kinds q

  slab_is_same : (k : ℕ) → k < length p.kinds → slab p k ≡ slab q k
  slab_is_same k l = sym (column_at p k l) ∙ ap (λ cs. get_or cs k nothing) same ∙ column_at q k (omega (arith, l, ap length kinds_are))

  place_is : (o k : ℕ) → o < length m.orders → k < length p.kinds → get_or p.place o 0 ≡ k → k ≡ get_or q.place o 0
  place_is o k h l e =
      let here : has (slab p k).orders o ≡ true = has_order m p legal k o h ∙ eq-eqb (get_or p.place o 0) k e in
      sym (eqb-true (get_or q.place o 0) k (sym (has_order m q other k o h) ∙ ap (λ (c : Column). has c.orders o) (sym (slab_is_same k l)) ∙ here))

  places_are : p.place ≡ q.place
  places_are =
      ext_get_or 0 p.place q.place (legal.places ∙ sym other.places)
      (λ o l. let h : o < length m.orders = omega (arith, l, legal.places) in place_is o (get_or p.place o 0) h (on_a_slab m p legal o h) refl)

  pub same_plan : p ≡ q
  same_plan = λ i. record { kinds = kinds_are i; place = places_are i }

-- ---- the lines of slabs, and of a tree after them

-- the lines begin with one that is no slab's
abbrev pub PlanIsOver : List Line → Type 0
PlanIsOver xs = (line : Line) × (rest : List Line) × (xs ≡ line ∷ rest) × (is_slab line ≡ false)

not_over : (c : Column) (rest xs : List Line) → xs ≡ slab_line c ∷ rest → PlanIsOver xs → ⊥
not_over c rest xs e h = both_ways (is_slab h.0) h.3 (ap is_slab (heads h.0 (slab_line c) h.1 rest (sym h.2 ∙ e)) ∙ slab_is c)

pub one_list : (cs ds : List Column) (xs ys : List Line) → PlanIsOver xs → PlanIsOver ys → map slab_line cs ++ xs ≡ map slab_line ds ++ ys → (cs ≡ ds) × (xs ≡ ys)
one_list [] [] xs ys h k e = (refl, e)
one_list [] (d ∷ ds) xs ys h k e = absurd (not_over d (map slab_line ds ++ ys) xs e h)
one_list (c ∷ cs) [] xs ys h k e = absurd (not_over c (map slab_line cs ++ xs) ys (sym e) k)
one_list (c ∷ cs) (d ∷ ds) xs ys h k e =
    let rest = one_list cs ds xs ys h k (tails (slab_line c) (slab_line d) (map slab_line cs ++ xs) (map slab_line ds ++ ys) e) in
    (ap₂ (λ (a : Column) (b : List Column). a ∷ b) (same_column c d (heads (slab_line c) (slab_line d) (map slab_line cs ++ xs) (map slab_line ds ++ ys) e)) rest.0, rest.1)
