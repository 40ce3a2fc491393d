-- Shares, column by column.
use Rattle.std.proofs.Common.{◌≡◌, ℕ, zero, suc, ◌+◌, ◌<◌, ◌≤◌, ℤ, pos, Bool, true, false, cond, ◌&&◌, List, [], ◌∷◌, ◌++◌, length, get_or, take, refl, sym, ap, ◌∙◌, arith, eqb, set, ◌*◌, inl, inr, get_or-set_same, get_or-set_other}
use Rattle.std.proofs.lemmas.Bool.{eq-eqb, ne_eqb, cases_eq}
use Rattle.std.specs.Prelude.{unsigned_abs, slice_get, ◌^◌, Some, All}
use Rattle.mill_model.specs.declared.ask.Ask.TheVariants.{Pair, Put}
use Rattle.mill_model.specs.declared.kind.Kind.TheVariants.{New, Old}
use Rattle.std.proofs.lemmas.List.Sums.{sum_by_push}
use Rattle.mill_model.specs.declared.ask.Ask.{Ask}
use Rattle.mill_model.specs.Columns.{Column, has, is_old}
use Rattle.mill_model.specs.Covers.{Part}
use Rattle.mill_model.specs.Decisions.{first_test, second_test}
use Rattle.slab_columns.specs.declared.column.ColId.{ColId}
use Rattle.slab_frac.specs.Fraction.{Fraction}
use Rattle.slab_relax.specs.PoolCovers.{Parts, column_at, parts_of}
use Rattle.slab_node.specs.Shares.{share}

parts_more : (columns : List Column) (cover : Parts) (times : List ℤ) (p : ℕ) (d : ColId × Fraction) → p < length cover → p < length times
    → parts_of columns (take (p + 1) cover) (take (p + 1) times) ≡ parts_of columns (take p cover) (take p times) ++ (column_at columns (get_or cover p d).0, unsigned_abs (get_or times p (pos 0))) ∷ []
parts_more columns [] times p d h l = absurd (omega arith)
parts_more columns (x ∷ cover) [] p d h l = absurd (omega arith)
parts_more columns (x ∷ cover) (k ∷ times) zero d h l = refl
parts_more columns (x ∷ cover) (k ∷ times) (suc p) d h l =
    ap (λ (n : ℕ). parts_of columns (take n (x ∷ cover)) (take n (k ∷ times))) suc_is ∙ ap (λ (r : List Part). (column_at columns x.0, unsigned_abs k) ∷ r) (parts_more columns cover times p d (omega arith) (omega arith))
  where
    suc_is : suc p + 1 ≡ suc (p + 1)
    suc_is = omega arith

-- one column more
pub share_more : (columns : List Column) (cover : Parts) (times : List ℤ) (p : ℕ) (d : ColId × Fraction) (ask : Ask) → p < length cover → p < length times
    → share (parts_of columns (take (p + 1) cover) (take (p + 1) times)) ask ≡ share (parts_of columns (take p cover) (take p times)) ask + cond (first_test ask (column_at columns (get_or cover p d).0) && second_test ask (column_at columns (get_or cover p d).0)) (unsigned_abs (get_or times p (pos 0))) 0
share_more columns cover times p d ask h l =
    ap (λ (parts : List Part). share parts ask) (parts_more columns cover times p d h l)
    ∙ sum_by_push (λ (part : Part). cond (first_test ask part.0 && second_test ask part.0) part.1 0) (parts_of columns (take p cover) (take p times)) (column_at columns (get_or cover p d).0, unsigned_abs (get_or times p (pos 0)))

-- how much of the first so many columns has each order together with this one
abbrev pub PairShares : List Column → Parts → List ℤ → ℕ → ℕ → ℕ → List ℕ → Type 0
PairShares columns cover times order n p shares = (j : ℕ) → j < n → get_or shares j 0 ≡ share (parts_of columns (take p cover) (take p times)) (Pair order j)

pub pair_more : (columns : List Column) (cover : Parts) (times : List ℤ) (order n p amount : ℕ) (d : ColId × Fraction) (c : Column) (shares next : List ℕ) → p < length cover → p < length times → column_at columns (get_or cover p d).0 ≡ c → amount ≡ unsigned_abs (get_or times p (pos 0)) → has c.orders order ≡ true
    → ((j : ℕ) → j < n → get_or next j 0 ≡ get_or shares j 0 + cond (has c.orders j) amount 0) → PairShares columns cover times order n p shares → PairShares columns cover times order n (p + 1) next
pair_more columns cover times order n p amount d c shares next h l column amount_is it added before j k =
    let cell : cond (first_test (Pair order j) (column_at columns (get_or cover p d).0) && second_test (Pair order j) (column_at columns (get_or cover p d).0)) (unsigned_abs (get_or times p (pos 0))) 0 ≡ cond (has c.orders j) amount 0 =
    ap (λ (x : Column). cond (has x.orders order && has x.orders j) (unsigned_abs (get_or times p (pos 0))) 0) column ∙ ap (λ (b : Bool). cond (b && has c.orders j) (unsigned_abs (get_or times p (pos 0))) 0) it ∙ ap (λ (a : ℕ). cond (has c.orders j) a 0) (sym amount_is) in
    omega (arith, added j k, before j k, share_more columns cover times p d (Pair order j) h l, cell)

pub pair_same : (columns : List Column) (cover : Parts) (times : List ℤ) (order n p : ℕ) (d : ColId × Fraction) (c : Column) (shares : List ℕ) → p < length cover → p < length times → column_at columns (get_or cover p d).0 ≡ c → has c.orders order ≡ false
    → PairShares columns cover times order n p shares → PairShares columns cover times order n (p + 1) shares
pair_same columns cover times order n p d c shares h l column it before j k =
    let cell : cond (first_test (Pair order j) (column_at columns (get_or cover p d).0) && second_test (Pair order j) (column_at columns (get_or cover p d).0)) (unsigned_abs (get_or times p (pos 0))) 0 ≡ 0 =
    ap (λ (x : Column). cond (has x.orders order && has x.orders j) (unsigned_abs (get_or times p (pos 0))) 0) column ∙ ap (λ (b : Bool). cond (b && has c.orders j) (unsigned_abs (get_or times p (pos 0))) 0) it in
    omega (arith, before j k, share_more columns cover times p d (Pair order j) h l, cell)

-- what was lent
lent_is : (columns : List Column) (i : ℕ) (c d : Column) → slice_get columns i ≡ Some c → get_or columns i d ≡ c
lent_is [] i c d e = cc
lent_is (x ∷ columns) zero c d e = some e
  where
    some : Some x ≡ Some c → x ≡ c
    some q = cc
lent_is (x ∷ columns) (suc i) c d e = lent_is columns i c d e

pub column_is : (columns : List Column) (id : ColId) (c : Column) → slice_get columns id.0 ≡ Some c → column_at columns id ≡ c
column_is columns id c e = lent_is columns id.0 c (record { kind = New 0; orders = [] }) e

pub in_range : (times : List ℤ) (p : ℕ) → All (λ k. unsigned_abs k ≤ 2 ^ 62) times → p < length times → unsigned_abs (get_or times p (pos 0)) ≤ 2 ^ 62
in_range times p range h = range p (pos 0) h

pub part_most : (b : Bool) (amount : ℕ) → cond b amount 0 ≤ amount
part_most true amount = omega arith
part_most false amount = omega arith

-- how much of the first so many columns has this order on each surplus slab
abbrev pub PutShares : List Column → Parts → List ℤ → ℕ → ℕ → ℕ → List ℕ → Type 0
PutShares columns cover times order n p shares = (s : ℕ) → s < n → get_or shares s 0 ≡ share (parts_of columns (take p cover) (take p times)) (Put order s)

-- a column's part of one share
put_cell : (columns : List Column) (cover : Parts) (times : List ℤ) (order p s amount : ℕ) (d : ColId × Fraction) (c : Column) (b : Bool) → column_at columns (get_or cover p d).0 ≡ c → amount ≡ unsigned_abs (get_or times p (pos 0)) → has c.orders order && is_old s c.kind ≡ b
    → cond (first_test (Put order s) (column_at columns (get_or cover p d).0) && second_test (Put order s) (column_at columns (get_or cover p d).0)) (unsigned_abs (get_or times p (pos 0))) 0 ≡ cond b amount 0
put_cell columns cover times order p s amount d c b column amount_is it =
    ap (λ (x : Column). cond (has x.orders order && is_old s x.kind) (unsigned_abs (get_or times p (pos 0))) 0) column ∙ ap (λ (x : Bool). cond x (unsigned_abs (get_or times p (pos 0))) 0) it ∙ ap (λ (a : ℕ). cond b a 0) (sym amount_is)

pub put_same : (columns : List Column) (cover : Parts) (times : List ℤ) (order n p : ℕ) (d : ColId × Fraction) (c : Column) (shares : List ℕ) → p < length cover → p < length times → column_at columns (get_or cover p d).0 ≡ c → ((s : ℕ) → has c.orders order && is_old s c.kind ≡ false)
    → PutShares columns cover times order n p shares → PutShares columns cover times order n (p + 1) shares
put_same columns cover times order n p d c shares h l column none before s k =
    omega (arith, before s k, share_more columns cover times p d (Put order s) h l, put_cell columns cover times order p s (unsigned_abs (get_or times p (pos 0))) d c false column refl (none s))

-- a column on surplus slab t adds its multiplier there
added_at : (shares : List ℕ) (n t value amount s : ℕ) → length shares ≡ n → t < n → value ≡ get_or shares t 0 + amount → get_or (set shares t value) s 0 ≡ get_or shares s 0 + cond (eqb t s) amount 0
added_at shares n t value amount s size h e = elim (cases_eq s t) [
  | inl q ↦ omega (arith, ap (λ (z : ℕ). get_or (set shares t value) z 0) q, get_or-set_same shares t value 0 (omega arith), e, ap (λ (z : ℕ). get_or shares z 0) q, ap (λ (b : Bool). cond b amount 0) (eq-eqb t s (sym q)))
  | inr ne ↦ omega (arith, get_or-set_other shares t s value 0 ne, ap (λ (b : Bool). cond b amount 0) (ne_eqb t s (λ q. ne (sym q))))
]

pub put_more : (columns : List Column) (cover : Parts) (times : List ℤ) (order n p amount value t : ℕ) (d : ColId × Fraction) (c : Column) (shares next : List ℕ) → p < length cover → p < length times → column_at columns (get_or cover p d).0 ≡ c → amount ≡ unsigned_abs (get_or times p (pos 0)) → has c.orders order ≡ true → c.kind ≡ Old t → length shares ≡ n → t < n → value ≡ get_or shares t 0 + amount → next ≡ set shares t value
    → PutShares columns cover times order n p shares → PutShares columns cover times order n (p + 1) next
put_more columns cover times order n p amount value t d c shares next h l column amount_is it on size inside e next_is before s k =
    let both : has c.orders order && is_old s c.kind ≡ eqb t s = ap (λ (b : Bool). b && is_old s c.kind) it ∙ ap (is_old s) on in
    omega (arith, ap (λ (xs : List ℕ). get_or xs s 0) next_is, added_at shares n t value amount s size inside e, before s k, share_more columns cover times p d (Put order s) h l, put_cell columns cover times order p s amount d c (eqb t s) column amount_is both)

pub put_most : (shares next : List ℕ) (n p t amount value most : ℕ) → length shares ≡ n → t < n → value ≡ get_or shares t 0 + amount → amount ≤ most → next ≡ set shares t value → ((s : ℕ) → s < n → get_or shares s 0 ≤ p * most) → (s : ℕ) → s < n → get_or next s 0 ≤ (p + 1) * most
put_most shares next n p t amount value most size inside e small next_is before s k =
    omega (arith, ap (λ (xs : List ℕ). get_or xs s 0) next_is, added_at shares n t value amount s size inside e, before s k, part_most (eqb t s) amount)
