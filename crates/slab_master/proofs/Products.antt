-- One term more of a product or a sum.
use Rattle.std.proofs.Common.{◌≡◌, ℕ, ◌+◌, ◌<◌, arith, ap, ◌∙◌, List, ◌∷◌, length, drop, get_or, drop-cons, add-one}
use Rattle.std.specs.Prelude.{ℤ, pos, ◌+ℤ◌, ◌*ℤ◌, if◌then◌else◌, nat_eq, Vec}
use Rattle.std.specs.Global.{Global}
use Rattle.std.proofs.lemmas.Int.{ints}
use Rattle.slab_master.specs.Given.{Entry, Column, Row, columns_of}
use Rattle.slab_master.specs.Sums.{number_at, product_of, right_product, coefficient, row_sum, cost_sum}

regroup : (total next whole rest part all : ℤ) → next ≡ total +ℤ part → whole ≡ part +ℤ rest → (total +ℤ whole) ≡ all → (next +ℤ rest) ≡ all
regroup total next whole rest part all e f g = omega (arith, ints)

-- one entry more of a column
pub product_step : (ks : List ℤ) (es : Column) (i : ℕ) (d : Entry) (total next : ℤ) → i < length es
    → next ≡ total +ℤ (number_at ks (get_or es i d).0 *ℤ (get_or es i d).1)
    → (total +ℤ product_of ks (drop i es)) ≡ product_of ks es
    → (next +ℤ product_of ks (drop (i + 1) es)) ≡ product_of ks es
product_step ks es i d total next inside more before =
    let split : drop i es ≡ get_or es i d ∷ drop (i + 1) es = rw add-one (drop-cons es i d inside) in
    let parts : product_of ks (drop i es) ≡ (number_at ks (get_or es i d).0 *ℤ (get_or es i d).1) +ℤ product_of ks (drop (i + 1) es) =
    ap (product_of ks) split in
    regroup total next _ _ _ _ more parts before

-- one row more
pub right_step : (ks : List ℤ) (rows : List Row) (i : ℕ) (d : Row) (total next : ℤ) → i < length ks → i < length rows
    → next ≡ total +ℤ (number_at ks i *ℤ (get_or rows i d).1)
    → (total +ℤ right_product (drop i ks) (drop i rows)) ≡ right_product ks rows
    → (next +ℤ right_product (drop (i + 1) ks) (drop (i + 1) rows)) ≡ right_product ks rows
right_step ks rows i d total next first second more before =
    let split_ks : drop i ks ≡ number_at ks i ∷ drop (i + 1) ks = rw add-one (drop-cons ks i (pos 0) first) in
    let split_rows : drop i rows ≡ get_or rows i d ∷ drop (i + 1) rows = rw add-one (drop-cons rows i d second) in
    let parts : right_product (drop i ks) (drop i rows) ≡ (number_at ks i *ℤ (get_or rows i d).1) +ℤ right_product (drop (i + 1) ks) (drop (i + 1) rows) =
    ap (λ (us : List ℤ). right_product us (drop i rows)) split_ks ∙ ap (right_product (number_at ks i ∷ drop (i + 1) ks)) split_rows in
    regroup total next _ _ _ _ more parts before

-- one entry more of a column's number in a row
pub coefficient_step : (es : Column) (row i : ℕ) (d : Entry) (total next : ℤ) → i < length es
    → next ≡ total +ℤ (if nat_eq (get_or es i d).0 row then (get_or es i d).1 else pos 0)
    → (total +ℤ coefficient (drop i es) row) ≡ coefficient es row
    → (next +ℤ coefficient (drop (i + 1) es) row) ≡ coefficient es row
coefficient_step es row i d total next inside more before =
    let split : drop i es ≡ get_or es i d ∷ drop (i + 1) es = rw add-one (drop-cons es i d inside) in
    let parts : coefficient (drop i es) row ≡ (if nat_eq (get_or es i d).0 row then (get_or es i d).1 else pos 0) +ℤ coefficient (drop (i + 1) es) row =
    ap (λ (us : Column). coefficient us row) split in
    regroup total next _ _ _ _ more parts before

-- one column more of a row's sum
pub row_step : (ks : List ℤ) (columns : List (Vec Entry Global)) (row j : ℕ) (d : Vec Entry Global) (total next : ℤ) → j < length ks → j < length columns
    → next ≡ total +ℤ (number_at ks j *ℤ coefficient (get_or columns j d).items row)
    → (total +ℤ row_sum (drop j ks) (columns_of (drop j columns)) row) ≡ row_sum ks (columns_of columns) row
    → (next +ℤ row_sum (drop (j + 1) ks) (columns_of (drop (j + 1) columns)) row) ≡ row_sum ks (columns_of columns) row
row_step ks columns row j d total next first second more before =
    let split_ks : drop j ks ≡ number_at ks j ∷ drop (j + 1) ks = rw add-one (drop-cons ks j (pos 0) first) in
    let split_columns : drop j columns ≡ get_or columns j d ∷ drop (j + 1) columns = rw add-one (drop-cons columns j d second) in
    let parts : row_sum (drop j ks) (columns_of (drop j columns)) row ≡ (number_at ks j *ℤ coefficient (get_or columns j d).items row) +ℤ row_sum (drop (j + 1) ks) (columns_of (drop (j + 1) columns)) row =
    ap (λ (us : List ℤ). row_sum us (columns_of (drop j columns)) row) split_ks ∙ ap (λ (us : List (Vec Entry Global)). row_sum (number_at ks j ∷ drop (j + 1) ks) (columns_of us) row) split_columns in
    regroup total next _ _ _ _ more parts before

-- one cost more
pub cost_step : (ks costs : List ℤ) (j : ℕ) (total next : ℤ) → j < length ks → j < length costs
    → next ≡ total +ℤ (number_at ks j *ℤ number_at costs j)
    → (total +ℤ cost_sum (drop j ks) (drop j costs)) ≡ cost_sum ks costs
    → (next +ℤ cost_sum (drop (j + 1) ks) (drop (j + 1) costs)) ≡ cost_sum ks costs
cost_step ks costs j total next first second more before =
    let split_ks : drop j ks ≡ number_at ks j ∷ drop (j + 1) ks = rw add-one (drop-cons ks j (pos 0) first) in
    let split_costs : drop j costs ≡ number_at costs j ∷ drop (j + 1) costs = rw add-one (drop-cons costs j (pos 0) second) in
    let parts : cost_sum (drop j ks) (drop j costs) ≡ (number_at ks j *ℤ number_at costs j) +ℤ cost_sum (drop (j + 1) ks) (drop (j + 1) costs) =
    ap (λ (us : List ℤ). cost_sum us (drop j costs)) split_ks ∙ ap (cost_sum (number_at ks j ∷ drop (j + 1) ks)) split_costs in
    regroup total next _ _ _ _ more parts before
