-- A column's entries, put together part by part.
use Rattle.std.proofs.Common.{◌≡◌, ℕ, zero, suc, ◌+◌, ◌<◌, ◌≤◌, ℤ, pos, List, [], ◌∷◌, ◌++◌, length, get_or, take, replicate, All, ap, ◌∙◌, sym, append_assoc, arith, Option, Some, None}
use Rattle.std.proofs.lemmas.Int.{ints}
use Rattle.std.proofs.lemmas.List.{take_more, map-append, replicate_more}
use Rattle.std.proofs.lemmas.List.Elements.{All-append, All-replicate}
use Rattle.mill_model.specs.declared.kind.Kind.{Kind}
use Rattle.mill_model.specs.declared.kind.Kind.TheVariants.{New, Old}
use Rattle.mill_model.specs.declared.limits.Limits.{Limits}
use Rattle.mill_model.specs.Mill.{Mill}
use Rattle.mill_model.specs.Limits.{number_of}
use Rattle.mill_model.specs.Columns.{Column, IsLegalColumn, IsInStock, Rises, loss_of}
use Rattle.slab_master.specs.declared.given.Sense.TheVariants.{Equal, AtMost}
use Rattle.slab_master.specs.Given.{Entry, Row, AreRows, IsColumn, IsSmall}
use Rattle.slab_relax.specs.Rows.{row_count, loss_row, count_row, rows_of, order_entries, slab_entries, loss_entries, count_entries, entries_of}

pub put_together : (a b c d none one two three four : List Entry) → none ≡ [] → one ≡ none ++ a → two ≡ one ++ b → three ≡ two ++ c → four ≡ three ++ d → four ≡ a ++ (b ++ (c ++ d))
put_together a b c d none one two three four p q r s t =
    let first : one ≡ a = q ∙ ap (λ (l : List Entry). l ++ a) p in
    let second : two ≡ a ++ b = r ∙ ap (λ (l : List Entry). l ++ b) first in
    let third : three ≡ (a ++ b) ++ c = s ∙ ap (λ (l : List Entry). l ++ c) second in
    let fourth : four ≡ ((a ++ b) ++ c) ++ d = t ∙ ap (λ (l : List Entry). l ++ d) third in
    fourth ∙ simp append_assoc

-- ---- loops

pub orders_more : (orders : List ℕ) (i d : ℕ) (base items next : List Entry) → i < length orders → items ≡ base ++ order_entries (take i orders) → next ≡ items ++ (get_or orders i d, pos 1) ∷ [] → next ≡ base ++ order_entries (take (i + 1) orders)
orders_more orders i d base items next h e f =
    let entry : ℕ → Entry = λ (o : ℕ). (o, pos 1) in
    let grown : order_entries (take (i + 1) orders) ≡ order_entries (take i orders) ++ (get_or orders i d, pos 1) ∷ [] = ap order_entries (take_more orders i d h) ∙ map-append entry (take i orders) (get_or orders i d ∷ []) in
    f ∙ ap (λ (l : List Entry). l ++ (get_or orders i d, pos 1) ∷ []) e ∙ append_assoc base (order_entries (take i orders)) ((get_or orders i d, pos 1) ∷ []) ∙ ap (λ (l : List Entry). base ++ l) (sym grown)

pub rows_more : (n i : ℕ) (a b : Row) (items next : List Row) → items ≡ replicate n a ++ replicate i b → next ≡ items ++ b ∷ [] → next ≡ replicate n a ++ replicate (i + 1) b
rows_more n i a b items next e f = f ∙ ap (λ (l : List Row). l ++ b ∷ []) e ∙ append_assoc (replicate n a) (replicate i b) (b ∷ []) ∙ ap (λ (l : List Row). replicate n a ++ l) (replicate_more i b)

pub rows_all : (n k : ℕ) (a b p q : Row) (items one two : List Row) → items ≡ replicate n a ++ replicate k b → one ≡ items ++ p ∷ [] → two ≡ one ++ q ∷ [] → two ≡ replicate n a ++ (replicate k b ++ (p ∷ q ∷ []))
rows_all n k a b p q items one two e f g =
    let first : one ≡ (replicate n a ++ replicate k b) ++ p ∷ [] = f ∙ ap (λ (l : List Row). l ++ p ∷ []) e in
    let second : two ≡ ((replicate n a ++ replicate k b) ++ p ∷ []) ++ q ∷ [] = g ∙ ap (λ (l : List Row). l ++ q ∷ []) first in
    second ∙ simp append_assoc

-- the orders of a legal column are the mill's
pub below_high : (low n : ℕ) (orders : List ℕ) (i d : ℕ) → Rises low n orders → i < length orders → get_or orders i d < n
below_high low n [] i d r h = absurd (omega arith)
below_high low n (o ∷ orders) zero d r h = r.1
below_high low n (o ∷ orders) (suc i) d r h = below_high (o + 1) n orders i d r.2 (omega arith)

-- ---- a column of the master

single : (n k : ℕ) (z : ℤ) → k < n → IsSmall z → IsColumn n ((k, z) ∷ [])
single n k z h s = record {
  within = λ j d l. one (λ e. e.0 < n) (k, z) h j d l;
  small = λ j d l. one (λ e. IsSmall e.1) (k, z) s j d l;
}
  where
    one : (P : Entry → Type 0) (e : Entry) → P e → All P (e ∷ [])
    one P e p zero d l = p
    one P e p (suc j) d l = absurd (omega arith)

none : (n : ℕ) → IsColumn n []
none n = record { within = λ j d l. absurd (omega arith); small = λ j d l. absurd (omega arith) }

both : (n : ℕ) (a b : List Entry) → IsColumn n a → IsColumn n b → IsColumn n (a ++ b)
both n a b p q = record {
  within = All-append (λ (e : Entry). e.0 < n) a b p.within q.within;
  small = All-append (λ (e : Entry). IsSmall e.1) a b p.small q.small;
}

one_small : IsSmall (pos 1)
one_small = omega (arith, ints)

orders_column : (n low high : ℕ) (orders : List ℕ) → high ≤ n → Rises low high orders → IsColumn n (order_entries orders)
orders_column n low high [] l r = none n
orders_column n low high (o ∷ orders) l r = both n ((o, pos 1) ∷ []) (order_entries orders) (single n o (pos 1) (omega (arith, r.1)) one_small) (orders_column n (o + 1) high orders l r.2)

slab_column : (m : Mill) (kind : Kind) → IsInStock m kind → IsColumn (row_count m) (slab_entries m kind)
slab_column m (New size) h = none (row_count m)
slab_column m (Old s) h = single (row_count m) (length m.orders + s) (pos 1) (omega arith) one_small

loss_column : (m : Mill) (limit : Option ℤ) (loss : ℕ) → loss ≤ 10000 → IsColumn (row_count m) (loss_entries m limit loss)
loss_column m None loss h = none (row_count m)
loss_column m (Some a) loss h = single (row_count m) (loss_row m) (pos loss) (omega arith) (omega (arith, ints))

count_column : (m : Mill) (limit : Option ℤ) (kind : Kind) → IsColumn (row_count m) (count_entries m limit kind)
count_column m None kind = none (row_count m)
count_column m (Some b) (New size) = single (row_count m) (count_row m) (pos 1) (omega arith) one_small
count_column m (Some b) (Old s) = none (row_count m)

-- what a master takes as a column
pub is_master_column : (m : Mill) (limits : Limits) (c : Column) → IsLegalColumn m c → loss_of m c ≤ 10000 → IsColumn (row_count m) (entries_of m limits c)
is_master_column m limits c legal small =
    both (row_count m) (order_entries c.orders) (slab_entries m c.kind ++ (loss_entries m limits.loss (loss_of m c) ++ count_entries m limits.count c.kind)) (orders_column (row_count m) 0 (length m.orders) c.orders (omega arith) legal.rises)
    (both (row_count m) (slab_entries m c.kind) (loss_entries m limits.loss (loss_of m c) ++ count_entries m limits.count c.kind) (slab_column m c.kind legal.fits.kind)
    (both (row_count m) (loss_entries m limits.loss (loss_of m c)) (count_entries m limits.count c.kind) (loss_column m limits.loss (loss_of m c) small) (count_column m limits.count c.kind)))

-- and its rows
pub are_master_rows : (m : Mill) (limits : Limits) → IsSmall (number_of limits.loss) → IsSmall (number_of limits.count) → AreRows (rows_of m limits)
are_master_rows m limits loss count =
    All-append (λ (r : Row). IsSmall r.1) (replicate (length m.orders) (Equal, pos 1)) (replicate (length m.yard) (AtMost, pos 1) ++ ((AtMost, number_of limits.loss) ∷ (AtMost, number_of limits.count) ∷ []))
    (All-replicate (λ (r : Row). IsSmall r.1) (length m.orders) (Equal, pos 1) one_small)
    (All-append (λ (r : Row). IsSmall r.1) (replicate (length m.yard) (AtMost, pos 1)) ((AtMost, number_of limits.loss) ∷ (AtMost, number_of limits.count) ∷ [])
    (All-replicate (λ (r : Row). IsSmall r.1) (length m.yard) (AtMost, pos 1) one_small) two)
  where
    two : All (λ (r : Row). IsSmall r.1) ((AtMost, number_of limits.loss) ∷ (AtMost, number_of limits.count) ∷ [])
    two zero d l = loss
    two (suc zero) d l = count
    two (suc (suc j)) d l = absurd (omega arith)
