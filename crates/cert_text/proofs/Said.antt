-- A line says what it was made of.
use Rattle.std.proofs.Common.{◌≡◌, ℕ, ℤ, Bool, true, false, List, [], ◌∷◌, ◌++◌, map, length, take, refl, sym, ap, ap₂, ◌∙◌}
use Rattle.std.proofs.lemmas.List.{append_cancel_left}
use Rattle.std.proofs.Math.Seq.{take-append_seam}
use Rattle.mill_model.proofs.Preorder.{heads, tails}
use Rattle.mill_model.specs.declared.ask.Ask.{Ask}
use Rattle.mill_model.specs.declared.ask.Ask.TheVariants.{Pair, Put}
use Rattle.mill_model.specs.declared.kind.Kind.{Kind}
use Rattle.mill_model.specs.declared.kind.Kind.TheVariants.{New, Old}
use Rattle.mill_model.specs.declared.sums.Sums.{Sums}
use Rattle.mill_model.specs.declared.version.Version.{Version}
use Rattle.mill_model.specs.declared.version.Version.TheVariants.{One, Two}
use Rattle.mill_model.specs.Columns.{Column}
use Rattle.mill_model.specs.Prices.{Prices}
use Rattle.mill_model.specs.Shares.{Share}
use Rattle.cert_view.specs.declared.line.Line.{Line}
use Rattle.cert_view.specs.declared.line.Line.TheVariants as lines
use Rattle.cert_text.specs.Lines.{number, header_line, ask_line, leaf_line, share_line, share_line_on, sums_line, slab_line, slab_line_on}

same_number : (i j : ℕ) → number i ≡ number j → i ≡ j
same_number i j e = cc

same_numbers : (os ps : List ℕ) → map number os ≡ map number ps → os ≡ ps
same_numbers [] [] e = refl
same_numbers [] (p ∷ ps) e = cc
same_numbers (o ∷ os) [] e = cc
same_numbers (o ∷ os) (p ∷ ps) e =
    ap₂ (λ (a : ℕ) (b : List ℕ). a ∷ b) (same_number o p (heads (number o) (number p) (map number os) (map number ps) e)) (same_numbers os ps (tails (number o) (number p) (map number os) (map number ps) e))

pub same_version : (v w : Version) → header_line v ≡ header_line w → v ≡ w
same_version One One e = refl
same_version One Two e = cc
same_version Two One e = cc
same_version Two Two e = refl

pub same_ask : (a b : Ask) → ask_line a ≡ ask_line b → a ≡ b
same_ask (Pair i j) (Pair k l) e = cc
same_ask (Pair i j) (Put o s) e = cc
same_ask (Put o s) (Pair i j) e = cc
same_ask (Put o s) (Put q t) e = cc

-- prices of as many orders
pub same_leaf : (p q : Prices) → length p.pi ≡ length q.pi → leaf_line p ≡ leaf_line q → p ≡ q
same_leaf p q len e = λ i. record { lambda = lambda i; mu = mu i; pi = pi i; sigma = sigma i }
  where
    lambda : p.lambda ≡ q.lambda
    lambda = cc

    mu : p.mu ≡ q.mu
    mu = cc

    all : p.pi ++ p.sigma ≡ q.pi ++ q.sigma
    all = cc

    pi : p.pi ≡ q.pi
    pi = sym (take-append_seam p.pi p.sigma) ∙ ap (take (length p.pi)) all ∙ ap (λ n. take n (q.pi ++ q.sigma)) len ∙ take-append_seam q.pi q.sigma

    sigma : p.sigma ≡ q.sigma
    sigma = append_cancel_left q.pi p.sigma q.sigma (ap (λ xs. xs ++ p.sigma) (sym pi) ∙ all)

pub same_sums : (x y : Sums) → sums_line x ≡ sums_line y → x ≡ y
same_sums x y e = λ i. record { loss = loss i; count = count i }
  where
    loss : x.loss ≡ y.loss
    loss = cc

    count : x.count ≡ y.count
    count = cc

same_slab : (k l : Kind) (os ps : List ℕ) → slab_line_on k os ≡ slab_line_on l ps → (k ≡ l) × (os ≡ ps)
same_slab (New u) (New w) os ps e =
    let orders : map number os ≡ map number ps = cc in
    (cc, same_numbers os ps orders)
same_slab (New u) (Old t) os ps e = cc
same_slab (Old s) (New w) os ps e = cc
same_slab (Old s) (Old t) os ps e =
    let orders : map number os ≡ map number ps = cc in
    (cc, same_numbers os ps orders)

pub same_column : (c d : Column) → slab_line c ≡ slab_line d → c ≡ d
same_column c d e =
    let parts = same_slab c.kind d.kind c.orders d.orders e in
    λ i. record { kind = parts.0 i; orders = parts.1 i }

same_share_on : (x y : ℤ) (k l : Kind) (os ps : List ℕ) → share_line_on x k os ≡ share_line_on y l ps → (x ≡ y) × (k ≡ l) × (os ≡ ps)
same_share_on x y (New u) (New w) os ps e =
    let orders : map number os ≡ map number ps = cc in
    (cc, cc, same_numbers os ps orders)
same_share_on x y (New u) (Old t) os ps e = cc
same_share_on x y (Old s) (New w) os ps e = cc
same_share_on x y (Old s) (Old t) os ps e =
    let orders : map number os ≡ map number ps = cc in
    (cc, cc, same_numbers os ps orders)

pub same_share : (x y : Share) → share_line x ≡ share_line y → x ≡ y
same_share x y e =
    let parts = same_share_on x.times y.times x.kind y.kind x.orders y.orders e in
    λ i. record { times = parts.0 i; kind = parts.1 i; orders = parts.2 i }

-- ---- lines of different kinds

-- whether a line can begin or go on with a plan's slabs
pub is_slab : Line → Bool
is_slab (lines.New ns) = true
is_slab (lines.Old ns) = true
is_slab line = false

pub is_share : Line → Bool
is_share (lines.CNew ns) = true
is_share (lines.COld ns) = true
is_share line = false

slab_is_on : (kind : Kind) (os : List ℕ) → is_slab (slab_line_on kind os) ≡ true
unfolding is_slab
slab_is_on (New size) os = refl
slab_is_on (Old s) os = refl

pub slab_is : (c : Column) → is_slab (slab_line c) ≡ true
slab_is c = slab_is_on c.kind c.orders

share_is_on : (x : ℤ) (kind : Kind) (os : List ℕ) → is_share (share_line_on x kind os) ≡ true
unfolding is_share
share_is_on x (New size) os = refl
share_is_on x (Old s) os = refl

pub share_is : (share : Share) → is_share (share_line share) ≡ true
share_is share = share_is_on share.times share.kind share.orders

pub ask_no_share : (a : Ask) → is_share (ask_line a) ≡ false
unfolding is_share
ask_no_share (Pair i j) = refl
ask_no_share (Put o s) = refl

-- no line of a tree is a slab's
pub ask_no_slab : (a : Ask) → is_slab (ask_line a) ≡ false
unfolding is_slab
ask_no_slab (Pair i j) = refl
ask_no_slab (Put o s) = refl

pub leaf_no_slab : (p : Prices) → is_slab (leaf_line p) ≡ false
unfolding is_slab
leaf_no_slab p = refl

pub bare_no_slab : is_slab lines.Bare ≡ false
unfolding is_slab
bare_no_slab = refl

pub plain_no_slab : is_slab lines.Plain ≡ false
unfolding is_slab
plain_no_slab = refl

pub spread_no_slab : (ns : List ℤ) → is_slab (lines.Spread ns) ≡ false
unfolding is_slab
spread_no_slab ns = refl

pub ask_no_leaf : (a : Ask) (p : Prices) → ask_line a ≡ leaf_line p → ⊥
ask_no_leaf (Pair i j) p e = cc
ask_no_leaf (Put o s) p e = cc

pub ask_no_end : (a : Ask) → ask_line a ≡ lines.Open → ⊥
ask_no_end (Pair i j) e = cc
ask_no_end (Put o s) e = cc
