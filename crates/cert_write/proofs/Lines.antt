-- The texts of lists of lines and numbers are those of their parts.
use Rattle.std.proofs.Common.{◌≡◌, ℕ, List, [], ◌∷◌, ◌++◌, map, sym, ap, ◌∙◌, append_assoc, append-nil}
use Rattle.std.specs.Prelude.{ℤ, pos, codes}
use Rattle.std.specs.List.{flat_map}
use Rattle.std.specs.Fmt.{signed_decimal}
use Rattle.std.proofs.lemmas.List.{map-append}
use Rattle.std.proofs.lemmas.List.Concat.{flat_map-append}
use Rattle.mill_model.specs.declared.kind.Kind.{Kind}
use Rattle.mill_model.specs.declared.kind.Kind.TheVariants.{New, Old}
use Rattle.mill_model.specs.Prices.{Prices}
use Rattle.mill_model.specs.Shares.{Share, Shown}
use Rattle.cert_view.specs.declared.line.Line.{Line}
use Rattle.cert_view.specs.declared.line.Line.TheVariants.{Spread}
use Rattle.cert_view.specs.Text.{numbers_text, line_text}
use Rattle.cert_text.specs.Lines.{number, slab_line_on, share_line_on, share_line, leaf_line}
use Rattle.cert_text.specs.Texts.{lines_text}
use Rattle.line_out.proofs.Loops.{IsByElement}

pub numbers_by_element : IsByElement numbers_text
numbers_by_element = flat_map-append (λ n. 32 ∷ signed_decimal n)

pub lines_by_element : IsByElement lines_text
lines_by_element = flat_map-append (λ line. line_text line ++ (10 ∷ []))

pub orders_by_element : IsByElement (λ orders. numbers_text (map number orders))
orders_by_element xs ys = ap numbers_text (map-append number xs ys) ∙ numbers_by_element (map number xs) (map number ys)

pub mapped_by_element : {A : Type 0} (line : A → Line) → IsByElement (λ (xs : List A). lines_text (map line xs))
mapped_by_element line xs ys = ap lines_text (map-append line xs ys) ∙ lines_by_element (map line xs) (map line ys)

pub listed_by_element : {A : Type 0} (lines : A → List Line) → IsByElement (λ (xs : List A). lines_text (flat_map lines xs))
listed_by_element lines xs ys = ap lines_text (flat_map-append lines xs ys) ∙ lines_by_element (flat_map lines xs) (flat_map lines ys)

-- the line of a slab: how it begins, and the orders on it
pub slab_line_begins : (kind : Kind) (orders : List ℕ) → line_text (slab_line_on kind []) ++ numbers_text (map number orders) ≡ line_text (slab_line_on kind orders)
slab_line_begins (New size) orders = ap (λ (t : List ℕ). 110 ∷ 101 ∷ 119 ∷ 32 ∷ t) (append_assoc _ [] (numbers_text (map number orders)))
slab_line_begins (Old s) orders = ap (λ (t : List ℕ). 111 ∷ 108 ∷ 100 ∷ 32 ∷ t) (append_assoc _ [] (numbers_text (map number orders)))

grouped : (a b n : List ℕ) → (a ++ (b ++ [])) ++ n ≡ a ++ (b ++ n)
grouped a b n = simp (append_assoc, append-nil)

-- the line of a share: how it begins, and the orders on it
pub share_line_begins : (times : ℤ) (kind : Kind) (orders : List ℕ) → line_text (share_line_on times kind []) ++ numbers_text (map number orders) ≡ line_text (share_line_on times kind orders)
share_line_begins times (New size) orders = grouped (codes "cnew " ++ signed_decimal times) (32 ∷ signed_decimal (pos size)) (numbers_text (map number orders))
share_line_begins times (Old s) orders = grouped (codes "cold " ++ signed_decimal times) (32 ∷ signed_decimal (number s)) (numbers_text (map number orders))

pub share_text : (share : Share) (times : ℤ) (kind : Kind) (orders : List ℕ) → times ≡ share.times → kind ≡ share.kind → orders ≡ share.orders
    → (line_text (share_line_on times kind []) ++ numbers_text (map number orders)) ++ (10 ∷ []) ≡ lines_text (share_line share ∷ [])
share_text share times kind orders e f h =
    ap (λ (t : List ℕ). t ++ (10 ∷ [])) (share_line_begins times kind orders)
    ∙ sym (append-nil (line_text (share_line_on times kind orders) ++ (10 ∷ [])))
    ∙ ap (λ (t : ℤ). lines_text (share_line_on t kind orders ∷ [])) e
    ∙ ap (λ (k : Kind). lines_text (share_line_on share.times k orders ∷ [])) f
    ∙ ap (λ (o : List ℕ). lines_text (share_line_on share.times share.kind o ∷ [])) h

pub spread_text : (shown : Shown) (d : ℤ) (shares : List Share) → d ≡ shown.d → shares ≡ shown.shares
    → ((codes "spread" ++ (32 ∷ signed_decimal d)) ++ (10 ∷ [])) ++ lines_text (map share_line shares) ≡ lines_text (Spread (shown.d ∷ []) ∷ map share_line shown.shares)
spread_text shown d shares e h =
    ap (λ (t : List ℕ). ((codes "spread" ++ (32 ∷ t)) ++ (10 ∷ [])) ++ lines_text (map share_line shares)) (sym (append-nil (signed_decimal d)))
    ∙ ap (λ (n : ℤ). lines_text (Spread (n ∷ []) ∷ map share_line shares)) e
    ∙ ap (λ (s : List Share). lines_text (Spread (shown.d ∷ []) ∷ map share_line s)) h

regrouped : (a b p s e : List ℕ) → (((a ++ b) ++ p) ++ s) ++ e ≡ ((a ++ (b ++ (p ++ s))) ++ e) ++ []
regrouped a b p s e = simp (append_assoc, append-nil)

pub leaf_text : (p : Prices) (lambda mu : ℤ) (pi sigma : List ℤ) → lambda ≡ p.lambda → mu ≡ p.mu → pi ≡ p.pi → sigma ≡ p.sigma
    → ((((codes "leaf" ++ (32 ∷ signed_decimal lambda)) ++ (32 ∷ signed_decimal mu)) ++ numbers_text pi) ++ numbers_text sigma) ++ (10 ∷ []) ≡ lines_text (leaf_line p ∷ [])
leaf_text p lambda mu pi sigma e f h k =
    regrouped (codes "leaf" ++ (32 ∷ signed_decimal lambda)) (32 ∷ signed_decimal mu) (numbers_text pi) (numbers_text sigma) (10 ∷ [])
    ∙ ap (λ (t : List ℕ). ((codes "leaf" ++ (32 ∷ signed_decimal lambda)) ++ ((32 ∷ signed_decimal mu) ++ t) ++ (10 ∷ [])) ++ []) (sym (numbers_by_element pi sigma))
    ∙ ap (λ (n : ℤ). lines_text (leaf_line (record { lambda = n; mu = mu; pi = pi; sigma = sigma }) ∷ [])) e
    ∙ ap (λ (n : ℤ). lines_text (leaf_line (record { lambda = p.lambda; mu = n; pi = pi; sigma = sigma }) ∷ [])) f
    ∙ ap (λ (l : List ℤ). lines_text (leaf_line (record { lambda = p.lambda; mu = p.mu; pi = l; sigma = sigma }) ∷ [])) h
    ∙ ap (λ (l : List ℤ). lines_text (leaf_line (record { lambda = p.lambda; mu = p.mu; pi = p.pi; sigma = l }) ∷ [])) k
