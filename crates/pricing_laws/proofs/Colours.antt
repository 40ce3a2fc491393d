-- Columns of some colours, their groups, and the sets of colours that are gone through.
use Rattle.std.proofs.Common.{append-nil, append_assoc, get_or, ◌⊎◌, ◌≡◌, ℕ, ℤ, ◌+◌, ◌<◌, ◌≤◌, Bool, true, false, ◌&&◌, eqb, List, [], ◌∷◌, ◌++◌, map, length, refl, sym, subst, ap, ◌∙◌, inl, inr, arith}
use Rattle.std.specs.List.{filter}
use Rattle.std.proofs.lemmas.Bool.{eqb-true, or_cases, both_ways}
use Rattle.mill_model.specs.Mill.{Mill}
use Rattle.mill_model.specs.Columns.{Column, IsLegalColumn, Rises, has, colours_of, order_at}
use Rattle.mill_model.proofs.Judging.{different_within}
use Rattle.mill_model.proofs.Rising.{same_members}
use Rattle.pricing_laws.specs.Groups.{AreHeads, head_of, heads_in, members}
use Rattle.pricing_laws.specs.Parts.{IsPart, left_of}
use Rattle.pricing_laws.specs.Colours.{AreOf, AreGroupsOf, IsGroupOf, IsOfSet, colour_at}
use Rattle.pricing_laws.specs.Choices.{IsChoice}
use Rattle.pricing_laws.specs.Problems.{Problem, IsAllowed}
use Rattle.pricing_laws.specs.Worths.{IsRanking}
use Rattle.pricing_laws.proofs.Groups.{has-members, has-heads_in, members_rise}
use Rattle.pricing_laws.proofs.Parts.{below_rising, distinct_few, has-filter, has_here, has_later, has_none, has_whole, left_distinct, left_more, part_distinct, part_filter}

-- ---- how many colours

-- a colour of the orders is that of one of them
colour_of_one : (m : Mill) (orders : List ℕ) (colour : ℕ) → has (map (λ o. (order_at m o).colour) orders) colour ≡ true → (o : ℕ) × (has orders o ≡ true) × (colour_at m o ≡ colour)
colour_of_one m [] colour e = absurd (has_none colour e)
colour_of_one m (o ∷ orders) colour e = elim (or_cases (eqb (colour_at m o) colour) (has (map (λ x. (order_at m x).colour) orders) colour) e) [
  | inl q ↦ (o, has_here o orders, eqb-true (colour_at m o) colour q)
  | inr q ↦ later (colour_of_one m orders colour q)
]
  where
    later : ((x : ℕ) × (has orders x ≡ true) × (colour_at m x ≡ colour)) → (x : ℕ) × (has (o ∷ orders) x ≡ true) × (colour_at m x ≡ colour)
    later (x, h, s) = (x, has_later x o orders h, s)

one_of_colours : (m : Mill) (orders : List ℕ) (o : ℕ) → has orders o ≡ true → has (map (λ x. (order_at m x).colour) orders) (colour_at m o) ≡ true
one_of_colours m [] o e = absurd (has_none o e)
one_of_colours m (x ∷ orders) o e = elim (or_cases (eqb x o) (has orders o) e) [
  | inl q ↦ subst (λ (y : ℕ). has (colour_at m x ∷ map (λ z. (order_at m z).colour) orders) (colour_at m y) ≡ true) (eqb-true x o q) (has_here (colour_at m x) (map (λ z. (order_at m z).colour) orders))
  | inr q ↦ has_later (colour_at m o) (colour_at m x) (map (λ z. (order_at m z).colour) orders) (one_of_colours m orders o q)
]

-- orders of some colours have no more colours
pub colours_few : (m : Mill) (colours orders : List ℕ) → AreOf m colours orders → colours_of m orders ≤ length colours
colours_few m colours orders of = different_within (map (λ o. (order_at m o).colour) orders) colours (λ x e. among x (colour_of_one m orders x e))
  where
    among : (x : ℕ) → ((o : ℕ) × (has orders o ≡ true) × (colour_at m o ≡ x)) → has colours x ≡ true
    among x (o, h, s) = subst (λ (y : ℕ). has colours y ≡ true) s (of o h)

-- ---- the groups of a column

-- the members of groups of some colours are of the colours
pub members_of : (m : Mill) (heads colours taken : List ℕ) → length heads ≡ length m.orders → ((h : ℕ) → has taken h ≡ true → IsGroupOf m heads colours h) → AreOf m colours (members heads taken)
members_of m heads colours taken size of o e =
    let below : o < length heads = below_rising 0 (length heads) (members heads taken) (members_rise heads taken) o e in
    (of (head_of heads o) (sym (has-members heads taken o below) ∙ e)).orders o (omega (arith, below, size)) refl

module _ (q : Problem) (heads : List ℕ) (are : AreHeads q.decisions heads) (size : length heads ≡ length q.mill.orders) where
  -- an order's group lies on a column with it
  group_of_column : (c : Column) → IsAllowed q c → (colours : List ℕ) → AreOf q.mill colours c.orders → (o : ℕ) → o < length heads → has c.orders o ≡ true → IsGroupOf q.mill heads colours (head_of heads o)
  group_of_column c allowed colours of o below e = record {
    inside = omega (arith, are.before o below, below, size);
    own = are.fixed o below;
    orders = λ x inside same. of x (are.joined c allowed.agrees x (omega (arith, inside, size)) ∙ ap (has c.orders) same ∙ sym (are.joined c allowed.agrees o below) ∙ e);
  }

  -- a column of the colours is a choice of their groups
  pub column_choice : (c : Column) (colours queue : List ℕ) → IsAllowed q c → AreOf q.mill colours c.orders → AreGroupsOf q.mill heads colours queue → IsChoice heads [] queue c
  column_choice c colours queue allowed of queued = record {
    more = filter (has c.orders) queue;
    part = part_filter (has c.orders) queue;
    orders = same_members 0 (length heads) c.orders (members heads (filter (has c.orders) queue)) (subst (λ (n : ℕ). Rises 0 n c.orders) (sym size) allowed.legal.rises) (members_rise heads (filter (has c.orders) queue)) same;
  }
    where
      same : (o : ℕ) → o < length heads → has c.orders o ≡ has (members heads (filter (has c.orders) queue)) o
      same o below =
          are.joined c allowed.agrees o below
          ∙ listed (has c.orders (head_of heads o)) (has queue (head_of heads o)) (λ e. queued.all (head_of heads o) (group_of_column c allowed colours of o below (are.joined c allowed.agrees o below ∙ e)))
          ∙ sym (has-filter (has c.orders) queue (head_of heads o))
          ∙ sym (has-members heads (filter (has c.orders) queue) o below)
        where
          listed : (a b : Bool) → (a ≡ true → b ≡ true) → a ≡ (b && a)
          listed true b h = rw (h refl) refl
          listed false true h = refl
          listed false false h = refl

  -- a column's heads are orders of it
  pub heads_of : (c : Column) (colours : List ℕ) → AreOf q.mill colours c.orders → AreOf q.mill colours (heads_in heads c.orders)
  heads_of c colours of o e = of o (both (has c.orders o) (eqb (head_of heads o) o) (sym (has-heads_in heads c.orders o) ∙ e))
    where
      both : (a b : Bool) → (a && b) ≡ true → a ≡ true
      both true b h = refl
      both false b h = h

-- ---- the sets of colours

-- a legal column is of at most as many of the ranked colours as the limit allows
pub column_set : (m : Mill) (worths : List ℤ) (ranking : List ℕ) (c : Column) → IsRanking m worths ranking → IsLegalColumn m c → IsOfSet m [] (left_of ranking (length ranking)) m.colour_limit c
column_set m worths ranking c ranked legal = record {
  more = more;
  part = part_filter (has colours) ranks;
  few = omega (arith, distinct_few more colours (part_distinct more ranks (part_filter (has colours) ranks) (left_distinct ranking (length ranking) (omega arith) ranked.distinct)) (λ x e. (kept x e).1), legal.fits.colours);
  colours = λ o e. has-filter (has colours) ranks (colour_at m o)
      ∙ together (has ranks (colour_at m o)) (has colours (colour_at m o)) (has_whole ranking (colour_at m o) (ranked.all o (below_rising 0 (length m.orders) c.orders legal.rises o e))) (one_of_colours m c.orders o e);
}
  where
    colours : List ℕ
    colours = map (λ o. (order_at m o).colour) c.orders

    ranks : List ℕ
    ranks = left_of ranking (length ranking)

    more : List ℕ
    more = filter (has colours) ranks

    together : (a b : Bool) → a ≡ true → b ≡ true → (a && b) ≡ true
    together a b h k = rw (h, k) refl

    kept : (x : ℕ) → has more x ≡ true → (has ranks x ≡ true) × (has colours x ≡ true)
    kept x e = apart (has ranks x) (has colours x) (sym (has-filter (has colours) ranks x) ∙ e)
      where
        apart : (a b : Bool) → (a && b) ≡ true → (a ≡ true) × (b ≡ true)
        apart true b h = (refl, h)
        apart false b h = absurd (both_ways false refl h)

-- no colour is left to take
pub set_full : (m : Mill) (taken rest : List ℕ) (c : Column) → IsOfSet m taken rest 0 c → AreOf m taken c.orders
set_full m taken rest c set = at set.more set.few set.colours
  where
    at : (more : List ℕ) → length more ≤ 0 → AreOf m (taken ++ more) c.orders → AreOf m taken c.orders
    at [] few of = subst (λ (xs : List ℕ). AreOf m xs c.orders) (append-nil taken) of
    at (x ∷ more) few of = absurd (omega arith)

pub set_end : (m : Mill) (taken : List ℕ) (left : ℕ) (c : Column) → IsOfSet m taken [] left c → AreOf m taken c.orders
set_end m taken left c set = subst (λ (xs : List ℕ). AreOf m xs c.orders) (ap (λ xs. taken ++ xs) set.part ∙ append-nil taken) set.colours

-- the next colour is taken, or left out
pub set_step : (m : Mill) (ranking taken : List ℕ) (rank left : ℕ) (c : Column) → IsOfSet m taken (left_of ranking (rank + 1)) (left + 1) c
    → IsOfSet m (taken ++ get_or ranking rank 0 ∷ []) (left_of ranking rank) left c ⊎ IsOfSet m taken (left_of ranking rank) (left + 1) c
set_step m ranking taken rank left c set = step (subst (λ (xs : List ℕ). IsPart set.more xs) (left_more ranking rank) set.part)
  where
    step : IsPart set.more (get_or ranking rank 0 ∷ left_of ranking rank) → IsOfSet m (taken ++ get_or ranking rank 0 ∷ []) (left_of ranking rank) left c ⊎ IsOfSet m taken (left_of ranking rank) (left + 1) c
    step (inl part) = inr (record { more = set.more; part = part; few = set.few; colours = set.colours })
    step (inr (ys, e, part)) = inl (record {
      more = ys;
      part = part;
      few = omega (arith, set.few, ap length e);
      colours = subst (λ (xs : List ℕ). AreOf m xs c.orders) (ap (λ xs. taken ++ xs) e ∙ sym (append_assoc taken (get_or ranking rank 0 ∷ []) ys)) set.colours;
    })
