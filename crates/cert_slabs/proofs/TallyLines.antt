-- The sums over shares, and the rules that are tested by them.
use Rattle.std.proofs.Common.{◌≡◌, ◌↔◌, ℕ, ◌+◌, ◌*◌, ◌<◌, ◌≤◌, ℤ, pos, unsigned_abs, ◌≤ℤ◌, ◌*ℤ◌, Bool, true, false, ◌||◌, cond, eqb, inl, inr, List, [], ◌∷◌, ◌++◌, drop, length, get_or, sum, ◌^◌, Some, refl, sym, ap, ap₂, ◌∙◌, subst, arith}
use Rattle.std.specs.List.{sum_by}
use Rattle.std.proofs.lemmas.List.Sums.{sum_by_push}
use Rattle.std.proofs.lemmas.Bool.{cases_Bool, eqb-true, false≢true}
use Rattle.std.proofs.Math.Nat.{mul-le-mul_left, mul-le-mul_right}
use Rattle.cert_slabs.proofs.Rising.{sum_small}
use Rattle.mill_model.specs.declared.kind.Kind.{Kind}
use Rattle.mill_model.specs.declared.kind.Kind.TheVariants.{New, Old}
use Rattle.mill_model.specs.declared.limits.Limits.{Limits}
use Rattle.mill_model.specs.Mill.{Mill}
use Rattle.mill_model.specs.Columns.{Column, IsInStock, Rises, has, is_old, loss_of}
use Rattle.mill_model.specs.Plans.{is_new}
use Rattle.mill_model.specs.Limits.{AtMost}
use Rattle.mill_model.specs.Covers.{times as times_of}
use Rattle.mill_model.specs.Shares.{Share}
use Rattle.cert_rules.specs.declared.why.Why.{Why}
use Rattle.cert_rules.specs.declared.why.Why.TheVariants as why
use Rattle.cert_rules.specs.Rules.{AllKept, FirstBroken}
use Rattle.cert_rules.specs.Numbers.{Names, index, natural, number_at}
use Rattle.cert_rules.specs.Slabs.{IsListed, orders_on}
use Rattle.cert_rules.specs.Spreads.{column_of, multiplier_of, covered, used, lost, opened, OrdersWithin, SlabsWithin, CoversAll, LosesFew, OpensFew, AreNamed, share_of_new, share_of_old, cover_rules}
use Rattle.cert_rules.proofs.Slabs.{has_below}
use Rattle.cert_slabs.specs.Answers.{share_of, slab_rules, new_share_front, old_share_front}
use Rattle.cert_slabs.specs.Tallies.{Tally, IsTally, AreWithin, IsAdded, StayWithin, is_some_share}

-- ---- a spread that begins

pub tally_started : (m : Mill) (d : ℤ) (t : Tally) → t.d ≡ d → t.begun ≡ false → ((o : ℕ) → get_or t.covered o 0 ≡ 0) → ((s : ℕ) → get_or t.used s 0 ≡ 0) → t.lost ≡ 0 → t.opened ≡ 0 → IsTally m d [] t
tally_started m d t d_is begun covered_is used_is lost_is opened_is = record {
  d_is = d_is;
  begun = begun;
  covered_is = λ o l. covered_is o;
  used_is = λ s l. used_is s;
  lost_is = lost_is;
  opened_is = opened_is;
}

-- ---- a share more

module _ (m : Mill) (d : ℤ) (shares : List Share) (old : Tally) (is : IsTally m d shares old) (x : ℕ) (kind : Kind) (orders : List ℕ) where
  abbrev share : Share
  share = record { times = pos x; kind = kind; orders = orders }

  abbrev more : List Share
  more = shares ++ share ∷ []

  covered_more : (o : ℕ) → covered o more ≡ covered o shares + cond (has orders o) x 0
  covered_more o = sum_by_push (λ (s : Share). cond (has (column_of s).orders o) (multiplier_of s) 0) shares share

  used_more : (s : ℕ) → used s more ≡ used s shares + cond (is_old s kind) x 0
  used_more s = sum_by_push (λ (t : Share). cond (is_old s (column_of t).kind) (multiplier_of t) 0) shares share

  lost_more : lost m more ≡ lost m shares + x * loss_of m (record { kind = kind; orders = orders })
  lost_more = sum_by_push (λ (s : Share). multiplier_of s * loss_of m (column_of s)) shares share

  opened_more : opened more ≡ opened shares + cond (is_new kind) x 0
  opened_more = sum_by_push (λ (s : Share). cond (is_new (column_of s).kind) (multiplier_of s) 0) shares share

  begun_more : (xs : List Share) → is_some_share (xs ++ share ∷ []) ≡ true
  begun_more [] = refl
  begun_more (s ∷ xs) = refl

  -- each order of the share may be covered so many times more, or one is covered too often
  pub orders_within : (most : ℕ) → length old.covered ≡ length m.orders → AreWithin most old.covered → ((o : ℕ) → has orders o ≡ true → get_or old.covered o 0 + x ≤ most) → OrdersWithin m most more
  orders_within most same within fits o l = elim (cases_Bool (has orders o)) [
    | inl there ↦ let e : covered o more ≡ covered o shares + x = covered_more o ∙ ap (λ b. covered o shares + cond b x 0) there in omega (arith, e, is.covered_is o l, fits o there)
    | inr gone ↦ let e : covered o more ≡ covered o shares + 0 = covered_more o ∙ ap (λ b. covered o shares + cond b x 0) gone in omega (arith, e, is.covered_is o l, within o (omega (arith, l, same)))
  ]

  pub orders_fit : (most : ℕ) → Rises 0 (length m.orders) orders → OrdersWithin m most more → (o : ℕ) → has orders o ≡ true → get_or old.covered o 0 + x ≤ most
  orders_fit most rise within o there =
      let l : o < length m.orders = has_below 0 (length m.orders) orders o rise there in
      let e : covered o more ≡ covered o shares + x = covered_more o ∙ ap (λ b. covered o shares + cond b x 0) there in
      omega (arith, e, is.covered_is o l, within o l)

  -- the tally with the share
  pub tally_more : (new : Tally) → new.d ≡ old.d → new.begun ≡ true → length old.covered ≡ length m.orders → IsAdded old.covered new.covered orders x
      → ((s : ℕ) → s < length m.yard → get_or new.used s 0 ≡ get_or old.used s 0 + cond (is_old s kind) x 0)
      → new.lost ≡ old.lost + x * loss_of m (record { kind = kind; orders = orders }) → new.opened ≡ old.opened + cond (is_new kind) x 0 → IsTally m d more new
  tally_more new d_is begun same added used_is lost_is opened_is = record {
    d_is = d_is ∙ is.d_is;
    begun = begun ∙ sym (begun_more shares);
    covered_is = λ o l. added.added o (omega (arith, l, same)) ∙ ap (λ n. n + cond (has orders o) x 0) (is.covered_is o l) ∙ sym (covered_more o);
    used_is = λ s l. used_is s l ∙ ap (λ n. n + cond (is_old s kind) x 0) (is.used_is s l) ∙ sym (used_more s);
    lost_is = lost_is ∙ ap (λ n. n + x * loss_of m (record { kind = kind; orders = orders })) is.lost_is ∙ sym lost_more;
    opened_is = opened_is ∙ ap (λ n. n + cond (is_new kind) x 0) is.opened_is ∙ sym opened_more;
  }

  pub slabs_within : (most : ℕ) → ((s : ℕ) → s < length m.yard → get_or old.used s 0 + cond (is_old s kind) x 0 ≤ most) → SlabsWithin m most more
  slabs_within most fits s l = omega (arith, used_more s, is.used_is s l, fits s l)

  pub slabs_fit : (most : ℕ) → SlabsWithin m most more → (s : ℕ) → s < length m.yard → get_or old.used s 0 + cond (is_old s kind) x 0 ≤ most
  slabs_fit most within s l = omega (arith, used_more s, is.used_is s l, within s l)

-- ---- the rules of a share's line

module _ (m : Mill) (numbers : List ℤ) (some : 2 ≤ length numbers) where
  abbrev first : ℤ
  first = number_at numbers 0

  abbrev second : ℤ
  second = number_at numbers 1

  abbrev others : List ℤ
  others = drop 2 numbers

  pub front_of_two : numbers ≡ first ∷ second ∷ others
  front_of_two = front numbers some
    where
      front : (ns : List ℤ) → 2 ≤ length ns → ns ≡ number_at ns 0 ∷ number_at ns 1 ∷ drop 2 ns
      front [] h = absurd (omega (arith, h))
      front (x ∷ []) h = absurd (omega (arith, h))
      front (x ∷ y ∷ ns) h = refl

  new_broken : (broken : Why) → FirstBroken (new_share_front m (first ∷ second ∷ others)) broken → FirstBroken (new_share_front m numbers) broken
  new_broken broken = subst (λ ns. FirstBroken (new_share_front m ns) broken) (sym front_of_two)

  pub new_range_broken : (pos 1 ≤ℤ first → ⊥) → FirstBroken (new_share_front m numbers) why.Range
  new_range_broken h = new_broken why.Range (inl (h, refl))

  pub new_size_broken : pos 1 ≤ℤ first → (IsListed m second → ⊥) → FirstBroken (new_share_front m numbers) why.Size
  new_size_broken range h = new_broken why.Size (inr (range, inl (h, refl)))

  pub new_place_broken : pos 1 ≤ℤ first → IsListed m second → (AreNamed m others → ⊥) → FirstBroken (new_share_front m numbers) why.Place
  new_place_broken range size h = new_broken why.Place (inr (range, inr (size, inl (h, refl))))

  abbrev new_column : Column
  new_column = record { kind = New (natural second); orders = orders_on others }

  pub new_slab_broken : (broken : Why) → pos 1 ≤ℤ first → IsListed m second → AreNamed m others → FirstBroken (slab_rules m new_column) broken → FirstBroken (new_share_front m numbers) broken
  new_slab_broken broken range size place h = new_broken broken (inr (range, inr (size, inr (place, h))))

  pub new_kept : pos 1 ≤ℤ first → IsListed m second → AreNamed m others → AllKept (slab_rules m new_column) → AllKept (new_share_front m numbers)
  new_kept range size place h = subst (λ ns. AllKept (new_share_front m ns)) (sym front_of_two) (range, (size, (place, h)))

  pub new_share_is : share_of_new numbers ≡ record { times = first; kind = New (natural second); orders = orders_on others }
  new_share_is = ap share_of_new front_of_two

  old_broken : (broken : Why) → FirstBroken (old_share_front m (first ∷ second ∷ others)) broken → FirstBroken (old_share_front m numbers) broken
  old_broken broken = subst (λ ns. FirstBroken (old_share_front m ns) broken) (sym front_of_two)

  pub old_range_broken : (pos 1 ≤ℤ first → ⊥) → FirstBroken (old_share_front m numbers) why.Range
  old_range_broken h = old_broken why.Range (inl (h, refl))

  pub old_yard_broken : pos 1 ≤ℤ first → (Names (length m.yard) second → ⊥) → FirstBroken (old_share_front m numbers) why.Yard
  old_yard_broken range h = old_broken why.Yard (inr (range, inl (h, refl)))

  pub old_place_broken : pos 1 ≤ℤ first → Names (length m.yard) second → (AreNamed m others → ⊥) → FirstBroken (old_share_front m numbers) why.Place
  old_place_broken range yard h = old_broken why.Place (inr (range, inr (yard, inl (h, refl))))

  abbrev old_column : Column
  old_column = record { kind = Old (index second); orders = orders_on others }

  pub old_slab_broken : (broken : Why) → pos 1 ≤ℤ first → Names (length m.yard) second → AreNamed m others → FirstBroken (slab_rules m old_column) broken → FirstBroken (old_share_front m numbers) broken
  old_slab_broken broken range yard place h = old_broken broken (inr (range, inr (yard, inr (place, h))))

  pub old_kept : pos 1 ≤ℤ first → Names (length m.yard) second → AreNamed m others → AllKept (slab_rules m old_column) → AllKept (old_share_front m numbers)
  old_kept range yard place h = subst (λ ns. AllKept (old_share_front m ns)) (sym front_of_two) (range, (yard, (place, h)))

  pub old_share_is : share_of_old numbers ≡ record { times = first; kind = Old (index second); orders = orders_on others }
  old_share_is = ap share_of_old front_of_two

-- ---- the end

module _ (m : Mill) (d : ℤ) (shares : List Share) (t : Tally) (is : IsTally m d shares t) where
  pub covers_all : (most : ℕ) → length t.covered ≡ length m.orders → ((o : ℕ) → o < length t.covered → get_or t.covered o 0 ≡ most) → CoversAll m most shares
  covers_all most same all o l = sym (is.covered_is o l) ∙ all o (omega (arith, l, same))

  pub all_covered : (most : ℕ) → length t.covered ≡ length m.orders → CoversAll m most shares → (o : ℕ) → o < length t.covered → get_or t.covered o 0 ≡ most
  all_covered most same covers o l = is.covered_is o (omega (arith, l, same)) ∙ covers o (omega (arith, l, same))

  pub loses_few : (limits : Limits) (most : ℕ) → AtMost (Some (pos t.lost)) (times_of most limits.loss) ↔ LosesFew m limits most shares
  loses_few limits most = (subst (λ n. AtMost (Some (pos n)) (times_of most limits.loss)) is.lost_is, subst (λ n. AtMost (Some (pos n)) (times_of most limits.loss)) (sym is.lost_is))

  pub opens_few : (limits : Limits) (most : ℕ) → AtMost (Some (pos t.opened)) (times_of most limits.count) ↔ OpensFew limits most shares
  opens_few limits most = (subst (λ n. AtMost (Some (pos n)) (times_of most limits.count)) is.opened_is, subst (λ n. AtMost (Some (pos n)) (times_of most limits.count)) (sym is.opened_is))

-- ---- how large the sums are

pub sums_small : (d : ℕ) (covered : List ℕ) → length covered ≤ 250 → d ≤ 2 ^ 62 → AreWithin d covered → sum covered ≤ 250 * 2 ^ 62
sums_small d covered few most within = omega (arith, sum_small (2 ^ 62) covered (λ i l. omega (arith, within i l, most)), mul-le-mul_right (2 ^ 62) few)

pub stay_orders : (m : Mill) (d : ℕ) (shares : List Share) (kind : Kind) → StayWithin m d shares kind → OrdersWithin m d shares
stay_orders m d shares (New size) h = h
stay_orders m d shares (Old s) h = h.0

pub stay_slabs : (m : Mill) (d : ℕ) (shares : List Share) (s : ℕ) → StayWithin m d shares (Old s) → SlabsWithin m d shares
stay_slabs m d shares s h = h.1

-- a share's orders are some, so that what it covers is at least its multiplier
pub share_covers : (times : ℕ) (orders : List ℕ) → 0 < length orders → times ≤ times * length orders
share_covers times orders some = omega (arith, mul-le-mul_left times some)

pub cond_small : (b : Bool) (n : ℕ) → cond b n 0 ≤ n
cond_small true n = omega arith
cond_small false n = omega arith

-- a surplus slab that is used within the limit has room for the share
pub kind_fits : (m : Mill) (d : ℤ) (shares : List Share) (old : Tally) (x : ℕ) (kind : Kind) (orders : List ℕ) (most : ℕ) → IsTally m d shares old → IsInStock m kind → StayWithin m most (shares ++ share_of x kind orders ∷ []) kind → (s : ℕ) → is_old s kind ≡ true → get_or old.used s 0 + x ≤ most
kind_fits m d shares old x (New size) orders most is stock stay s there = absurd (false≢true there)
kind_fits m d shares old x (Old t) orders most is stock stay s there =
    let l : s < length m.yard = omega (arith, stock, eqb-true t s there) in
    let fit : get_or old.used s 0 + cond (eqb t s) x 0 ≤ most = slabs_fit m d shares old is x (Old t) orders most stay.1 s l in
    subst (λ b. get_or old.used s 0 + cond b x 0 ≤ most) there fit

-- and the other way round
pub kind_stays : (m : Mill) (d : ℤ) (shares : List Share) (old : Tally) (x : ℕ) (kind : Kind) (orders : List ℕ) (most : ℕ) → IsTally m d shares old → length old.used ≡ length m.yard → AreWithin most old.used → OrdersWithin m most (shares ++ share_of x kind orders ∷ []) → ((s : ℕ) → is_old s kind ≡ true → get_or old.used s 0 + x ≤ most) → StayWithin m most (shares ++ share_of x kind orders ∷ []) kind
kind_stays m d shares old x (New size) orders most is same within covers fits = covers
kind_stays m d shares old x (Old t) orders most is same within covers fits = (
  covers,
  slabs_within m d shares old is x (Old t) orders most (λ s l. elim (cases_Bool (eqb t s)) [
    | inl there ↦ subst (λ b. get_or old.used s 0 + cond b x 0 ≤ most) (sym there) (fits s there)
    | inr gone ↦ subst (λ b. get_or old.used s 0 + cond b x 0 ≤ most) (sym gone) (omega (arith, within s (omega (arith, l, same))))
  ]),
)
