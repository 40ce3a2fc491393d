-- The steps of a walk over the groups of a queue.
use Rattle.std.proofs.Common.{◌≡◌, ◌⊎◌, inl, inr, ℕ, ◌+◌, ◌*◌, ◌^◌, ◌<◌, ◌≤◌, ◌+ℤ◌, ◌≤ℤ◌, ℤ, true, List, [], ◌∷◌, ◌++◌, length, get_or, refl, sym, subst, ap, ◌∙◌, arith, append_assoc, append-nil}
use Rattle.std.specs.Prelude.{◌-ℤ◌, unsigned_abs}
use Rattle.std.specs.List.{sum_by}
use Rattle.std.proofs.lemmas.Int.{ints}
use Rattle.std.proofs.lemmas.List.{length_push}
use Rattle.std.proofs.lemmas.List.Sums.{sum_by-append, sum_by_push}
use Rattle.mill_model.specs.SignedSums.{total_by}
use Rattle.mill_model.specs.Columns.{Column, has, load}
use Rattle.mill_model.proofs.Signed.{total_by-append}
use Rattle.pricing_laws.specs.Bounds.{AreEnds, IsMost}
use Rattle.pricing_laws.specs.Choices.{AreChosen, IsChoice}
use Rattle.pricing_laws.specs.Colours.{AreGroupsOf, AreOf}
use Rattle.pricing_laws.specs.Gains.{gains_of, cost_of}
use Rattle.pricing_laws.specs.Groups.{IsApart, head_of, members}
use Rattle.pricing_laws.specs.Groupings.{Groups, AreGroups, weight_at, gain_at}
use Rattle.pricing_laws.specs.Parts.{AreDistinct, IsPart, left_of}
use Rattle.pricing_laws.specs.Problems.{Problem, IsAllowed, ExceedAtMost}
use Rattle.pricing_laws.proofs.Colours.{members_of}
use Rattle.pricing_laws.proofs.Excesses.{excess_split}
use Rattle.pricing_laws.proofs.Groups.{has-members}
use Rattle.pricing_laws.proofs.Groupings.{group_gains, group_small, group_weights}
use Rattle.pricing_laws.proofs.Parts.{distinct_below, has_here, has_later, has_left, has_left_of, has_right, left_more, part_distinct, part_has, part_later, part_next, part_nil}
use Rattle.pricing_laws.proofs.Problems.{exceed_none}

pub total_small : (f : ℕ → ℤ) (n : ℕ) (xs : List ℕ) → ((x : ℕ) → has xs x ≡ true → x < n) → ((x : ℕ) → x < n → unsigned_abs (f x) ≤ 2 ^ 84) → unsigned_abs (total_by f xs) ≤ length xs * 2 ^ 84
total_small f n [] inside h = omega arith
total_small f n (x ∷ xs) inside h =
    sums (f x) (total_by f xs) (total_by f (x ∷ xs)) (length xs) (length (x ∷ xs)) refl (omega arith) (h x (inside x (has_here x xs))) (total_small f n xs (λ y e. inside y (has_later y x xs e)) h)
  where
    sums : (a b c : ℤ) (n k : ℕ) → c ≡ a +ℤ b → k ≡ n + 1 → unsigned_abs a ≤ 2 ^ 84 → unsigned_abs b ≤ n * 2 ^ 84 → unsigned_abs c ≤ k * 2 ^ 84
    sums a b c n k e q i j = omega (arith, ints)

-- ---- what is chosen

-- a group is left out
pub chosen_later : (g : Groups) (queue : List ℕ) (left : ℕ) (chosen : List ℕ) (weight : ℕ) (gain : ℤ) → AreChosen g queue (left + 1) chosen weight gain → AreChosen g queue left chosen weight gain
chosen_later g queue left chosen weight gain a = record {
  part = λ more part. a.part more (part_later queue left more part);
  count = omega (arith, a.count);
  weight_is = a.weight_is;
  gain_is = a.gain_is;
}

-- a group is taken
pub chosen_taken : (g : Groups) (queue : List ℕ) (left : ℕ) (chosen : List ℕ) (weight : ℕ) (gain : ℤ) → AreChosen g queue (left + 1) chosen weight gain
    → AreChosen g queue left (chosen ++ get_or queue left 0 ∷ []) (weight + weight_at g (get_or queue left 0)) (gain +ℤ gain_at g (get_or queue left 0))
chosen_taken g queue left chosen weight gain a = record {
  part = λ more part. subst (λ (xs : List ℕ). IsPart xs (left_of queue (length queue))) (sym (append_assoc chosen (get_or queue left 0 ∷ []) more))
      (a.part (get_or queue left 0 ∷ more) (part_next queue left more part));
  count = omega (arith, a.count, length_push chosen (get_or queue left 0));
  weight_is = omega (arith, a.weight_is, sum_by_push (weight_at g) chosen (get_or queue left 0));
  gain_is = omega (arith, ints, a.gain_is, total_by-append (gain_at g) chosen (get_or queue left 0 ∷ []));
}

-- ---- the choices that are left

-- no group is left
pub choice_end : (heads chosen : List ℕ) (c : Column) → IsChoice heads chosen [] c → c.orders ≡ members heads chosen
choice_end heads chosen c choice = choice.orders ∙ ap (members heads) (ap (λ xs. chosen ++ xs) choice.part ∙ append-nil chosen)

-- the next group is taken, or left out
pub choice_step : (heads queue chosen : List ℕ) (left : ℕ) (c : Column) → IsChoice heads chosen (left_of queue (left + 1)) c
    → IsChoice heads (chosen ++ get_or queue left 0 ∷ []) (left_of queue left) c ⊎ IsChoice heads chosen (left_of queue left) c
choice_step heads queue chosen left c choice = step (subst (λ (xs : List ℕ). IsPart choice.more xs) (left_more queue left) choice.part)
  where
    step : IsPart choice.more (get_or queue left 0 ∷ left_of queue left) → IsChoice heads (chosen ++ get_or queue left 0 ∷ []) (left_of queue left) c ⊎ IsChoice heads chosen (left_of queue left) c
    step (inl part) = inr (record { more = choice.more; part = part; orders = choice.orders })
    step (inr (ys, e, part)) = inl (record {
      more = ys;
      part = part;
      orders = choice.orders ∙ ap (members heads) (ap (λ xs. chosen ++ xs) e ∙ sym (append_assoc chosen (get_or queue left 0 ∷ []) ys));
    })

module _ (q : Problem) (g : Groups) (groups : AreGroups q.mill q.decisions q.prices g) (colours queue : List ℕ) (queued : AreGroupsOf q.mill g.heads colours (left_of queue (length queue))) where
  -- the groups of the queue are of orders
  inside : (h : ℕ) → has (left_of queue (length queue)) h ≡ true → h < length q.mill.orders
  inside h e = (queued.sound h e).inside

  pub queue_inside : (k : ℕ) → k < length queue → get_or queue k 0 < length q.mill.orders
  queue_inside k h = inside (get_or queue k 0) (has_left_of queue (length queue) k h)

  module _ (left : ℕ) (chosen : List ℕ) (weight : ℕ) (gain : ℤ) (taken : AreChosen g queue left chosen weight gain) where
    -- those chosen and some of those left
    pub chosen_distinct : (more : List ℕ) → IsPart more (left_of queue left) → AreDistinct (chosen ++ more)
    chosen_distinct more part = part_distinct (chosen ++ more) (left_of queue (length queue)) (taken.part more part) queued.distinct

    pub chosen_inside : (more : List ℕ) → IsPart more (left_of queue left) → (h : ℕ) → has (chosen ++ more) h ≡ true → h < length q.mill.orders
    chosen_inside more part h e = inside h (part_has (chosen ++ more) (left_of queue (length queue)) (taken.part more part) h e)

    -- what they weigh and gain
    pub chosen_weight : (more : List ℕ) → IsPart more (left_of queue left) → load q.mill (members g.heads (chosen ++ more)) ≡ weight + sum_by (weight_at g) more
    chosen_weight more part =
        omega (arith, group_weights q.mill q.decisions q.prices g groups (chosen ++ more) (chosen_distinct more part) (chosen_inside more part), sum_by-append (weight_at g) chosen more, taken.weight_is)

    pub chosen_gain : (more : List ℕ) → IsPart more (left_of queue left) → gains_of q.mill q.prices (members g.heads (chosen ++ more)) ≡ gain +ℤ total_by (gain_at g) more
    chosen_gain more part =
        omega (arith, ints, group_gains q.mill q.decisions q.prices g groups (chosen ++ more) (chosen_distinct more part) (chosen_inside more part), total_by-append (gain_at g) chosen more, taken.gain_is)

    pub chosen_small : length q.mill.orders ≤ 250 → unsigned_abs gain ≤ 2 ^ 92
    chosen_small few =
        let within : (h : ℕ) → has chosen h ≡ true → h < length q.mill.orders = λ h e. chosen_inside [] (part_nil (left_of queue left)) h (has_left chosen [] h e) in
        let distinct : AreDistinct chosen = subst AreDistinct (append-nil chosen) (chosen_distinct [] (part_nil (left_of queue left))) in
        let short : length chosen ≤ length q.mill.orders = distinct_below chosen (length q.mill.orders) distinct within in
        let total : unsigned_abs (total_by (gain_at g) chosen) ≤ length chosen * 2 ^ 84 = total_small (gain_at g) (length q.mill.orders) chosen within (λ x h. omega (arith, group_small q.mill q.decisions q.prices g groups x h)) in
        subst (λ (z : ℤ). unsigned_abs z ≤ 2 ^ 92) (sym taken.gain_is) (omega (arith, short, few, total))

    -- their orders are of the colours
    pub chosen_colours : AreOf q.mill colours (members g.heads chosen)
    chosen_colours = members_of q.mill g.heads colours chosen groups.room.heads
        (λ h e. queued.sound h (part_has (chosen ++ []) (left_of queue (length queue)) (taken.part [] (part_nil (left_of queue left))) h (has_left chosen [] h e)))

    -- a bound on what is left
    pub choice_bounded : (most : ℤ) → IsMost q.mill q.prices g (left_of queue left) weight (most -ℤ gain) → ExceedAtMost q most (IsChoice g.heads chosen (left_of queue left))
    choice_bounded most bound c allowed choice =
        let weights : load q.mill c.orders ≡ weight + sum_by (weight_at g) choice.more = ap (load q.mill) choice.orders ∙ chosen_weight choice.more choice.part in
        let gains : gains_of q.mill q.prices c.orders ≡ gain +ℤ total_by (gain_at g) choice.more = ap (gains_of q.mill q.prices) choice.orders ∙ chosen_gain choice.more choice.part in
        let rest : (total_by (gain_at g) choice.more -ℤ cost_of q.mill q.prices c.kind) ≤ℤ (most -ℤ gain) = bound choice.more c.kind choice.part allowed.legal.fits.kind (omega (arith, allowed.legal.fits.weight, weights)) in
        chain _ _ _ _ _ _ (excess_split q.mill q.prices c allowed.legal.fits.weight) gains rest
      where
        chain : (e all left cost most gain : ℤ) → e ≡ all -ℤ cost → all ≡ gain +ℤ left → (left -ℤ cost) ≤ℤ (most -ℤ gain) → e ≤ℤ most
        chain e all left cost most gain h i j = omega (arith, ints)

  module _ (left : ℕ) (chosen : List ℕ) (weight : ℕ) (gain : ℤ) (taken : AreChosen g queue (left + 1) chosen weight gain) where
    -- no slab holds the next group too
    pub choice_heavy : (most : ℤ) (ends : List ℤ) → AreEnds q.mill q.prices ends → length ends ≤ weight + weight_at g (get_or queue left 0) → ExceedAtMost q most (IsChoice g.heads (chosen ++ get_or queue left 0 ∷ []) (left_of queue left))
    choice_heavy most ends are heavy = exceed_none q most (IsChoice g.heads (chosen ++ get_or queue left 0 ∷ []) (left_of queue left)) too_heavy
      where
        too_heavy : (c : Column) → IsAllowed q c → IsChoice g.heads (chosen ++ get_or queue left 0 ∷ []) (left_of queue left) c → ⊥
        too_heavy c allowed choice =
            let weights : load q.mill c.orders ≡ weight + weight_at g (get_or queue left 0) + sum_by (weight_at g) choice.more =
            ap (load q.mill) choice.orders ∙ chosen_weight left (chosen ++ get_or queue left 0 ∷ []) (weight + weight_at g (get_or queue left 0)) (gain +ℤ gain_at g (get_or queue left 0)) (chosen_taken g queue left chosen weight gain taken) choice.more choice.part in
            omega (arith, heavy, weights, allowed.legal.fits.weight, are.room c.kind allowed.legal.fits.kind)

    -- the decisions keep it apart from one that is chosen
    pub choice_apart : (most : ℤ) → IsApart q.decisions chosen (get_or queue left 0) → ExceedAtMost q most (IsChoice g.heads (chosen ++ get_or queue left 0 ∷ []) (left_of queue left))
    choice_apart most (other, chose, apart) = exceed_none q most (IsChoice g.heads (chosen ++ get_or queue left 0 ∷ []) (left_of queue left)) never
      where
        never : (c : Column) → IsAllowed q c → IsChoice g.heads (chosen ++ get_or queue left 0 ∷ []) (left_of queue left) c → ⊥
        never c allowed choice =
            apart c allowed.agrees (member other (has_left (chosen ++ get_or queue left 0 ∷ []) choice.more other (has_left chosen (get_or queue left 0 ∷ []) other chose)))
            (member (get_or queue left 0) (has_left (chosen ++ get_or queue left 0 ∷ []) choice.more (get_or queue left 0) (has_right chosen (get_or queue left 0 ∷ []) (get_or queue left 0) (has_here (get_or queue left 0) []))))
          where
            member : (h : ℕ) → has ((chosen ++ get_or queue left 0 ∷ []) ++ choice.more) h ≡ true → has c.orders h ≡ true
            member h e =
                let all : IsPart ((chosen ++ get_or queue left 0 ∷ []) ++ choice.more) (left_of queue (length queue)) = (chosen_taken g queue left chosen weight gain taken).part choice.more choice.part in
                let own : head_of g.heads h ≡ h = (queued.sound h (part_has ((chosen ++ get_or queue left 0 ∷ []) ++ choice.more) (left_of queue (length queue)) all h e)).own in
                let below : h < length g.heads = omega (arith, inside h (part_has ((chosen ++ get_or queue left 0 ∷ []) ++ choice.more) (left_of queue (length queue)) all h e), groups.room.heads) in
                ap (λ (os : List ℕ). has os h) choice.orders ∙ has-members g.heads ((chosen ++ get_or queue left 0 ∷ []) ++ choice.more) h below ∙ ap (has ((chosen ++ get_or queue left 0 ∷ []) ++ choice.more)) own ∙ e
