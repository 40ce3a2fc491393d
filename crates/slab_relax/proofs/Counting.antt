-- Tallies one after another, and what rose for their sake.
use Rattle.std.proofs.Common.{◌≡◌, ℕ, ◌+◌, ◌≤◌, ◌<◌, ◌-◌, ◌^◌, inl, inr, arith}
use Rattle.std.proofs.lemmas.Bool.{cases_lt}
use Rattle.slab_counter.specs.Counter.{Rose}
use Rattle.slab_counter.proofs.Rising.{Rose-later, Rose-earlier, next_count-below}
use Rattle.slab_relax.specs.declared.tally.Tally.{Tally}
use Rattle.slab_relax.specs.Tallies.{AreNoLess, HasCause, IsAtLast, HaveCauses}

pub no_less_same : (a : Tally) → AreNoLess a a
no_less_same a = record { wides = omega arith; stalls = omega arith; pivots = omega arith; fulls = omega arith }

pub no_less_trans : (a b c : Tally) → AreNoLess a b → AreNoLess b c → AreNoLess a c
no_less_trans a b c h k = record { wides = omega arith; stalls = omega arith; pivots = omega arith; fulls = omega arith }

-- ---- a cause in a part of a time is one in all of it

pub cause_later : (a b c : Tally) → AreNoLess b c → HasCause a b → HasCause a c
cause_later a b c h (inl r) = inl (Rose-later a.wides b.wides c.wides r h.wides)
cause_later a b c h (inr (inl r)) = inr (inl (Rose-later a.stalls.stalls b.stalls.stalls c.stalls.stalls r h.stalls))
cause_later a b c h (inr (inr r)) = inr (inr (Rose-later a.fulls b.fulls c.fulls r h.fulls))

pub cause_earlier : (a b c : Tally) → AreNoLess a b → HasCause b c → HasCause a c
cause_earlier a b c h (inl r) = inl (Rose-earlier a.wides b.wides c.wides h.wides r)
cause_earlier a b c h (inr (inl r)) = inr (inl (Rose-earlier a.stalls.stalls b.stalls.stalls c.stalls.stalls h.stalls r))
cause_earlier a b c h (inr (inr r)) = inr (inr (Rose-earlier a.fulls b.fulls c.fulls h.fulls r))

-- ---- what rises only with a cause

rose_rises : (a b : ℕ) → Rose a b → a < 2 ^ 64 - 1 → a + 1 ≤ b
rose_rises a b r lt = omega (arith, r, next_count-below a lt)

-- nothing more
pub causes_same : (a b : ℕ) (s t : Tally) → b ≡ a → AreNoLess s t → HaveCauses a s b t
causes_same a b s t e h = inl (omega arith)

-- one more, for a cause
pub causes_more : (a : ℕ) (s t : Tally) → AreNoLess s t → HasCause s t → HaveCauses a s (a + 1) t
causes_more a s t h (inl r) = elim (cases_lt s.wides (2 ^ 64 - 1)) [ inl lt ↦ inl (omega (arith, rose_rises s.wides t.wides r lt)) | inr ge ↦ inr (inl (omega arith)) ]
causes_more a s t h (inr (inl r)) = elim (cases_lt s.stalls.stalls (2 ^ 64 - 1)) [ inl lt ↦ inl (omega (arith, rose_rises s.stalls.stalls t.stalls.stalls r lt)) | inr ge ↦ inr (inr (inl (omega arith))) ]
causes_more a s t h (inr (inr r)) = elim (cases_lt s.fulls (2 ^ 64 - 1)) [ inl lt ↦ inl (omega (arith, rose_rises s.fulls t.fulls r lt)) | inr ge ↦ inr (inr (inr (omega arith))) ]

last_stays : (s t : Tally) → AreNoLess s t → IsAtLast s → IsAtLast t
last_stays s t h (inl l) = inl (omega arith)
last_stays s t h (inr (inl l)) = inr (inl (omega arith))
last_stays s t h (inr (inr l)) = inr (inr (omega arith))

pub causes_trans : (a b c : ℕ) (r s t : Tally) → AreNoLess s t → HaveCauses a r b s → HaveCauses b s c t → HaveCauses a r c t
causes_trans a b c r s t h (inl u) (inl v) = inl (omega arith)
causes_trans a b c r s t h (inl u) (inr l) = inr l
causes_trans a b c r s t h (inr l) v = inr (last_stays s t h l)
