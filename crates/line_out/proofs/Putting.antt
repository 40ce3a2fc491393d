-- Texts that are put one after another.
use Rattle.std.proofs.Common.{◌≡◌, ℕ, ◌≤◌, Bool, true, false, Ok, Err, Result, List, [], ◌∷◌, ◌++◌, refl, sym, ap, ◌∙◌, subst, append_assoc, append-nil, arith}
use Rattle.slab_counter.specs.Counter.{Rose}
use Rattle.std.proofs.lemmas.Bool.{false≢true}
use Rattle.slab_desk.specs.declared.desk.Failed.{Failed}
use Rattle.slab_desk.specs.Causes.{is_stopped_after}
use Rattle.slab_desk.specs.Desk.{Told, Steps, WithPrefix, Stays}
use Rattle.slab_desk.proofs.Steps.{steps_join, steps_weaker, steps_start}
use Rattle.line_out.specs.Seen.{Seen, IsSent}
use Rattle.line_out.specs.Puts.{Waiting, IsUnderWay, IsBroken, HasPut, Puts, Ends}

-- one text and then another
pub puts_then : {sends : List ℕ → Told → Told → Type 0} (first second : List ℕ) (a b c : Waiting × Seen)
    → Puts sends first a b → Puts sends second b c → Puts sends (first ++ second) a c
puts_then {sends} first second a b c p q = record {
  after = λ before start h. subst (λ (t : List ℕ). HasPut sends t start c.0 c.1) (append_assoc before first second) (q.after (before ++ first) start (p.after before start h));
}

pub puts_nothing : {sends : List ℕ → Told → Told → Type 0} (a : Waiting × Seen) → Puts sends [] a a
puts_nothing {sends} a = record { after = λ before start h. subst (λ (t : List ℕ). HasPut sends t start a.0 a.1) (sym (append-nil before)) h }

prefix_of_more : (sends : List ℕ → Told → Told → Type 0) (text more : List ℕ) (x y : Told) → WithPrefix sends text x y → WithPrefix sends (text ++ more) x y
prefix_of_more sends text more x y p = (p.0, p.1 ++ more, (ap (λ (t : List ℕ). t ++ more) p.2 ∙ append_assoc p.0 p.1 more), p.3)

-- a prefix of a text is one of a longer text
pub broken_more : {sends : List ℕ → Told → Told → Type 0} (text more : List ℕ) (start now : Seen) → IsBroken sends text start now → IsBroken sends (text ++ more) start now
broken_more {sends} text more start now b = record {
  prefix = steps_weaker start.told now.told (prefix_of_more sends text more) b.prefix;
  later = b.later;
  cause = b.cause;
  stopped = b.stopped;
  named = b.named;
}

-- more waits
pub kept : {sends : List ℕ → Told → Told → Type 0} (more waiting : List ℕ) (failed : Bool) (now : Seen)
    → Puts sends more (record { bytes = waiting; failed = failed }, now) (record { bytes = waiting ++ more; failed = failed }, now)
kept more waiting failed now = record {
  after = λ before start h. record {
    going = λ e. let u = h.going e in record {
      front = u.front;
      whole = ap (λ (t : List ℕ). t ++ more) u.whole ∙ append_assoc u.front waiting more;
      steps = u.steps;
      faults = u.faults;
      stopped = u.stopped;
      named = u.named;
    };
    broken = λ e. broken_more before more start now (h.broken e);
  };
}

-- of nothing and then of some bytes
stopped_joined : (before : Bool) (front more : List ℕ)
    → is_stopped_after {E = Failed} (is_stopped_after {E = Failed} before front (Ok (tt {0}))) more (Ok (tt {0})) ≡ is_stopped_after {E = Failed} before (front ++ more) (Ok (tt {0}))
stopped_joined before [] more = refl
stopped_joined before (b ∷ front) [] = refl
stopped_joined before (b ∷ front) (c ∷ more) = refl

abbrev pub Joins : (List ℕ → Told → Told → Type 0) → Type 0
Joins sends = (front more : List ℕ) (x y z : Told) → sends front x y → sends more y z → sends (front ++ more) x z

-- what waited went out
pub went_out : {sends : List ℕ → Told → Told → Type 0} (text waiting : List ℕ) (start now next : Seen) → Joins sends
    → IsUnderWay sends text waiting start now → IsSent {E = Failed} sends waiting now next (Ok (tt {0})) → IsUnderWay sends text [] start next
went_out text waiting start now next join u s = record {
  front = u.front ++ waiting;
  whole = u.whole ∙ sym (append-nil (u.front ++ waiting));
  steps = steps_join start.told now.told next.told (join u.front waiting) u.steps s.all;
  faults = s.cause.kept ∙ u.faults;
  stopped = s.stopped ∙ ap (λ (b : Bool). is_stopped_after {E = Failed} b waiting (Ok (tt {0}))) u.stopped ∙ stopped_joined start.stopped u.front waiting;
  named = s.named ∙ u.named;
}

prefix_joined : (sends : List ℕ → Told → Told → Type 0) (text front waiting : List ℕ) → Joins sends → text ≡ front ++ waiting
    → (x y z : Told) → sends front x y → WithPrefix sends waiting y z → WithPrefix sends text x z
prefix_joined sends text front waiting join whole x y z p q =
    (front ++ q.0, q.1, (whole ∙ ap (λ (t : List ℕ). front ++ t) q.2 ∙ sym (append_assoc front q.0 q.1)), join front q.0 x y z p q.3)

-- a prefix of what waited went out
pub broke_off : {sends : List ℕ → Told → Told → Type 0} (text waiting : List ℕ) (start now next : Seen) (error : Failed) → Joins sends
    → IsUnderWay sends text waiting start now → IsSent {T = Unit {0}} sends waiting now next (Err error) → IsBroken sends text start next
broke_off {sends} text waiting start now next error join u s = record {
  prefix = steps_join start.told now.told next.told (prefix_joined sends text u.front waiting join u.whole) u.steps s.prefix;
  later = subst (λ (n : ℕ). n ≤ next.faults) u.faults s.cause.later;
  cause = subst (λ (n : ℕ). Rose n next.faults) u.faults s.cause.failed;
  stopped = s.stopped;
  named = s.named ∙ u.named;
}

abbrev pub empty : Bool → Waiting
empty failed = record { bytes = []; failed = failed }

-- where the outside has failed, nothing more goes out
pub stays_broken : {sends : List ℕ → Told → Told → Type 0} (buffer : Waiting) (now : Seen) → buffer.failed ≡ true → Puts sends [] (buffer, now) (empty true, now)
stays_broken {sends} buffer now is = record {
  after = λ before start h. record {
    going = λ e. absurd (false≢true (sym e));
    broken = λ e. broken_more before [] start now (h.broken is);
  };
}

-- all that waited went out
pub sends_all : {sends : List ℕ → Told → Told → Type 0} (buffer : Waiting) (now next : Seen) → Joins sends → buffer.failed ≡ false
    → IsSent {E = Failed} sends buffer.bytes now next (Ok (tt {0})) → Puts sends [] (buffer, now) (empty false, next)
sends_all {sends} buffer now next join is s = record {
  after = λ before start h. record {
    going = λ e. subst (λ (t : List ℕ). IsUnderWay sends t [] start next) (sym (append-nil before)) (went_out before buffer.bytes start now next join (h.going is) s);
    broken = λ e. absurd (false≢true e);
  };
}

-- a prefix of it went out
pub sends_some : {sends : List ℕ → Told → Told → Type 0} (buffer : Waiting) (now next : Seen) (error : Failed) → Joins sends → buffer.failed ≡ false
    → IsSent {T = Unit {0}} sends buffer.bytes now next (Err error) → Puts sends [] (buffer, now) (empty true, next)
sends_some {sends} buffer now next error join is s = record {
  after = λ before start h. record {
    going = λ e. absurd (false≢true (sym e));
    broken = λ e. broken_more before [] start next (broke_off before buffer.bytes start now next error join (h.going is) s);
  };
}

-- a buffer that keeps nothing back: what was put is sent
pub ends_well : {sends : List ℕ → Told → Told → Type 0} (buffer : Waiting) (old new : Seen)
    → Puts sends [] (buffer, old) (empty false, new) → Ends {E = Failed} sends buffer old new (Ok (tt {0}))
ends_well {sends} buffer old new p = record {
  sent = λ text start h.
      let u : IsUnderWay sends (text ++ []) [] start new = (p.after text start h).going refl in
      let same : u.front ≡ text = sym (append-nil u.front) ∙ sym u.whole ∙ append-nil text in
      record {
        all = subst (λ (t : List ℕ). Steps start.told new.told (sends t)) same u.steps;
        prefix = tt;
        cause = record { later = omega (arith, u.faults); failed = tt; kept = u.faults };
        stopped = u.stopped ∙ ap (λ (t : List ℕ). is_stopped_after {E = Failed} start.stopped t (Ok (tt {0}))) same;
        named = u.named;
      };
}

pub ends_broken : {sends : List ℕ → Told → Told → Type 0} (buffer : Waiting) (old new : Seen) (error : Failed)
    → Puts sends [] (buffer, old) (empty true, new) → Ends {T = Unit {0}} sends buffer old new (Err error)
ends_broken {sends} buffer old new error p = record {
  sent = λ text start h.
      let b : IsBroken sends (text ++ []) start new = (p.after text start h).broken refl in
      record {
        all = tt;
        prefix = subst (λ (t : List ℕ). Steps start.told new.told (WithPrefix sends t)) (append-nil text) b.prefix;
        cause = record { later = b.later; failed = b.cause; kept = tt };
        stopped = b.stopped;
        named = b.named;
      };
}

-- a new buffer
pub starts : {sends : List ℕ → Told → Told → Type 0} (now : Seen) → ((x : Told) → sends [] x x) → HasPut sends [] now (empty false) now
starts {sends} now nothing = record {
  going = λ e. record {
    front = [];
    whole = refl;
    steps = steps_start (sends []) now.told nothing;
    faults = refl;
    stopped = refl;
    named = refl;
  };
  broken = λ e. absurd (false≢true e);
}
