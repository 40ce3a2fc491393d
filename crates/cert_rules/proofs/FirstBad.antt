-- The first bad line is one.
use Rattle.std.proofs.Common.{◌≡◌, ℕ, ◌<◌, List, [], ◌∷◌, ◌++◌, length, Option, Some, None, Result, Ok, Err, refl, sym, ap, ap₂, ◌∙◌, subst, arith, inl, inr, append_assoc}
use Rattle.std.specs.List.{AllByRecursion}
use Rattle.mill_model.specs.Mill.{Mill}
use Rattle.cert_view.specs.declared.line.Line.{Line}
use Rattle.cert_view.specs.declared.line.Spelling.{Spelling}
use Rattle.cert_view.specs.declared.line.Spelling.TheVariants as spellings
use Rattle.cert_view.specs.Line.{next_line, after_line}
use Rattle.cert_view.specs.Text.{line_text}
use Rattle.cert_view.proofs.Feeds.{text_is_read}
use Rattle.cert_text.specs.Texts.{lines_text, IsReadable}
use Rattle.cert_rules.specs.declared.why.Why.{Why}
use Rattle.cert_rules.specs.Rules.{Rule, AllKept, FirstBroken}
use Rattle.cert_rules.specs.States.{Wanted, State}
use Rattle.cert_rules.specs.States.State.{Begin, BetweenPoints, InPlan, InTree, InOpenTree, Ended}
use Rattle.cert_rules.specs.Turns.{line_rules, line_next, after, AreKept}
use Rattle.cert_rules.specs.Reading.{HasEnded, IsBadLine, IsBadNext, number_after}
use Rattle.cert_rules.specs.Laws.{OneFirstBadLine, OneReading}

-- ---- rules

not_both : (rules : List Rule) (w : Why) → AllKept rules → FirstBroken rules w → ⊥
not_both [] w kept broken = broken
not_both (r ∷ rules) w kept broken = elim broken [
  | inl x ↦ x.0 kept.0
  | inr x ↦ not_both rules w kept.1 x.1
]

one_broken : (rules : List Rule) (v w : Why) → FirstBroken rules v → FirstBroken rules w → v ≡ w
one_broken [] v w h k = absurd h
one_broken (r ∷ rules) v w h k = elim h [
  | inl x ↦ elim k [
    | inl y ↦ sym x.1 ∙ y.1
    | inr y ↦ absurd (x.0 y.0)
  ]
  | inr x ↦ elim k [
    | inl y ↦ absurd (y.0 x.0)
    | inr y ↦ one_broken rules v w x.1 y.1
  ]
]

module _ (m : Mill) (wanted : Wanted) where
  text_of : (line : Line) (xs : List Line) (rest : List ℕ) → lines_text (line ∷ xs) ++ rest ≡ line_text line ++ 10 ∷ (lines_text xs ++ rest)
  text_of line xs rest = append_assoc (line_text line ++ 10 ∷ []) (lines_text xs) rest ∙ append_assoc (line_text line) (10 ∷ []) (lines_text xs ++ rest)

  -- the first of readable lines is read
  pub first_read : (line : Line) (xs : List Line) (rest bytes : List ℕ) → IsReadable line → bytes ≡ lines_text (line ∷ xs) ++ rest → (next_line bytes ≡ Some (Ok line)) × (after_line bytes ≡ lines_text xs ++ rest)
  first_read line xs rest bytes read e = text_is_read line bytes (lines_text xs ++ rest) (record { good = read.good; short = read.short; text = e ∙ text_of line xs rest })

  pub same_line : (x y : Line) (o : Option (Result Line Spelling)) → o ≡ Some (Ok x) → o ≡ Some (Ok y) → x ≡ y
  same_line x y o e f = let g : Some (Ok x) ≡ Some (Ok y) = sym e ∙ f in cc

  pub none_after_end : (state : State) (line : Line) → HasEnded state → AllKept (line_rules m wanted state line) → ⊥
  none_after_end (Ended outcome points) line ended kept = kept.0
  none_after_end Begin line ended kept = ended
  none_after_end (BetweenPoints version points) line ended kept = ended
  none_after_end (InPlan version before sums slabs) line ended kept = ended
  none_after_end (InTree goal stage path) line ended kept = ended
  none_after_end (InOpenTree points path) line ended kept = ended

  -- a good line isn't bad
  pub good_not_bad : (state : State) (line : Line) (xs : List Line) (rest bytes : List ℕ) (w : Why) → IsReadable line → AllKept (line_rules m wanted state line) → bytes ≡ lines_text (line ∷ xs) ++ rest → IsBadNext m wanted state bytes w → ⊥
  good_not_bad state line xs rest bytes w read kept e bad = elim bad [
    | inl x ↦ none_after_end state line x.0 kept
    | inr x ↦ not_both (line_rules m wanted state line) w kept (subst (λ o. IsBadLine m wanted state o w) (first_read line xs rest bytes read e).0 x.1)
  ]

  one_bad_line : (state : State) (o : Option (Result Line Spelling)) (v w : Why) → IsBadLine m wanted state o v → IsBadLine m wanted state o w → v ≡ w
  one_bad_line state None v w e f = e ∙ sym f
  one_bad_line state (Some (Err spellings.Form)) v w e f = e ∙ sym f
  one_bad_line state (Some (Err spellings.Range)) v w e f = e ∙ sym f
  one_bad_line state (Some (Ok line)) v w e f = one_broken (line_rules m wanted state line) v w e f

  one_bad_next : (state : State) (bytes : List ℕ) (v w : Why) → IsBadNext m wanted state bytes v → IsBadNext m wanted state bytes w → v ≡ w
  one_bad_next state bytes v w h k = elim h [
    | inl x ↦ elim k [
      | inl y ↦ x.2 ∙ sym y.2
      | inr y ↦ absurd (y.0 x.0)
    ]
    | inr x ↦ elim k [
      | inl y ↦ absurd (x.0 y.0)
      | inr y ↦ one_bad_line state (next_line bytes) v w x.1 y.1
    ]
  ]

  -- readable lines that keep their rules
  abbrev pub Good : State → List Line → Type 0
  Good state xs = AllByRecursion IsReadable xs × AreKept m wanted state xs

  one_place : (state : State) (xs ys : List Line) (rest other bytes : List ℕ) (v w : Why) → Good state xs → Good state ys → bytes ≡ lines_text xs ++ rest → bytes ≡ lines_text ys ++ other
      → IsBadNext m wanted (after m wanted state xs) rest v → IsBadNext m wanted (after m wanted state ys) other w → (length xs ≡ length ys) × (v ≡ w)
  one_place state [] [] rest other bytes v w good fair e f h k = (refl, one_bad_next state rest v w h (subst (λ b. IsBadNext m wanted state b w) (sym f ∙ e) k))
  one_place state (x ∷ xs) [] rest other bytes v w good fair e f h k = absurd (good_not_bad state x xs rest bytes w good.0.0 good.1.0 e (subst (λ b. IsBadNext m wanted state b w) (sym f) k))
  one_place state [] (y ∷ ys) rest other bytes v w good fair e f h k = absurd (good_not_bad state y ys other bytes v fair.0.0 fair.1.0 f (subst (λ b. IsBadNext m wanted state b v) (sym e) h))
  one_place state (x ∷ xs) (y ∷ ys) rest other bytes v w good fair e f h k =
      let first = first_read x xs rest bytes good.0.0 e in
      let second = first_read y ys other bytes fair.0.0 f in
      let same : y ≡ x = same_line y x (next_line bytes) second.0 first.0 in
      let found = one_place (line_next m wanted state x) xs ys rest other (after_line bytes) v w (good.0.1, good.1.1) (subst (λ l. Good (line_next m wanted state l) ys) same (fair.0.1, fair.1.1)) first.1 second.1 h (subst (λ l. IsBadNext m wanted (after m wanted (line_next m wanted state l) ys) other w) same k) in
      (omega (arith, found.0), found.1)

  never_bad : (state : State) (xs ys : List Line) (other bytes : List ℕ) (w : Why) → Good state xs → Good state ys → bytes ≡ lines_text xs ++ [] → bytes ≡ lines_text ys ++ other
      → HasEnded (after m wanted state xs) → IsBadNext m wanted (after m wanted state ys) other w → ⊥
  never_bad state [] [] other bytes w good fair e f ended k = elim k [
    | inl x ↦ nothing_left x.1
    | inr x ↦ x.0 ended
  ]
    where
      nothing_left : 0 < length other → ⊥
      nothing_left l = omega (arith, l, ap length (sym f ∙ e))
  never_bad state (x ∷ xs) [] other bytes w good fair e f ended k = good_not_bad state x xs [] bytes w good.0.0 good.1.0 e (subst (λ b. IsBadNext m wanted state b w) (sym f) k)
  never_bad state [] (y ∷ ys) other bytes w good fair e f ended k = none_after_end state y ended fair.1.0
  never_bad state (x ∷ xs) (y ∷ ys) other bytes w good fair e f ended k =
      let first = first_read x xs [] bytes good.0.0 e in
      let second = first_read y ys other bytes fair.0.0 f in
      let same : y ≡ x = same_line y x (next_line bytes) second.0 first.0 in
      never_bad (line_next m wanted state x) xs ys other (after_line bytes) w (good.0.1, good.1.1) (subst (λ l. Good (line_next m wanted state l) ys) same (fair.0.1, fair.1.1)) first.1 second.1 ended (subst (λ l. IsBadNext m wanted (after m wanted (line_next m wanted state l) ys) other w) same k)

  one_list : (state : State) (xs ys : List Line) (bytes : List ℕ) → Good state xs → Good state ys → bytes ≡ lines_text xs ++ [] → bytes ≡ lines_text ys ++ []
      → HasEnded (after m wanted state xs) → HasEnded (after m wanted state ys) → xs ≡ ys
  one_list state [] [] bytes good fair e f ended done = refl
  one_list state (x ∷ xs) [] bytes good fair e f ended done = absurd (none_after_end state x done good.1.0)
  one_list state [] (y ∷ ys) bytes good fair e f ended done = absurd (none_after_end state y ended fair.1.0)
  one_list state (x ∷ xs) (y ∷ ys) bytes good fair e f ended done =
      let first = first_read x xs [] bytes good.0.0 e in
      let second = first_read y ys [] bytes fair.0.0 f in
      let same : y ≡ x = same_line y x (next_line bytes) second.0 first.0 in
      ap₂ (λ (a : Line) (b : List Line). a ∷ b) (sym same) (one_list (line_next m wanted state x) xs ys (after_line bytes) (good.0.1, good.1.1) (subst (λ l. Good (line_next m wanted state l) ys) same (fair.0.1, fair.1.1)) first.1 second.1 ended (subst (λ l. HasEnded (after m wanted (line_next m wanted state l) ys)) same done))

pub one_reading : OneReading
one_reading m wanted bytes xs ys h k = one_list m wanted Begin xs ys bytes (h.reads.readable, h.reads.kept) (k.reads.readable, k.reads.kept) h.reads.bytes_are k.reads.bytes_are h.ended k.ended

pub one_first_bad_line : OneFirstBadLine
one_first_bad_line = (
  λ m wanted bytes xs n w accepted bad. never_bad m wanted Begin xs bad.before bad.rest bytes w (accepted.reads.readable, accepted.reads.kept) (bad.reads.readable, bad.reads.kept) accepted.reads.bytes_are bad.reads.bytes_are accepted.ended bad.bad,
  λ m wanted bytes n k v w h g.
      let found = one_place m wanted Begin h.before g.before h.rest g.rest bytes v w (h.reads.readable, h.reads.kept) (g.reads.readable, g.reads.kept) h.reads.bytes_are g.reads.bytes_are h.bad g.bad in
      (h.counted ∙ ap number_after found.0 ∙ sym g.counted, found.1),
)
