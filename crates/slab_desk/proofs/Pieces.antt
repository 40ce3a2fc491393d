-- A text that goes out piece by piece, and a file that comes in piece by piece.
use Rattle.std.proofs.Common.{◌≡◌, ℕ, ◌<◌, ◌≤◌, Bool, false, Ok, List, [], ◌∷◌, ◌++◌, length, take, drop, Option, Some, sym, ap, ◌∙◌, subst, append_assoc, append-nil, arith}
use Rattle.std.proofs.lemmas.List.{take-append-drop, length-drop}
use Rattle.std.specs.FinMap.{get, insert}
use Rattle.slab_desk.specs.Causes.{is_stopped_after}
use Rattle.slab_desk.specs.declared.desk.Failed.{Failed}
use Rattle.slab_desk.specs.Desk.{Told, Files, Steps, Says, Appends, AppendsAll, Opens, Reads, HasRead}
use Rattle.slab_desk.proofs.Files.{get-insert_same, insert-insert_same}
use Rattle.slab_desk.proofs.Steps.{steps_join}

one_some : {A : Type 0} (a b : A) → Some a ≡ Some b → a ≡ b
one_some a b e = cc

appends_twice : (front more : List ℕ) (x y z : Told) → Appends front x y → Appends more y z → Appends (front ++ more) x z
appends_twice front more x y z p q =
    let same_name : q.0 ≡ p.0 = one_some _ _ (sym q.1 ∙ ap (λ (t : Told). t.target) p.2.2 ∙ p.1) in
    let there : get y.files p.0 ≡ Some (p.2.0 ++ front) = ap (λ (t : Told). get t.files p.0) p.2.2 ∙ get-insert_same x.files p.0 (p.2.0 ++ front) in
    let same_content : q.2.0 ≡ p.2.0 ++ front = one_some _ _ (sym q.2.1 ∙ ap (λ (n : List ℕ). get y.files n) same_name ∙ there) in (
      p.0,
      p.1,
      (
        p.2.0,
        p.2.1,
        q.2.2
            ∙ ap (λ (n : List ℕ). record y { files = insert y.files n (q.2.0 ++ more) }) same_name
            ∙ ap (λ (c : List ℕ). record y { files = insert y.files p.0 (c ++ more) }) same_content
            ∙ ap (λ (t : Told). record t { files = insert t.files p.0 ((p.2.0 ++ front) ++ more) }) p.2.2
            ∙ ap (λ (f : Files). record x { files = f }) (insert-insert_same x.files p.0 (p.2.0 ++ front) ((p.2.0 ++ front) ++ more))
            ∙ ap (λ (c : List ℕ). record x { files = insert x.files p.0 c }) (append_assoc p.2.0 front more),
      ),
    )

-- what was appended, and then more
pub appends_join : (front more : List ℕ) (x y z : Told) → AppendsAll front x y → AppendsAll more y z → AppendsAll (front ++ more) x z
appends_join [] more x y z p q = subst (λ (t : Told). AppendsAll more t z) p q
appends_join (b ∷ front) [] x y z p q = subst (λ (t : Told). AppendsAll ((b ∷ front) ++ []) x t) (sym q) (subst (λ (l : List ℕ). AppendsAll l x y) (sym (append-nil (b ∷ front))) p)
appends_join (b ∷ front) (d ∷ more) x y z p q = appends_twice (b ∷ front) (d ∷ more) x y z p q

-- some bytes, and not none
pub appends_some : (bytes : List ℕ) (x y : Told) → 0 < length bytes → Appends bytes x y → AppendsAll bytes x y
appends_some [] x y h p = absurd (omega arith)
appends_some (b ∷ bytes) x y h p = p

-- what was said, and then more
pub says_join : (front more : List ℕ) (x y z : Told) → Says front x y → Says more y z → Says (front ++ more) x z
says_join front more x y z p q =
    q ∙ ap (λ (t : Told). record t { said = t.said ++ more }) p ∙ ap (λ (s : List ℕ). record x { said = s }) (append_assoc x.said front more)

-- so far this front of the bytes has taken the step, and the rest has not
pub record Sent (step : List ℕ → Told → Told → Type 0) (bytes rest : List ℕ) (old new : Option Told) : Type 0 where
  pub front : List ℕ
  pub whole : bytes ≡ front ++ rest
  pub steps : Steps old new (step front)

pub sent_more : {step : List ℕ → Told → Told → Type 0} (k : ℕ) (bytes rest : List ℕ) (a b c : Option Told)
    → ((front more : List ℕ) (x y z : Told) → step front x y → step more y z → step (front ++ more) x z)
    → Sent step bytes rest a b → Steps b c (step (take k rest)) → Sent step bytes (drop k rest) a c
sent_more k bytes rest a b c join sent next = record {
  front = sent.front ++ take k rest;
  whole = sent.whole ∙ ap (λ (r : List ℕ). sent.front ++ r) (sym (take-append-drop k rest)) ∙ sym (append_assoc sent.front (take k rest) (drop k rest));
  steps = steps_join a b c (join sent.front (take k rest)) sent.steps next;
}

pub opened : (name : List ℕ) (x y : Told) → Opens name x y → HasRead name [] x y
opened name x y o = record {
  file = o.1 ∙ ap (λ (t : Told). Some t.left) (sym o.2);
  others = o.2 ∙ ap (λ (t : Told). record x { left = t.left }) (sym o.2);
}

pub read_more : (name bytes buffer : List ℕ) (k : ℕ) (x y z : Told) → HasRead name bytes x y → Reads k buffer y z → HasRead name (bytes ++ take k buffer) x z
read_more name bytes buffer k x y z p q = record {
  file = p.file ∙ ap (λ (l : List ℕ). Some (bytes ++ l)) q.bytes ∙ ap (λ (l : List ℕ). Some l) (sym (append_assoc bytes (take k buffer) z.left));
  others = q.others ∙ ap (λ (t : Told). record t { left = z.left }) p.others;
}

-- whether the last call failed, with this rest of the bytes to go: none was made before the first of them went
pub record IsStoppedWith (bytes rest : List ℕ) (before now : Bool) : Type 0 where
  pub fewer : length rest ≤ length bytes
  pub untouched : length rest ≡ length bytes → now ≡ before
  pub begun : length rest < length bytes → now ≡ false

pub stopped_more : (k : ℕ) (bytes rest : List ℕ) (before now next : Bool) → 0 < k → k ≤ length rest → next ≡ false → IsStoppedWith bytes rest before now → IsStoppedWith bytes (drop k rest) before next
stopped_more k bytes rest before now next some bound answered h = record {
  fewer = omega (arith, length-drop k rest, h.fewer);
  untouched = λ e. absurd (omega (arith, e, length-drop k rest, h.fewer, some, bound));
  begun = λ _. answered;
}

pub stopped_at_end : (bytes rest : List ℕ) (before now : Bool) → length rest ≡ 0 → IsStoppedWith bytes rest before now → now ≡ is_stopped_after {E = Failed} before bytes (Ok (tt {0}))
stopped_at_end [] rest before now e h = h.untouched e
stopped_at_end (byte ∷ bytes) rest before now e h = h.begun (omega (arith, e))
