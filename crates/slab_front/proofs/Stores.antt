-- What was stored and said, from the calls of a desk.
use Rattle.std.proofs.Common.{◌≡◌, ◌⊎◌, inr, ℕ, List, [], ◌∷◌, ◌++◌, Option, Some, Result, Ok, Err, sym, ap, ◌∙◌, subst, append-nil}
use Rattle.std.specs.FinMap.{get, insert}
use Rattle.std.specs.Prelude.{OnOk, OnErr}
use Rattle.slab_desk.specs.Desk.{Told, Files, Steps, Creates, Appends, AppendsAll, WithPrefix}
use Rattle.slab_desk.proofs.Files.{get-insert_same, insert-insert_same}
use Rattle.slab_desk.proofs.Steps.{steps_join}
use Rattle.slab_front.specs.Outcomes.{Gives, SaysOnly, BeginsToStore, storing}

-- ---- files

some_same : {A : Type 0} (a b : A) → Some a ≡ Some b → a ≡ b
some_same a b e = cc e

gives_created : (name text : List ℕ) (x z : Told) → z ≡ record x { files = insert x.files name text; target = Some name } → Gives (storing name text) x z
gives_created name text x z q =
    q ∙ ap (λ (s : List ℕ). record x { files = insert x.files name text; target = Some name; said = s }) (sym (append-nil x.said))
    ∙ ap (λ (l : List ℕ). record x { files = insert x.files name text; target = Some name; left = l; said = x.said ++ [] }) (sym (ap (λ (u : Told). u.left) q))

appended : (name text : List ℕ) (x z : Told) → Appends text (record x { files = insert x.files name []; target = Some name }) z
    → z ≡ record x { files = insert x.files name text; target = Some name }
appended name text x z (other, target, (content, has, q)) =
    let same : name ≡ other = some_same name other target in
    let empty : [] ≡ content = some_same [] content (sym (get-insert_same x.files name []) ∙ ap (get (insert x.files name [])) same ∙ has) in
    q ∙ ap (λ (f : Files). record x { files = f; target = Some name })
    (ap (λ (n : List ℕ). insert (insert x.files name []) n (content ++ text)) (sym same)
    ∙ ap (λ (c : List ℕ). insert (insert x.files name []) name (c ++ text)) (sym empty)
    ∙ insert-insert_same x.files name [] text)

appended_all : (name text : List ℕ) (x z : Told) → AppendsAll text (record x { files = insert x.files name []; target = Some name }) z
    → z ≡ record x { files = insert x.files name text; target = Some name }
appended_all name [] x z q = q
appended_all name (byte ∷ text) x z q = appended name (byte ∷ text) x z q

stored : (name text : List ℕ) (x y z : Told) → Creates name x y → AppendsAll text y z → z ≡ record x { files = insert x.files name text; target = Some name }
stored name text x y z p q = appended_all name text x z (subst (λ (u : Told). AppendsAll text u z) p q)

gives_file : (name text : List ℕ) (x y z : Told) → Creates name x y → AppendsAll text y z → Gives (storing name text) x z
gives_file name text x y z p q = gives_created name text x z (stored name text x y z p q)

pub file_stored : (name text : List ℕ) (a b c : Option Told) → Steps a b (Creates name) → Steps b c (AppendsAll text) → Steps a c (Gives (storing name text))
file_stored name text a b c p q = steps_join a b c (λ x y z r s. gives_file name text x y z r s) p q

pub file_begun : (name text : List ℕ) (a b c : Option Told) → Steps a b (Creates name) → Steps b c (WithPrefix AppendsAll text)
    → Steps a c (λ x y. SaysOnly [] x y ⊎ BeginsToStore (Some (name, text)) x y)
file_begun name text a b c p q = steps_join a b c (λ x y z r s. inr (s.0, s.1, s.2, gives_file name s.0 x y z r s.3)) p q

-- ---- results

pub on_ok : {A E : Type 0} (r : Result A E) {P Q : Type 0} → (P → Q) → OnOk r P → OnOk r Q
on_ok (Ok a) f p = f p
on_ok (Err e) f p = tt

pub on_err : {A E : Type 0} (r : Result A E) {P Q : Type 0} → (P → Q) → OnErr r P → OnErr r Q
on_err (Ok a) f p = tt
on_err (Err e) f p = f p
