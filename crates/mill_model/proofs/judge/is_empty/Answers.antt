use Rattle.std.proofs.Common.{◌≡◌, ℕ, not, List, length, ap, ◌∙◌, inl, inr, arith, refl, eqb}
use Rattle.std.proofs.lemmas.Bool.{cases_Bool, ne_eqb}
use Rattle.mill_model.specs.Columns.{has}
use Rattle.mill_model.specs.Plans.{places_of}
use Rattle.mill_model.proofs.Judging.{places_of-none, places_of-some}
use Rattle.mill_model.proofs.judge.is_empty.Goals as goal

none_there : (place : List ℕ) (k : ℕ) → not (has place k) ≡ eqb (length (places_of k 0 place)) 0
none_there place k = elim (cases_Bool (has place k)) [
  | inl there ↦ rw (there, ne_eqb (length (places_of k 0 place)) 0 (λ e. omega (arith, places_of-some k 0 place there))) refl
  | inr gone ↦ rw (gone, places_of-none k 0 place gone) refl
]

pub returns : goal.returns
returns c = ap not c.contains.ensures.value ∙ none_there c.args.place.now c.args.k
