-- Names that were opened one after another, and the files of a mill among them.
use Rattle.std.proofs.Common.{◌≡◌, ◌⊎◌, inl, inr, ℕ, List, [], ◌∷◌, ◌++◌, Option, Some, None, refl, sym, ap, ◌∙◌, append_assoc, append-nil}
use Rattle.slab_desk.specs.Desk.{Told, Files, WhereTold}
use Rattle.slab_desk.specs.Names.{Names, with_opened}
use Rattle.mill_model.specs.Mill.{Mill}
use Rattle.run_words.specs.Words.{MillWords}
use Rattle.run_words.specs.Files.{HasMill}
use Rattle.run_words.specs.Opens.{HasOrders, HasSomeMill, OpensMill, OpensOneMore, HasOpened, mill_files}
use Rattle.run_words.proofs.Telling.{told_each}

-- ---- names

pub opened_none : {P : List (List ℕ) → Type 0} (old new : Names) → new ≡ old → P [] → HasOpened P old new
opened_none old new is holds = record {
  opened = [];
  asked = is ∙ ap (λ (names : List (List ℕ)). record old { opened = names }) (sym (append-nil old.opened));
  holds = holds;
}

-- one name more
pub opened_then : {P Q : List (List ℕ) → Type 0} (name : List ℕ) (old mid new : Names) → HasOpened P old mid → new ≡ with_opened name mid
    → ((opened : List (List ℕ)) → P opened → Q (opened ++ name ∷ [])) → HasOpened Q old new
opened_then name old mid new before is goes = record {
  opened = before.opened ++ name ∷ [];
  asked = is ∙ ap (with_opened name) before.asked ∙ ap (λ (names : List (List ℕ)). record old { opened = names }) (append_assoc old.opened before.opened (name ∷ []));
  holds = goes before.opened before.holds;
}

-- no name more
pub opened_so : {P Q : List (List ℕ) → Type 0} (old mid new : Names) → HasOpened P old mid → new ≡ mid → ((opened : List (List ℕ)) → P opened → Q opened) → HasOpened Q old new
opened_so old mid new before is goes = record { opened = before.opened; asked = is ∙ before.asked; holds = goes before.opened before.holds }

-- ---- the mill

pub has_orders : (words : MillWords) (m : Mill) (told : Option Told) → WhereTold told (λ t. HasMill words m t.files) → WhereTold told (λ t. HasOrders words t.files)
has_orders words m told has = told_each (HasMill words m) (HasOrders words) told (λ files h. (h.bare, h.orders)) has

pub has_some_mill : (words : MillWords) (m : Mill) (told : Option Told) → WhereTold told (λ t. HasMill words m t.files) → WhereTold told (λ t. HasSomeMill words t.files)
has_some_mill words m told has = told_each (HasMill words m) (HasSomeMill words) told (λ files h. (m, h)) has

-- all its files were opened
pub opens_mill : (words : MillWords) (m : Mill) (told : Option Told) (opened : List (List ℕ)) → WhereTold told (λ t. HasMill words m t.files) → opened ≡ mill_files words → OpensMill words told opened
opens_mill words m told opened has is = inr (is, has_orders words m told has)

-- and one file more
pub opens_one_more : (words : MillWords) (name : List ℕ) (m : Mill) (told : Option Told) (opened : List (List ℕ)) → WhereTold told (λ t. HasMill words m t.files) → opened ≡ mill_files words
    → OpensOneMore words name told (opened ++ name ∷ [])
opens_one_more words name m told opened has is = inr (ap (λ (names : List (List ℕ)). names ++ name ∷ []) is, has_some_mill words m told has)
