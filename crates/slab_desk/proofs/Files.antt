-- Files by name: what a write leaves of them.
use Rattle.std.specs.Prelude.{◌≡◌, ℕ, List, cond, Bool, true, false, Option, Some}
use Rattle.std.proofs.Common.{sym, ◌∙◌, ap, refl}
use Rattle.std.specs.Ordering.{nat_cmp, eq_by_cmp}
use Rattle.std.specs.Cmp.{eq_by_cmp_equiv}
use Rattle.std.specs.Cmp.Lexicographic.{slice_cmp, nat_list_cmp_total}
use Rattle.std.specs.FinMap.{get, insert, get-insert, same_map, IsAntisymmetric, slice_cmp-IsAntisymmetric, nat_cmp-IsAntisymmetric}
use Rattle.slab_desk.specs.Desk.{Files}

pub one_name : IsAntisymmetric (slice_cmp nat_cmp)
one_name = slice_cmp-IsAntisymmetric nat_cmp-IsAntisymmetric

-- a file that was written is there
pub get-insert_same : (files : Files) (name bytes : List ℕ) → get (insert files name bytes) name ≡ Some bytes
get-insert_same files name bytes = get-insert nat_list_cmp_total files name bytes name
    ∙ ap (λ (b : Bool). cond b (Some bytes) (get files name)) ((eq_by_cmp_equiv nat_list_cmp_total).refl name)

chosen_again : (b : Bool) (x y z : Option (List ℕ)) → cond b x (cond b y z) ≡ cond b x z
chosen_again true x y z = refl
chosen_again false x y z = refl

-- of two writes in a row the last stands
pub insert-insert_same : (files : Files) (name before after : List ℕ) → insert (insert files name before) name after ≡ insert files name after
insert-insert_same files name before after = same_map nat_list_cmp_total one_name _ _ (λ q.
    get-insert nat_list_cmp_total (insert files name before) name after q
    ∙ ap (λ (o : Option (List ℕ)). cond (eq_by_cmp (slice_cmp nat_cmp) q name) (Some after) o) (get-insert nat_list_cmp_total files name before q)
    ∙ chosen_again (eq_by_cmp (slice_cmp nat_cmp) q name) (Some after) (Some before) (get files q)
    ∙ sym (get-insert nat_list_cmp_total files name after q))
