-- How many nodes a group has.
use Rattle.std.specs.Prelude.{◌≡◌, ℕ, zero, suc, ◌+◌, ◌<◌, Bool, cond, List, slice_index_or}
use Rattle.slab_closure.specs.Cells.{is_same}
use Rattle.slab_closure.specs.Relations.{Table, Relations, relation_at}

-- how many of the k numbers from low on pass a test
abbrev pub count_from : (ℕ → Bool) → ℕ → ℕ → ℕ
count_from test low zero = 0
count_from test low (suc k) = cond (test low) 1 0 + count_from test (low + 1) k

-- how many of n nodes lie in the group of one, which is among them
abbrev pub size_in : ℕ → Table → ℕ → ℕ
size_in n at x = count_from (λ (y : ℕ). is_same (at x y)) 0 n

abbrev pub group_size : Relations → ℕ → ℕ
group_size r x = size_in r.count (relation_at r) x

-- the size of each node's group
abbrev pub AreSizes : Relations → List ℕ → Type 0
AreSizes r sizes = (x : ℕ) → x < r.count → slice_index_or sizes x 0 ≡ group_size r x
