-- The words before the number of a slab in a plan file.
use Rattle.std.specs.Prelude.{ℕ, Bool, true, false, List, if◌then◌else◌, codes, Result, Ok}
use Rattle.std.specs.Str.{bytes_eq}
use Rattle.mill_read.specs.WordsLeft.{WordsLeft}
use Rattle.mill_read.specs.Reading.{Read, first_by, fault}
use Rattle.mill_read.specs.declared.fault.TextFault.{TextFault}
use Rattle.mill_read.specs.declared.fault.Why.TheVariants.{Kind}

abbrev pub new_word : List ℕ
new_word = codes "new"

abbrev pub old_word : List ℕ
old_word = codes "old"

-- the word new is true, and the word old is false
abbrev pub is_new_in : ℕ → List ℕ → Result Bool TextFault
is_new_in place word =
    if bytes_eq word new_word then Ok true else (if bytes_eq word old_word then Ok false else fault place Kind)

unfoldable pub is_new_at : WordsLeft → Read Bool
is_new_at left = first_by is_new_in left.number left.words
