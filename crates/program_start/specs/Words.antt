-- The words with which a program was started.
use Rattle.std.specs.Prelude.{ℕ, List, map}
use Rattle.std.specs.String.{string_bytes}
use Rattle.program_start.specs.declared.beginning.Begun.{Begun}

-- those after its name, as bytes
abbrev pub words_of : {F : Type 0} → Begun F → List (List ℕ)
words_of begun = map string_bytes begun.words.items
