use Rattle.std.proofs.Common.{◌≡◌, ◌∷◌, [], ◌++◌, length, take, decimal, codes}
use Rattle.std.specs.List.{flat_map}
use Rattle.std.specs.String.{string_bytes}
use Rattle.run_words.specs.Texts.{line}
use Rattle.front_check.specs.Texts.{point_text}
use Rattle.front_check.proofs.texts.front_text.Given as goal

abbrev pub invariant-points : goal.invariant-points
invariant-points l = string_bytes l.text ≡ line (codes "front") (decimal (length l.points) ∷ []) ++ flat_map point_text (take l.sums-index l.points)
