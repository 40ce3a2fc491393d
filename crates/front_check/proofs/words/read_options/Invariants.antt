use Rattle.std.proofs.Common.{◌≡◌, length, map, string_bytes}
use Rattle.front_check.specs.Words.{no_options, options_from}
use Rattle.front_check.specs.Jobs.{options_of, word_after, AreInRange}
use Rattle.front_check.proofs.words.read_options.Given as goal

abbrev pub invariant-options : goal.invariant-options
invariant-options l =
    (options_from 4 no_options (map string_bytes l.words) ≡ options_from (word_after (options_of l.options)) (options_of l.options) (map string_bytes l.rest))
    × AreInRange l.options

abbrev pub decreases-options : goal.decreases-options
decreases-options l = length l.rest
