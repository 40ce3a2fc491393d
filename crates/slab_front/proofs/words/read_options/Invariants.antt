use Rattle.std.proofs.Common.{◌≡◌, length, map, string_bytes}
use Rattle.slab_front.specs.Words.{no_options, options_from}
use Rattle.slab_front.specs.Jobs.{searches_for, options_at, options_of, word_after, AreInRanges}
use Rattle.slab_front.proofs.words.read_options.Given as goal

abbrev pub invariant-options : goal.invariant-options
invariant-options l =
    (options_from (searches_for l.command) (options_at l.command) no_options (map string_bytes l.words)
    ≡ options_from (searches_for l.command) (word_after (options_at l.command) (options_of l.options)) (options_of l.options) (map string_bytes l.rest))
    × AreInRanges l.options

abbrev pub decreases-options : goal.decreases-options
decreases-options l = length l.rest
