use Rattle.std.proofs.Common.{◌∙◌, map, take, drop, length, ◌-◌, string_bytes}
use Rattle.run_words.proofs.Lists.{two_first}
use Rattle.front_check.specs.Jobs.{options_of}
use Rattle.front_check.proofs.OptionSteps.{next_option}
use Rattle.front_check.proofs.words.read_options.Goals as goal

pub options-preserved : goal.options-preserved
options-preserved c = (
  c.options.invariant.0 ∙ next_option (options_of c.options.options) (options_of c.in_ok-options-in-len2-up.options) (map string_bytes c.options.rest.now)
      (string_bytes c.name-item-in-options.result) (string_bytes c.value-item.result) c.as_str-in-len2-up.result.now c.as_str-in-len2-up-2.result.now
      (map string_bytes (take (length c.options.rest.now - 2) (drop 2 c.options.rest.now)))
      (two_first string_bytes c.options.rest.now c.name-item-in-options.result c.value-item.result c.in-len2-up.len_at_least c.name-item-in-options.is c.value-item.is)
      c.as_str-in-len2-up.ensures.value c.as_str-in-len2-up-2.ensures.value
      c.in_ok-options-in-len2-up.ensures.options c.in_ok-options-in-len2-up.ensures.next,
  c.in_ok-options-in-len2-up.ensures.range,
)
