-- Which answer a turn gave.
use Rattle.slab_node.specs.declared.turned.Turned.{Turned}
use Rattle.slab_node.specs.declared.turned.Turned.TheVariants as turns
use Rattle.slabbench.specs.declared.turns.Answer.{Answer}
use Rattle.slabbench.specs.declared.turns.Answer.TheVariants as answers

abbrev pub answer_of : Turned → Answer
answer_of (turns.Refuted prices) = answers.Refuted
answer_of (turns.InBox plan) = answers.Plan
answer_of (turns.Spread cover ask) = answers.Spread
answer_of (turns.Bare ask) = answers.Bare
