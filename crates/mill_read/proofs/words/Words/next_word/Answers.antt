use Rattle.std.proofs.Common.{arith, ap, sym, ◌∙◌, ◌<◌, ℕ, List, ◌∷◌, drop}
use Rattle.std.proofs.lemmas.Grind.{common_steps}
use Rattle.mill_read.specs.WordsLeft.{WordsLeft}
use Rattle.mill_read.specs.Words.{words}
use Rattle.mill_read.proofs.WordLaws.{words_begin}
use Rattle.mill_read.proofs.words.Words.next_word.Goals as goal

pub returns-clause-word : goal.returns-clause-word
returns-clause-word c =
    let rest = c.skip_white_space-rest.result.now in
    let some : 0 < c.word_len.result = grind (arith, common_steps) in
    ap (λ (left : WordsLeft). left.words) (sym c.self.view_is)
    ∙ sym c.skip_white_space-rest.ensures.words
    ∙ words_begin rest c.word_len.result c.word_len.ensures.bound some c.word_len.ensures.word c.word_len.ensures.end
    ∙ ap (λ (word : List ℕ). word ∷ words (drop c.word_len.result rest)) (sym c.split_at.ensures.front)
    ∙ ap (λ (after : List ℕ). c.split_at.result.0.now ∷ words after) (sym c.split_at.ensures.back)
