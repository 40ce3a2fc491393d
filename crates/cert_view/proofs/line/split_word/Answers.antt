use Rattle.cert_view.proofs.Words.{IsSpaced-first, words_after-word}
use Rattle.cert_view.proofs.line.split_word.Goals as goal

pub returns-clause-words : goal.returns-clause-words
returns-clause-words c = rw (c.split_at.ensures.back, c.position_or_len.ensures.value) (words_after-word c.args.text.now)

pub returns-clause-spaced : goal.returns-clause-spaced
returns-clause-spaced c = rw (c.split_at.ensures.back, c.position_or_len.ensures.value) (IsSpaced-first c.args.text.now)
