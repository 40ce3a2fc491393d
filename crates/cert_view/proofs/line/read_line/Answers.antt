use Rattle.cert_view.proofs.LineTexts.{line_of_words-good}
use Rattle.cert_view.proofs.line.read_line.Goals as goal

pub returns-else-eq-2-clause-good : goal.returns-else-eq-2-clause-good
returns-else-eq-2-clause-good c = line_of_words-good c.args.text.now c.read_words.result c.read_words.ensures
