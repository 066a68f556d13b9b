use Rattle.ms_walk.proofs.Words.{read_word}
use Rattle.ms_walk.proofs.opened.evaluate.Goals as goal

pub returns-clause-value : goal.returns-clause-value
returns-clause-value g c = rw (read_word _ _ _ _ _ _ c.draws-takes.ensures c.word_for-word.ensures.word) at c.call.ensures
