use Rattle.ms_syntax.specs.Grammar.{Writes, WritesTree, WritesPairs}
use Rattle.ms_syntax.proofs.OneAnswer.{one_answer}
use Rattle.ms_syntax.proofs.laws.one_answer.Goals as goal

pub returns : goal.returns
returns c = record { expressions = one_answer Writes; models = one_answer WritesTree; assignments = one_answer WritesPairs }
