use Rattle.ms_lexer.proofs.Steps.{gives_tokens, gives_fault}
use Rattle.ms_lexer.proofs.lexer.tokens.Goals as goal

pub returns-clause-accepts : goal.returns-clause-accepts
returns-clause-accepts c = gives_tokens c.args.file c.args.bytes.now c.cut.result c.cut.ensures.ok c.cut.ensures.fault

pub returns-clause-refuses : goal.returns-clause-refuses
returns-clause-refuses c = gives_fault c.args.file c.args.bytes.now c.cut.result c.cut.ensures.ok c.cut.ensures.fault
