use Rattle.std.proofs.Common.{rules}
use Rattle.ms_names.proofs.Reading.{read_plainly}
use Rattle.ms_names.proofs.declared.Stored.meaning.Goals as goal

pub returns-in-Function : goal.returns-in-Function
returns-in-Function c = let e = read_plainly c.as_slice.result.now in search rules
