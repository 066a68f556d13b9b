use Rattle.std.proofs.Common.{rules}
use Rattle.ms_names.proofs.Reading.{seen_all}
use Rattle.ms_names.proofs.places.seen_function.Goals as goal

pub returns : goal.returns
returns c = let e = seen_all c.args.surroundings c.args.known c.args.types.now in search rules
