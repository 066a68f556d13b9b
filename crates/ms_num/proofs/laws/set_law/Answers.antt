use Rattle.ms_num.proofs.Divisions.{same_ranges}
use Rattle.ms_num.proofs.laws.set_law.Goals as goal

pub returns : goal.returns
returns c = same_ranges
