use Rattle.ms_typing.proofs.Judging.{asks_by_tables, gives_least}
use Rattle.ms_typing.proofs.laws.rows_of_tables.Goals as goal

pub returns : goal.returns
returns c = record { asked = asks_by_tables; least = gives_least }
