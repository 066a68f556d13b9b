use Rattle.ms_typing.proofs.Knowing.{typed_where_known}
use Rattle.ms_typing.proofs.laws.typed_where_known.Goals as goal

pub returns : goal.returns
returns c = record { known = typed_where_known }
