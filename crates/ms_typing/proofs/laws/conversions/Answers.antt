use Rattle.ms_typing.proofs.Converting.{along, decided, one_way, same}
use Rattle.ms_typing.proofs.laws.conversions.Goals as goal

pub returns : goal.returns
returns c = record { itself = same; along = λ t u v h k. along h k; one_way = λ t u h k. one_way h k; decided = decided }
