use Rattle.ms_instance.proofs.Within.{within_at}
use Rattle.ms_instance.proofs.point.narrow_numbers.Goals as goal

pub push_number-requires : goal.push_number-requires
push_number-requires c = within_at c.args.numbers.now c.loop-number.number-index c.requires c.loop-number-test.true
