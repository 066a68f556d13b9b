use Rattle.std.specs.HashMap.{get}
use Rattle.std.specs.Str.{bytes_eq}
use Rattle.ms_names.proofs.Numbering.{numbers_more}
use Rattle.ms_names.proofs.globals.numbered.Goals as goal

pub loop-number-preserved : goal.loop-number-preserved
loop-number-preserved c =
    numbers_more c.args.list.now c.loop-number.number c.index-list-number.result (get bytes_eq c.loop-number.numbers) (get bytes_eq c.number_name.new.numbers)
    c.loop-number-test.true c.index-list-number.is c.loop-number.invariant (λ w. c.in_ok-number_name.ensures w)
