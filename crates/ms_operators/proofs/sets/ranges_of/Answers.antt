use Rattle.ms_operators.proofs.NumberSets.{no_set, same_set}
use Rattle.ms_operators.proofs.sets.ranges_of.Goals as goal

pub returns-in_ok-from_list-in-Some : goal.returns-in_ok-from_list-in-Some
returns-in_ok-from_list-in-Some c =
    same_set c.args.numbers.now c.in-Some.known.items c.as_slice.result.now c.in_ok-from_list-in-Some.field-0
    (rw c.in-Some.is at c.in_ok-known.ensures.numbers)
    (rw c.in-Some.is at c.in_ok-known.ensures.within)
    c.as_slice.ensures.value c.in_ok-from_list-in-Some.ensures.proper c.in_ok-from_list-in-Some.ensures.members

pub returns-in-None : goal.returns-in-None
returns-in-None c = no_set c.args.numbers.now (rw c.in-None.is at c.in_ok-known.ensures.numbers)
