-- The number that the program ends with.
use Rattle.std.specs.Prelude.{ℕ}
use Rattle.ms_top.specs.declared.status.Status.{Status}
use Rattle.ms_top.specs.declared.status.Status.TheVariants.{Done, Usage, ReadFault, Refused, WriteFault, NoMemory}

abbrev pub exit_code : Status → ℕ
exit_code (Done closing limit) = 0
exit_code (Refused fault) = 1
exit_code Usage = 2
exit_code ReadFault = 3
exit_code WriteFault = 4
exit_code NoMemory = 5
