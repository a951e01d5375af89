-- The numbers with which the process ends.
use Rattle.std.specs.Prelude.{ℕ}
use Rattle.cu_cmd.specs.declared.status.Status.{Status}
use Rattle.cu_cmd.specs.declared.status.Status.TheVariants as status

-- the number with which the process ends, for each status
abbrev pub number_of : Status → ℕ
number_of status.Done = 0
number_of status.Floundered = 1
number_of status.Limit = 2
number_of status.Usage = 3
number_of status.Refused = 4
number_of status.Stopped = 5
number_of status.ReadFault = 6
number_of status.WriteFault = 7
number_of status.NoMemory = 8
