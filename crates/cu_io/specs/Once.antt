-- Counts of faults that rise by one.
use Rattle.std.specs.Prelude.{ℕ}
use Rattle.cu_io.specs.declared.library.Fetched.{Fetched}
use Rattle.cu_io.specs.declared.library.Fetched.TheVariants as fetched
use Rattle.cu_io.specs.declared.sink.Put.{Put}
use Rattle.cu_io.specs.declared.sink.Put.TheVariants as put
use Rattle.cu_io.specs.Calls.{one_more}

-- the count of faults after an answer of a library
abbrev pub fetch_faults : Fetched → ℕ → ℕ
fetch_faults (fetched.Text bytes) faults = faults
fetch_faults fetched.Absent faults = faults
fetch_faults fetched.Failed faults = one_more faults

-- the count of faults after an answer of a sink
abbrev pub put_faults : Put → ℕ → ℕ
put_faults put.Done faults = faults
put_faults put.Failed faults = one_more faults
