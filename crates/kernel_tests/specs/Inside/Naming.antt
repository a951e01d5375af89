-- Whether the name of a function has a text.
use Rattle.std.specs.Prelude.{ℕ, Bool, nat_lt}
use Rattle.cu_kernel.specs.LocalKernel.{TopFunction}

abbrev pub has_name : ℕ → TopFunction → Bool
has_name count f = nat_lt f.name.0 count
