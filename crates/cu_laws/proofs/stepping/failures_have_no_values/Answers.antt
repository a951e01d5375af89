use Rattle.cu_laws.proofs.SomeNext.{failure_never}
use Rattle.cu_laws.proofs.stepping.failures_have_no_values.Goals as goal

pub returns : goal.returns
returns c = failure_never
