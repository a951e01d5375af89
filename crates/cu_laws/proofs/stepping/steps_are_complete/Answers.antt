use Rattle.cu_laws.proofs.SomeNext.{idle_on, traced_on}
use Rattle.cu_laws.proofs.stepping.steps_are_complete.Goals as goal

pub returns : goal.returns
returns c = record { idle = idle_on; traced = traced_on }
