use Rattle.cu_translation.proofs.CaptureLaws.{captures_exactly, recursive_exactly}
use Rattle.cu_translation.proofs.laws.captures_are_least.Goals as goal

pub returns-clause-captures : goal.returns-clause-captures
returns-clause-captures c = captures_exactly

pub returns-clause-recursive : goal.returns-clause-recursive
returns-clause-recursive c = recursive_exactly
