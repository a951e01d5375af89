use Rattle.cu_kernel.proofs.HeadLemmas.{function_found, function_missing}
use Rattle.cu_kernel.proofs.heads.Heads.function_arity.Goals as goal

pub returns-in-Some : goal.returns-in-Some
returns-in-Some c = function_found c.args.self.now c.args.f c.in-Some.function.now c.in-Some.ensures.lookup.3.0 c.in-Some.ensures.lookup.1

pub returns-in-None : goal.returns-in-None
returns-in-None c = function_missing c.args.self.now c.args.f c.in-None.ensures.lookup.3
