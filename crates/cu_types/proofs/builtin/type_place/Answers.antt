use Rattle.std.proofs.Common.{ap, option_map}
use Rattle.cu_kernel.specs.Kernel.{Placed}
use Rattle.cu_types.proofs.builtin.type_place.Goals as goal

pub returns-in-Some : goal.returns-in-Some
returns-in-Some c = ap (option_map (λ (p : Placed). p.of_type)) c.in-Some.ensures.constructor

pub returns-in-None : goal.returns-in-None
returns-in-None c = ap (option_map (λ (p : Placed). p.of_type)) c.in-None.ensures.constructor
