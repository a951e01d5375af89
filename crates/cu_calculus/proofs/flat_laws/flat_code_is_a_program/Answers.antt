use Rattle.cu_calculus.proofs.FlatFitting.{arity_kept, function_there}
use Rattle.cu_calculus.proofs.FlatValid.{program_flat, program_valid}
use Rattle.cu_calculus.proofs.flat_laws.flat_code_is_a_program.Goals as goal

pub returns : goal.returns
returns c = record { valid = program_valid; flat = program_flat; arities = arity_kept; functions = function_there }
