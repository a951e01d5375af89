use Rattle.cu_calculus.proofs.ValuesOf.{gives_of}
use Rattle.cu_calculus.proofs.laws.derivations_stay_in_the_program.Goals as goal

pub returns : goal.returns
returns c = λ program claims env t v valid claimed known fits gives. gives_of program claims valid claimed env t v gives known fits
