use Rattle.cu_kernel.proofs.VariantTests.{no_term_variable}
use Rattle.cu_kernel.proofs.special.term_variable.Goals as goal

pub returns-in_default : goal.returns-in_default
returns-in_default c = no_term_variable c.args.term.now c.in_default.not-Var
