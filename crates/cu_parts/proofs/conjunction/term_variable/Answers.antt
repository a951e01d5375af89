use Rattle.cu_parts.proofs.LocalVariants.{no_variable}
use Rattle.cu_parts.proofs.conjunction.term_variable.Goals as goal

pub returns-in_default : goal.returns-in_default
returns-in_default c = no_variable c.args.term.now c.in_default.not-Var
