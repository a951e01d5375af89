use Rattle.cu_verdict.proofs.CallLaws.{no_variable}
use Rattle.cu_verdict.proofs.terms.is_variable.Goals as goal

pub returns-in_default : goal.returns-in_default
returns-in_default c = no_variable c.args.number c.args.term.now c.in_default.not-Var
