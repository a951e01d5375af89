use Rattle.cu_sites.proofs.InsideLemmas.{inner_function, inner_variable}
use Rattle.cu_sites.proofs.definitions.is_inner.Goals as goal

pub returns-in-Variable : goal.returns-in-Variable
returns-in-Variable c keys is = inner_variable keys c.args.used c.in-Variable.binder c.has.result c.in-Variable.is (c.has.ensures keys is)

pub returns-in-Function : goal.returns-in-Function
returns-in-Function c keys is = inner_function keys c.args.used c.in-Function.field-0 c.in-Function.field-1 c.in-Function.is
