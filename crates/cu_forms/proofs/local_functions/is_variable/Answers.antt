use Rattle.cu_forms.proofs.FunctionLemmas.{variable_is, variable_not}
use Rattle.cu_forms.proofs.local_functions.is_variable.Goals as goal

pub returns-in-Variable : goal.returns-in-Variable
returns-in-Variable c names = variable_is names c.args.p c.in_ok-node.field-0 c.in-Variable.field-0 (c.in_ok-node.ensures.meaning names) c.in-Variable.is

pub returns : goal.returns
returns c names = variable_not names c.args.p c.in_ok-node.field-0 (c.in_ok-node.ensures.meaning names) c.in_default.not-Variable
