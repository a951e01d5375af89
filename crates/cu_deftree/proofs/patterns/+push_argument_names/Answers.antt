use Rattle.cu_deftree.proofs.NameLaws.{literal_argument_names, variable_argument_names}
use Rattle.cu_deftree.proofs.patterns.+push_argument_names.Goals as goal

pub returns-in-Var : goal.returns-in-Var
returns-in-Var t c = variable_argument_names c.args.names.now.items c.args.positions.now c.args.pattern.now c.in-Var.field-0 c.in-Var.is

pub returns-in-Lit : goal.returns-in-Lit
returns-in-Lit t c = literal_argument_names c.args.names.now.items c.args.positions.now c.args.pattern.now c.in-Lit.field-0 c.in-Lit.is
