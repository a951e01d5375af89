use Rattle.cu_forms.proofs.FunctionLemmas.{placed_in}
use Rattle.cu_forms.proofs.local_functions.in_module.Goals as goal

pub returns : goal.returns
returns g c w tells = placed_in w.around.names c.owner.result c.args.place (c.owner.ensures w tells)
