use Rattle.cu_flattext.proofs.Sample.{worked_is_printed}
use Rattle.cu_flattext.proofs.laws.a_module_is_printed.Goals as goal

pub returns : goal.returns
returns c = worked_is_printed
