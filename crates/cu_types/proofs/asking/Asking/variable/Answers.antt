use Rattle.cu_kernel.specs.TypeExpr as type
use Rattle.cu_types.proofs.AskingLemmas.{adds_if}
use Rattle.cu_types.proofs.asking.Asking.variable.Goals as goal

pub returns : goal.returns
returns c = adds_if c.args.self.now c.variable.new.self (type.Variable c.args.x) c.variable.result c.variable.ensures.reader c.variable.ensures.read
