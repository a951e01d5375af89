use Rattle.cu_types.proofs.AskingLemmas.{adds_variable_arrow, kept_at}
use Rattle.cu_kernel.specs.TypeExpr as type
use Rattle.cu_types.proofs.asking.Asking.taking_variable.Goals as goal

pub arrow-requires-clause-reader : goal.arrow-requires-clause-reader
arrow-requires-clause-reader c = c.in_ok-left.ensures.reader

pub arrow-requires-clause-left : goal.arrow-requires-clause-left
arrow-requires-clause-left c = c.in_ok-left.ensures.reads.within

pub arrow-requires-clause-right : goal.arrow-requires-clause-right
arrow-requires-clause-right c =
    (kept_at c.args.self.now c.variable.new.self (type.Variable c.args.x) c.in_ok-left.left c.args.place c.in_ok-left.ensures c.requires.within).0

pub returns : goal.returns
returns c =
    adds_variable_arrow c.args.self.now c.variable.new.self c.arrow.new.self c.args.x c.in_ok-left.left c.args.place c.in_ok-whole.whole
    c.in_ok-left.ensures c.requires.within c.in_ok-whole.ensures
