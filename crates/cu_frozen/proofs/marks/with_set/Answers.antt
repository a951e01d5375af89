use Rattle.cu_frozen.proofs.Bits.{keeps_bit, sets_bit}
use Rattle.cu_frozen.proofs.marks.with_set.Goals as goal

pub returns-clause-set : goal.returns-clause-set
returns-clause-set c = sets_bit c.args.word c.args.bit c.requires

pub returns-clause-kept : goal.returns-clause-kept
returns-clause-kept c = λ other set. keeps_bit c.args.word c.args.bit other c.requires set
