use Rattle.cu_parts.proofs.LocalVariants.{no_constant}
use Rattle.cu_parts.proofs.conjunction.is_constant.Goals as goal

pub returns-in_default : goal.returns-in_default
returns-in_default c = no_constant c.args.constructor c.args.term.now c.in_default.not-Whole
