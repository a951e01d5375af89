use Rattle.cu_parts.proofs.LocalVariants.{few_branches, many_branches}
use Rattle.cu_parts.proofs.conjunction.are_branches.Goals as goal

pub returns-in_default : goal.returns-in_default
returns-in_default c = few_branches c.args.special.now c.args.y c.args.alternatives.now c.in_default.len_below

pub returns-in_default-2 : goal.returns-in_default-2
returns-in_default-2 c = many_branches c.args.special.now c.args.y c.args.alternatives.now c.in_default.len_at_least
