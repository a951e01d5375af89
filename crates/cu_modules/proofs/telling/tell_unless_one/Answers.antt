use Rattle.std.proofs.Common.{arith}
use Rattle.cu_modules.proofs.ToldLemmas.{told_alone, told_lacking, told_several}
use Rattle.cu_modules.proofs.telling.tell_unless_one.Goals as goal

pub returns-in-empty : goal.returns-in-empty
returns-in-empty c = λ owner names es own are.
    told_lacking owner names es c.args.entities.now c.args.name.now c.args.first.now c.tell.new.first are (omega (arith, c.in-empty.len_below)) (c.tell.ensures owner names own)

pub returns-in-len1 : goal.returns-in-len1
returns-in-len1 c = λ owner names es own are.
    told_alone owner names es c.args.entities.now c.args.name.now c.args.first.now are (omega (arith, c.in-len1.len_at_least, c.in-len1.len_below))

pub returns-in_default : goal.returns-in_default
returns-in_default c = λ owner names es own are.
    told_several owner names es c.args.entities.now c.args.name.now c.args.first.now c.tell-in_default.new.first are c.in_default.len_at_least (c.tell-in_default.ensures owner names own)
